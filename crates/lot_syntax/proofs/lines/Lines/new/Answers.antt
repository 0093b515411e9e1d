-- Each text has its lines.
use Rattle.std.proofs.Common.{List, ℕ, subst, sym}
use Rattle.lot_syntax.specs.Line.{AreLines, lines_of}
use Rattle.lot_syntax.proofs.LineLemmas.{have_lines}
use Rattle.lot_syntax.proofs.lines.Lines.new.Goals as goal

pub returns : goal.returns
returns c = subst (λ (rest : List ℕ). AreLines (lines_of rest) c.args.text.now) (sym c.without_mark.ensures) (have_lines c.args.text.now)
