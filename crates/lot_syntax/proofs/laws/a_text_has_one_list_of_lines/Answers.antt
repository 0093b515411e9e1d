-- By the lines that are cut from the beginning on.
use Rattle.std.proofs.Common.{sym, ◌∙◌}
use Rattle.lot_syntax.specs.Line.{lines_of, without_mark}
use Rattle.lot_syntax.proofs.LineLemmas.{have_lines, lines_are}
use Rattle.lot_syntax.proofs.laws.a_text_has_one_list_of_lines.Goals as goal

pub returns-clause-some : goal.returns-clause-some
returns-clause-some c = λ text. (lines_of (without_mark text), have_lines text)

pub returns-clause-one : goal.returns-clause-one
returns-clause-one c = λ text a b h k. sym (lines_are a text h) ∙ lines_are b text k
