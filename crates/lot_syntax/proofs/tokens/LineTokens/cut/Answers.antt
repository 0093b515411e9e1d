-- The tokens that are kept and those behind them are those of the line.
use Rattle.std.proofs.Common.{List, ap, sym, subst}
use Rattle.std.specs.Option.{is_some}
use Rattle.lot_syntax.specs.Token.{Lexeme, Cuts}
use Rattle.lot_syntax.specs.Cutting.{given}
use Rattle.lot_syntax.proofs.CutLemmas.{cut_empty, given_cuts, uncut}
use Rattle.lot_syntax.proofs.tokens.LineTokens.cut.Goals as goal

pub invariant_of-self-in-Err : goal.invariant_of-self-in-Err
invariant_of-self-in-Err c = ap is_some cut_empty

pub returns-in-Ok-clause-cut : goal.returns-in-Ok-clause-cut
returns-in-Ok-clause-cut c =
    subst (λ (tokens : List Lexeme). Cuts tokens c.args.line.now) (sym c.in-Ok.ensures.tokens)
    (given_cuts c.args.line.now c.in-Ok.ensures.cut)

pub returns-in-Err-clause-uncut : goal.returns-in-Err-clause-uncut
returns-in-Err-clause-uncut c = λ tokens. uncut c.args.line.now tokens c.in-Err.ensures.uncut

pub returns-in-Err-clause-none : goal.returns-in-Err-clause-none
returns-in-Err-clause-none c = rw c.clear.ensures.items (ap given cut_empty)
