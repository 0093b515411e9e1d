-- The tokens of a line that can be cut.
use Rattle.std.proofs.lemmas.Result.{err_from_is_err_and}
use Rattle.lot_syntax.proofs.CutLemmas.{given_cuts, uncut}
use Rattle.lot_syntax.proofs.tokens.Tokens.new.Goals as goal

pub returns-in_err-can_cut-clause-uncut : goal.returns-in_err-can_cut-clause-uncut
returns-in_err-can_cut-clause-uncut c =
    let p = err_from_is_err_and c.from_residual.result c.from_residual.ensures.1 in
    rw p.1 (λ tokens. uncut c.args.line.now tokens c.in_err-can_cut.ensures.uncut)

pub returns-clause-cut : goal.returns-clause-cut
returns-clause-cut c = given_cuts c.args.line.now c.in_ok-can_cut.ensures.cut
