-- A part of the posting is outside its rule, or memory ends.
use Rattle.std.proofs.Common.{true, Err, ap, refl}
use Rattle.std.proofs.lemmas.Result.{err_from_is_err_and}
use Rattle.lot_read.proofs.StatementLemmas.{gives_posting_fault}
use Rattle.lot_read.proofs.line.posting.Goals as goal

pub returns-in_err-posting : goal.returns-in_err-posting
returns-in_err-posting c =
    let p = err_from_is_err_and c.from_residual.result c.from_residual.ensures.1 in
    rw (p.1, p.2)
    (λ line of. gives_posting_fault true line c.args.tokens.now _ c.in_err-posting.field-0.0 refl of
    c.in-Some.ensures.is (λ fault e. c.in_err-posting.ensures.outside fault (ap Err e)) (λ e. c.in_err-posting.ensures.memory (ap Err e)))
