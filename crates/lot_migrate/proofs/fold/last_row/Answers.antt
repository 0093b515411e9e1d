use Rattle.std.proofs.Common.{◌≡◌, ◌∙◌, ◌++◌, ◌∷◌, [], Err, ap, sym}
use Rattle.std.proofs.lemmas.Result.{err_from_is_err_and}
use Rattle.lot_table.specs.declared.fault.Fault.TheVariants.{Damaged}
use Rattle.lot_migrate.proofs.RowLemmas.{last_good, last_parts}
use Rattle.lot_migrate.proofs.fold.last_row.Goals as goal

pub returns-in_err-read-in-Some-clause-damaged : goal.returns-in_err-read-in-Some-clause-damaged
returns-in_err-read-in-Some-clause-damaged c is rows good same =
    let fault = err_from_is_err_and c.from_residual.result c.from_residual.ensures.1 in
    let both = sym fault.1 ∙ is in
    let told : fault.0 ≡ Damaged = cc in
    let damaged : c.in_err-read-in-Some.field-0.0 ≡ Damaged = sym fault.2 ∙ told in
    let parts = last_parts c.args.page.now c.in-Some.row.now c.in-Some.ensures.value in
    let one = last_good parts.0 c.in-Some.row.now rows good (sym parts.1 ∙ same) in
    c.in_err-read-in-Some.ensures.damaged (ap Err damaged) one.0 one.1 one.2

pub returns-in_ok-read-in-Some-clause-ok : goal.returns-in_ok-read-in-Some-clause-ok
returns-in_ok-read-in-Some-clause-ok c =
    let parts = last_parts c.args.page.now c.in-Some.row.now c.in-Some.ensures.value in
    (parts.0, parts.1 ∙ ap (λ r. parts.0 ++ r ∷ []) c.in_ok-read-in-Some.ensures.ok)
