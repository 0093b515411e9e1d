use Rattle.std.proofs.Common.{◌≡◌, ◌∙◌, ◌∷◌, [], Err, List, ap, subst, sym}
use Rattle.std.proofs.lemmas.Result.{err_from_is_err_and}
use Rattle.sqlite.specs.Order.{Row}
use Rattle.lot_store.proofs.AdoptLemmas.{no_mark, one_item}
use Rattle.lot_store.specs.Create.{TellsColumns, adopt_fault_of}
use Rattle.lot_store.proofs.adoption.tell_rows.Goals as goal

pub returns-in_err-book : goal.returns-in_err-book
returns-in_err-book c =
    let fault = err_from_is_err_and c.from_residual.result c.from_residual.ensures.1 in
    let one = one_item c.args.rows.now c.row-item.result c.in-len1.len_at_least c.in-len1.len_below in
    let whole : c.args.rows.now ≡ c.row-item.result ∷ [] = one ∙ ap (λ (r : Row). r ∷ []) (sym c.row-item.is) in
    let unmarked = no_mark c.row-item.result c.in_err-book.field-0.0 (λ e. c.in_err-book.ensures.no_device (ap Err e)) (λ e. c.in_err-book.ensures.damaged (ap Err e)) in
    record { tells = rw (fault.1, fault.2) (subst (λ (rows : List Row). TellsColumns rows (Err (adopt_fault_of c.in_err-book.field-0.0))) (sym whole) unmarked) }

pub returns : goal.returns
returns c =
    let one = one_item c.args.rows.now c.row-item.result c.in-len1.len_at_least c.in-len1.len_below in
    let whole = one ∙ ap (λ (r : Row). r ∷ []) (sym c.row-item.is ∙ c.in_ok-book.ensures.ok) in
    record { tells = subst (λ (rows : List Row). TellsColumns rows c.tell_row.result) (sym whole) c.tell_row.ensures.tells }
