-- What a completion is made of is found, or there is none.
use Rattle.std.proofs.Common.{◌≡◌, ◌∙◌, length, ap, arith, sym, subst, List, []}
use Rattle.lot_command.specs.declared.transaction.Posting.{Posting}
use Rattle.lot_command.specs.declared.transaction.Transaction.{Transaction as TransactionOf}
use Rattle.lot_book.specs.declared.refusal.Stop.{Stop}
use Rattle.lot_book.specs.Balance.{AreWithin}
use Rattle.lot_book.specs.Booking.{All, BooksAllUnder, Stopped}
use Rattle.lot_book.specs.Refusals.{most_postings}
use Rattle.lot_book.specs.Openings.{ties_for}
use Rattle.lot_ledger.specs.Decide.{StopsBooking}
use Rattle.lot_view.specs.View.{known, known_with_openings}
use Rattle.lot_completion.specs.Completion.{fill_decimals}
use Rattle.lot_completion.specs.Rates.{AreRated, RatesAll, postings_of}
use Rattle.lot_completion.specs.Small.{AreFew}
use Rattle.lot_completion.proofs.CompletionLemmas.{crumbs_in_range, none_crumbs, none_stopped, products_within, rated_length, same_crumbs, same_products}
use Rattle.lot_completion.proofs.FewLemmas.{few_left}
use Rattle.lot_completion.proofs.completion.complete.Goals as goal

pub book_amounts-requires : goal.book_amounts-requires
book_amounts-requires c =
    let found : AreRated c.as_slice-written.result.now c.in-Some.field-0 = rw c.in-Some.is at c.in_ok-postings.ensures.some in
    let completed = ap (λ (t : TransactionOf). t.postings) c.in_ok-completed.ensures in
    let posted : c.in_ok-completed.completed.postings ≡ postings_of found.rated = completed ∙ found.postings in
    omega (arith, ap (λ (ps : List Posting). length ps) posted, rated_length c.as_slice-written.result.now found.rated found.rates, c.if-written-gt-MOST_POSTINGS.false)

pub returns-in-Err-Refused-clause-none : goal.returns-in-Err-Refused-clause-none
returns-in-Err-Refused-clause-none c none crumbs completed is =
    let ties = ties_for c.args.edition (known_with_openings c.args.view.now) in
    let facts = known c.args.view.now in
    let t = c.args.transaction.now in
    let found : AreRated c.as_slice-written.result.now c.in-Some.field-0 = rw c.in-Some.is at c.in_ok-postings.ensures.some in
    let rates = subst (λ (ps : List Posting). RatesAll ps found.rated) c.as_slice-written.ensures found.rates in
    let with_rates = c.in_ok-completed.ensures ∙ ap (λ (ps : List Posting). record t { postings = ps }) found.postings in
    let refusal = c.in-Err-Refused.field-0-0 in
    let stops : StopsBooking ties facts c.in_ok-completed.completed (Stop.Refused refusal) =
    subst (StopsBooking ties facts c.in_ok-completed.completed) c.in-Err-Refused.field-0-is c.in-Err-Refused.ensures.stops in
    none_stopped ties facts c.args.account.now c.args.decimals t found.rated rates crumbs completed is refusal
    (subst (λ (x : TransactionOf). BooksAllUnder ties facts x.day [] 1 x.postings (Stopped refusal)) with_rates stops)

pub crumbs_of-requires-clause-few : goal.crumbs_of-requires-clause-few
crumbs_of-requires-clause-few c =
    let found : AreRated c.as_slice-written.result.now c.in-Some.field-0 = rw c.in-Some.is at c.in_ok-postings.ensures.some in
    subst AreFew (sym (c.as_slice-4.ensures ∙ found.left))
    (few_left c.as_slice-written.result.now found.rated found.rates (omega (arith, c.if-written-gt-MOST_POSTINGS.false)))

pub crumbs_of-requires-clause-within : goal.crumbs_of-requires-clause-within
crumbs_of-requires-clause-within c =
    subst (AreWithin most_postings) (sym (c.as_slice-5.ensures ∙ c.in_ok-products.ensures))
    (products_within most_postings c.as_slice.result.now c.as_slice-2.result.now c.as_slice-3.result.now
    (subst (AreWithin most_postings) (sym (c.as_slice-3.ensures ∙ c.in_ok-residuals.ensures)) c.in-Ok.ensures.within))

pub returns-in_default-2-clause-none : goal.returns-in_default-2-clause-none
returns-in_default-2-clause-none c none crumbs completed is =
    let ties = ties_for c.args.edition (known_with_openings c.args.view.now) in
    let facts = known c.args.view.now in
    let t = c.args.transaction.now in
    let found : AreRated c.as_slice-written.result.now c.in-Some.field-0 = rw c.in-Some.is at c.in_ok-postings.ensures.some in
    let rates = subst (λ (ps : List Posting). RatesAll ps found.rated) c.as_slice-written.ensures found.rates in
    let with_rates = c.in_ok-completed.ensures ∙ ap (λ (ps : List Posting). record t { postings = ps }) found.postings in
    let drafts = c.in-Ok.ensures.drafts in
    let all = subst (λ (x : TransactionOf). BooksAllUnder ties facts x.day [] 1 x.postings (All drafts.booked)) with_rates drafts.all in
    let fill = c.fill_decimals-fill.ensures ∙ ap (fill_decimals c.args.decimals) c.as_slice-written.ensures in
    let products = c.as_slice-5.ensures ∙ c.in_ok-products.ensures
    ∙ same_products c.as_slice.result.now (postings_of found.rated) c.as_slice-2.result.now c.as_slice-3.result.now drafts.booked
    (c.as_slice.ensures ∙ ap (λ (x : TransactionOf). x.postings) with_rates) (c.as_slice-2.ensures ∙ drafts.is.legs)
    (c.as_slice-3.ensures ∙ c.in_ok-residuals.ensures ∙ drafts.is.residuals) in
    none_crumbs ties facts c.args.account.now c.args.decimals t found.rated rates crumbs completed is drafts.booked all
    (λ cs are. c.in_ok-crumbs.ensures.none c.in_default-2.is cs
    (same_crumbs _ _ _ _ _ _ cs fill (c.as_slice-4.ensures ∙ found.left) products are))

pub push_crumbs-requires : goal.push_crumbs-requires
push_crumbs-requires c =
    let are = rw c.in-Some-2.is at c.in_ok-crumbs.ensures.some in
    rw c.as_slice-6.ensures (crumbs_in_range _ _ _ c.in-Some-2.crumbs are)
