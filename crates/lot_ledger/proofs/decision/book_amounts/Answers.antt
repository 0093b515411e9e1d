-- Each posting is booked on the draft of those before it, and what the others come to decides.
use Rattle.std.proofs.Common.{Err, Result, inl, ◌≡◌, ◌<◌, ◌≤◌, ◌+◌, ◌-◌, ◌∷◌, [], ℕ, suc, List, length, drop, refl, sym, ap, subst, ◌∙◌, arith, add-one, ℤ, append-nil, slice_index_or}
use Rattle.std.specs.Result.{IsErrAnd}
use Rattle.lot_command.specs.declared.transaction.Posting.{Posting}
use Rattle.lot_posting.specs.declared.draft.Draft.{Draft}
use Rattle.lot_book.specs.declared.refusal.Stop.{Stop}
use Rattle.lot_book.specs.declared.refusal.Stop.TheVariants.{Refused, Memory}
use Rattle.lot_book.specs.Balance.{AreWithin}
use Rattle.lot_book.specs.Booking.{All, BooksAllUnder, TieRule}
use Rattle.lot_command.specs.declared.transaction.Transaction.{Transaction as TransactionOf}
use Rattle.lot_ledger.specs.Decide.{StopsBooking, StopsNext}
use Rattle.lot_book.specs.Facts.{Facts}
use Rattle.lot_book.specs.Refusals.{most_postings}
use Rattle.lot_book.specs.Openings.{ties_for}
use Rattle.lot_view.specs.View.{known, known_with_openings}
use Rattle.lot_posting.proofs.BalanceResiduals.{AreWithin-more}
use Rattle.lot_ledger.proofs.DecideLemmas.{Booking, booking-more, booking-stops, first_lacks, follow_all-all, left_with, no_left}
use Rattle.lot_book.proofs.StopLemmas.{passed_on}
use Rattle.lot_ledger.proofs.decision.book_amounts.Goals as goal

pub loop-index-init : goal.loop-index-init
loop-index-init c =
    let ties = ties_for c.args.edition (known_with_openings c.args.view.now) in
    let draft = c.new-draft.result in
    record {
      booking = record {
        booked = [];
        is = record {
          legs = c.new-draft.ensures.legs;
          residuals = c.new-draft.ensures.residuals;
          sales = c.new-draft.ensures.sales;
        };
        within = subst (AreWithin 0) (sym c.new-draft.ensures.residuals) tt;
        others = λ more h. subst (λ legs. BooksAllUnder ties (known c.args.view.now) c.args.transaction.now.day legs 1 c.args.transaction.now.postings more) c.new-draft.ensures.legs h;
        first = inl (c.new-draft.ensures.legs, λ stores. stores);
      };
      lists = c.new-draft.ensures.lists (known_with_openings c.args.view.now);
    }

pub book_next-requires-clause-room : goal.book_next-requires-clause-room
book_next-requires-clause-room c =
    let below : c.loop-index.index < length c.args.transaction.now.postings = rw c.as_slice-posting-items.ensures at c.loop-index-test.true in
    AreWithin-more c.loop-index.index (most_postings - 1) c.loop-index.draft.residuals (omega arith) c.loop-index.invariant.booking.within

-- the postings that are left begin with this one
left_now : (ties : TieRule) (facts : Facts) (day : ℤ) (all items : List Posting) (draft : Draft) (index : ℕ) (posting : Posting) → items ≡ all → index < length items
    → posting ≡ slice_index_or items index posting
    → Booking ties facts day all draft index (index + 1) (drop index all)
    → Booking ties facts day all draft index (index + 1) (posting ∷ drop (index + 1) all)
left_now ties facts day all items draft index posting same below is so =
    subst (λ (left : List Posting). Booking ties facts day all draft index (index + 1) left) (left_with all items index posting same below is) so

pub loop-index-preserved : goal.loop-index-preserved
loop-index-preserved c =
    let ties = ties_for c.args.edition (known_with_openings c.args.view.now) in
    let facts = known c.args.view.now in
    let all = c.args.transaction.now.postings in
    let day = c.args.transaction.now.day in
    let index = c.loop-index.index in
    let posting = c.posting-item.result in
    let so = left_now ties facts day all c.as_slice-posting-items.result.now c.loop-index.draft index posting c.as_slice-posting-items.ensures c.loop-index-test.true c.posting-item.is c.loop-index.invariant.booking in
    let more = booking-more ties facts day all c.loop-index.draft c.book_next.new.draft index (index + 1) posting.account posting.amount (drop (index + 1) all) so c.in_ok-book_next.ensures.books in
    let counted = subst (λ (n : ℕ). Booking ties facts day all c.book_next.new.draft n (suc (index + 1)) (drop (index + 1) all)) (sym (add-one index)) more in
    record {
      booking = subst (λ (n : ℕ). Booking ties facts day all c.book_next.new.draft (index + 1) n (drop (index + 1) all)) (sym (add-one (index + 1))) counted;
      lists = c.in_ok-book_next.ensures.lists;
    }

stops_all : (ties : TieRule) (facts : Facts) (t : TransactionOf) (draft : Draft) (index : ℕ) (posting : Posting) (left : List Posting) (stop : Stop)
    → Booking ties facts t.day t.postings draft index (index + 1) (posting ∷ left)
    → StopsNext ties facts t.day (index + 1) posting.account posting.amount draft stop → StopsBooking ties facts t stop
stops_all ties facts t draft index posting left (Refused refusal) so h =
    booking-stops ties facts t.day t.postings draft index (index + 1) posting.account posting.amount left refusal so h
stops_all ties facts t draft index posting left Memory so h = tt

pub returns-in_err-book_next-clause-stops : goal.returns-in_err-book_next-clause-stops
returns-in_err-book_next-clause-stops c =
    let ties = ties_for c.args.edition (known_with_openings c.args.view.now) in
    let facts = known c.args.view.now in
    let t = c.args.transaction.now in
    let index = c.loop-index.index in
    let posting = c.posting-item.result in
    let so = left_now ties facts t.day t.postings c.as_slice-posting-items.result.now c.loop-index.draft index posting c.as_slice-posting-items.ensures c.loop-index-test.true c.posting-item.is c.loop-index.invariant.booking in
    passed_on c.from_residual.result c.in_err-book_next.field-0.0 (StopsBooking ties facts t) c.from_residual.ensures.1
    (stops_all ties facts t c.loop-index.draft index posting (drop (index + 1) t.postings) c.in_err-book_next.field-0.0 so c.in_err-book_next.ensures.stops)

pub returns-clause-drafts : goal.returns-clause-drafts
returns-clause-drafts c =
    let ties = ties_for c.args.edition (known_with_openings c.args.view.now) in
    let facts = known c.args.view.now in
    let t = c.args.transaction.now in
    let draft = c.loop-index.draft in
    let so = c.loop-index.invariant.booking in
    let none : drop c.loop-index.index t.postings ≡ [] = no_left t.postings c.as_slice-posting-items.result.now c.loop-index.index c.as_slice-posting-items.ensures (omega arith) in
    record {
      booked = so.booked;
      all = subst (BooksAllUnder ties facts t.day [] 1 t.postings) (follow_all-all so.booked [] ∙ ap All (append-nil so.booked))
          (so.others (All []) (subst (λ left. BooksAllUnder ties facts t.day draft.tally.legs (c.loop-index.index + 1) left (All [])) (sym none) refl));
      is = so.is;
    }

pub returns-in_err-book_next-clause-memory : goal.returns-in_err-book_next-clause-memory
returns-in_err-book_next-clause-memory c = λ lacks.
    let ties = ties_for c.args.edition (known_with_openings c.args.view.now) in
    let facts = known c.args.view.now in
    let t = c.args.transaction.now in
    let index = c.loop-index.index in
    let posting = c.posting-item.result in
    let draft = c.loop-index.draft in
    let so = left_now ties facts t.day t.postings c.as_slice-posting-items.result.now draft index posting c.as_slice-posting-items.ensures c.loop-index-test.true c.posting-item.is c.loop-index.invariant.booking in
    let stop = c.in_err-book_next.field-0.0 in
    let memory : Memory ≡ stop = subst (λ (r : Result _ Stop). IsErrAnd r (λ e. e ≡ stop)) lacks c.from_residual.ensures.1 in
    first_lacks ties facts t.day t.postings draft (index + 1) posting.account posting.amount (drop (index + 1) t.postings) so.first
    (c.in_err-book_next.ensures.memory (ap Err (sym memory)))

pub returns-clause-within : goal.returns-clause-within
returns-clause-within c =
    let most : c.loop-index.index ≤ length c.args.transaction.now.postings = rw c.as_slice-posting-items.ensures at c.loop-index.auto.index-end in
    AreWithin-more c.loop-index.index most_postings c.loop-index.draft.residuals (omega (arith, most)) c.loop-index.invariant.booking.within
