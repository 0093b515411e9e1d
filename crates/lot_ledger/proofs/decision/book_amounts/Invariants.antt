use Rattle.std.proofs.Common.{drop, ◌+◌}
use Rattle.lot_book.specs.Openings.{ties_for}
use Rattle.lot_posting.specs.Tally.{ListsTally}
use Rattle.lot_view.specs.View.{known, known_with_openings}
use Rattle.lot_ledger.proofs.DecideLemmas.{Booking}
use Rattle.lot_ledger.proofs.decision.book_amounts.Given as goal

-- the postings so far are booked as the draft has it; what those that are left come to decides; the tally lists its legs
abbrev pub invariant-loop-index : goal.invariant-loop-index
invariant-loop-index l =
    record {
      booking : Booking (ties_for l.edition (known_with_openings l.view)) (known l.view) l.transaction.day l.transaction.postings l.draft
          l.index (l.index + 1) (drop l.index l.transaction.postings);
      lists : ListsTally (known_with_openings l.view) l.draft.tally;
    }
