use Rattle.std.proofs.Common.{arith, refl}
use Rattle.lot_parts.proofs.EntryLemmas.{entries_are_parts}
use Rattle.lot_parts.proofs.ReadLemmas.{nothing_ledger}
use Rattle.lot_parts.proofs.laws.the_dump_of_a_book_has_its_entries.Goals as goal

pub returns : goal.returns
returns c = λ head entries end is_head are is_end.
    (is_head, nothing_ledger, entries_are_parts 0 1 entries (omega arith) are, is_end, refl)
