-- How a run ends behind a call of `flush`.
use Rattle.std.proofs.Common.{◌≡◌, ap, inl, inr, refl}
use Rattle.std.specs.Prelude.{Option, None, Some, Result, Ok, Err}
use Rattle.std.specs.declared.io.Error.{Error}
use Rattle.lot_io.specs.Writes.{CountsFlush, WriteCalls}
use Rattle.lot_stream.specs.Status.{Ends, EndsIfFailed, after_flush}
use Rattle.lot_stream.specs.declared.status.Status.{Status}

pub flush_ends : (old new : Option WriteCalls) (outcome : Result (Unit {0}) Error) (status end : Status) → CountsFlush old new outcome
    → end ≡ after_flush status outcome → Ends (Ok status) new end
flush_ends None None (Ok done) status end counts is = inl (is, tt)
flush_ends None None (Err error) status end counts is = inr (is, tt)
flush_ends None (Some new) outcome status end counts is = absurd counts
flush_ends (Some old) None outcome status end counts is = absurd counts
flush_ends (Some old) (Some new) (Ok done) status end (made, (same, flushed)) is = inl (is, flushed)
flush_ends (Some old) (Some new) (Err error) status end (made, (failed, same)) is = inr (is, inl failed)

-- no call failed, unless the flush did
pub flush_none_failed : (old new : Option WriteCalls) (outcome : Result (Unit {0}) Error) (status end : Status) → CountsFlush old new outcome
    → end ≡ after_flush status outcome → EndsIfFailed (record { before = old; after = new }) end
flush_none_failed None None outcome status end counts is = inl refl
flush_none_failed None (Some new) outcome status end counts is = absurd counts
flush_none_failed (Some old) None outcome status end counts is = absurd counts
flush_none_failed (Some old) (Some new) (Ok done) status end (made, (same, flushed)) is = inl (ap Some same)
flush_none_failed (Some old) (Some new) (Err error) status end (made, (failed, same)) is = inr (is, inl failed)
