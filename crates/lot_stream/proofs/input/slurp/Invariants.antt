-- What was read so far stands before what the reader has left, and no call failed.
use Rattle.std.proofs.Common.{◌≡◌, ◌≤◌, vec_len}
use Rattle.std.specs.Io.KnownBytes.{Consumes}
use Rattle.lot_stream.proofs.CallLemmas.{so_far}
use Rattle.lot_io.specs.Reads.{Counts}
use Rattle.lot_stream.specs.Input.{chunk_size, longest_input}
use Rattle.lot_stream.proofs.input.slurp.Given as goal

abbrev pub invariant-loop-made : goal.invariant-loop-made
invariant-loop-made g l = record {
  taken : Consumes (g.R.CountedRead.remaining l.initial.reader) (g.R.CountedRead.remaining l.reader) l.bytes.items;
  calls : Counts (g.R.CountedRead.calls l.initial.reader) (g.R.CountedRead.calls l.reader) (so_far l._made l.bytes.items);
  small : vec_len l.bytes ≤ longest_input;
  room : vec_len l.chunk ≡ chunk_size;
}
