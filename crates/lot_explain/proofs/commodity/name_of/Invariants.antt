-- The name so far, with the bytes that are left, becomes that of all.
use Rattle.std.proofs.Common.{◌≡◌, ◌<◌, drop, None, []}
use Rattle.std.specs.Prelude.{IfSome}
use Rattle.std.specs.String.{string_bytes}
use Rattle.lot_explain.specs.Commodity.{name_of}
use Rattle.lot_explain.proofs.commodity.name_of.Given as goal

abbrev pub invariant-loop-byte : goal.invariant-loop-byte
invariant-loop-byte l =
    record {
      name : name_of (string_bytes l.name) l.waiting (drop l.byte-index l.text) ≡ name_of [] None l.text;
      ascii : IfSome l.waiting (λ mark. mark < 128);
    }
