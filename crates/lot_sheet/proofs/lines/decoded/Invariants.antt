use Rattle.std.proofs.Common.{◌≡◌, take}
use Rattle.std.specs.Char.{encode_utf8}
use Rattle.std.specs.List.{flat_map}
use Rattle.std.specs.String.{string_bytes}
use Rattle.lot_sheet.proofs.lines.decoded.Given as goal

-- the bytes so far are decoded
abbrev pub invariant-loop-byte : goal.invariant-loop-byte
invariant-loop-byte l = string_bytes l.text ≡ flat_map encode_utf8 (take l.byte-index l.bytes)
