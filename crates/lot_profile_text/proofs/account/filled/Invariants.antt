-- The name is made of the pieces so far.
use Rattle.std.proofs.Common.{◌≡◌, take}
use Rattle.std.specs.List.{flat_map}
use Rattle.std.specs.String.{string_bytes}
use Rattle.lot_profile_text.specs.Accounts.{piece_filled}
use Rattle.lot_profile_text.proofs.account.filled.Given as goal

abbrev pub invariant-loop-piece : goal.invariant-loop-piece
invariant-loop-piece l = string_bytes l.name ≡ flat_map piece_filled (take l.piece-index l.pieces)
