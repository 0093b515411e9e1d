use Rattle.std.proofs.Common.{length}
use denote.Shadow.{shadow}
use denote.Text.{Utf8}
use Rattle.lot_profile_text.specs.Accounts.{first_piece}
use Rattle.lot_profile_text.proofs.SpellingLemmas.{IsReadTo}
use Rattle.lot_profile_text.proofs.account.pieces_of.Given as goal

-- the pieces so far, and the rest
abbrev pub invariant-loop-rest : goal.invariant-loop-rest
invariant-loop-rest l = record { read : IsReadTo first_piece l.text l.pieces l.rest; utf8 : shadow (Utf8 l.rest) }

abbrev pub decreases-loop-rest : goal.decreases-loop-rest
decreases-loop-rest l = length l.rest
