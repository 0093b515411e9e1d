-- What a profile says of cost, and how far amounts may differ.
use Rattle.std.specs.Prelude.{ℕ, ℤ, pos, negsuc, nat_le, List, if◌then◌else◌, Option, None, Some, Result, Ok, Err}
use Rattle.toml.specs.Data.{Data, string, integer}
use Rattle.lot_num.specs.declared.number_text.NumberFault.{NumberFault}
use Rattle.lot_num.specs.Amount.{one}
use Rattle.lot_num.specs.NumberText.{units_of}
use Rattle.lot_profile.specs.declared.basis.Basis.{Basis}
use Rattle.lot_profile.specs.declared.basis.Rounded.{Rounded}
use Rattle.lot_profile.specs.declared.role.Role.{Role}
use Rattle.lot_rounding.specs.Nearest.{most_decimals}
use Rattle.lot_profile_text.specs.declared.entry.Form.TheVariants as form
use Rattle.lot_profile_text.specs.declared.fault.ProfileFault.TheVariants.{Unknown, Wrong}
use Rattle.lot_profile_text.specs.Keys.{basis_keys, cost_key, rewards_key, rounded_key, within_key}
use Rattle.lot_profile_text.specs.Reading.{Read, ◌>>=◌, below, entry_of, keyed_of, named, or_wrong, section_of, word_of}
use Rattle.lot_profile_text.specs.Roles.{may_be_rounded}
use Rattle.lot_profile_text.specs.Words.{cost_basis_all, cost_basis_word, rewards_all, rewards_word, role_all, role_word}

-- ---- A bound: an amount from 0 to 1.

abbrev pub from_zero_to_one : ℤ → Option ℤ
from_zero_to_one (pos n) = if nat_le n one then Some (pos n) else None
from_zero_to_one (negsuc n) = None

abbrev pub bound_said : Result ℤ NumberFault → Option ℤ
bound_said (Ok units) = from_zero_to_one units
bound_said (Err fault) = None

abbrev pub bound_in : List ℕ → Option ℤ
bound_in text = bound_said (units_of text)

abbrev pub bound_of : List ℕ → Data → Read ℤ
bound_of place (string text) = or_wrong form.Bound place (bound_in text)
bound_of place value = Err (Wrong place form.Bound)

-- ---- Decimals, 0 to 8.

abbrev pub decimals_in : ℤ → Option ℕ
decimals_in (pos n) = if nat_le n most_decimals then Some n else None
decimals_in (negsuc n) = None

abbrev pub decimals_of : List ℕ → Data → Read ℕ
decimals_of place (integer z) = or_wrong form.Decimals place (decimals_in z)
decimals_of place value = Err (Wrong place form.Decimals)

abbrev pub rounded_if : List ℕ → Data → Option Role → Read Rounded
rounded_if place value None = Err (Unknown place)
rounded_if place value (Some role) =
    if may_be_rounded role then (decimals_of place value >>= λ decimals. Ok (record { role = role; decimals = decimals }))
    else Err (Unknown place)

-- the role that a key names, one of those that a broker may round, and its decimals
abbrev pub rounded_of : List ℕ → List ℕ → Data → Read Rounded
rounded_of place key value = rounded_if (below place key) value (named role_word role_all key)

-- ---- All of it.

abbrev pub basis_of : List ℕ → Data → Read Basis
basis_of place value = do
  _ ← section_of basis_keys place value
  cost ← entry_of (word_of cost_basis_word cost_basis_all form.CostBasis) cost_key place value
  within ← entry_of bound_of within_key place value
  rounded ← entry_of (keyed_of rounded_of) rounded_key place value
  rewards ← entry_of (word_of rewards_word rewards_all form.Rewards) rewards_key place value
  Ok (record { cost = cost; within = within; rounded = rounded.members; rewards = rewards })
