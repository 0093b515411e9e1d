-- What a profile may say of each role (docs/FORMATS.md, Profiles).
use Rattle.std.specs.Prelude.{Bool, true, false, if◌then◌else◌, ℕ, List, Option, None, Some, Err}
use Rattle.toml.specs.Data.{Data, string}
use Rattle.lot_profile.specs.declared.role.Role.{Role}
use Rattle.lot_profile.specs.declared.role.Role.TheVariants as role
use Rattle.lot_profile_text.specs.declared.entry.Form.TheVariants as form
use Rattle.lot_profile_text.specs.declared.fault.ProfileFault.TheVariants.{Wrong}
use Rattle.lot_profile_text.specs.Reading.{Read, named, or_wrong}
use Rattle.lot_profile_text.specs.Words.{role_all, role_word}

-- whether a role may have several sources: numbers are added, references and notes joined
abbrev pub may_be_several : Role → Bool
may_be_several role.Amount = true
may_be_several role.Booked = true
may_be_several role.Cost = true
may_be_several role.Fee = true
may_be_several role.Note = true
may_be_several role.Other = true
may_be_several role.Price = true
may_be_several role.Rate = true
may_be_several role.Ref = true
may_be_several role.Tax = true
may_be_several role.Units = true
may_be_several _ = false

-- whether the sign of a role may be printed the other way
abbrev pub may_be_turned : Role → Bool
may_be_turned role.Amount = true
may_be_turned role.Booked = true
may_be_turned role.Cost = true
may_be_turned role.Fee = true
may_be_turned role.Other = true
may_be_turned role.Price = true
may_be_turned role.Tax = true
may_be_turned role.Units = true
may_be_turned _ = false

-- whether a role is one of the numbers of a trade, which the broker may round
abbrev pub may_be_rounded : Role → Bool
may_be_rounded role.Amount = true
may_be_rounded role.Fee = true
may_be_rounded role.Price = true
may_be_rounded role.Rate = true
may_be_rounded role.Units = true
may_be_rounded _ = false

abbrev pub if_turned : Option Role → Option Role
if_turned None = None
if_turned (Some role) = if may_be_turned role then Some role else None

-- the role of which a text is the word, where its sign may be printed the other way
unfoldable pub turned_role : List ℕ → Option Role
turned_role text = if_turned (named role_word role_all text)

-- the word of a role whose sign is printed the other way
abbrev pub turned_of : List ℕ → Data → Read Role
turned_of place (string text) = or_wrong form.TurnedRole place (turned_role text)
turned_of place value = Err (Wrong place form.TurnedRole)
