-- The profile that a text says.
use Rattle.std.specs.Prelude.{◌≡◌, ◌≢◌, ℕ, suc, ◌<◌, ◌≤◌, ◌==◌, Bool, List, count_by, Option, None, Some, Ok, Err}
use Rattle.toml.specs.Data.{table, Members}
use Rattle.toml.specs.Parse.{parse_document}
use Rattle.lot_profile.specs.declared.profile.Profile.{Profile}
use Rattle.lot_profile_text.specs.declared.fault.ProfileFault.{ProfileFault}
use Rattle.lot_profile_text.specs.declared.fault.ProfileFault.TheVariants.{Memory, NoToml}
use Rattle.lot_profile_text.specs.Profiles.{profile_of}
use Rattle.lot_profile_text.specs.Reading.{Gives, Read}

abbrev pub ends_line : ℕ → Bool
ends_line byte = byte == 10

-- the number of a line of a text, from 1
abbrev pub IsLine : List ℕ → ℕ → Type 0
IsLine text line = (0 < line) × (line ≤ suc (count_by ends_line text))

-- a text is no TOML, and goes wrong in one of its lines, unless memory runs out
abbrev pub IsTomlFault : List ℕ → ProfileFault → Type 0
IsTomlFault text fault = fault ≢ Memory → (line : ℕ) × IsLine text line × (fault ≡ NoToml line)

abbrev pub IsNoToml : List ℕ → Read Profile → Type 0
IsNoToml text (Ok profile) = ⊥
IsNoToml text (Err fault) = IsTomlFault text fault

abbrev pub IsSaidBy : List ℕ → Read Profile → Option Members → Type 0
IsSaidBy text answer None = IsNoToml text answer
IsSaidBy text answer (Some document) = Gives answer (profile_of (table document))

-- an answer is the profile that a text says, or why it says none
unfoldable pub IsProfileOf : List ℕ → Read Profile → Type 0
IsProfileOf text answer = IsSaidBy text answer (parse_document text)
