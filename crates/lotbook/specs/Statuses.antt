-- The statuses of a call that does nothing to a book of its own.
use Rattle.std.specs.Prelude.{◌≡◌, ◌⊎◌, ℕ, List, Option, None, Some}
use Rattle.lot_call.specs.Loaded.{IsLoaded}
use Rattle.lot_profile.specs.declared.profile.Profile.{Profile}
use Rattle.lot_rounding.specs.declared.rounding.Rounding.{Rounding}
use Rattle.lot_host.specs.Answers.{stopped, unusable}

-- a text says the profile, which has the crumbs go there
abbrev pub IsSaid : Profile → Option Rounding → Type 0
IsSaid profile rounding = (text : List ℕ) × IsLoaded text (record { profile = profile; rounding = rounding })

-- the status of a fault of an argument or of what it names
abbrev pub IsRefusal : ℕ → Type 0
IsRefusal status = (status ≡ unusable) ⊎ (status ≡ stopped)

-- the status of a comparison: that of the action before it, unless a fault stops it
abbrev pub IsStatusBeside : ℕ → ℕ → Type 0
IsStatusBeside served status = (status ≡ served) ⊎ (status ≡ stopped)
