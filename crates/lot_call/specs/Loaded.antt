-- The profile of an import, as it is loaded (docs/FORMATS.md, Profiles).
use Rattle.std.specs.Prelude.{ℕ, List, Ok, Err}
use Rattle.lot_base.specs.declared.fault.NameFault.{NameFault}
use Rattle.lot_export.specs.Crumbs.{HasNoRounding, IsRoundingOf, crumbs_in}
use Rattle.lot_profile.specs.declared.profile.Profile.{Profile}
use Rattle.lot_profile_text.specs.Needs.{AllHaveNeeds}
use Rattle.lot_profile_text.specs.Texts.{IsProfileOf}
use Rattle.lot_call.specs.declared.profile.LoadFault.{LoadFault}
use Rattle.lot_call.specs.declared.profile.LoadFault.TheVariants as fault
use Rattle.lot_call.specs.declared.profile.Loaded.{Loaded}

-- the profile is the one that the text says, each of its kinds has what it needs, and crumbs go where it has them go
pub record IsLoaded (text : List ℕ) (loaded : Loaded) : Type 0 where
  pub said : IsProfileOf text (Ok loaded.profile)
  pub needs : AllHaveNeeds loaded.profile
  pub rounding : IsRoundingOf loaded.profile (crumbs_in loaded.profile.accounts) loaded.rounding

-- the text says a profile that names no account for crumbs where it names something
pub record HasNoAccount (text : List ℕ) (given : NameFault) : Type 0 where
  pub profile : Profile
  pub said : IsProfileOf text (Ok profile)
  pub none : HasNoRounding (crumbs_in profile.accounts) given

-- why a text gives no profile to import by
abbrev pub IsLoadFault : List ℕ → LoadFault → Type 0
IsLoadFault text (fault.Text given) = IsProfileOf text (Err given)
IsLoadFault text (fault.Rounding given) = HasNoAccount text given
