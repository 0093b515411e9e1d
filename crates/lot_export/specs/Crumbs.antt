-- Where the crumbs of an import by a profile go (docs/FORMATS.md, Profiles).
use Rattle.std.specs.Prelude.{◌≡◌, ◌≢◌, ℕ, Bool, true, false, List, [], ◌∷◌, IsTrue, Option, Some, None}
use Rattle.std.specs.List.{find}
use Rattle.lot_base.specs.Name.{is_account}
use Rattle.lot_base.specs.declared.fault.NameFault.{NameFault}
use Rattle.lot_base.specs.declared.fault.NameFault.TheVariants as name
use Rattle.lot_profile.specs.declared.account.AccountOf.{AccountOf}
use Rattle.lot_profile.specs.declared.account.AccountRole.{AccountRole}
use Rattle.lot_profile.specs.declared.account.AccountRole.TheVariants as role
use Rattle.lot_profile.specs.declared.account.Piece.{Piece}
use Rattle.lot_profile.specs.declared.account.Piece.TheVariants.{Text}
use Rattle.lot_profile.specs.declared.profile.Profile.{Profile}
use Rattle.lot_rounding.specs.Nearest.{most_decimals}
use Rattle.lot_rounding.specs.declared.rounding.Rounding.{Rounding}

abbrev pub is_for_crumbs : AccountRole → Bool
is_for_crumbs role.Rounding = true
is_for_crumbs _ = false

-- the account for crumbs among those that a profile names
abbrev pub crumbs_in : List AccountOf → Option AccountOf
crumbs_in accounts = find (λ (account : AccountOf). is_for_crumbs account.role) accounts

-- an account has that name, which has no parts of a row
pub record IsAccountOf (pieces : List Piece) (name : List ℕ) : Type 0 where
  pub is : pieces ≡ Text name ∷ []
  pub good : IsTrue (is_account name)

-- crumbs go to the account that a profile names for them, within its bound, with amounts of as many decimals as units have
pub record GoTo (profile : Profile) (named : AccountOf) (rounding : Rounding) : Type 0 where
  pub account : IsAccountOf named.pieces rounding.account
  pub within : rounding.within ≡ profile.basis.within
  pub decimals : rounding.decimals ≡ most_decimals

-- where the crumbs go: nowhere, where a profile names no account for them
abbrev pub IsRoundingOf : Profile → Option AccountOf → Option Rounding → Type 0
IsRoundingOf profile None rounding = rounding ≡ None
IsRoundingOf profile (Some named) None = ⊥
IsRoundingOf profile (Some named) (Some rounding) = GoTo profile named rounding

-- a profile names something for crumbs that is no account
abbrev pub HasNoRounding : Option AccountOf → NameFault → Type 0
HasNoRounding None fault = ⊥
HasNoRounding (Some named) fault =
    fault ≢ name.Memory → (fault ≡ name.BadAccount) × ((account : List ℕ) → IsAccountOf named.pieces account → ⊥)
