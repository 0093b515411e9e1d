-- Of which kind a row is (docs/FORMATS.md, Profiles).
use Rattle.std.specs.Prelude.{◌≡◌, ℕ, ◌+◌, ◌<◌, List, Some}
use Rattle.std.specs.List.{slice_get}
use Rattle.lot_profile.specs.declared.file.FileForm.{FileForm}
use Rattle.lot_profile.specs.declared.kind.KindRule.{KindRule}
use Rattle.lot_sheet.specs.Column.{Meets}
use Rattle.lot_sheet.specs.Sheet.{SheetRow}
use Rattle.lot_roles.specs.declared.fault.RowFault.{RowFault}
use Rattle.lot_roles.specs.declared.fault.RowFault.TheVariants as fault

-- a row meets all that a kind asks
abbrev pub IsOfKind : FileForm → SheetRow → KindRule → Type 0
IsOfKind form row kind = Meets form row.header row.fields kind.when

-- of the kinds of a table, the one at that place, counted from 0, is one of the row
pub record HoldsAt (form : FileForm) (row : SheetRow) (kinds : List KindRule) (place : ℕ) : Type 0 where
  pub kind : KindRule
  pub there : slice_get kinds place ≡ Some kind
  pub holds : IsOfKind form row kind

-- one of the kinds is the row's, and no other is
pub record IsOnly (form : FileForm) (row : SheetRow) (kinds : List KindRule) (kind : KindRule) : Type 0 where
  pub place : ℕ
  pub there : slice_get kinds place ≡ Some kind
  pub holds : IsOfKind form row kind
  pub only : (other : ℕ) → HoldsAt form row kinds other → other ≡ place

-- the first two kinds of the row have those numbers, counted from 1
pub record AreFirstTwo (form : FileForm) (row : SheetRow) (kinds : List KindRule) (first second : ℕ) : Type 0 where
  pub one : ℕ
  pub two : ℕ
  pub first_is : first ≡ one + 1
  pub second_is : second ≡ two + 1
  pub order : one < two
  pub one_holds : HoldsAt form row kinds one
  pub two_holds : HoldsAt form row kinds two
  pub none_before : (other : ℕ) → other < two → HoldsAt form row kinds other → other ≡ one

-- no kind is the row's
abbrev pub AreNone : FileForm → SheetRow → List KindRule → Type 0
AreNone form row kinds = (place : ℕ) → HoldsAt form row kinds place → ⊥

-- a fault of the kinds: none holds, or the first two that do
abbrev pub IsKindFault : FileForm → SheetRow → List KindRule → RowFault → Type 0
IsKindFault form row kinds fault.NoKind = AreNone form row kinds
IsKindFault form row kinds (fault.TwoKinds first second) = AreFirstTwo form row kinds first second
IsKindFault form row kinds other = ⊥
