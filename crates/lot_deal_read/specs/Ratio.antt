-- How a row gives a split (docs/FORMATS.md, Profiles).
use Rattle.std.specs.Prelude.{ℕ, zero, suc, ◌*◌, ◌^◌, ◌==◌, Bool, not, ◌&&◌, nat_lt, if◌then◌else◌, List, [], ◌∷◌, Option, Some, None, Ok, pos}
use Rattle.std.specs.Char.{is_ascii_digit}
use Rattle.std.specs.List.{after_first, before_first, list_all, list_any}
use Rattle.std.specs.Ordering.{int_eq}
use Rattle.std.specs.Str.Parse.{digits_value}
use Rattle.lot_field.specs.Field.{cut}
use Rattle.lot_profile.specs.declared.role.Role.TheVariants as role
use Rattle.lot_roles.specs.Parts.{text_of}
use Rattle.lot_roles.specs.Reading.{Read, ◌>>=◌, or_fault}
use Rattle.lot_roles.specs.declared.fault.RowFault.TheVariants.{NothingAdded, NotRatio, RatioTooLarge}
use Rattle.lot_roles.specs.declared.rules.Rules.{Rules}
use Rattle.lot_sheet.specs.Sheet.{SheetRow}
use Rattle.lot_rounding.specs.Ratio.{most_in_ratio}
use Rattle.lot_rounding.specs.declared.ratio.Change.{Change}
use Rattle.lot_rounding.specs.declared.ratio.Change.TheVariants.{ByUnits, InRatio}
use Rattle.lot_rounding.specs.declared.ratio.Ratio.{Ratio}
use Rattle.lot_deal_read.specs.Needed.{must, units_in}

-- ---- Ratios.

-- whether a text is digits that write a number above zero and below 2 ^ 64
abbrev pub is_whole : List ℕ → Bool
is_whole text = list_all is_ascii_digit text && nat_lt 0 (digits_value 10 text) && nat_lt (digits_value 10 text) (2 ^ 64)

abbrev pub whole : List ℕ → Option ℕ
whole text = if is_whole text then Some (digits_value 10 text) else None

abbrev pub is_colon : ℕ → Bool
is_colon byte = byte == 58

abbrev pub with_old : Option ℕ → ℕ → Option Ratio
with_old None new = None
with_old (Some old) new = Some (record { new = new; old = old })

abbrev pub with_new : Option ℕ → Option ℕ → Option Ratio
with_new None old = None
with_new (Some new) old = with_old old new

-- two whole numbers with a colon between them, the new one first; blanks beside it are read over
unfoldable pub ratio_in : List ℕ → Option Ratio
ratio_in text = with_new (whole (cut (before_first is_colon text))) (whole (cut (after_first is_colon text)))

-- the numbers up to another
unfoldable pub up_to : ℕ → List ℕ
up_to zero = []
up_to (suc n) = suc n ∷ up_to n

-- whether a ratio in lowest terms has no number above the limit: whether it is one of two numbers up to that
unfoldable pub is_small : Ratio → Bool
is_small ratio =
    nat_lt 0 ratio.old
    && list_any (λ (old : ℕ). list_any (λ (new : ℕ). ratio.new * old == ratio.old * new) (up_to most_in_ratio)) (up_to most_in_ratio)

abbrev pub in_ratio : List ℕ → Read Change
in_ratio text = do
  ratio ← or_fault NotRatio (ratio_in text)
  _ ← must RatioTooLarge (is_small ratio)
  Ok (InRatio ratio)

-- ---- Splits.

abbrev pub by_units : Rules → SheetRow → Read Change
by_units rules row = do
  units ← units_in rules row
  _ ← must NothingAdded (not (int_eq units (pos 0)))
  Ok (ByUnits units)

abbrev pub change_by : Option (List ℕ) → Rules → SheetRow → Read Change
change_by (Some text) rules row = in_ratio text
change_by None rules row = by_units rules row

-- how a row gives a split: by a ratio, where it has one, else by the units that were added
unfoldable pub change_of : Rules → SheetRow → Read Change
change_of rules row = change_by (text_of rules row role.Ratio) rules row
