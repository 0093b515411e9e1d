-- What a statement says of each commodity, beside what the legs of a book leave (docs/FORMATS.md, Reconciling).
use Rattle.std.specs.Prelude.{◌≡◌, ℕ, ℤ, pos, ◌+ℤ◌, ◌-ℤ◌, ◌*ℤ◌, neg_ℤ, Bool, not, ◌&&◌, ◌||◌, if◌then◌else◌, is_some, List, map, filter, None, Some, unwrap_or}
use Rattle.std.specs.List.{list_any}
use Rattle.std.specs.List.Sorted.{IsStrictlySortedBy}
use Rattle.std.specs.Map.{keys_of, lookup}
use Rattle.std.specs.Ordering.{int_eq, is_eq}
use Rattle.lot_num.specs.Amount.{one}
use Rattle.lot_num.specs.Sum.{sum_of}
use Rattle.lot_base.specs.Text.{text_cmp}
use Rattle.lot_legs.specs.declared.leg.DatedLeg.{DatedLeg}
use Rattle.lot_report.specs.Report.{is_wide}
use Rattle.lot_statement.specs.Line.{Line, said_of}
use Rattle.lot_activity.specs.Scope.{Asked, has}
use Rattle.lot_reconcile.specs.declared.balance.Balance.{Balance}

-- ---- what is said and what is held

-- the legs that are asked for, of plain units and at lots
abbrev pub counted_legs : Asked → List DatedLeg → List DatedLeg
counted_legs asked legs = filter (has asked) legs

abbrev pub is_of : List ℕ → DatedLeg → Bool
is_of commodity leg = is_eq (text_cmp commodity leg.commodity)

-- units as a weight
abbrev pub weight_of : DatedLeg → ℤ
weight_of leg = leg.units *ℤ pos one

-- what lines say of a commodity: nothing of one that they don't name
abbrev pub said_in : List Line → List ℕ → ℤ
said_in lines commodity = unwrap_or (said_of lines commodity) (pos 0) *ℤ pos one

-- what legs leave of it, in plain units and at lots together
abbrev pub held_in : List DatedLeg → List ℕ → ℤ
held_in legs commodity = sum_of (map weight_of (filter (is_of commodity) legs))

-- ---- balances

abbrev pub balance : ℤ → ℤ → ℤ → Balance
balance said held difference = record { said = said; held = held; difference = difference }

-- the two beside each other, and the first less the second
abbrev pub balance_of : List Line → List DatedLeg → List ℕ → Balance
balance_of lines legs commodity =
    balance (said_in lines commodity) (held_in legs commodity) (said_in lines commodity -ℤ held_in legs commodity)

-- nothing is held
abbrev pub said_alone : ℤ → Balance
said_alone said = balance said (pos 0) said

-- units more are held
abbrev pub balance_with : Balance → ℤ → Balance
balance_with b units = balance b.said (b.held +ℤ units *ℤ pos one) (b.difference +ℤ neg_ℤ (units *ℤ pos one))

abbrev pub differs : Balance → Bool
differs b = not (int_eq b.difference (pos 0))

-- ---- rows

-- whether lines or legs name a commodity
abbrev pub is_known : List Line → List DatedLeg → List ℕ → Bool
is_known lines legs commodity = is_some (said_of lines commodity) || list_any (is_of commodity) legs

-- the balances of all commodities that are named, by their bytes
pub record AreBalances (lines : List Line) (legs : List DatedLeg) (rows : List (List ℕ × Balance)) : Type 0 where
  pub in_order : IsStrictlySortedBy text_cmp (keys_of rows)
  pub each : (commodity : List ℕ) → lookup (λ other. is_eq (text_cmp commodity other)) rows
      ≡ (if is_known lines legs commodity then Some (balance_of lines legs commodity) else None)

-- ---- sums stay in range

abbrev pub has_room : Balance → ℤ → Bool
has_room b units = is_wide (b.held +ℤ units *ℤ pos one) && is_wide (b.difference +ℤ neg_ℤ (units *ℤ pos one))

-- whether those of its commodity do so with a leg, behind the legs before it
abbrev pub leg_fits : List Line → List DatedLeg → DatedLeg → Bool
leg_fits lines before leg = has_room (balance_of lines before leg.commodity) leg.units
