-- The lines of a plot at round values, with their texts (docs/FORMATS.md, Page).
use Rattle.std.specs.Prelude.{◌≡◌, ◌⊎◌, ◌==◌, ℕ, ◌*◌, ◌/◌, ◌^◌, ◌≤◌, nat_abs, nat_lt, if◌then◌else◌, ℤ, pos, ◌+ℤ◌, ◌≤ℤ◌, ◌<ℤ◌, int_div, List, [], ◌∷◌, flat_map, codes}
use Rattle.std.specs.Fmt.{signed_decimal}
use Rattle.std.specs.List.Sorted.{IsStrictlySortedBy}
use Rattle.std.specs.Ordering.{int_cmp}
use Rattle.lot_html.specs.Number.{grouped}
use Rattle.lot_num.specs.AmountText.{amount_text}
use Rattle.lot_plot.specs.Plot.{all_of, from_top, percent_text, place_text, span_of}
use Rattle.lot_plot.specs.declared.scale.Scale.{Scale}

-- ---- the unit by which lines are apart

-- a unit is 1, 2 or 5 times a power of ten
abbrev pub IsRound : ℕ → Type 0
IsRound unit = (power : ℕ) × ((unit ≡ 10 ^ power) ⊎ ((unit ≡ 2 * 10 ^ power) ⊎ (unit ≡ 5 * 10 ^ power)))

-- at most four of it fit into a span
abbrev pub FitsFew : ℕ → ℕ → Type 0
FitsFew span unit = span / unit ≤ 4

-- the least such unit
pub record IsUnit (span unit : ℕ) : Type 0 where
  pub round : IsRound unit
  pub few : FitsFew span unit
  pub least : (other : ℕ) → IsRound other → FitsFew span other → unit ≤ other

-- ---- the lines

-- a value, above zero or below it, is a whole number of units
abbrev pub IsMultiple : ℕ → ℤ → Type 0
IsMultiple unit value = (times : ℕ) × (nat_abs value ≡ times * unit)

-- a value is one of these
abbrev pub IsAmong : ℤ → List ℤ → Type 0
IsAmong value [] = ⊥
IsAmong value (other ∷ others) = (value ≡ other) ⊎ IsAmong value others

-- all multiples of a unit on a scale, in their order
pub record AreLines (scale : Scale) (unit : ℕ) (values : List ℤ) : Type 0 where
  pub in_order : IsStrictlySortedBy int_cmp values
  pub multiples : (value : ℤ) → IsAmong value values → IsMultiple unit value × (scale.low ≤ℤ value) × (value ≤ℤ scale.high)
  pub all : (value : ℤ) → IsMultiple unit value → scale.low ≤ℤ value → value ≤ℤ scale.high → IsAmong value values

-- the least multiple of a unit that isn't below a value
pub record IsFirstFrom (low unit first : ℤ) : Type 0 where
  pub multiple : IsMultiple (nat_abs unit) first
  pub reaches : low ≤ℤ first
  pub near : first <ℤ (low +ℤ unit)

-- ---- what is written

-- one unit of money at the scale of weights
abbrev pub whole_unit : ℕ
whole_unit = 10 ^ 16

-- the text of a value: its whole part alone, where the unit is a whole one
abbrev pub value_text : ℕ → ℤ → List ℕ
value_text unit value = if nat_lt unit whole_unit then amount_text 2 16 value else signed_decimal (int_div value (pos whole_unit))

-- the line at zero is marked
abbrev pub line_front : ℤ → List ℕ
line_front value = if nat_abs value == 0 then codes "<line class=\"zero\" x1=\"0\" x2=\"100%\" y1=\"" else codes "<line x1=\"0\" x2=\"100%\" y1=\""

-- the line at a value, and its text above it
abbrev pub line_html : Scale → ℕ → ℤ → List ℕ
line_html scale unit value =
    let top = from_top scale value in
    all_of
    (line_front value ∷ percent_text top ∷ place_text (codes "%\" y2=\"") top ∷ place_text (codes "%\"/>\n<text x=\"0\" y=\"") top
    ∷ codes "%\" dy=\"-4\">" ∷ grouped (value_text unit value) ∷ codes "</text>\n" ∷ [])

-- the lines of a scale
abbrev pub IsGrid : Scale → List ℕ → Type 0
IsGrid scale text =
    (unit : ℕ) × IsUnit (span_of scale) unit × (values : List ℤ) × AreLines scale unit values
    × (text ≡ flat_map (line_html scale unit) values)
