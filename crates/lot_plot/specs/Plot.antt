-- Where plots draw values: in thousandths of the height, rounded down (docs/FORMATS.md, Page).
use Rattle.std.specs.Prelude.{ℕ, ◌+◌, ◌-◌, ◌/◌, ◌%◌, min, max, nat_abs, ℤ, pos, ◌+ℤ◌, ◌-ℤ◌, int_div, int_lt, if◌then◌else◌, List, ◌∷◌, ◌++◌, flat_map, decimal}
use Rattle.lot_plot.specs.declared.scale.Scale.{Scale}

-- texts one behind the other
abbrev pub all_of : List (List ℕ) → List ℕ
all_of = flat_map (λ (text : List ℕ). text)

-- thousandths as percents, with one decimal
abbrev pub percent_text : ℕ → List ℕ
percent_text thousandths = decimal (thousandths / 10) ++ 46 ∷ decimal (thousandths % 10)

-- a text, and thousandths behind it
abbrev pub place_text : List ℕ → ℕ → List ℕ
place_text before thousandths = before ++ percent_text thousandths

-- a thousandth of a span, rounded up
abbrev pub thousandth : ℤ → ℤ
thousandth span = int_div (span +ℤ pos 999) (pos 1000)

-- the least step of which a span has at most a thousand, and one at least
abbrev pub step_of : ℤ → ℤ
step_of span = if int_lt (thousandth span) (pos 1) then pos 1 else thousandth span

-- the same of a span that isn't below zero
abbrev pub step_over : ℕ → ℕ
step_over span = max ((span + 999) / 1000) 1

-- the distance between the least value and the greatest
abbrev pub span_of : Scale → ℕ
span_of scale = nat_abs (scale.high -ℤ scale.low)

-- how far a value is drawn below the upper edge: its distance from the lower edge is rounded down
abbrev pub from_top : Scale → ℤ → ℕ
from_top scale value = 1000 - min (nat_abs (value -ℤ scale.low) / step_over (span_of scale)) 1000

-- the lesser and the greater of two
abbrev pub lesser : ℤ → ℤ → ℤ
lesser a b = if int_lt b a then b else a

abbrev pub greater : ℤ → ℤ → ℤ
greater a b = if int_lt a b then b else a

-- the scale of a value alone
abbrev pub scale_at : ℤ → Scale
scale_at value = record { low = value; high = value }

-- a scale that has room for one more value
abbrev pub scale_with : Scale → ℤ → Scale
scale_with scale value = record { low = lesser scale.low value; high = greater scale.high value }
