-- The plot of what sales gained by year, a bar for each (docs/FORMATS.md, Page).
use Rattle.std.specs.Prelude.{◌≡◌, ℕ, suc, Bool, ◌+◌, ◌-◌, ◌*◌, ◌/◌, ◌%◌, ◌==◌, min, max, int_lt, if◌then◌else◌, ℤ, pos, List, [], ◌∷◌, ◌++◌, filter, flat_map, codes}
use Rattle.std.specs.List.{fold, range_with_len}
use Rattle.lot_html.specs.Number.{grouped}
use Rattle.lot_html.specs.Text.{escaped}
use Rattle.lot_num.specs.AmountText.{amount_text}
use Rattle.lot_plot.specs.Grid.{IsGrid}
use Rattle.lot_plot.specs.Month.{year_text}
use Rattle.lot_plot.specs.Plot.{all_of, from_top, greater, lesser, percent_text, place_text, scale_at, scale_with}
use Rattle.lot_plot.specs.declared.bars.YearBar.{YearBar}
use Rattle.lot_plot.specs.declared.bars.Years.{Years}
use Rattle.lot_plot.specs.declared.scale.Scale.{Scale}

-- the scale of zero and of all bars
abbrev pub scale_of_bars : List YearBar → Scale
scale_of_bars bars = fold (λ (scale : Scale) (bar : YearBar). scale_with scale bar.gain) (scale_at (pos 0)) bars

-- the least and the greatest gain
abbrev pub first_gain : List YearBar → ℤ
first_gain [] = pos 0
first_gain (bar ∷ bars) = bar.gain

abbrev pub least_of : List YearBar → ℤ
least_of bars = fold (λ (gain : ℤ) (bar : YearBar). lesser gain bar.gain) (first_gain bars) bars

abbrev pub greatest_of : List YearBar → ℤ
greatest_of bars = fold (λ (gain : ℤ) (bar : YearBar). greater gain bar.gain) (first_gain bars) bars

-- ---- the width: so many years, between 140 and 1,000 thousandths

abbrev pub middle_of : ℕ → ℕ → ℕ
middle_of count at = 140 + 860 * (2 * at + 1) / (2 * count)

abbrev pub width_of : ℕ → ℕ
width_of count = max (min (860 * 7 / (10 * count)) 90) 1

-- how many years lie between two that are written
abbrev pub every : ℕ → ℕ
every count = (count + 5) / 6

-- the years from the first bar to the last: the first, and how many more there are
abbrev pub last_year : YearBar → List YearBar → ℕ
last_year bar [] = bar.year
last_year bar (next ∷ rest) = last_year next rest

abbrev pub years_of : List YearBar → Years
years_of [] = record { first = 0; more = 0 }
years_of (bar ∷ bars) = record { first = bar.year; more = last_year bar bars - bar.year }

-- ---- what is written

-- money for the eye
abbrev pub money_html : ℤ → List ℕ
money_html amount = grouped (amount_text 2 16 amount)

-- a bar below zero is marked
abbrev pub bar_front : ℤ → List ℕ
bar_front gain = if int_lt gain (pos 0) then codes "<rect class=\"below\" x=\"" else codes "<rect x=\""

-- a bar goes from zero to its gain
abbrev pub bar_html : Scale → Years → YearBar → List ℕ
bar_html scale years bar =
    let count = suc years.more in
    let top = from_top scale (greater bar.gain (pos 0)) in
    let bottom = from_top scale (lesser bar.gain (pos 0)) in
    all_of
    (bar_front bar.gain ∷ percent_text (middle_of count (bar.year - years.first) - width_of count / 2) ∷ place_text (codes "%\" y=\"") top
    ∷ place_text (codes "%\" width=\"") (width_of count) ∷ place_text (codes "%\" height=\"") (bottom - top) ∷ codes "%\"/>\n" ∷ [])

-- a text below a plot
abbrev pub below_front : ℕ → List ℕ
below_front at = codes "<text x=\"" ++ (percent_text at ++ codes "%\" y=\"202\" text-anchor=\"middle\">")

abbrev pub below_html : ℕ → List ℕ → List ℕ
below_html at text = below_front at ++ (text ++ codes "</text>\n")

-- a year is written below its bar
abbrev pub is_written : Years → ℕ → Bool
is_written years at = at % every (suc years.more) == 0

abbrev pub year_html : Years → ℕ → List ℕ
year_html years at = below_html (middle_of (suc years.more) at) (year_text (years.first + at))

abbrev pub years_html : Years → List ℕ
years_html years = flat_map (year_html years) (filter (is_written years) (range_with_len 0 (suc years.more)))

-- what a plot says for those who don't see it
abbrev pub bars_label : List ℕ → Years → List YearBar → List ℕ
bars_label currency years bars =
    all_of
    (codes "Gains in " ∷ escaped currency ∷ codes " by year, " ∷ year_text years.first ∷ codes " to " ∷ year_text (years.first + years.more)
    ∷ codes ": the least is " ∷ money_html (least_of bars) ∷ codes ", the greatest " ∷ money_html (greatest_of bars) ∷ [])

-- ---- the plot

-- the plot of bars, of which there are some
abbrev pub IsPlotOf : List ℕ → List YearBar → List ℕ → Type 0
IsPlotOf currency bars text =
    let scale = scale_of_bars bars in
    let years = years_of bars in
    (grid : List ℕ) × IsGrid scale grid
    × (text ≡ all_of
    (codes "<svg class=\"plot\" height=\"208\" role=\"img\" aria-label=\"" ∷ bars_label currency years bars
    ∷ codes "\">\n<svg y=\"18\" width=\"100%\" height=\"164\">\n" ∷ grid ∷ flat_map (bar_html scale years) bars
    ∷ codes "</svg>\n" ∷ years_html years ∷ codes "</svg>\n" ∷ []))

-- the plot of bars in the order of their years; without a bar there is none
abbrev pub IsBarsPlot : List ℕ → List YearBar → List ℕ → Type 0
IsBarsPlot currency [] text = text ≡ []
IsBarsPlot currency (bar ∷ bars) text = IsPlotOf currency (bar ∷ bars) text
