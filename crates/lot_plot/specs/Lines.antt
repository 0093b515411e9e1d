-- The plot of what lots were worth and cost at the end of each month (docs/FORMATS.md, Page).
use Rattle.std.specs.Prelude.{◌≡◌, ℕ, ◌+◌, ◌-◌, ◌*◌, ◌/◌, ◌%◌, ◌==◌, ◌&&◌, min, max, nat_lt, Bool, true, false, if◌then◌else◌, is_none, is_some, ℤ, pos, List, [], ◌∷◌, ◌++◌, length, map, filter, flat_map, count_by, codes, decimal, Option, None, Some}
use Rattle.std.specs.List.{fold, list_any, range_with_len}
use Rattle.lot_html.specs.Text.{escaped}
use Rattle.lot_plot.specs.Bars.{below_html, money_html}
use Rattle.lot_plot.specs.Grid.{IsGrid}
use Rattle.lot_plot.specs.Month.{month_text, year_text}
use Rattle.lot_plot.specs.Plot.{all_of, from_top, scale_at, scale_with}
use Rattle.lot_plot.specs.declared.lines.Line.{Line}
use Rattle.lot_plot.specs.declared.lines.Line.TheVariants.{Cost, Worth}
use Rattle.lot_plot.specs.declared.lines.MonthPoint.{MonthPoint}
use Rattle.lot_plot.specs.declared.scale.Scale.{Scale}

-- ---- the scale of zero and of all values

abbrev pub scale_with_worth : Scale → Option ℤ → Scale
scale_with_worth scale None = scale
scale_with_worth scale (Some worth) = scale_with scale worth

abbrev pub scale_of_points : List MonthPoint → Scale
scale_of_points points =
    fold (λ (scale : Scale) (point : MonthPoint). scale_with_worth (scale_with scale point.cost) point.worth) (scale_at (pos 0)) points

-- ---- the width: so many months from the left edge to the right one, in thousandths

abbrev pub place_of : ℕ → ℕ → ℕ
place_of count at = if nat_lt count 2 then 500 else min (at * 1000 / (count - 1)) 1000

-- where a text is below them: the lines begin behind the texts of the grid
abbrev pub below_of : ℕ → ℕ → ℕ
below_of count at = 140 + place_of count at * 80 / 100

-- ---- the lines

abbrev pub class_of : Line → List ℕ
class_of Worth = codes "worth"
class_of Cost = codes "cost"

-- the value of a line at a point, if it has one there
abbrev pub value_at : Line → MonthPoint → Option ℤ
value_at Worth point = point.worth
value_at Cost point = Some point.cost

abbrev pub values_of : Line → List MonthPoint → List (Option ℤ)
values_of line points = map (value_at line) points

abbrev pub step_html : List ℕ → ℕ → ℕ → List ℕ
step_html step x y = all_of (step ∷ decimal x ∷ codes " " ∷ decimal y ∷ [])

-- the steps to a value: a line that isn't drawn yet begins there, with a point
abbrev pub step_at : Scale → ℕ → Bool → Option ℤ → List ℕ
step_at scale x is_drawing None = []
step_at scale x true (Some value) = step_html (codes "L") x (from_top scale value)
step_at scale x false (Some value) = step_html (codes "M") x (from_top scale value) ++ step_html (codes "L") x (from_top scale value)

-- a line through the values that there are, from a place on: where one is missing before, it begins anew
abbrev pub steps_from : Scale → ℕ → Bool → ℕ → List (Option ℤ) → List ℕ
steps_from scale count is_drawing at [] = []
steps_from scale count is_drawing at (value ∷ rest) =
    step_at scale (place_of count at) is_drawing value ++ steps_from scale count (is_some value) (at + 1) rest

abbrev pub has_value : Line → List MonthPoint → Bool
has_value line points = list_any is_some (values_of line points)

-- without a value there is no line
abbrev pub path_html : Scale → Line → List MonthPoint → List ℕ
path_html scale line points =
    if has_value line points
    then all_of (codes "<path class=\"" ∷ class_of line ∷ codes "\" d=\"" ∷ steps_from scale (length points) false 0 (values_of line points) ∷ codes "\"/>\n" ∷ [])
    else []

abbrev pub paths_html : Scale → List MonthPoint → List ℕ
paths_html scale points =
    all_of
    (codes "<svg x=\"14%\" width=\"80%\" viewBox=\"0 0 1000 1000\" preserveAspectRatio=\"none\">\n"
    ∷ path_html scale Cost points ∷ path_html scale Worth points ∷ codes "</svg>\n</svg>\n" ∷ [])

-- ---- texts

-- what a value is for those who don't see it
abbrev pub known_text : Option ℤ → List ℕ
known_text None = codes "not known"
known_text (Some value) = money_html value

abbrev pub gaps_of : List MonthPoint → ℕ
gaps_of points = count_by (λ (point : MonthPoint). is_none point.worth) points

abbrev pub gaps_text : ℕ → List ℕ
gaps_text gaps = if gaps == 0 then [] else all_of (codes "; at " ∷ decimal gaps ∷ codes " the worth isn't known" ∷ [])

-- what there is at the last point
abbrev pub last_text : List MonthPoint → List ℕ
last_text [] = []
last_text (point ∷ []) = all_of (codes ": at the last the worth is " ∷ known_text point.worth ∷ codes ", the cost " ∷ money_html point.cost ∷ [])
last_text (point ∷ next ∷ rest) = last_text (next ∷ rest)

abbrev pub lines_label : List ℕ → ℕ → List MonthPoint → List ℕ
lines_label currency first points =
    all_of
    (codes "Worth and cost of lots in " ∷ escaped currency ∷ codes " at the end of each month, " ∷ month_text first ∷ codes " to "
    ∷ month_text (first + (length points - 1)) ∷ last_text points ∷ gaps_text (gaps_of points) ∷ [])

-- months below the lines, where they are few, else the years of their Januaries
abbrev pub few : ℕ
few = 24

abbrev pub is_written_month : ℕ → ℕ → Bool
is_written_month count at = at % max ((count + 4) / 5) 1 == 0

abbrev pub years_between : ℕ → ℕ → ℕ
years_between first count = (first + (count - 1)) / 12 - first / 12 + 1

abbrev pub is_written_year : ℕ → ℕ → ℕ → Bool
is_written_year first count at =
    ((first + at) % 12 == 0) && (((first + at) / 12) % max ((years_between first count + 5) / 6) 1 == 0)

abbrev pub month_html : ℕ → ℕ → ℕ → List ℕ
month_html first count at = below_html (below_of count at) (month_text (first + at))

abbrev pub year_html : ℕ → ℕ → ℕ → List ℕ
year_html first count at = below_html (below_of count at) (year_text ((first + at) / 12))

abbrev pub each_month_html : ℕ → ℕ → List ℕ
each_month_html first count = flat_map (month_html first count) (filter (is_written_month count) (range_with_len 0 count))

abbrev pub each_year_html : ℕ → ℕ → List ℕ
each_year_html first count = flat_map (year_html first count) (filter (is_written_year first count) (range_with_len 0 count))

abbrev pub months_html : ℕ → ℕ → List ℕ
months_html first count = if nat_lt few count then each_year_html first count else each_month_html first count

-- ---- the plot

-- the plot of points, of which there are some
abbrev pub IsPlotOf : List ℕ → ℕ → List MonthPoint → List ℕ → Type 0
IsPlotOf currency first points text =
    let scale = scale_of_points points in
    (grid : List ℕ) × IsGrid scale grid
    × (text ≡ all_of
    (codes "<svg class=\"plot\" height=\"208\" role=\"img\" aria-label=\"" ∷ lines_label currency first points
    ∷ codes "\">\n<svg y=\"18\" width=\"100%\" height=\"164\">\n" ∷ grid ∷ paths_html scale points
    ∷ months_html first (length points) ∷ codes "</svg>\n" ∷ []))

-- the plot of months from the first one on; without a month there is none
abbrev pub IsLinesPlot : List ℕ → ℕ → List MonthPoint → List ℕ → Type 0
IsLinesPlot currency first [] text = text ≡ []
IsLinesPlot currency first (point ∷ points) text = IsPlotOf currency first (point ∷ points) text
