-- Plots are balanced: lines, bars and paths stand alone, and texts are closed.
use Rattle.std.specs.Prelude.{◌==◌, ◌-◌, ◌/◌, nat_abs, nat_lt, int_div, int_lt, codes, decimal}
use Rattle.std.specs.Fmt.{signed_decimal}
use Rattle.std.specs.List.{flat_map, range_with_len}
use Rattle.std.proofs.Common.{◌≡◌, ℕ, suc, ◌+◌, ℤ, pos, Bool, true, false, List, [], ◌∷◌, ◌++◌, Option, None, Some, ap, refl, sym, subst, ◌∙◌, append_assoc, filter, length, inl, inr}
use Rattle.std.proofs.lemmas.Bool.{cases_Bool}
use Rattle.lot_html.proofs.BalanceLemmas.{IsSaid, alone, attribute, begin, closed, done, each_is_balanced, either_is_balanced, inside, is_balanced, more, none_is_balanced, nothing_said, plainly, quoted, saying, says, says_both, spoken, value}
use Rattle.lot_html.specs.Html.{IsBalanced, line, path, rect}
use Rattle.lot_html.specs.Number.{grouped}
use Rattle.lot_num.specs.AmountText.{amount_text}
use Rattle.lot_plot.proofs.PlainLemmas.{ArePlain, amount_plain, decimal_plain, grouped_plain, month_plain, percent_plain, plain_is, signed_plain, year_plain}
use Rattle.lot_plot.specs.Bars.{IsBarsPlot, bar_html, bars_label, below_html, greatest_of, is_written, least_of, middle_of, money_html, scale_of_bars, width_of, year_html, years_html, years_of}
use Rattle.lot_plot.specs.Grid.{IsGrid, line_html, value_text, whole_unit}
use Rattle.lot_plot.specs.Lines as lines
use Rattle.lot_plot.specs.Lines.{IsLinesPlot}
use Rattle.lot_plot.specs.Month.{month_text, year_text}
use Rattle.lot_plot.specs.Plot.{from_top, greater, lesser, percent_text}
use Rattle.lot_plot.specs.declared.bars.YearBar.{YearBar}
use Rattle.lot_plot.specs.declared.bars.Years.{Years}
use Rattle.lot_plot.specs.declared.lines.Line.{Line}
use Rattle.lot_plot.specs.declared.lines.Line.TheVariants.{Cost, Worth}
use Rattle.lot_plot.specs.declared.lines.MonthPoint.{MonthPoint}
use Rattle.lot_plot.specs.declared.scale.Scale.{Scale}

-- ---- numbers

pub plain_said : (bytes : List ℕ) → ArePlain bytes → IsSaid bytes
plain_said bytes plain = plainly bytes (plain_is bytes plain)

pub percent : (thousandths : ℕ) → IsSaid (percent_text thousandths)
percent thousandths = plain_said (percent_text thousandths) (percent_plain thousandths)

pub number : (n : ℕ) → IsSaid (decimal n)
number n = plain_said (decimal n) (decimal_plain n)

pub month : (n : ℕ) → IsSaid (month_text n)
month n = plain_said (month_text n) (month_plain n)

pub year : (n : ℕ) → IsSaid (year_text n)
year n = plain_said (year_text n) (year_plain n)

pub money : (amount : ℤ) → IsSaid (money_html amount)
money amount = plain_said (money_html amount) (grouped_plain (amount_text 2 16 amount) (amount_plain 2 16 amount))

-- ---- the grid

line_value : (unit : ℕ) (at : ℤ) → IsSaid (grouped (value_text unit at))
line_value unit at = elim (cases_Bool (nat_lt unit whole_unit)) [
  | inl is ↦ rw (is) (plain_said (grouped (amount_text 2 16 at)) (grouped_plain (amount_text 2 16 at) (amount_plain 2 16 at)))
  | inr isnt ↦
      rw (isnt)
      (plain_said (grouped (signed_decimal (int_div at (pos whole_unit))))
      (grouped_plain (signed_decimal (int_div at (pos whole_unit))) (signed_plain (int_div at (pos whole_unit)))))
]

line_balanced : (scale : Scale) (unit : ℕ) (at : ℤ) → IsBalanced (line_html scale unit at)
line_balanced scale unit at =
    let top = from_top scale at in
    either_is_balanced (nat_abs at == 0) (codes "<line class=\"zero\" x1=\"0\" x2=\"100%\" y1=\"") (codes "<line x1=\"0\" x2=\"100%\" y1=\"") _
    (is_balanced _
    (begin (codes "line") (attribute (codes "class") (value (plainly (codes "zero") refl) (quoted
    (attribute (codes "x1") (value (plainly (codes "0") refl) (quoted (attribute (codes "x2")
    (value (plainly (codes "100%") refl) (quoted (attribute (codes "y1") (value (percent top)
    (value (plainly (codes "%") refl) (quoted (attribute (codes "y2") (value (percent top)
    (value (plainly (codes "%") refl) (quoted (alone line (saying (plainly (codes "\n") refl)
    (begin (codes "text") (attribute (codes "x") (value (plainly (codes "0") refl) (quoted
    (attribute (codes "y") (value (percent top) (value (plainly (codes "%") refl) (quoted
    (attribute (codes "dy") (value (plainly (codes "-4") refl) (quoted (inside (saying (line_value unit at)
    (closed (codes "text") (saying (plainly (codes "\n") refl) done))))))))))))))))))))))))))))))))))))
    (is_balanced _
    (begin (codes "line") (attribute (codes "x1") (value (plainly (codes "0") refl) (quoted
    (attribute (codes "x2") (value (plainly (codes "100%") refl) (quoted (attribute (codes "y1")
    (value (percent top) (value (plainly (codes "%") refl) (quoted (attribute (codes "y2")
    (value (percent top) (value (plainly (codes "%") refl) (quoted (alone line
    (saying (plainly (codes "\n") refl) (begin (codes "text") (attribute (codes "x")
    (value (plainly (codes "0") refl) (quoted (attribute (codes "y") (value (percent top)
    (value (plainly (codes "%") refl) (quoted (attribute (codes "dy") (value (plainly (codes "-4") refl)
    (quoted (inside (saying (line_value unit at) (closed (codes "text") (saying (plainly (codes "\n") refl) done)))))))))))))))))))))))))))))))))

grid_balanced : (scale : Scale) (text : List ℕ) → IsGrid scale text → IsBalanced text
grid_balanced scale text (unit, is_unit, values, are, is) =
    subst IsBalanced (sym is) (each_is_balanced (line_html scale unit) values (line_balanced scale unit))

-- ---- bars

below_balanced : (at : ℕ) (text : List ℕ) → IsSaid text → IsBalanced (below_html at text)
below_balanced at text said =
    let same : codes "<text x=\"" ++ (percent_text at ++ (codes "%\" y=\"202\" text-anchor=\"middle\">" ++ (text ++ (codes "</text>\n" ++ []))))
    ≡ below_html at text =
    ap (λ (t : List ℕ). codes "<text x=\"" ++ t)
    (sym (append_assoc (percent_text at) (codes "%\" y=\"202\" text-anchor=\"middle\">") (text ++ codes "</text>\n"))) in
    subst IsBalanced same
    (is_balanced _
    (begin (codes "text") (attribute (codes "x") (value (percent at) (value (plainly (codes "%") refl)
    (quoted (attribute (codes "y") (value (plainly (codes "202") refl) (quoted
    (attribute (codes "text-anchor") (value (plainly (codes "middle") refl) (quoted (inside (saying (said)
    (closed (codes "text") (saying (plainly (codes "\n") refl) done))))))))))))))))

bar_balanced : (scale : Scale) (years : Years) (bar : YearBar) → IsBalanced (bar_html scale years bar)
bar_balanced scale years bar =
    let count = suc years.more in
    let left = middle_of count (bar.year - years.first) - width_of count / 2 in
    let top = from_top scale (greater bar.gain (pos 0)) in
    let width = width_of count in
    let height = from_top scale (lesser bar.gain (pos 0)) - top in
    either_is_balanced (int_lt bar.gain (pos 0)) (codes "<rect class=\"below\" x=\"") (codes "<rect x=\"") _
    (is_balanced _
    (begin (codes "rect") (attribute (codes "class") (value (plainly (codes "below") refl) (quoted
    (attribute (codes "x") (value (percent left) (value (plainly (codes "%") refl) (quoted
    (attribute (codes "y") (value (percent top) (value (plainly (codes "%") refl) (quoted
    (attribute (codes "width") (value (percent width) (value (plainly (codes "%") refl) (quoted
    (attribute (codes "height") (value (percent height) (value (plainly (codes "%") refl) (quoted
    (alone rect (saying (plainly (codes "\n") refl) done)))))))))))))))))))))))
    (is_balanced _
    (begin (codes "rect") (attribute (codes "x") (value (percent left) (value (plainly (codes "%") refl)
    (quoted (attribute (codes "y") (value (percent top) (value (plainly (codes "%") refl) (quoted
    (attribute (codes "width") (value (percent width) (value (plainly (codes "%") refl) (quoted
    (attribute (codes "height") (value (percent height) (value (plainly (codes "%") refl) (quoted
    (alone rect (saying (plainly (codes "\n") refl) done))))))))))))))))))))

years_balanced : (years : Years) → IsBalanced (years_html years)
years_balanced years =
    each_is_balanced (year_html years) (filter (is_written years) (range_with_len 0 (suc years.more)))
    (λ at. below_balanced (middle_of (suc years.more) at) (year_text (years.first + at)) (year (years.first + at)))

bars_label_said : (currency : List ℕ) (years : Years) (bars : List YearBar) → IsSaid (bars_label currency years bars)
bars_label_said currency years bars =
    spoken (plainly (codes "Gains in ") refl) (spoken (says currency) (spoken (plainly (codes " by year, ") refl) (spoken (year years.first)
    (spoken (plainly (codes " to ") refl) (spoken (year (years.first + years.more)) (spoken (plainly (codes ": the least is ") refl)
    (spoken (money (least_of bars)) (spoken (plainly (codes ", the greatest ") refl) (spoken (money (greatest_of bars)) nothing_said)))))))))

pub bars_balanced : (currency : List ℕ) (bars : List YearBar) (text : List ℕ) → IsBarsPlot currency bars text → IsBalanced text
bars_balanced currency [] text is = subst IsBalanced (sym is) none_is_balanced
bars_balanced currency (bar ∷ rest) text (grid, is_grid, is) =
    let bars = bar ∷ rest in
    let scale = scale_of_bars bars in
    let years = years_of bars in
    subst IsBalanced (sym is)
    (is_balanced _
    (begin (codes "svg") (attribute (codes "class") (value (plainly (codes "plot") refl) (quoted
    (attribute (codes "height") (value (plainly (codes "208") refl) (quoted (attribute (codes "role")
    (value (plainly (codes "img") refl) (quoted (attribute (codes "aria-label")
    (value (bars_label_said currency years bars) (quoted (inside (saying (plainly (codes "\n") refl)
    (begin (codes "svg") (attribute (codes "y") (value (plainly (codes "18") refl) (quoted
    (attribute (codes "width") (value (plainly (codes "100%") refl) (quoted (attribute (codes "height")
    (value (plainly (codes "164") refl) (quoted (inside (saying (plainly (codes "\n") refl)
    (more (grid) (grid_balanced scale grid is_grid)
    (more (flat_map (bar_html scale years) bars) (each_is_balanced (bar_html scale years) bars (bar_balanced scale years))
    (closed (codes "svg") (saying (plainly (codes "\n") refl) (more (years_html years) (years_balanced years)
    (closed (codes "svg") (saying (plainly (codes "\n") refl) done)))))))))))))))))))))))))))))))))))

-- ---- lines

step_said : (step : List ℕ) (x y : ℕ) → IsSaid step → IsSaid (lines.step_html step x y)
step_said step x y said = spoken said (spoken (number x) (spoken (plainly (codes " ") refl) (spoken (number y) nothing_said)))

step_at_said : (scale : Scale) (x : ℕ) (is_drawing : Bool) (at : Option ℤ) → IsSaid (lines.step_at scale x is_drawing at)
step_at_said scale x true None = plainly [] refl
step_at_said scale x false None = plainly [] refl
step_at_said scale x true (Some at) = step_said (codes "L") x (from_top scale at) (plainly (codes "L") refl)
step_at_said scale x false (Some at) =
    says_both (lines.step_html (codes "M") x (from_top scale at)) (lines.step_html (codes "L") x (from_top scale at))
    (step_said (codes "M") x (from_top scale at) (plainly (codes "M") refl)) (step_said (codes "L") x (from_top scale at) (plainly (codes "L") refl))

steps_said : (scale : Scale) (count : ℕ) (is_drawing : Bool) (at : ℕ) (values : List (Option ℤ))
    → IsSaid (lines.steps_from scale count is_drawing at values)
steps_said scale count is_drawing at [] = plainly [] refl
steps_said scale count is_drawing at (first ∷ values) =
    says_both _ _ (step_at_said scale (lines.place_of count at) is_drawing first) (steps_said scale count _ (at + 1) values)

class_said : (kind : Line) → IsSaid (lines.class_of kind)
class_said Worth = plainly (codes "worth") refl
class_said Cost = plainly (codes "cost") refl

path_balanced : (scale : Scale) (kind : Line) (points : List MonthPoint) → IsBalanced (lines.path_html scale kind points)
path_balanced scale kind points = elim (cases_Bool (lines.has_value kind points)) [
  | inl is ↦
      rw (is)
      (is_balanced _
      (begin (codes "path") (attribute (codes "class") (value (class_said kind) (quoted
      (attribute (codes "d") (value (steps_said scale (length points) false 0 (lines.values_of kind points))
      (quoted (alone path (saying (plainly (codes "\n") refl) done))))))))))
  | inr isnt ↦ rw (isnt) none_is_balanced
]

known_said : (worth : Option ℤ) → IsSaid (lines.known_text worth)
known_said None = plainly (codes "not known") refl
known_said (Some amount) = money amount

gaps_said : (gaps : ℕ) → IsSaid (lines.gaps_text gaps)
gaps_said gaps = elim (cases_Bool (gaps == 0)) [
  | inl is ↦ rw (is) (plainly [] refl)
  | inr isnt ↦
      rw (isnt)
      (spoken (plainly (codes "; at ") refl) (spoken (number gaps) (spoken (plainly (codes " the worth isn't known") refl) nothing_said)))
]

last_said : (points : List MonthPoint) → IsSaid (lines.last_text points)
last_said [] = plainly [] refl
last_said (point ∷ []) =
    spoken (plainly (codes ": at the last the worth is ") refl)
    (spoken (known_said point.worth) (spoken (plainly (codes ", the cost ") refl) (spoken (money point.cost) nothing_said)))
last_said (point ∷ next ∷ rest) = last_said (next ∷ rest)

lines_label_said : (currency : List ℕ) (first : ℕ) (points : List MonthPoint) → IsSaid (lines.lines_label currency first points)
lines_label_said currency first points =
    spoken (plainly (codes "Worth and cost of lots in ") refl) (spoken (says currency)
    (spoken (plainly (codes " at the end of each month, ") refl) (spoken (month first) (spoken (plainly (codes " to ") refl)
    (spoken (month (first + (length points - 1))) (spoken (last_said points) (spoken (gaps_said (lines.gaps_of points)) nothing_said)))))))

months_balanced : (first count : ℕ) → IsBalanced (lines.months_html first count)
months_balanced first count = elim (cases_Bool (nat_lt lines.few count)) [
  | inl is ↦
      rw (is)
      (each_is_balanced (lines.year_html first count) (filter (lines.is_written_year first count) (range_with_len 0 count))
      (λ at. below_balanced (lines.below_of count at) (year_text ((first + at) / 12)) (year ((first + at) / 12))))
  | inr isnt ↦
      rw (isnt)
      (each_is_balanced (lines.month_html first count) (filter (lines.is_written_month count) (range_with_len 0 count))
      (λ at. below_balanced (lines.below_of count at) (month_text (first + at)) (month (first + at))))
]

-- the paths, and what is behind them, apart
apart : (cost worth last rest : List ℕ) → (cost ++ (worth ++ last)) ++ rest ≡ cost ++ (worth ++ (last ++ rest))
apart cost worth last rest = append_assoc cost (worth ++ last) rest ∙ ap (λ (t : List ℕ). cost ++ t) (append_assoc worth last rest)

pub lines_balanced : (currency : List ℕ) (first : ℕ) (points : List MonthPoint) (text : List ℕ) → IsLinesPlot currency first points text
    → IsBalanced text
lines_balanced currency first [] text is = subst IsBalanced (sym is) none_is_balanced
lines_balanced currency first (point ∷ others) text (grid, is_grid, is) =
    let points = point ∷ others in
    let scale = lines.scale_of_points points in
    let cost = lines.path_html scale Cost points in
    let worth = lines.path_html scale Worth points in
    let last = codes "</svg>\n</svg>\n" in
    let months = lines.months_html first (length points) in
    let behind = months ++ (codes "</svg>\n" ++ []) in
    let front = λ (t : List ℕ).
    codes "<svg class=\"plot\" height=\"208\" role=\"img\" aria-label=\"" ++ (lines.lines_label currency first points
    ++ (codes "\">\n<svg y=\"18\" width=\"100%\" height=\"164\">\n" ++ (grid
    ++ (codes "<svg x=\"14%\" width=\"80%\" viewBox=\"0 0 1000 1000\" preserveAspectRatio=\"none\">\n" ++ t)))) in
    let whole : text ≡ front (cost ++ (worth ++ (last ++ behind))) = is ∙ ap front (apart cost worth last behind) in
    subst IsBalanced (sym whole)
    (is_balanced _
    (begin (codes "svg") (attribute (codes "class") (value (plainly (codes "plot") refl) (quoted
    (attribute (codes "height") (value (plainly (codes "208") refl) (quoted (attribute (codes "role")
    (value (plainly (codes "img") refl) (quoted (attribute (codes "aria-label")
    (value (lines_label_said currency first points) (quoted (inside (saying (plainly (codes "\n") refl)
    (begin (codes "svg") (attribute (codes "y") (value (plainly (codes "18") refl) (quoted
    (attribute (codes "width") (value (plainly (codes "100%") refl) (quoted (attribute (codes "height")
    (value (plainly (codes "164") refl) (quoted (inside (saying (plainly (codes "\n") refl)
    (more (grid) (grid_balanced scale grid is_grid) (begin (codes "svg") (attribute (codes "x")
    (value (plainly (codes "14%") refl) (quoted (attribute (codes "width")
    (value (plainly (codes "80%") refl) (quoted (attribute (codes "viewBox")
    (value (plainly (codes "0 0 1000 1000") refl) (quoted (attribute (codes "preserveAspectRatio")
    (value (plainly (codes "none") refl) (quoted (inside (saying (plainly (codes "\n") refl)
    (more (cost) (path_balanced scale Cost points) (more (worth) (path_balanced scale Worth points)
    (closed (codes "svg") (saying (plainly (codes "\n") refl) (closed (codes "svg")
    (saying (plainly (codes "\n") refl) (more (months) (months_balanced first (length points))
    (closed (codes "svg") (saying (plainly (codes "\n") refl) done)))))))))))))))))))))))))))))))))))))))))))))))))))))
