-- Of a list of bars or of points: its first, its last, and the plot of one that has some.
use Rattle.std.specs.Prelude.{◌==◌, codes}
use Rattle.std.proofs.Common.{◌≡◌, false, ℕ, suc, ◌-◌, List, [], ◌∷◌, length, Some, ap, refl, arith}
use Rattle.std.specs.List.{slice_get}
use Rattle.lot_plot.specs.Bars.{last_year, money_html, years_of}
use Rattle.lot_plot.specs.Bars
use Rattle.lot_plot.specs.Lines
use Rattle.lot_plot.specs.Lines.{known_text, last_text}
use Rattle.lot_plot.specs.Plot.{all_of}
use Rattle.lot_plot.specs.declared.bars.YearBar.{YearBar}
use Rattle.lot_plot.specs.declared.bars.Years.{Years}
use Rattle.lot_plot.specs.declared.lines.MonthPoint.{MonthPoint}

-- ---- bars

last_is : (bar : YearBar) (bars : List YearBar) (last : YearBar) → Some last ≡ slice_get (bar ∷ bars) (length bars)
    → last.year ≡ last_year bar bars
last_is bar [] last is = cc
last_is bar (next ∷ rest) last is = last_is next rest last is

pub years_are : (bars : List YearBar) (first last : YearBar) (more : ℕ) → Some first ≡ slice_get bars 0
    → Some last ≡ slice_get bars (length bars - 1) → more ≡ last.year - first.year
    → ◌≡◌ {A = Years} (record { first = first.year; more = more }) (years_of bars)
years_are [] first last more begins ends is = cc
years_are (bar ∷ bars) first last more begins ends is =
    let same : length (bar ∷ bars) - 1 ≡ length bars = omega arith in
    let begin : first.year ≡ bar.year = cc in
    let end : last.year ≡ last_year bar bars = last_is bar bars last (rw same at ends) in
    rw (is, end, begin) refl

-- of some bars there is a plot
pub some_bars : (currency : List ℕ) (bars : List YearBar) (text : List ℕ) → (length bars == 0) ≡ false → Bars.IsPlotOf currency bars text
    → Bars.IsBarsPlot currency bars text
some_bars currency [] text some is = cc
some_bars currency (bar ∷ bars) text some is = is

-- ---- points

pub last_text_is : (points : List MonthPoint) (last : MonthPoint) → Some last ≡ slice_get points (length points - 1)
    → all_of (codes ": at the last the worth is " ∷ known_text last.worth ∷ codes ", the cost " ∷ money_html last.cost ∷ [])
    ≡ last_text points
last_text_is [] last is = cc
last_text_is (point ∷ []) last is =
    let same : last ≡ point = cc in
    ap (λ (p : MonthPoint). all_of (codes ": at the last the worth is " ∷ known_text p.worth ∷ codes ", the cost " ∷ money_html p.cost ∷ [])) same
last_text_is (point ∷ next ∷ rest) last is =
    let same : length (point ∷ next ∷ rest) - 1 ≡ suc (length (next ∷ rest) - 1) = omega arith in
    last_text_is (next ∷ rest) last (rw same at is)

-- of some points there is a plot
pub some_points : (currency : List ℕ) (first : ℕ) (points : List MonthPoint) (text : List ℕ) → (length points == 0) ≡ false
    → Lines.IsPlotOf currency first points text → Lines.IsLinesPlot currency first points text
some_points currency first [] text some is = cc
some_points currency first (point ∷ points) text some is = is
