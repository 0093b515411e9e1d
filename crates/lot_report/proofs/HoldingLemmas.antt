-- What a row adds to the totals of holdings, and how it is printed.
use Rattle.std.proofs.Common.{◌≡◌, ℕ, List, [], ◌∷◌, ◌++◌, refl, sym, ap, ◌∙◌, subst, append_assoc, append-nil}
use Rattle.std.specs.Prelude.{◌≢◌, Bool, true, false, not, ◌&&◌, IsTrue, IsErrAnd, IfErr, IsErrOf, OnOk, Option, None, Some, Result, Ok, Err, ℤ, pos, ◌+ℤ◌, ◌*ℤ◌, codes}
use Rattle.lot_num.specs.Amount.{IsWide}
use Rattle.lot_num.specs.AmountText.{amount_text}
use Rattle.lot_cost.specs.declared.lot_key.LotKey.{LotKey}
use Rattle.lot_book.specs.Currencies.{sum_in}
use Rattle.lot_report.specs.declared.fault.ReportFault.{ReportFault}
use Rattle.lot_report.specs.declared.fault.ReportFault.TheVariants.{Range, Write, Memory}
use Rattle.lot_report.specs.declared.holdings.HoldingSums.{HoldingSums}
use Rattle.lot_report.specs.declared.holdings.ValuedHolding.{ValuedHolding}
use Rattle.lot_report.specs.declared.line.PrintFault.{PrintFault}
use Rattle.lot_report.specs.declared.lot.Valuation.{Valuation}
use Rattle.lot_report.specs.declared.lot.Valuation.TheVariants.{Unasked, Missing, At}
use Rattle.lot_report.specs.declared.totals.Totals.{Totals}
use Rattle.lot_report.specs.Holdings.{CountsBoth, CountsHolding, HasTaken, IsEnd, cost_of, costs_of, end_lines, fits, total_lines, value_at, value_of, values_of}
use Rattle.lot_report.specs.Printed.{line, lot_row, price_of, row_with, total_of}
use Rattle.lot_report.specs.Report.{AreSums, stay_wide}
use Rattle.lot_report.specs.Written.{WritesEach, WritesLine}
use Rattle.lot_report.proofs.EachLemmas.{text_more}
use Rattle.lot_report.proofs.FedLemmas.{lines_follow, lines_of_items, lines_stop, one_line}
use Rattle.lot_report.proofs.SumLemmas.{snoc_is_some, wide_leaves, wide_stays}

-- ---- More of costs and of values.

both_true : (a b : Bool) → a ≡ true → b ≡ true → (a && b) ≡ true
both_true true b x y = y
both_true false b x y = x

first_false : (a b : Bool) → not a ≡ true → not (a && b) ≡ true
first_false true b x = cc
first_false false b x = refl

second_false : (a b : Bool) → not b ≡ true → not (a && b) ≡ true
second_false true b x = x
second_false false b x = refl

-- a cost alone
pub cost_counts : (costs values : List (List ℕ × ℤ)) (currency : List ℕ) (cost amount : ℤ) (kept_costs kept_values : Totals)
    (result : Result (Unit {0}) ReportFault)
    → cost ≡ amount
    → OnOk result (AreSums (costs ++ (currency, cost) ∷ []) kept_costs.sums.entries)
    → OnOk result (IsWide (sum_in costs currency +ℤ cost))
    → (IsErrOf result Range → IsWide (sum_in costs currency +ℤ cost) → ⊥)
    → (IsErrOf result Memory → IsWide (sum_in costs currency +ℤ cost))
    → IfErr result (λ fault. fault ≢ Write)
    → AreSums values kept_values.sums.entries
    → CountsBoth costs values ((currency, amount) ∷ []) [] kept_costs kept_values result
cost_counts costs values currency cost amount kept_costs kept_values result is added wide range room cause sums =
    subst (λ a. CountsBoth costs values ((currency, a) ∷ []) [] kept_costs kept_values result) is (counts result added wide range room cause)
  where
    counts : (r : Result (Unit {0}) ReportFault)
        → OnOk r (AreSums (costs ++ (currency, cost) ∷ []) kept_costs.sums.entries)
        → OnOk r (IsWide (sum_in costs currency +ℤ cost))
        → (IsErrOf r Range → IsWide (sum_in costs currency +ℤ cost) → ⊥)
        → (IsErrOf r Memory → IsWide (sum_in costs currency +ℤ cost))
        → IfErr r (λ fault. fault ≢ Write)
        → CountsBoth costs values ((currency, cost) ∷ []) [] kept_costs kept_values r
    counts (Ok done) kept fit none room cause = (
      both_true _ true (wide_stays costs currency cost fit) refl,
      kept,
      subst (λ vs. AreSums vs kept_values.sums.entries) (sym (append-nil values)) sums,
    )
    counts (Err Range) kept fit none room cause = first_false _ true (wide_leaves costs currency cost (none refl))
    counts (Err Write) kept fit none room cause = cause refl
    counts (Err Memory) kept fit none room cause = both_true _ true (wide_stays costs currency cost (room refl)) refl

-- a cost with which the total leaves the range
pub cost_leaves : (costs values : List (List ℕ × ℤ)) (currency : List ℕ) (cost value : ℤ) (kept_costs kept_values : Totals)
    → (IsWide (sum_in costs currency +ℤ cost) → ⊥)
    → CountsBoth costs values ((currency, cost) ∷ []) ((currency, value) ∷ []) kept_costs kept_values (Err Range)
cost_leaves costs values currency cost value kept_costs kept_values none = first_false _ _ (wide_leaves costs currency cost none)

-- a value with which the total leaves the range
pub value_leaves : (costs values : List (List ℕ × ℤ)) (currency : List ℕ) (cost value : ℤ) (kept_costs kept_values : Totals)
    → (IsWide (sum_in values currency +ℤ value) → ⊥)
    → CountsBoth costs values ((currency, cost) ∷ []) ((currency, value) ∷ []) kept_costs kept_values (Err Range)
value_leaves costs values currency cost value kept_costs kept_values none = second_false _ _ (wide_leaves values currency value none)

-- both stay in range, and there is no memory for the first
pub cost_has_no_room : (costs values : List (List ℕ × ℤ)) (currency : List ℕ) (cost value : ℤ) (kept_costs kept_values : Totals)
    (fault : ReportFault) (result : Result (Unit {0}) ReportFault)
    → IsWide (sum_in costs currency +ℤ cost) → IsWide (sum_in values currency +ℤ value)
    → fault ≡ Memory → IsErrAnd result (λ e. e ≡ fault)
    → CountsBoth costs values ((currency, cost) ∷ []) ((currency, value) ∷ []) kept_costs kept_values result
cost_has_no_room costs values currency cost value kept_costs kept_values fault (Ok done) wide worth cause fails = absurd fails
cost_has_no_room costs values currency cost value kept_costs kept_values fault (Err e) wide worth cause fails =
    subst (λ f. CountsBoth costs values ((currency, cost) ∷ []) ((currency, value) ∷ []) kept_costs kept_values (Err f)) (sym (fails ∙ cause))
    (both_true _ _ (wide_stays costs currency cost wide) (wide_stays values currency value worth))

-- both stay in range, and the first is kept
pub both_count : (costs values : List (List ℕ × ℤ)) (currency : List ℕ) (cost value : ℤ) (kept_costs kept_values : Totals)
    (result : Result (Unit {0}) ReportFault)
    → IsWide (sum_in costs currency +ℤ cost) → IsWide (sum_in values currency +ℤ value)
    → AreSums (costs ++ (currency, cost) ∷ []) kept_costs.sums.entries
    → OnOk result (AreSums (values ++ (currency, value) ∷ []) kept_values.sums.entries)
    → IfErr result (λ fault. fault ≡ Memory)
    → CountsBoth costs values ((currency, cost) ∷ []) ((currency, value) ∷ []) kept_costs kept_values result
both_count costs values currency cost value kept_costs kept_values (Ok done) wide worth kept more cause =
    (both_true _ _ (wide_stays costs currency cost wide) (wide_stays values currency value worth), kept, more)
both_count costs values currency cost value kept_costs kept_values (Err fault) wide worth kept more cause =
    subst (λ f. CountsBoth costs values ((currency, cost) ∷ []) ((currency, value) ∷ []) kept_costs kept_values (Err f)) (sym cause)
    (both_true _ _ (wide_stays costs currency cost wide) (wide_stays values currency value worth))

-- the same of what both are
pub both_are : (costs values : List (List ℕ × ℤ)) (currency : List ℕ) (cost value amount worth : ℤ) (kept_costs kept_values : Totals)
    (result : Result (Unit {0}) ReportFault)
    → cost ≡ amount → value ≡ worth
    → CountsBoth costs values ((currency, cost) ∷ []) ((currency, value) ∷ []) kept_costs kept_values result
    → CountsBoth costs values ((currency, amount) ∷ []) ((currency, worth) ∷ []) kept_costs kept_values result
both_are costs values currency cost value amount worth kept_costs kept_values result is so counts =
    subst (λ v. CountsBoth costs values ((currency, amount) ∷ []) ((currency, v) ∷ []) kept_costs kept_values result) so
    (subst (λ a. CountsBoth costs values ((currency, a) ∷ []) ((currency, value) ∷ []) kept_costs kept_values result) is counts)

-- ---- Rows.

costs_snoc : (rows : List ValuedHolding) (row : ValuedHolding)
    → costs_of (rows ++ row ∷ []) ≡ costs_of rows ++ cost_of row.holding.lot row.holding.units
costs_snoc rows row = text_more (λ (r : ValuedHolding). cost_of r.holding.lot r.holding.units) rows row

values_snoc : (rows : List ValuedHolding) (row : ValuedHolding)
    → values_of (rows ++ row ∷ []) ≡ values_of rows ++ value_of row.holding.lot row.valuation row.holding.units
values_snoc rows row = text_more (λ (r : ValuedHolding). value_of r.holding.lot r.valuation r.holding.units) rows row

fits_is : (rows : List ValuedHolding) (row : ValuedHolding) (cost value : List (List ℕ × ℤ))
    → cost_of row.holding.lot row.holding.units ≡ cost → value_of row.holding.lot row.valuation row.holding.units ≡ value
    → fits rows row ≡ (stay_wide (costs_of rows ++ cost) cost && stay_wide (values_of rows ++ value) value)
fits_is rows row cost value is so =
    ap (λ all. stay_wide all (cost_of row.holding.lot row.holding.units)
    && stay_wide (values_of (rows ++ row ∷ [])) (value_of row.holding.lot row.valuation row.holding.units)) (costs_snoc rows row)
    ∙ ap (λ all. stay_wide (costs_of rows ++ cost_of row.holding.lot row.holding.units) (cost_of row.holding.lot row.holding.units)
    && stay_wide all (value_of row.holding.lot row.valuation row.holding.units)) (values_snoc rows row)
    ∙ ap (λ c. stay_wide (costs_of rows ++ c) c
    && stay_wide (values_of rows ++ value_of row.holding.lot row.valuation row.holding.units) (value_of row.holding.lot row.valuation row.holding.units)) is
    ∙ ap (λ v. stay_wide (costs_of rows ++ cost) cost && stay_wide (values_of rows ++ v) v) so

kept_is : (rows : List ValuedHolding) (row : ValuedHolding) (cost value : List (List ℕ × ℤ)) (progress : HoldingSums)
    → cost_of row.holding.lot row.holding.units ≡ cost → value_of row.holding.lot row.valuation row.holding.units ≡ value
    → progress.is_empty ≡ false
    → AreSums (costs_of rows ++ cost) progress.costs.sums.entries → AreSums (values_of rows ++ value) progress.values.sums.entries
    → HasTaken (rows ++ row ∷ []) progress
kept_is rows row cost value progress is so some costs values = (
  some ∙ snoc_is_some rows row,
  subst (λ all. AreSums all progress.costs.sums.entries) (sym (costs_snoc rows row ∙ ap (λ c. costs_of rows ++ c) is)) costs,
  subst (λ all. AreSums all progress.values.sums.entries) (sym (values_snoc rows row ∙ ap (λ v. values_of rows ++ v) so)) values,
)

-- units in a lot
pub row_counts : (rows : List ValuedHolding) (row : ValuedHolding) (lot : LotKey) (price : Option ℕ) (progress : HoldingSums)
    (result : Result (Unit {0}) ReportFault)
    → row.holding.lot ≡ Some lot → price ≡ price_of row.valuation
    → CountsBoth (costs_of rows) (values_of rows) (cost_of (Some lot) row.holding.units) (value_at price lot row.holding.units)
    progress.costs progress.values result
    → progress.is_empty ≡ false → CountsHolding rows row progress result
row_counts rows row lot price progress result in_lot at_price counts some =
    at result (subst (λ p. CountsBoth (costs_of rows) (values_of rows) (cost_of (Some lot) row.holding.units) (value_at p lot row.holding.units)
    progress.costs progress.values result) at_price counts)
  where
    is : cost_of row.holding.lot row.holding.units ≡ cost_of (Some lot) row.holding.units
    is = ap (λ l. cost_of l row.holding.units) in_lot

    so : value_of row.holding.lot row.valuation row.holding.units ≡ value_at (price_of row.valuation) lot row.holding.units
    so = ap (λ l. value_of l row.valuation row.holding.units) in_lot

    at : (r : Result (Unit {0}) ReportFault)
        → CountsBoth (costs_of rows) (values_of rows) (cost_of (Some lot) row.holding.units) (value_at (price_of row.valuation) lot row.holding.units)
        progress.costs progress.values r
        → CountsHolding rows row progress r
    at (Ok done) (fit, costs, values) =
        (fits_is rows row _ _ is so ∙ fit, kept_is rows row _ _ progress is so some costs values)
    at (Err Range) breaks = ap not (fits_is rows row _ _ is so) ∙ breaks
    at (Err Write) none = absurd none
    at (Err Memory) fit = fits_is rows row _ _ is so ∙ fit

-- plain units add nothing
pub plain_counts : (rows : List ValuedHolding) (row : ValuedHolding) (progress : HoldingSums)
    → row.holding.lot ≡ None → AreSums (costs_of rows) progress.costs.sums.entries → AreSums (values_of rows) progress.values.sums.entries
    → progress.is_empty ≡ false → IsTrue (fits rows row) × HasTaken (rows ++ row ∷ []) progress
plain_counts rows row progress plain costs values some =
    let is = ap (λ l. cost_of l row.holding.units) plain in
    let so = ap (λ l. value_of l row.valuation row.holding.units) plain in (
      fits_is rows row [] [] is so,
      kept_is rows row [] [] progress is so some
          (subst (λ all. AreSums all progress.costs.sums.entries) (sym (append-nil (costs_of rows))) costs)
          (subst (λ all. AreSums all progress.values.sums.entries) (sym (append-nil (values_of rows))) values),
    )

-- ---- The end.

-- the lines behind the rows, from what is kept
pub end_is : (rows : List ValuedHolding) (progress : HoldingSums) → HasTaken rows progress
    → IsEnd rows (end_lines progress.is_empty progress.costs.sums.entries progress.values.sums.entries)
end_is rows progress taken = (
  progress.costs.sums.entries,
  taken.1,
  progress.values.sums.entries,
  taken.2,
  ap (λ b. end_lines b progress.costs.sums.entries progress.values.sums.entries) taken.0,
)

pub nothing_held : (empty : Bool) (costs values : List (List ℕ × ℤ)) (old new : Option (List ℕ)) (result : Result (Unit {0}) PrintFault) → empty ≡ true
    → WritesLine old new result (line (codes "nothing held")) → WritesEach (λ (t : List ℕ). t) (end_lines empty costs values) old new result
nothing_held empty costs values old new result none wrote =
    subst (λ b. WritesEach (λ (t : List ℕ). t) (end_lines b costs values) old new result) (sym none)
    (one_line (line (codes "nothing held")) old new result wrote)

pub totals_written : (empty : Bool) (costs values : List (List ℕ × ℤ)) (old mid new : Option (List ℕ)) (done : Unit {0}) (result : Result (Unit {0}) PrintFault)
    → empty ≡ false
    → WritesEach (λ (cost : List ℕ × ℤ). total_of (codes "cost") cost.0 cost.1) costs old mid (Ok done)
    → WritesEach (λ (value : List ℕ × ℤ). total_of (codes "value") value.0 value.1) values mid new result
    → WritesEach (λ (t : List ℕ). t) (end_lines empty costs values) old new result
totals_written empty costs values old mid new done result some first more =
    subst (λ b. WritesEach (λ (t : List ℕ). t) (end_lines b costs values) old new result) (sym some)
    (lines_follow (total_lines (codes "cost") costs) (total_lines (codes "value") values) old mid new result
    (lines_of_items (λ (cost : List ℕ × ℤ). total_of (codes "cost") cost.0 cost.1) costs old mid (Ok done) first)
    (lines_of_items (λ (value : List ℕ × ℤ). total_of (codes "value") value.0 value.1) values mid new result more))

pub totals_cut : (empty : Bool) (costs values : List (List ℕ × ℤ)) (old new : Option (List ℕ)) (fault : PrintFault)
    → empty ≡ false
    → WritesEach (λ (cost : List ℕ × ℤ). total_of (codes "cost") cost.0 cost.1) costs old new (Err fault)
    → WritesEach (λ (t : List ℕ). t) (end_lines empty costs values) old new (Err fault)
totals_cut empty costs values old new fault some part =
    subst (λ b. WritesEach (λ (t : List ℕ). t) (end_lines b costs values) old new (Err fault)) (sym some)
    (lines_stop (total_lines (codes "cost") costs) (total_lines (codes "value") values) old new fault
    (lines_of_items (λ (cost : List ℕ × ℤ). total_of (codes "cost") cost.0 cost.1) costs old new (Err fault) part))

-- ---- The line of units in a lot, from its pieces.

lot_text_is : (front commodity : List ℕ) (lot : LotKey) (units : ℤ) (text number : List ℕ)
    → text ≡ amount_text 0 8 units → number ≡ amount_text 0 8 (pos lot.number)
    → row_with front text commodity number lot ≡ row_with front (amount_text 0 8 units) commodity (amount_text 0 8 (pos lot.number)) lot
lot_text_is front commodity lot units text number t n =
    ap (λ x. row_with front x commodity number lot) t ∙ ap (λ x. row_with front (amount_text 0 8 units) commodity x lot) n

pub unvalued_printed : (old new : Option (List ℕ)) (result : Result (Unit {0}) PrintFault) (front commodity : List ℕ) (lot : LotKey) (units : ℤ)
    (valuation : Valuation) (text number : List ℕ)
    → text ≡ amount_text 0 8 units → number ≡ amount_text 0 8 (pos lot.number) → valuation ≡ Unasked
    → WritesLine old new result (line (row_with front text commodity number lot))
    → WritesLine old new result (lot_row front commodity lot units valuation)
unvalued_printed old new result front commodity lot units valuation text number t n is wrote =
    subst (λ v. WritesLine old new result (lot_row front commodity lot units v)) (sym is)
    (subst (WritesLine old new result)
    (ap line (lot_text_is front commodity lot units text number t n)
    ∙ ap line (sym (append-nil (row_with front (amount_text 0 8 units) commodity (amount_text 0 8 (pos lot.number)) lot)))) wrote)

pub missing_printed : (old new : Option (List ℕ)) (result : Result (Unit {0}) PrintFault) (front commodity : List ℕ) (lot : LotKey) (units : ℤ)
    (valuation : Valuation) (text number : List ℕ)
    → text ≡ amount_text 0 8 units → number ≡ amount_text 0 8 (pos lot.number) → valuation ≡ Missing
    → WritesLine old new result (line (row_with front text commodity number lot ++ codes " value none"))
    → WritesLine old new result (lot_row front commodity lot units valuation)
missing_printed old new result front commodity lot units valuation text number t n is wrote =
    subst (λ v. WritesLine old new result (lot_row front commodity lot units v)) (sym is)
    (subst (WritesLine old new result) (ap (λ x. line (x ++ codes " value none")) (lot_text_is front commodity lot units text number t n)) wrote)

pub value_printed : (old new : Option (List ℕ)) (result : Result (Unit {0}) PrintFault) (front commodity : List ℕ) (lot : LotKey) (units : ℤ)
    (valuation : Valuation) (price : ℕ) (worth : ℤ) (text number value : List ℕ)
    → text ≡ amount_text 0 8 units → number ≡ amount_text 0 8 (pos lot.number) → valuation ≡ At price
    → worth ≡ units *ℤ pos price → value ≡ amount_text 2 16 worth
    → WritesLine old new result (line (row_with front text commodity number lot ++ (codes " value " ++ (value ++ 32 ∷ lot.currency))))
    → WritesLine old new result (lot_row front commodity lot units valuation)
value_printed old new result front commodity lot units valuation price worth text number value t n is w v wrote =
    subst (λ x. WritesLine old new result (lot_row front commodity lot units x)) (sym is)
    (subst (WritesLine old new result)
    (ap (λ x. line (x ++ (codes " value " ++ (value ++ 32 ∷ lot.currency)))) (lot_text_is front commodity lot units text number t n)
    ∙ ap (λ x. line (row_with front (amount_text 0 8 units) commodity (amount_text 0 8 (pos lot.number)) lot ++ (codes " value " ++ (x ++ 32 ∷ lot.currency))))
    (v ∙ ap (λ z. amount_text 2 16 z) w)
    ∙ ap (λ x. line (row_with front (amount_text 0 8 units) commodity (amount_text 0 8 (pos lot.number)) lot ++ (codes " value " ++ x)))
    (sym (append_assoc (amount_text 2 16 (units *ℤ pos price)) (32 ∷ []) lot.currency))) wrote)
