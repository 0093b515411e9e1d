-- The table of activity: its lines, and what is kept of it (docs/FORMATS.md, Activity).
use Rattle.std.specs.Prelude.{◌≡◌, ℕ, ℤ, ◌-ℤ◌, Bool, ◌||◌, not, List, [], ◌∷◌, ◌++◌, map, filter, codes, None, String}
use Rattle.std.specs.BTreeMap.{BTreeMap}
use Rattle.std.specs.Ordering.{is_eq}
use Rattle.std.specs.String.{string_bytes}
use Rattle.std.specs.declared.cmp.Ordering.{Ordering}
use Rattle.lot_num.specs.AmountText.{amount_text}
use Rattle.lot_num.specs.Sum.{sum_of}
use Rattle.lot_book.specs.Change.{pair_cmp}
use Rattle.lot_book.specs.declared.change.Pair.{Pair}
use Rattle.lot_book.specs.declared.leg.Position.{Position}
use Rattle.lot_csv.specs.Record.{record_text}
use Rattle.lot_period.specs.declared.period.PeriodLength.{PeriodLength}
use Rattle.lot_report.specs.Printed.{line}
use Rattle.lot_report.specs.Report.{EachFits}
use Rattle.lot_legs.specs.declared.leg.DatedLeg.{DatedLeg}
use Rattle.lot_tally.specs.declared.key.TableForm.{TableForm}
use Rattle.lot_tally.specs.declared.key.TableForm.TheVariants.{Text, Csv}
use Rattle.lot_activity.specs.Rows.{AreRows, RowKey, counted_legs, is_counted, leg_fits, row_cmp}
use Rattle.lot_activity.specs.Scope.{Asked, asked_in}
use Rattle.lot_activity.specs.declared.flow.Flow.{Flow}
use Rattle.lot_activity.specs.declared.table.ActivityTable.{ActivityTable}

-- ---- texts

abbrev pub text_row : RowKey → Flow → List ℕ
text_row row flow =
    row.0 ++ codes " " ++ row.1.account ++ codes " " ++ row.1.commodity ++ codes " in " ++ amount_text 2 16 flow.incoming
    ++ codes " out " ++ amount_text 2 16 flow.outgoing ++ 10 ∷ []

abbrev pub csv_row : RowKey → Flow → List ℕ
csv_row row flow =
    record_text
    (row.0 ∷ row.1.account ∷ row.1.commodity ∷ amount_text 2 16 flow.incoming ∷ amount_text 2 16 flow.outgoing ∷ [])

-- the line of a row
abbrev pub row_text : TableForm → RowKey × Flow → List ℕ
row_text Text row = text_row row.0 row.1
row_text Csv row = csv_row row.0 row.1

-- the line with the names of the columns
abbrev pub header : List ℕ
header = codes "period,account,commodity,in,out\n"

-- a text has the rows, or says that there are none
abbrev pub text_lines : List (RowKey × Flow) → List (List ℕ)
text_lines [] = line (codes "no activity") ∷ []
text_lines (row ∷ rows) = map (row_text Text) (row ∷ rows)

abbrev pub table_lines : TableForm → List (RowKey × Flow) → List (List ℕ)
table_lines Text rows = text_lines rows
table_lines Csv rows = header ∷ map (row_text Csv) rows

-- ---- the table of legs

-- what is asked for: how long the periods are, which legs, and in which form
pub record Terms : Type 0 where
  pub length : PeriodLength
  pub asked : Asked
  pub form : TableForm

abbrev pub terms_with : PeriodLength → Asked → TableForm → Terms
terms_with length asked form = record { length = length; asked = asked; form = form }

-- the table of legs, which stands behind the last of them; nothing is written at a leg
abbrev pub IsEnd : Terms → List DatedLeg → List (List ℕ) → Type 0
IsEnd terms legs end =
    (rows : List (RowKey × Flow)) × AreRows terms.length (counted_legs terms.asked legs) rows × (end ≡ table_lines terms.form rows)

-- ---- legs that are fed one by one

-- whether all sums to which a leg adds stay in range, behind the legs before it; one that isn't counted adds to none
abbrev pub fits : Terms → List DatedLeg → DatedLeg → Bool
fits terms before leg = not (is_counted terms.asked leg) || leg_fits terms.length (counted_legs terms.asked before) leg

-- the rows as they are kept
abbrev pub seen : {A : Type 0} → String A × Pair → RowKey
seen key = (string_bytes key.0, key.1)

abbrev pub shown : {A : Type 0} → (String A × Pair) × Flow → RowKey × Flow
shown row = (seen row.0, row.1)

abbrev pub kept_cmp : {A : Type 0} → String A × Pair → String A × Pair → Ordering
kept_cmp a b = row_cmp (seen a) (seen b)

abbrev pub HasRows : {A : Type 0} → PeriodLength → List DatedLeg → BTreeMap (String A × Pair) Flow → Type 0
HasRows length legs rows = AreRows length legs (map shown rows.entries)

abbrev pub terms_in : ActivityTable → Terms
terms_in table = terms_with table.length (asked_in table.scope.now) table.form

-- a table on these terms that has taken these legs and no other, whose sums all stayed in range
abbrev pub IsTable : Terms → List DatedLeg → ActivityTable → Type 0
IsTable terms legs table =
    (terms_in table ≡ terms) × EachFits (fits terms) [] legs × HasRows terms.length (counted_legs terms.asked legs) table.rows

-- ---- laws

abbrev pub rows_of_pair : Pair → List (RowKey × Flow) → List (RowKey × Flow)
rows_of_pair pair rows = filter (λ (row : RowKey × Flow). is_eq (pair_cmp pair row.0.1)) rows

-- what came in over all rows of an account and a commodity, less what went out
abbrev pub net_in_rows : Pair → List (RowKey × Flow) → ℤ
net_in_rows pair rows =
    sum_of (map (λ (row : RowKey × Flow). row.1.incoming) (rows_of_pair pair rows))
    -ℤ sum_of (map (λ (row : RowKey × Flow). row.1.outgoing) (rows_of_pair pair rows))

-- the position of its plain units
abbrev pub plain_at : Pair → Position
plain_at pair = record { account = pair.account; commodity = pair.commodity; lot = None }
