-- The table of what a statement and a book differ in: its lines, and what is kept of it (docs/FORMATS.md, Reconciling).
use Rattle.std.specs.Prelude.{◌≡◌, ℕ, Bool, not, ◌||◌, if◌then◌else◌, List, [], ◌∷◌, ◌++◌, map, codes}
use Rattle.std.specs.List.{list_all}
use Rattle.lot_num.specs.AmountText.{amount_text}
use Rattle.lot_csv.specs.Record.{record_text}
use Rattle.lot_report.specs.Printed.{line}
use Rattle.lot_report.specs.Report.{EachFits}
use Rattle.lot_legs.specs.declared.leg.DatedLeg.{DatedLeg}
use Rattle.lot_statement.specs.Line.{Line}
use Rattle.lot_tally.specs.declared.key.TableForm.{TableForm}
use Rattle.lot_tally.specs.declared.key.TableForm.TheVariants.{Text, Csv}
use Rattle.lot_activity.specs.Scope.{Asked, asked_in, has}
use Rattle.lot_reconcile.specs.Balance.{AreBalances, counted_legs, differs, held_in, leg_fits, said_in}
use Rattle.lot_reconcile.specs.declared.balance.Balance.{Balance}
use Rattle.lot_reconcile.specs.declared.table.Reconciliation.{Reconciliation}

-- ---- texts

abbrev pub text_row : List ℕ → Balance → List ℕ
text_row commodity b =
    commodity ++ codes " statement " ++ amount_text 2 16 b.said ++ codes " book " ++ amount_text 2 16 b.held
    ++ codes " difference " ++ amount_text 2 16 b.difference ++ 10 ∷ []

abbrev pub csv_row : List ℕ → Balance → List ℕ
csv_row commodity b =
    record_text (commodity ∷ amount_text 2 16 b.said ∷ amount_text 2 16 b.held ∷ amount_text 2 16 b.difference ∷ [])

abbrev pub line_of : TableForm → List ℕ × Balance → List ℕ
line_of Text row = text_row row.0 row.1
line_of Csv row = csv_row row.0 row.1

-- the line of a row, where it differs
abbrev pub row_text : TableForm → List ℕ × Balance → List ℕ
row_text form row = if differs row.1 then line_of form row else []

-- the line with the names of the columns
abbrev pub header : List ℕ
header = codes "commodity,statement,book,difference\n"

-- whether no row differs
abbrev pub agree : List (List ℕ × Balance) → Bool
agree rows = list_all (λ (row : List ℕ × Balance). not (differs row.1)) rows

-- a text has the rows that differ, or says that none does
abbrev pub text_lines : List (List ℕ × Balance) → List (List ℕ)
text_lines rows = if agree rows then line (codes "nothing differs") ∷ [] else map (row_text Text) rows

abbrev pub table_lines : TableForm → List (List ℕ × Balance) → List (List ℕ)
table_lines Text rows = text_lines rows
table_lines Csv rows = header ∷ map (row_text Csv) rows

-- ---- the table of legs

-- what is asked for: the lines of the statement, which legs, and in which form
pub record Terms : Type 0 where
  pub lines : List Line
  pub asked : Asked
  pub form : TableForm

abbrev pub terms_with : List Line → Asked → TableForm → Terms
terms_with lines asked form = record { lines = lines; asked = asked; form = form }

-- the table of legs, which stands behind the last of them; nothing is written at a leg
abbrev pub IsEnd : Terms → List DatedLeg → List (List ℕ) → Type 0
IsEnd terms legs end =
    (rows : List (List ℕ × Balance)) × AreBalances terms.lines (counted_legs terms.asked legs) rows × (end ≡ table_lines terms.form rows)

-- it is said whether each commodity is held as the lines say
abbrev pub Agrees : Terms → List DatedLeg → Bool → Type 0
Agrees terms legs says =
    (rows : List (List ℕ × Balance)) × AreBalances terms.lines (counted_legs terms.asked legs) rows × (says ≡ agree rows)

-- ---- legs that are fed one by one

-- whether the sums to which a leg adds stay in range, behind the legs before it; one that isn't counted adds to none
abbrev pub fits : Terms → List DatedLeg → DatedLeg → Bool
fits terms before leg = not (has terms.asked leg) || leg_fits terms.lines (counted_legs terms.asked before) leg

-- a table on these terms that has taken these legs and no other, whose sums all stayed in range
abbrev pub IsTable : Terms → List DatedLeg → Reconciliation → Type 0
IsTable terms legs table =
    (asked_in table.scope.now ≡ terms.asked) × (table.form ≡ terms.form) × EachFits (fits terms) [] legs
    × AreBalances terms.lines (counted_legs terms.asked legs) table.rows.entries

-- ---- laws

-- each commodity is held as the lines say
abbrev pub IsHeldAsSaid : List Line → List DatedLeg → Type 0
IsHeldAsSaid lines legs = (commodity : List ℕ) → said_in lines commodity ≡ held_in legs commodity
