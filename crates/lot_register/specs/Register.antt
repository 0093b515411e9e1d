-- The register of legs: its lines, and what is kept of it (docs/FORMATS.md, Register).
use Rattle.std.specs.Prelude.{◌≡◌, ℕ, ℤ, Bool, true, false, IsTrue, not, int_lt, if◌then◌else◌, List, [], ◌∷◌, ◌++◌, filter, map, Option, None, Some, Result, Ok, Err, codes}
use Rattle.std.specs.Io.KnownBytes.{Appends}
use Rattle.lot_report.specs.Fed.{joined}
use Rattle.lot_report.specs.Printed.{line}
use Rattle.lot_report.specs.Report.{EachFits}
use Rattle.lot_report.specs.Written.{AppendsPrefix}
use Rattle.lot_report.specs.declared.fault.ReportFault.{ReportFault}
use Rattle.lot_report.specs.declared.fault.ReportFault.TheVariants.{Range, Write, Memory}
use Rattle.lot_tally.specs.declared.key.TableForm.{TableForm}
use Rattle.lot_tally.specs.declared.key.TableForm.TheVariants.{Text, Csv}
use Rattle.lot_register.specs.declared.leg.NotedLeg.{NotedLeg}
use Rattle.lot_register.specs.declared.register.Register.{Register}
use Rattle.lot_register.specs.Left.{HasLefts, RegisterRow, row_behind, rows_of, stays}
use Rattle.lot_register.specs.Text.{header, row_text}

-- ---- which rows are written

-- a range that begins on a day, if it begins, hasn't begun later
abbrev pub is_from : Option ℤ → ℤ → Bool
is_from None day = true
is_from (Some first) day = not (int_lt day first)

-- those from a day on; without one that end is open. What is left counts from the first leg on, all the same.
abbrev pub is_written : Option ℤ → RegisterRow → Bool
is_written first row = is_from first row.leg.day

abbrev pub written_rows : Option ℤ → List NotedLeg → List RegisterRow
written_rows first legs = filter (is_written first) (rows_of legs)

-- ---- the lines

-- what stands before the rows: as CSV the names of the columns
abbrev pub head_lines : TableForm → List (List ℕ)
head_lines Text = []
head_lines Csv = header ∷ []

-- what stands behind them: a text without rows says so
abbrev pub foot_lines : TableForm → List RegisterRow → List (List ℕ)
foot_lines Text [] = line (codes "no legs") ∷ []
foot_lines Text (row ∷ rows) = []
foot_lines Csv rows = []

-- the lines up to the last of these legs
abbrev pub lines_to : TableForm → Option ℤ → List NotedLeg → List (List ℕ)
lines_to form first legs = head_lines form ++ map (row_text form) (written_rows first legs)

-- the whole register
abbrev pub register_lines : TableForm → Option ℤ → List NotedLeg → List (List ℕ)
register_lines form first legs = lines_to form first legs ++ foot_lines form (written_rows first legs)

-- the line of one row, if it is written
abbrev pub lines_of_row : TableForm → Option ℤ → RegisterRow → List (List ℕ)
lines_of_row form first row = if is_written first row then row_text form row ∷ [] else []

-- ---- legs that are fed one by one

-- what is asked for: the form, and the first day that is written
abbrev pub Terms : Type 0
Terms = TableForm × Option ℤ

-- it has a row
abbrev pub has_rows : List RegisterRow → Bool
has_rows [] = false
has_rows (row ∷ rows) = true

-- a register on these terms that has taken these legs and no other, whose sums all stayed in range
abbrev pub HasTaken : Terms → List NotedLeg → Register → Type 0
HasTaken terms legs register =
    (register.form ≡ terms.0) × (register.first ≡ terms.1) × EachFits stays [] legs × HasLefts legs register.lefts
    × (register.has_rows ≡ has_rows (written_rows terms.1 legs))

-- What becomes of a register with one more leg, and what it writes. A leg whose sum stays in range is taken, and its row is
-- written, unless it is before the first day. Where the sum leaves the range, or memory ends, nothing is written; where the
-- writer fails, a prefix of the row is, but not all of it.
abbrev pub TakesLeg : Terms → List NotedLeg → NotedLeg → Register → Option (List ℕ) → Option (List ℕ) → Result (Unit {0}) ReportFault → Type 0
TakesLeg terms legs leg register old new (Ok done) =
    IsTrue (stays legs leg) × HasTaken terms (legs ++ leg ∷ []) register × Appends old new (joined (lines_of_row terms.0 terms.1 (row_behind legs leg)))
TakesLeg terms legs leg register old new (Err Range) = IsTrue (not (stays legs leg)) × Appends old new []
TakesLeg terms legs leg register old new (Err Write) =
    IsTrue (stays legs leg) × AppendsPrefix old new (joined (lines_of_row terms.0 terms.1 (row_behind legs leg)))
TakesLeg terms legs leg register old new (Err Memory) = Appends old new []
