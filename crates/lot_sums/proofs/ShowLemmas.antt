-- What is written of a table whose rows were taken.
use Rattle.std.proofs.Common.{◌≡◌, ◌∙◌, [], ◌∷◌, ◌++◌, List, ℕ, Bool, Option, Result, Ok, Err, map, refl, sym, subst, inl, inr}
use Rattle.std.proofs.lemmas.List.{map-id}
use Rattle.std.specs.List.{AllByRecursion}
use Rattle.std.specs.Prelude.{OnOk}
use Rattle.std.proofs.KnownBytes.{Appends-nil}
use Rattle.lot_book_report.specs.declared.fault.ShowFault.{ShowFault}
use Rattle.lot_book_report.specs.declared.fault.ShowFault.TheVariants.{Row as AtRow, Walk as AtWalk}
use Rattle.lot_report.specs.Report.{EachFits, report_fault}
use Rattle.lot_report.specs.Written.{WritesEach}
use Rattle.lot_report.specs.declared.line.PrintFault.{PrintFault}
use Rattle.lot_report.specs.declared.line.PrintFault.TheVariants.{Memory, Write}
use Rattle.lot_report.specs.declared.fault.ReportFault.TheVariants as report
use Rattle.lot_report.specs.declared.fault.RowFault.TheVariants.{Report, Spent}
use Rattle.lot_store.specs.declared.walk.WalkFault.TheVariants.{Ended, Failed}
use Rattle.std.proofs.lemmas.Bool.{true≢false}
use Rattle.lot_book_report.specs.Csv.{AreGood}
use Rattle.lot_book_report.specs.Fault.{HasCause}
use Rattle.lot_io.specs.Writes.{NoneFailed, WritesMade}
use Rattle.lot_book_report.specs.Gains.{sale_in}
use Rattle.lot_rows.specs.Tables.{Tables}
use Rattle.lot_sums.specs.Gather.{Gathers, ShowsTable}
use Rattle.lot_sums.specs.GainsBy.{ShowsAllSalesBy}
use Rattle.lot_tally.specs.Table.{IsEnd, fits}
use Rattle.lot_tally.specs.declared.key.GainKey.{GainKey}
use Rattle.lot_tally.specs.declared.key.TableForm.{TableForm}
use Rattle.lot_walk.specs.Gains.{AreAllSaleRows, HasLegs, Range}
use Rattle.lot_walk.specs.declared.gains.NumberedSale.{NumberedSale}

module _ {Told Kept : Type 0} (fits : List Told → Told → Bool) (HasTaken : List Told → Kept → Type 0)
    (AreLines : List Told → List (List ℕ) → Type 0) (rows : List Told) (start : Option (List ℕ)) where
  -- rows that aren't all taken
  pub nothing_shown : (kept : Kept) (fault : ShowFault) → Gathers fits HasTaken rows kept (Err fault) → ShowsTable fits AreLines rows start start (Err fault)
  nothing_shown kept (AtWalk (Failed fault)) gathers = Appends-nil start
  nothing_shown kept (AtWalk Ended) gathers = gathers
  nothing_shown kept (AtRow (Report report.Range)) gathers = (gathers, Appends-nil start)
  nothing_shown kept (AtRow (Report report.Memory)) gathers = inl (Appends-nil start)
  nothing_shown kept (AtRow (Report report.Write)) gathers = absurd gathers
  nothing_shown kept (AtRow Spent) gathers = gathers

  -- no call of the writer was made then
  pub not_of_writer : (kept : Kept) (fault : ShowFault) (calls : WritesMade) → Gathers fits HasTaken rows kept (Err fault)
      → NoneFailed calls.before calls.after → HasCause (Err fault) calls
  not_of_writer kept (AtWalk fault) calls gathers none = none
  not_of_writer kept (AtRow (Report report.Range)) calls gathers none = λ writer. absurd (true≢false (sym writer))
  not_of_writer kept (AtRow (Report report.Memory)) calls gathers none = λ writer. absurd (true≢false (sym writer))
  not_of_writer kept (AtRow (Report report.Write)) calls gathers none = absurd gathers
  not_of_writer kept (AtRow Spent) calls gathers none = λ writer. absurd (true≢false (sym writer))

  module _ (now : Option (List ℕ)) (fit : EachFits fits [] rows) where
    -- all lines are written
    pub all_shown : (done : Unit {0}) → (lines : List (List ℕ)) × AreLines rows lines × WritesEach (λ (text : List ℕ). text) lines start now (Ok done)
        → ShowsTable fits AreLines rows start now (Ok tt)
    all_shown done (lines, are, written) = (fit, lines, are, written)

    -- not all of them
    pub some_shown : (fault : PrintFault)
        → (lines : List (List ℕ)) × AreLines rows lines × WritesEach (λ (text : List ℕ). text) lines start now (Err fault)
        → ShowsTable fits AreLines rows start now (Err (AtRow (Report (report_fault fault))))
    some_shown Write (lines, are, part) = (fit, lines, are, part)
    some_shown Memory (lines, are, (before, next, after, is, written)) = inr (fit, lines, are, _, (before, next, after, is, refl), written)

-- the rows of sales of the tables, each of them good
pub all_sales : (by : List GainKey) (form : TableForm) (tables : Tables) (range : Range) (start now : Option (List ℕ)) (result : Result (Unit {0}) ShowFault)
    → OnOk result ((all : List NumberedSale) × AreAllSaleRows range tables all × AreGood (λ (sold : NumberedSale). sold) HasLegs all
    × ShowsTable (fits by form) (IsEnd by form) (map sale_in all) start now result)
    → ShowsAllSalesBy by form tables range start now result
all_sales by form tables range start now (Ok done) (all, are, (values, is, good), shows) =
    (all, are, subst (AllByRecursion HasLegs) (sym (is ∙ map-id values)) good, shows)
all_sales by form tables range start now (Err fault) shows = tt
