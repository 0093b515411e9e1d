-- The report of rows that are given at once, one after another.
use Rattle.std.proofs.Common.{inl, inr, ◌≡◌, ℕ, List, [], ◌∷◌, ◌++◌, refl, sym, ap, ◌∙◌, subst, append_assoc, append-nil}
use Rattle.std.specs.Prelude.{Option, None, Result, Ok, Err}
use Rattle.std.specs.Io.KnownBytes.{Appends}
use Rattle.lot_book.specs.declared.holding.Holding.{Holding}
use Rattle.lot_report.specs.declared.fault.ReportFault.{ReportFault}
use Rattle.lot_report.specs.declared.fault.ReportFault.TheVariants.{Range, Write, Memory}
use Rattle.lot_report.specs.declared.fault.RowFault.TheVariants.{Report}
use Rattle.lot_report.specs.declared.holdings.HoldingSums.{HoldingSums}
use Rattle.lot_report.specs.declared.holdings.ValuedHolding.{ValuedHolding}
use Rattle.lot_report.specs.declared.line.PrintFault.{PrintFault}
use Rattle.lot_report.specs.Fed.{AreLinesBefore, joined}
use Rattle.lot_report.specs.Holdings.{AllFit, HasTaken, IsEnd, TakesHolding, WritesReport, end_lines, fits, holding_row, row_lines, rows_text, unvalued, unvalued_row}
use Rattle.lot_report.specs.Report.{report_fault}
use Rattle.lot_report.specs.Written.{WritesEach}
use Rattle.lot_report.proofs.EachLemmas.{text_more}
use Rattle.lot_report.proofs.FedLemmas.{fit_more, report_cut, report_ends, row_ends, row_grows}
use Rattle.lot_report.proofs.HoldingLemmas.{end_is}

-- some rows were taken and written, and these are left
abbrev pub SoFar : List Holding → List Holding → HoldingSums → Option (List ℕ) → Option (List ℕ) → Type 0
SoFar rows left progress old new =
    (before : List ValuedHolding) × (unvalued rows ≡ before ++ unvalued left) × AllFit [] before × HasTaken before progress
    × Appends old new (rows_text before)

-- one row more
one_more : (before : List ValuedHolding) (row : ValuedHolding) (rest : List ValuedHolding) → before ++ row ∷ rest ≡ (before ++ row ∷ []) ++ rest
one_more before row rest = sym (append_assoc before (row ∷ []) rest)

split_at : (rows left rest : List Holding) (holding : Holding) (before : List ValuedHolding)
    → unvalued rows ≡ before ++ unvalued left → left ≡ holding ∷ rest → unvalued rows ≡ before ++ unvalued_row holding ∷ unvalued rest
split_at rows left rest holding before split is = split ∙ ap (λ xs. before ++ unvalued xs) is

-- a row that was taken
pub row_taken : (rows left rest : List Holding) (holding : Holding) (progress next : HoldingSums) (old mid new : Option (List ℕ)) (done : Unit {0})
    → SoFar rows left progress old mid → left ≡ holding ∷ rest
    → ((before : List ValuedHolding) → HasTaken before progress → TakesHolding before (unvalued_row holding) next mid new (Ok done))
    → SoFar rows rest next old new
row_taken rows left rest holding progress next old mid new done (before, split, fit, taken, written) is takes =
    let row = unvalued_row holding in
    let grown = row_grows row_lines fits HasTaken before row next old mid new done fit written (takes before taken) in (
      before ++ row ∷ [],
      split_at rows left rest holding before split is ∙ one_more before row (unvalued rest),
      grown.1.0,
      grown.1.1,
      grown.2,
    )

-- of one line, no line stands before a line of it
nothing_before : (text : List ℕ) (part : List ℕ) → AreLinesBefore (text ∷ []) part → part ≡ []
nothing_before text part ([], next, after, split, is) = is
nothing_before text part (first ∷ [], next, after, split, is) = cc
nothing_before text part (first ∷ (second ∷ before), next, after, split, is) = cc

text_more_row : (before : List ValuedHolding) (row : ValuedHolding) → rows_text (before ++ row ∷ []) ≡ rows_text before ++ joined (row_lines row)
text_more_row before row = text_more (λ (r : ValuedHolding). joined (row_lines r)) before row

-- a row at which the report ends
pub row_stops : (rows left rest : List Holding) (holding : Holding) (progress next : HoldingSums) (old mid new : Option (List ℕ)) (fault : ReportFault)
    → SoFar rows left progress old mid → left ≡ holding ∷ rest
    → ((before : List ValuedHolding) → HasTaken before progress → TakesHolding before (unvalued_row holding) next mid new (Err fault))
    → WritesReport (unvalued rows) old new (Err fault)
row_stops rows left rest holding progress next old mid new Range (before, split, fit, taken, written) is takes =
    let row = unvalued_row holding in
    let (breaks, written_now) = row_ends row_lines fits HasTaken before row next None old mid new Range (Err (Report Range)) written (takes before taken) refl in
    (rows_text before, (before, row, unvalued rest, fit, breaks, split_at rows left rest holding before split is, refl), written_now)
row_stops rows left rest holding progress next old mid new Write (before, split, fit, taken, written) is takes =
    let row = unvalued_row holding in
    let (fits_too, part, (byte, more, proper), written_now) = row_ends row_lines fits HasTaken before row next None old mid new Write (Err (Report Write)) written (takes before taken) refl in (
      rows_text (before ++ row ∷ []),
      inl (
        before ++ row ∷ [],
        unvalued rest,
        fit_more fits [] before row fit fits_too,
        split_at rows left rest holding before split is ∙ one_more before row (unvalued rest),
        refl,
      ),
      (
        rows_text before ++ part,
        (
          byte,
          more,
          text_more_row before row ∙ ap (λ t. rows_text before ++ t) proper ∙ sym (append_assoc (rows_text before) part (byte ∷ more)),
        ),
        written_now,
      ),
    )
row_stops rows left rest holding progress next old mid new Memory (before, split, fit, taken, written) is takes =
    let row = unvalued_row holding in
    let (fits_too, part, first, written_now) = row_ends row_lines fits HasTaken before row next None old mid new Memory (Err (Report Memory)) written (takes before taken) refl in (
      rows_text before,
      inl (before, row, unvalued rest, fit, fits_too, split_at rows left rest holding before split is, refl),
      subst (Appends old new)
          (ap (λ t. rows_text before ++ t) (nothing_before (holding_row row) part first) ∙ append-nil (rows_text before)) written_now,
    )

-- ---- The end of the report.

all_taken : (rows left : List Holding) (before : List ValuedHolding) → unvalued rows ≡ before ++ unvalued left → left ≡ [] → before ≡ unvalued rows
all_taken rows left before split is = sym (split ∙ ap (λ xs. before ++ unvalued xs) is ∙ append-nil before)

abbrev Lines : HoldingSums → Option (List ℕ) → Option (List ℕ) → Result (Unit {0}) PrintFault → Type 0
Lines progress old new result =
    WritesEach (λ (text : List ℕ). text) (end_lines progress.is_empty progress.costs.sums.entries progress.values.sums.entries) old new result

-- it is written whole
pub whole_written : (rows left : List Holding) (progress : HoldingSums) (old mid new : Option (List ℕ)) (done : Unit {0})
    → SoFar rows left progress old mid → left ≡ [] → Lines progress mid new (Ok done) → WritesReport (unvalued rows) old new (Ok done)
whole_written rows left progress old mid new done (before, split, fit, taken, written) is lines =
    subst (λ xs. WritesReport xs old new (Ok done)) (all_taken rows left before split is)
    (report_ends row_lines fits IsEnd before _ old mid new done fit (end_is before progress taken) written lines)

-- what stands behind the rows isn't
pub whole_cut : (rows left : List Holding) (progress : HoldingSums) (old mid new : Option (List ℕ)) (fault : PrintFault)
    → SoFar rows left progress old mid → left ≡ [] → Lines progress mid new (Err fault) → WritesReport (unvalued rows) old new (Err (report_fault fault))
whole_cut rows left progress old mid new PrintFault.Write (before, split, fit, taken, written) is lines =
    let (end, so, part, (byte, more, proper), now) = report_cut row_lines fits IsEnd before _ old mid new PrintFault.Write (end_is before progress taken) written lines in
    subst (λ xs. WritesReport xs old new (Err Write)) (all_taken rows left before split is) (
      rows_text before ++ joined end,
      inr (fit, end, so, refl),
      (
        rows_text before ++ part,
        (byte, more, ap (λ t. rows_text before ++ t) proper ∙ sym (append_assoc (rows_text before) part (byte ∷ more))),
        now,
      ),
    )
whole_cut rows left progress old mid new PrintFault.Memory (before, split, fit, taken, written) is lines =
    let (end, so, part, (first, next, after, split_so, text), now) = report_cut row_lines fits IsEnd before _ old mid new PrintFault.Memory (end_is before progress taken) written lines in
    subst (λ xs. WritesReport xs old new (Err Memory)) (all_taken rows left before split is) (
      rows_text before ++ part,
      inr (fit, end, so, first, next ∷ after, split_so, ap (λ t. rows_text before ++ t) text),
      now,
    )
