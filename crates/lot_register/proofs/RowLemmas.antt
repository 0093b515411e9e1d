-- Rows and lines of legs, with one more leg.
use Rattle.std.specs.Prelude.{◌≡◌, ◌≢◌, ℕ, ℤ, Bool, true, false, IsTrue, not, cond, if◌then◌else◌, List, [], ◌∷◌, ◌++◌, filter, map, Option, Result, Ok, Err, IsErrAnd, IsErrOf, codes}
use Rattle.std.specs.Io.KnownBytes.{Appends}
use Rattle.std.proofs.Common.{refl, sym, ap, subst, ◌∙◌, append_assoc, append-nil}
use Rattle.std.proofs.KnownBytes.{Appends-nil}
use Rattle.std.proofs.lemmas.Bool.{true≢false}
use Rattle.lot_io.specs.Writes.{HasFailed, WriteCalls}
use Rattle.lot_report.specs.Fed.{joined}
use Rattle.lot_report.specs.Printed.{line}
use Rattle.lot_report.specs.Report.{EachFits, report_fault}
use Rattle.lot_report.specs.Written.{AppendsPrefix, WritesEach, WritesLine}
use Rattle.lot_report.specs.declared.fault.ReportFault.{ReportFault}
use Rattle.lot_report.specs.declared.fault.ReportFault.TheVariants.{Memory, Range, Write}
use Rattle.lot_report.specs.declared.line.PrintFault.{PrintFault}
use Rattle.lot_report.specs.declared.line.PrintFault.TheVariants as print
use Rattle.lot_report.proofs.FedLemmas.{fit_more, one_line}
use Rattle.lot_tally.specs.declared.key.TableForm.{TableForm}
use Rattle.lot_tally.specs.declared.key.TableForm.TheVariants.{Csv, Text}
use Rattle.lot_tally.proofs.SumLemmas.{filter_push}
use Rattle.lot_register.specs.Left.{HasLefts, Leaves, RegisterRow, left_behind, row_behind, rows_behind, rows_of, stays}
use Rattle.lot_register.specs.Register.{HasTaken, TakesLeg, Terms, foot_lines, has_rows, head_lines, is_written, lines_of_row, written_rows}
use Rattle.lot_register.specs.Text.{header, row_text}
use Rattle.lot_register.specs.declared.left.Lefts.{Lefts}
use Rattle.lot_register.specs.declared.leg.NotedLeg.{NotedLeg}
use Rattle.lot_register.specs.declared.register.Register.{Register}

-- ---- rows

pub legs_back : (before legs : List NotedLeg) → map (λ (row : RegisterRow). row.leg) (rows_behind before legs) ≡ legs
legs_back before [] = refl
legs_back before (leg ∷ legs) = ap (λ ls. leg ∷ ls) (legs_back (before ++ leg ∷ []) legs)

behind_push : (before legs : List NotedLeg) (leg : NotedLeg)
    → rows_behind before (legs ++ leg ∷ []) ≡ rows_behind before legs ++ row_behind (before ++ legs) leg ∷ []
behind_push before [] leg = ap (λ (ls : List NotedLeg). row_behind ls leg ∷ []) (sym (append-nil before))
behind_push before (first ∷ legs) leg =
    ap (λ rows. row_behind before first ∷ rows)
    (behind_push (before ++ first ∷ []) legs leg
    ∙ ap (λ (ls : List NotedLeg). rows_behind (before ++ first ∷ []) legs ++ row_behind ls leg ∷ []) (append_assoc before (first ∷ []) legs))

pub rows_push : (legs : List NotedLeg) (leg : NotedLeg) → rows_of (legs ++ leg ∷ []) ≡ rows_of legs ++ row_behind legs leg ∷ []
rows_push legs leg = behind_push [] legs leg

pub written_push : (first : Option ℤ) (legs : List NotedLeg) (leg : NotedLeg)
    → written_rows first (legs ++ leg ∷ [])
    ≡ cond (is_written first (row_behind legs leg)) (written_rows first legs ++ row_behind legs leg ∷ []) (written_rows first legs)
written_push first legs leg = ap (filter (is_written first)) (rows_push legs leg) ∙ filter_push (is_written first) (rows_of legs) (row_behind legs leg)

one_more : (rows : List RegisterRow) (row : RegisterRow) → has_rows (rows ++ row ∷ []) ≡ true
one_more [] row = refl
one_more (first ∷ rows) row = refl

-- ---- the register

abbrev pub with_lefts : Register → Lefts → Bool → Register
with_lefts register lefts some = record { alloc = register.alloc; form = register.form; first = register.first; lefts = lefts; has_rows = some }

pub none_taken : (terms : Terms) (register : Register) → register.form ≡ terms.0 → register.first ≡ terms.1 → HasLefts [] register.lefts → register.has_rows ≡ false
    → HasTaken terms [] register
none_taken terms register form first lefts rows = (form, first, tt, lefts, rows)

-- a row is to be written, or not
module _ (terms : Terms) (legs : List NotedLeg) (leg : NotedLeg) (old : Register) (lefts : Lefts) (taken : HasTaken terms legs old)
    (fit : IsTrue (stays legs leg)) (has : HasLefts (legs ++ leg ∷ []) lefts) where
  abbrev new_row : RegisterRow
  new_row = row_behind legs leg

  written_here : is_written old.first new_row ≡ true → is_written terms.1 new_row ≡ true
  written_here e = ap (λ first. is_written first new_row) (sym taken.1) ∙ e

  passed_here : is_written old.first new_row ≡ false → is_written terms.1 new_row ≡ false
  passed_here e = ap (λ first. is_written first new_row) (sym taken.1) ∙ e

  pub taken_written : is_written old.first new_row ≡ true → HasTaken terms (legs ++ leg ∷ []) (with_lefts old lefts true)
  taken_written e = (
    taken.0,
    taken.1,
    fit_more stays [] legs leg taken.2 fit,
    has,
    sym
        (ap has_rows (written_push terms.1 legs leg ∙ ap (λ b. cond b (written_rows terms.1 legs ++ new_row ∷ []) (written_rows terms.1 legs)) (written_here e))
        ∙ one_more (written_rows terms.1 legs) new_row),
  )

  pub taken_passed : is_written old.first new_row ≡ false → HasTaken terms (legs ++ leg ∷ []) (with_lefts old lefts old.has_rows)
  taken_passed e = (
    taken.0,
    taken.1,
    fit_more stays [] legs leg taken.2 fit,
    has,
    taken.4
        ∙ sym (ap has_rows (written_push terms.1 legs leg ∙ ap (λ b. cond b (written_rows terms.1 legs ++ new_row ∷ []) (written_rows terms.1 legs)) (passed_here e))),
  )

  line_here : is_written old.first new_row ≡ true → joined (lines_of_row terms.0 terms.1 new_row) ≡ row_text old.form new_row
  line_here e =
      ap (λ b. joined (if b then row_text terms.0 new_row ∷ [] else [])) (written_here e)
      ∙ append-nil (row_text terms.0 new_row)
      ∙ ap (λ form. row_text form new_row) (sym taken.0)

  pub row_passed : (held : Option (List ℕ)) → is_written old.first new_row ≡ false → TakesLeg terms legs leg (with_lefts old lefts old.has_rows) held held (Ok tt)
  row_passed held e = (
    fit,
    taken_passed e,
    subst (λ (ls : List (List ℕ)). Appends held held (joined ls)) (sym (ap (λ b. if b then row_text terms.0 new_row ∷ [] else []) (passed_here e)))
        (Appends-nil held),
  )

  pub row_written : (before now : Option (List ℕ)) → is_written old.first new_row ≡ true → Appends before now (row_text old.form new_row)
      → TakesLeg terms legs leg (with_lefts old lefts true) before now (Ok tt)
  row_written before now e wrote = (fit, taken_written e, subst (Appends before now) (sym (line_here e)) wrote)

  pub row_fails : (register : Register) (before now : Option (List ℕ)) (fault : PrintFault) → is_written old.first new_row ≡ true
      → WritesLine before now (Err fault) (row_text old.form new_row) → TakesLeg terms legs leg register before now (Err (report_fault fault))
  row_fails register before now print.Write e wrote = (fit, subst (AppendsPrefix before now) (sym (line_here e)) wrote)
  row_fails register before now print.Memory e wrote = wrote

-- no sum, and so no row
pub row_unfit : (terms : Terms) (legs : List NotedLeg) (leg : NotedLeg) (register : Register) (lefts : Lefts) (held : Option (List ℕ)) (fault : ReportFault)
    → Leaves legs leg lefts (Err fault) → TakesLeg terms legs leg register held held (Err fault)
row_unfit terms legs leg register lefts held Range unfit = (unfit, Appends-nil held)
row_unfit terms legs leg register lefts held Write never = absurd never
row_unfit terms legs leg register lefts held Memory says = Appends-nil held

-- ---- what stands before the rows, and behind them

pub head_text : (form : TableForm) (held : Option (List ℕ)) → form ≡ Text → WritesEach (λ (t : List ℕ). t) (head_lines form) held held (Ok tt)
head_text form held is = subst (λ (f : TableForm). WritesEach (λ (t : List ℕ). t) (head_lines f) held held (Ok tt)) (sym is) (Appends-nil held)

pub head_csv : (form : TableForm) (old new : Option (List ℕ)) (result : Result (Unit {0}) PrintFault) → form ≡ Csv → WritesLine old new result header
    → WritesEach (λ (t : List ℕ). t) (head_lines form) old new result
head_csv form old new result is wrote =
    subst (λ (f : TableForm). WritesEach (λ (t : List ℕ). t) (head_lines f) old new result) (sym is) (one_line header old new result wrote)

pub foot_none : (rows : List RegisterRow) (some : Bool) (old new : Option (List ℕ)) (result : Result (Unit {0}) PrintFault) → some ≡ has_rows rows → some ≡ false
    → WritesLine old new result (line (codes "no legs")) → WritesEach (λ (t : List ℕ). t) (foot_lines Text rows) old new result
foot_none [] some old new result are none wrote = one_line (line (codes "no legs")) old new result wrote
foot_none (row ∷ rows) some old new result are none wrote = absurd (true≢false (sym are ∙ none))

pub foot_some : (rows : List RegisterRow) (some : Bool) (held : Option (List ℕ)) → some ≡ has_rows rows → some ≡ true
    → WritesEach (λ (t : List ℕ). t) (foot_lines Text rows) held held (Ok tt)
foot_some [] some held are there = absurd (true≢false (sym there ∙ are))
foot_some (row ∷ rows) some held are there = Appends-nil held

pub foot_csv : (form : TableForm) (rows : List RegisterRow) (held : Option (List ℕ)) → form ≡ Csv
    → WritesEach (λ (t : List ℕ). t) (foot_lines form rows) held held (Ok tt)
foot_csv form rows held is = subst (λ (f : TableForm). WritesEach (λ (t : List ℕ). t) (foot_lines f rows) held held (Ok tt)) (sym is) (Appends-nil held)

-- ---- the writer

pub never_of_writer : {A : Type 0} (result : Result A ReportFault) (fault : ReportFault) (known : Option WriteCalls) → IsErrAnd result (λ e. e ≡ fault) → fault ≢ Write
    → IsErrOf result Write → HasFailed known
never_of_writer (Ok done) fault known from apart write = absurd from
never_of_writer (Err e) fault known from apart write = let is : e ≡ Write = cc in absurd (apart (sym from ∙ is))
