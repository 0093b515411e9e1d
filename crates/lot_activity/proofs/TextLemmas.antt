-- The lines of a table, from their pieces.
use Rattle.std.specs.Prelude.{◌≡◌, ◌≢◌, ℕ, List, [], ◌∷◌, length, map, Option, Result, Ok, Err, String, codes}
use Rattle.std.proofs.Common.{refl, subst, sym, arith}
use Rattle.std.proofs.lemmas.Simd.{map-map}
use Rattle.lot_book.specs.declared.change.Pair.{Pair}
use Rattle.lot_report.specs.Printed.{line}
use Rattle.lot_report.specs.Written.{WritesEach, WritesLine}
use Rattle.lot_report.specs.declared.line.PrintFault.{PrintFault}
use Rattle.lot_report.proofs.FedLemmas.{lines_follow, lines_of_items, lines_stop, one_line}
use Rattle.lot_tally.specs.declared.key.TableForm.{TableForm}
use Rattle.lot_tally.specs.declared.key.TableForm.TheVariants.{Text, Csv}
use Rattle.lot_activity.specs.Table.{header, row_text, shown, text_lines}
use Rattle.lot_activity.specs.declared.flow.Flow.{Flow}

-- the rows as they are kept
abbrev Kept : Type 0 → Type 0
Kept A = List ((String A × Pair) × Flow)

module _ {A : Type 0} where
  -- rows as lines
  row_lines : (form : TableForm) (rows : Kept A) (old new : Option (List ℕ)) (result : Result (Unit {0}) PrintFault)
      → WritesEach (λ (row : (String A × Pair) × Flow). row_text form (shown row)) rows old new result
      → WritesEach (λ (t : List ℕ). t) (map (row_text form) (map shown rows)) old new result
  row_lines form rows old new result wrote =
      subst (λ ls. WritesEach (λ (t : List ℕ). t) ls old new result) (sym (map-map (row_text form) shown rows))
      (lines_of_items (λ (row : (String A × Pair) × Flow). row_text form (shown row)) rows old new result wrote)

  -- no row
  pub no_rows : (rows : Kept A) (old new : Option (List ℕ)) (result : Result (Unit {0}) PrintFault)
      → length rows ≡ 0 → WritesLine old new result (line (codes "no activity"))
      → WritesEach (λ (t : List ℕ). t) (text_lines (map shown rows)) old new result
  no_rows [] old new result none wrote = one_line (line (codes "no activity")) old new result wrote
  no_rows (row ∷ rows) old new result none wrote = absurd (omega (arith, none))

  -- some rows
  pub some_rows : (rows : Kept A) (old new : Option (List ℕ)) (result : Result (Unit {0}) PrintFault) → length rows ≢ 0
      → WritesEach (λ (row : (String A × Pair) × Flow). row_text Text (shown row)) rows old new result
      → WritesEach (λ (t : List ℕ). t) (text_lines (map shown rows)) old new result
  some_rows [] old new result some wrote = absurd (some refl)
  some_rows (row ∷ rows) old new result some wrote = row_lines Text (row ∷ rows) old new result wrote

  -- the names of the columns, and the rows below them
  pub header_and_rows : (rows : Kept A) (old mid new : Option (List ℕ)) (result : Result (Unit {0}) PrintFault)
      → WritesLine old mid (Ok tt) header
      → WritesEach (λ (row : (String A × Pair) × Flow). row_text Csv (shown row)) rows mid new result
      → WritesEach (λ (t : List ℕ). t) (header ∷ map (row_text Csv) (map shown rows)) old new result
  header_and_rows rows old mid new result wrote below =
      lines_follow (header ∷ []) (map (row_text Csv) (map shown rows)) old mid new result
      (one_line header old mid (Ok tt) wrote) (row_lines Csv rows mid new result below)

  pub header_stops : (rows : Kept A) (old new : Option (List ℕ)) (fault : PrintFault) → WritesLine old new (Err fault) header
      → WritesEach (λ (t : List ℕ). t) (header ∷ map (row_text Csv) (map shown rows)) old new (Err fault)
  header_stops rows old new fault wrote =
      lines_stop (header ∷ []) (map (row_text Csv) (map shown rows)) old new fault (one_line header old new (Err fault) wrote)
