-- The lines of a table, from their pieces.
use Rattle.std.specs.Prelude.{◌≡◌, ℕ, true, false, if◌then◌else◌, List, [], ◌∷◌, map, Option, Result, Ok, Err, codes}
use Rattle.std.proofs.Common.{subst, sym, ap}
use Rattle.lot_report.specs.Printed.{line}
use Rattle.lot_report.specs.Written.{WritesEach, WritesLine}
use Rattle.lot_report.specs.declared.line.PrintFault.{PrintFault}
use Rattle.lot_report.proofs.FedLemmas.{lines_follow, lines_of_items, lines_stop, one_line}
use Rattle.lot_tally.specs.declared.key.TableForm.TheVariants.{Text, Csv}
use Rattle.lot_reconcile.specs.Table.{agree, header, row_text, text_lines}
use Rattle.lot_reconcile.specs.declared.balance.Balance.{Balance}

module _ (rows : List (List ℕ × Balance)) where
  -- nothing differs
  pub none_differs : (old new : Option (List ℕ)) (result : Result (Unit {0}) PrintFault) → agree rows ≡ true
      → WritesLine old new result (line (codes "nothing differs")) → WritesEach (λ (t : List ℕ). t) (text_lines rows) old new result
  none_differs old new result all wrote =
      subst (λ ls. WritesEach (λ (t : List ℕ). t) ls old new result)
      (ap (λ b. if b then line (codes "nothing differs") ∷ [] else map (row_text Text) rows) (sym all))
      (one_line (line (codes "nothing differs")) old new result wrote)

  -- some rows differ
  pub some_differ : (old new : Option (List ℕ)) (result : Result (Unit {0}) PrintFault) → agree rows ≡ false
      → WritesEach (row_text Text) rows old new result → WritesEach (λ (t : List ℕ). t) (text_lines rows) old new result
  some_differ old new result some wrote =
      subst (λ ls. WritesEach (λ (t : List ℕ). t) ls old new result)
      (ap (λ b. if b then line (codes "nothing differs") ∷ [] else map (row_text Text) rows) (sym some))
      (lines_of_items (row_text Text) rows old new result wrote)

  -- the names of the columns, and the rows below them
  pub header_and_rows : (old mid new : Option (List ℕ)) (result : Result (Unit {0}) PrintFault)
      → WritesLine old mid (Ok tt) header → WritesEach (row_text Csv) rows mid new result
      → WritesEach (λ (t : List ℕ). t) (header ∷ map (row_text Csv) rows) old new result
  header_and_rows old mid new result wrote below =
      lines_follow (header ∷ []) (map (row_text Csv) rows) old mid new result
      (one_line header old mid (Ok tt) wrote) (lines_of_items (row_text Csv) rows mid new result below)

  pub header_stops : (old new : Option (List ℕ)) (fault : PrintFault) → WritesLine old new (Err fault) header
      → WritesEach (λ (t : List ℕ). t) (header ∷ map (row_text Csv) rows) old new (Err fault)
  header_stops old new fault wrote =
      lines_stop (header ∷ []) (map (row_text Csv) rows) old new fault (one_line header old new (Err fault) wrote)
