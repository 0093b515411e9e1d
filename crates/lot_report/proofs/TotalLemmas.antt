-- The line of a total.
use Rattle.std.proofs.Common.{◌≡◌, ℕ, List, ◌∷◌, ◌++◌, ap, ◌∙◌, subst, append_assoc}
use Rattle.std.specs.Prelude.{Option, Result, ℤ, codes}
use Rattle.lot_num.specs.AmountText.{amount_text}
use Rattle.lot_report.specs.declared.line.PrintFault.{PrintFault}
use Rattle.lot_report.specs.Printed.{line, total_of}
use Rattle.lot_report.specs.Written.{WritesLine}

-- the line of a total, from its pieces
pub total_printed : (old new : Option (List ℕ)) (result : Result (Unit {0}) PrintFault) (amount what currency : List ℕ) (total : ℤ)
    → amount ≡ amount_text 2 16 total
    → WritesLine old new result (line (codes "total " ++ (what ++ (32 ∷ (amount ++ 32 ∷ currency)))))
    → WritesLine old new result (total_of what currency total)
total_printed old new result amount what currency total is wrote =
    let pieces : line (codes "total " ++ (what ++ (32 ∷ (amount ++ 32 ∷ currency)))) ≡ total_of what currency total =
    ap (λ text. line (codes "total " ++ (what ++ (32 ∷ (text ++ 32 ∷ currency))))) is ∙ simp append_assoc in
    subst (WritesLine old new result) pieces wrote
