-- Replies to one command more.
use Rattle.std.proofs.Common.{◌≡◌, ◌∙◌, ℕ, List, [], ◌∷◌, ◌++◌, ap, append-nil, append_assoc, arith, length, ◌+◌, suc, sym}
use Rattle.lot_book.specs.declared.verdict.Verdict.{Verdict}
use Rattle.lot_report.specs.Printed.{replies, reply}

pub replies_more : (number : ℕ) (verdicts : List Verdict) (verdict : Verdict)
    → replies number (verdicts ++ verdict ∷ []) ≡ replies number verdicts ++ reply (length verdicts + number) verdict
replies_more number [] verdict = append-nil (reply number verdict) ∙ ap (λ n. reply n verdict) (counted_on number)
  where
    counted_on : (n : ℕ) → n ≡ 0 + n
    counted_on n = omega arith
replies_more number (v ∷ verdicts) verdict =
    ap (λ text. reply number v ++ text) (replies_more (suc number) verdicts verdict)
    ∙ sym (append_assoc (reply number v) (replies (suc number) verdicts) (reply (length verdicts + suc number) verdict))
    ∙ ap (λ n. (reply number v ++ replies (suc number) verdicts) ++ reply n verdict) (omega arith)
