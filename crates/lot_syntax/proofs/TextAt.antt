-- A text by what stands before its last quote and behind it.
use Rattle.std.proofs.Common.{◌≡◌, ℕ, suc, ◌+◌, List, take, drop, Option, Some, ap, ◌∙◌, sym, arith}
use Rattle.std.proofs.lemmas.List.{drop-drop}
use Rattle.lot_syntax.specs.Token.{Lexeme, text}
use Rattle.lot_syntax.specs.Cutting.{within_len, text_by}

abbrev both : List ℕ → List ℕ → Option (Lexeme × List ℕ)
both within rest = Some (text within, rest)

pub text_is : (bytes within rest : List ℕ) (n : ℕ) → within_len bytes ≡ Some n → within ≡ take n bytes → rest ≡ drop 1 (drop n bytes)
    → text_by bytes (within_len bytes) ≡ both within rest
text_is bytes within rest n e front behind =
    let next : n + 1 ≡ suc n = omega arith in
    ap (text_by bytes) e ∙ ap (λ x. both x (drop (suc n) bytes)) (sym front)
    ∙ ap (both within) (sym (behind ∙ drop-drop 1 n bytes ∙ ap (λ k. drop k bytes) next))
