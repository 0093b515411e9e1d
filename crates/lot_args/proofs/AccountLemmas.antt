-- What stands before a colon at the end of a text.
use Rattle.std.proofs.Common.{◌≡◌, ◌∙◌, ap, subst, sym, arith, ℕ, true, false, List, take, length, codes}
use Rattle.std.specs.Prelude.{◌==◌, ◌-◌, ◌≤◌, None}
use Rattle.std.specs.List.{ends_with}
use Rattle.std.specs.Str.{IsCharBoundary}
use Rattle.std.specs.Str.Pattern.{FindsTextSuffix, StripsSuffix}
use Rattle.std.proofs.lemmas.Str.Pattern.{ends_text}

pub no_colon : (text : List ℕ) → FindsTextSuffix (codes ":") text None → ends_with ◌==◌ text (codes ":") ≡ false
no_colon text never = sym (ends_text false (codes ":") text never)

pub before_colon : (text front : List ℕ) → StripsSuffix (FindsTextSuffix (codes ":")) text front
    → (ends_with ◌==◌ text (codes ":") ≡ true) × (front ≡ take (length text - 1) text)
before_colon text front (n, found, is, count) =
    let fits : n ≤ length text = omega (arith, count) in
    let boundary : IsCharBoundary text (length text - n) = subst (λ (k : ℕ). IsCharBoundary text (length text - k)) (sym found.0) found.2 in (
      sym (ends_text true (codes ":") text (n, found, fits, boundary)),
      is ∙ ap (λ (k : ℕ). take (length text - k) text) found.0,
    )
