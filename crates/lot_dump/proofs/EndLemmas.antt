-- An end is read as what it says, and what is read is said by it.
use Rattle.std.proofs.Common.{◌≡◌, ℕ, List, ◌++◌, Option, Some, None, refl, ap, ◌∙◌, sym, subst}
use Rattle.std.specs.Prelude.{codes, decimal, unwrap_or, IfSome}
use Rattle.lot_dump.specs.Cutting.{behind, digest_of, end_of, number_before}
use Rattle.lot_dump.specs.Form.{IsEnd, end_front, end_text}
use Rattle.lot_dump.specs.declared.end.End.{End}
use Rattle.lot_dump.proofs.CutLemmas.{before_found, before_stood, behind_found, behind_stood, digest_found, digest_stood, last_found, last_stood, then_found, then_stood}

end_found : (end : End) → IsEnd end → end_of (end_text end) ≡ Some end
unfolding end_of
end_found end (entries, whole, bytes) =
    then_found _ _ _ _ (behind_found end_front _)
    (then_found _ _ _ _ (before_found (codes "sha256 ") end.entries _ entries) (last_found _ _ _ (digest_found end.digest whole bytes)))

end_stood : (line : List ℕ) (end : End) → end_of line ≡ Some end → IsEnd end × (line ≡ end_text end)
unfolding end_of
end_stood line end is =
    let (first, at, more) = then_stood _ (behind end_front line) end is in
    let (entries, at1, more1) = then_stood _ (number_before (codes "sha256 ") first) end more in
    let (digest, at2, same) = last_stood _ (digest_of entries.1) end more1 in
    let one = before_stood (codes "sha256 ") first entries at1 in
    let two = digest_stood entries.1 digest at2 in
    subst (λ (e : End). IsEnd e × (line ≡ end_text e)) same (
      (one.1, two.1, two.2),
      behind_stood end_front line first at
          ∙ ap (λ t. end_front ++ t) (one.0 ∙ ap (λ t. decimal entries.0 ++ (codes " sha256 " ++ t)) two.0),
    )

says : (line : List ℕ) (cut : Option End) → end_of line ≡ cut → IfSome cut (λ end. IsEnd end × (line ≡ end_text end))
says line None is = tt
says line (Some end) is = end_stood line end is

module _ (line : List ℕ) (result : Option End) (is : result ≡ end_of line) where
  pub end_says : IfSome result (λ end. IsEnd end × (line ≡ end_text end))
  end_says = says line result (sym is)

  pub end_read : (end : End) → IsEnd end → line ≡ end_text end → result ≡ Some end
  end_read end parts whole = is ∙ ap end_of whole ∙ end_found end parts

pub end_one : (a b : End) → IsEnd a → IsEnd b → end_text a ≡ end_text b → a ≡ b
end_one a b one two whole = ap (λ (o : Option End). unwrap_or o a) (sym (end_found a one) ∙ ap end_of whole ∙ end_found b two)
