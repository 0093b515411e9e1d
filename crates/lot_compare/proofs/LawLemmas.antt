-- Amounts that are the same have no difference, and so books that are the same.
use Rattle.std.proofs.Common.{subst, ◌++◌, map, ◌≡◌, List, [], ◌∷◌, refl, sym, ap, ◌∙◌}
use Rattle.std.specs.Prelude.{Bool, cond, Option, None, Some}
use Rattle.std.specs.Map.{lookup}
use Rattle.std.proofs.lemmas.Cmp.{int_eq_equiv}
use Rattle.lot_book.specs.Facts.{Entry}
use Rattle.lot_walk.proofs.LawLemmas.{one_holdings}
use Rattle.lot_walk.proofs.SaleLawLemmas.{one_within}
use Rattle.lot_compare.specs.Amounts.{AreAllDifferences, AreGainDifferences, AreGains, AreHeld, AreHeldDifferences, gain_amounts, held_amount}
use Rattle.lot_compare.specs.Lines.{Difference, of_kind}
use Rattle.lot_compare.specs.declared.lines.Kind.TheVariants.{Gained, Held}
use Rattle.lot_compare.specs.Sums.{Amount, AreDifferences, same_subject, sides_at, sum_at}
use Rattle.lot_compare.specs.declared.subject.Subject.{Subject}
use Rattle.lot_compare.specs.declared.sums.Sides.{Sides}
use Rattle.lot_compare.proofs.SumLemmas.{same_subject-itself}

pub none_differ : (amounts : List Amount) (found : List (Subject × Sides)) → AreDifferences (record { new = amounts; old = amounts }) found → found ≡ []
none_differ amounts [] are = refl
none_differ amounts (first ∷ found) are =
    let sides = sides_at (record { new = amounts; old = amounts }) first.0 in
    let is : ◌≡◌ {A = Option Sides} (Some first.1) None =
    sym (ap (λ (b : Bool). cond b (Some first.1) (lookup (same_subject first.0) found)) (same_subject-itself first.0))
    ∙ are.each first.0
    ∙ ap (λ (b : Bool). cond b None (Some sides)) (int_eq_equiv.refl (sum_at amounts first.0)) in
    cc

one_gains : (entries : List Entry) (a b : List Amount) → AreGains entries a → AreGains entries b → a ≡ b
one_gains entries a b (sales, are, is) (others, those, other) =
    is ∙ ap gain_amounts (one_within entries (None, None) sales others are those) ∙ sym other

one_held : (entries : List Entry) (a b : List Amount) → AreHeld entries a → AreHeld entries b → a ≡ b
one_held entries a b (rows, are, is) (others, those, other) =
    is ∙ ap (map held_amount) (one_holdings entries rows others are those) ∙ sym other

no_gains_differ : (entries : List Entry) (found : List (Subject × Sides)) → AreGainDifferences entries entries found → found ≡ []
no_gains_differ entries found (in_new, is_new, in_old, is_old, are) =
    none_differ in_new found
    (subst (λ (amounts : List Amount). AreDifferences (record { new = in_new; old = amounts }) found) (one_gains entries in_old in_new is_old is_new) are)

no_held_differ : (entries : List Entry) (found : List (Subject × Sides)) → AreHeldDifferences entries entries found → found ≡ []
no_held_differ entries found (in_new, is_new, in_old, is_old, are) =
    none_differ in_new found
    (subst (λ (amounts : List Amount). AreDifferences (record { new = in_new; old = amounts }) found) (one_held entries in_old in_new is_old is_new) are)

pub no_differences : (entries : List Entry) (found : List Difference) → AreAllDifferences entries entries found → found ≡ []
no_differences entries found (gains, gains_are, held, held_are, is) =
    is
    ∙ ap (λ (all : List (Subject × Sides)). of_kind Gained all ++ of_kind Held held) (no_gains_differ entries gains gains_are)
    ∙ ap (of_kind Held) (no_held_differ entries held held_are)
