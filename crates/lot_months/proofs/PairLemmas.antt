-- Pairs and places, told apart.
use Rattle.std.specs.Prelude.{◌≡◌, ◌&&◌, ◌==◌, ℕ, Bool, true, false, List}
use Rattle.std.specs.Cmp.{IsTotalOrder}
use Rattle.std.specs.Ordering.{is_eq, nat_cmp}
use Rattle.std.proofs.Common.{arith, refl, sym, ap, ◌∙◌}
use Rattle.std.proofs.lemmas.Bool.{true≢false}
use Rattle.std.proofs.lemmas.Bool.Decides.{nat_tests}
use Rattle.std.proofs.lemmas.Cmp.{nat_list_cmp_total, on_total, then_total}
use Rattle.lot_base.proofs.TextLemmas.{one_text, same_text-ordered, same_text-turned}
use Rattle.lot_base.specs.Text.{same_text, text_cmp}
use Rattle.lot_cost.proofs.OrderLemmas.{eq_then}
use Rattle.lot_months.specs.Lots.{Pair, pair_cmp}

pub pairs_total : IsTotalOrder pair_cmp
pairs_total = then_total (on_total (λ (p : Pair). p.0) nat_list_cmp_total) (on_total (λ (p : Pair). p.1) nat_list_cmp_total)

-- the test of two pairs is that of their parts
pub pair_tells : (a b : Pair) → is_eq (pair_cmp a b) ≡ (same_text b.0 a.0 && same_text b.1 a.1)
pair_tells a b =
    eq_then (text_cmp a.0 b.0) (text_cmp a.1 b.1)
    ∙ (λ i. same_text-ordered a.0 b.0 i && same_text-ordered a.1 b.1 i)

pub both : (a b : Bool) → (a && b) ≡ true → (a ≡ true) × (b ≡ true)
both true b is = (refl, is)
both false b is = absurd (true≢false (sym is))

pub and_false : (a : Bool) → (a && false) ≡ false
and_false true = refl
and_false false = refl

pub one_pair : (a b : Pair) → is_eq (pair_cmp a b) ≡ true → a ≡ b
one_pair a b is =
    let parts = both (same_text b.0 a.0) (same_text b.1 a.1) (sym (pair_tells a b) ∙ is) in
    λ i. (sym (one_text b.0 a.0 parts.0) i, sym (one_text b.1 a.1 parts.1) i)

pub place_tells : (a b : ℕ) → is_eq (nat_cmp a b) ≡ (a == b)
place_tells a b = grind (arith, nat_tests)

pub one_place : (a b : ℕ) → (a == b) ≡ true → a ≡ b
one_place a b is = grind (arith, nat_tests)

pub text_tells : (a b : List ℕ) → is_eq (text_cmp a b) ≡ same_text a b
text_tells a b = same_text-ordered a b ∙ same_text-turned a b (same_text a b) refl
