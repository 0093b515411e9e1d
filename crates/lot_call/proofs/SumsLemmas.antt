-- Sums of crumbs, one crumb after another.
use Rattle.std.proofs.Common.{◌≡◌, ◌∙◌, ℕ, true, false, List, [], ◌∷◌, ◌++◌, Option, refl, sym, ap, subst, append_assoc, append-nil}
use Rattle.std.specs.Prelude.{Bool, ℤ, pos}
use Rattle.std.specs.Ordering.{int_eq}
use Rattle.lot_call.specs.Sums.{AreSummed, LeaveRange, nonzero}
use Rattle.lot_call.specs.declared.sums.Sums.{Sums}

-- what left the range stays so
pub stays_left : (amounts more : List (List ℕ × ℤ)) → LeaveRange amounts → LeaveRange (amounts ++ more)
stays_left amounts more left = record {
  before = left.before;
  amount = left.amount;
  after = left.after ++ more;
  all = ap (λ (all : List (List ℕ × ℤ)). all ++ more) left.all ∙ append_assoc left.before (left.amount ∷ left.after) more;
  leaves = left.leaves;
}

-- a crumb that is zero adds nothing, and any other is added
pub zero_adds : (amounts : List (List ℕ × ℤ)) (crumb : List ℕ × ℤ) (sums : Option Sums) → int_eq crumb.1 (pos 0) ≡ true
    → AreSummed amounts sums → AreSummed (amounts ++ nonzero (crumb ∷ [])) sums
zero_adds amounts crumb sums zero h =
    let none : nonzero (crumb ∷ []) ≡ [] = rw zero refl in
    subst (λ (all : List (List ℕ × ℤ)). AreSummed all sums) (sym (ap (λ more. amounts ++ more) none ∙ append-nil amounts)) h

pub other_adds : (crumb : List ℕ × ℤ) → int_eq crumb.1 (pos 0) ≡ false → nonzero (crumb ∷ []) ≡ crumb ∷ []
other_adds crumb other = rw other refl

-- the first of crumbs, and the others
pub nonzero_first : (crumb : List ℕ × ℤ) (crumbs : List (List ℕ × ℤ)) → nonzero (crumb ∷ crumbs) ≡ nonzero (crumb ∷ []) ++ nonzero crumbs
nonzero_first crumb crumbs = by_test (int_eq crumb.1 (pos 0)) refl
  where
    by_test : (b : Bool) → int_eq crumb.1 (pos 0) ≡ b → nonzero (crumb ∷ crumbs) ≡ nonzero (crumb ∷ []) ++ nonzero crumbs
    by_test true e = rw e refl
    by_test false e = rw e refl

-- one more is added, before those that are left
pub step : (amounts before rest crumbs : List (List ℕ × ℤ)) (crumb : List ℕ × ℤ) (left : List (List ℕ × ℤ)) → left ≡ crumb ∷ rest
    → before ++ nonzero left ≡ amounts ++ nonzero crumbs → (before ++ nonzero (crumb ∷ [])) ++ nonzero rest ≡ amounts ++ nonzero crumbs
step amounts before rest crumbs crumb left is h =
    append_assoc before (nonzero (crumb ∷ [])) (nonzero rest)
    ∙ ap (λ more. before ++ more) (sym (nonzero_first crumb rest) ∙ ap nonzero (sym is))
    ∙ h
