-- What a posting that isn't unfit passes.
use Rattle.std.specs.Prelude.{◌≡◌, ℕ, suc, Bool, true, false, ◌||◌, List, [], ◌∷◌, Option, None, Some, is_none, position, ℤ}
use Rattle.std.specs.Option.{option_map}
use Rattle.std.proofs.Common.{refl, sym, ap, ◌∙◌, get_or}
use Rattle.std.proofs.lemmas.Bool.{true≢false}
use Rattle.std.proofs.lemmas.List.Quantifiers.{position-Some}
use Rattle.lot_command.specs.declared.transaction.Amount.{Amount}
use Rattle.lot_book.specs.declared.refusal.Refusal.{Refusal}
use Rattle.lot_book.specs.declared.standing.Standing.{Standing}
use Rattle.lot_book.specs.Refusals.{bars_amount, closed_before, opens_after, place_of}
use Rattle.lot_laws.proofs.RecordedDays.{none_passes}
use Rattle.lot_ledger.specs.Fit.{is_unfit}

-- ---- a test that passes no item

none_weaker : {X : Type 0} (f g : X → Bool) (xs : List X) → ((x : X) → f x ≡ false → g x ≡ false)
    → position f xs ≡ None → position g xs ≡ None
none_weaker f g [] weaker none = refl
none_weaker f g (x ∷ xs) weaker none = by (position g (x ∷ xs)) refl
  where
    by : (found : Option ℕ) → position g (x ∷ xs) ≡ found → position g (x ∷ xs) ≡ None
    by None e = e
    by (Some i) e =
        let first = position-Some g (x ∷ xs) i x e in
        absurd (true≢false (sym first.1 ∙ weaker (get_or (x ∷ xs) i x) (none_passes f (x ∷ xs) i x none first.0)))

-- so no refusal comes of it
pub none_refused : {X : Type 0} (refuse : ℕ → Refusal) (f g : X → Bool) (xs : List X) → ((x : X) → f x ≡ false → g x ≡ false)
    → position f xs ≡ None → option_map refuse (place_of g xs) ≡ None
none_refused refuse f g xs weaker none = ap (λ found. option_map refuse (option_map suc found)) (none_weaker f g xs weaker none)

-- ---- the checks of a posting that isn't unfit

first_false : (a b : Bool) → (a || b) ≡ false → a ≡ false
first_false true b e = cc
first_false false b e = refl

second_false : (a b : Bool) → (a || b) ≡ false → b ≡ false
second_false true b e = cc
second_false false b e = e

module _ (day : ℤ) (amount : Option Amount) where
  pub is_known : (standing : Option Standing) → is_unfit day standing amount ≡ false → is_none standing ≡ false
  is_known None e = cc
  is_known (Some s) e = refl

  pub is_open : (standing : Option Standing) → is_unfit day standing amount ≡ false → opens_after day standing ≡ false
  is_open None e = cc
  is_open (Some s) e =
      first_false (opens_after day (Some s)) (closed_before day (Some s) || bars_amount (Some s) amount) e

  rest : (s : Standing) → is_unfit day (Some s) amount ≡ false → (closed_before day (Some s) || bars_amount (Some s) amount) ≡ false
  rest s e = second_false (opens_after day (Some s)) (closed_before day (Some s) || bars_amount (Some s) amount) e

  pub is_not_closed : (standing : Option Standing) → is_unfit day standing amount ≡ false → closed_before day standing ≡ false
  is_not_closed None e = cc
  is_not_closed (Some s) e = first_false (closed_before day (Some s)) (bars_amount (Some s) amount) (rest s e)

  pub is_allowed : (standing : Option Standing) → is_unfit day standing amount ≡ false → bars_amount standing amount ≡ false
  is_allowed None e = cc
  is_allowed (Some s) e = second_false (closed_before day (Some s)) (bars_amount (Some s) amount) (rest s e)
