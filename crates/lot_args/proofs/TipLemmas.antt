-- The arguments, as strings and as texts.
use Rattle.std.proofs.Common.{◌≡◌, ◌∙◌, ap, sym, refl, ℕ, zero, suc, Bool, List, [], ◌∷◌, Option, None, Some, drop, map, find, option_map}
use Rattle.std.specs.Borrow.{Bor}
use Rattle.clap.proofs.WalkLemmas.{find-map}

module _ {A B : Type 0} (f : A → B) where
  -- behind a place
  drop_map : (n : ℕ) (xs : List A) → map f (drop n xs) ≡ drop n (map f xs)
  drop_map zero xs = refl
  drop_map (suc n) [] = refl
  drop_map (suc n) (x ∷ xs) = drop_map n xs

  lent : (o : Option (Bor A)) → option_map (λ x. f x.now) o ≡ option_map f (option_map (λ x. x.now) o)
  lent None = refl
  lent (Some x) = refl

  -- the first that passes a test, behind a place
  pub found_behind : (p : B → Bool) (n : ℕ) (xs : List A) (o : Option (Bor A))
      → option_map (λ x. x.now) o ≡ find (λ x. p (f x)) (drop n xs) → option_map (λ x. f x.now) o ≡ find p (drop n (map f xs))
  found_behind p n xs o e = lent o ∙ ap (option_map f) e ∙ find-map p f (drop n xs) ∙ ap (find p) (drop_map n xs)
