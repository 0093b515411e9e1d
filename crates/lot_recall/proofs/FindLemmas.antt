-- Rows that are found among those that are kept.
use Rattle.std.specs.Prelude.{◌≡◌, Bool, true, false, ◌||◌, cond, List, [], ◌∷◌, filter, find, map, Option, None, Some, is_some, option_copied}
use Rattle.std.specs.List.{AllByRecursion, list_any}
use Rattle.std.proofs.Common.{◌⊎◌, inl, inr, refl, sym, ap, subst, ◌∙◌}
use Rattle.std.proofs.lemmas.Bool.{true≢false}
use Rattle.sqlite.specs.Order.{Row}
use Rattle.sqlite_rules.specs.Lists.{Has}
use Rattle.sqlite_rules.proofs.ListLemmas.{has_filtered}
use Rattle.lot_table.proofs.KeyLemmas.{has_mapped, mapped_has}

pub found_any : {X : Type 0} (p : X → Bool) (xs : List X) → is_some (find p xs) ≡ list_any p xs
found_any p [] = refl
found_any p (x ∷ xs) = by (p x) (found_any p xs)
  where
    by : (b : Bool) → is_some (find p xs) ≡ list_any p xs → is_some (cond b (Some x) (find p xs)) ≡ b || list_any p xs
    by true more = refl
    by false more = more

pub none_any : {X : Type 0} (p : X → Bool) (xs : List X) → find p xs ≡ None → list_any p xs ≡ true → ⊥
none_any p xs none any = true≢false (sym any ∙ sym (found_any p xs) ∙ ap is_some none)

-- none is found where each is another
pub none_apart : {X : Type 0} (p : X → Bool) (xs : List X) → find p xs ≡ None → AllByRecursion (λ x. p x ≡ false) xs
none_apart p [] none = tt
none_apart p (x ∷ xs) none = by (p x) refl none (none_apart p xs)
  where
    by : (b : Bool) → p x ≡ b → cond b (Some x) (find p xs) ≡ None → (find p xs ≡ None → AllByRecursion (λ y. p y ≡ false) xs)
        → AllByRecursion (λ y. p y ≡ false) (x ∷ xs)
    by true here is later = cc
    by false here is later = (here, later is)

-- rows that pass a test are rows
pub all_passed : {X : Type 0} (encode : X → Row) (passes : X → Bool) (rows found : List X) → map encode found ≡ map encode (filter passes rows)
    → AllByRecursion (λ x. Has (map encode rows) (encode x)) found
all_passed {X} encode passes rows found same = all found (λ x has. has)
  where
    among : (x : X) → Has found x → Has (map encode rows) (encode x)
    among x has =
        let there = subst (λ (l : List Row). Has l (encode x)) same (mapped_has encode found x has) in
        let one = has_mapped encode (filter passes rows) (encode x) there in
        subst (Has (map encode rows)) (sym one.2) (mapped_has encode rows one.0 (has_filtered passes rows one.0 one.1).0)

    all : (xs : List X) → ((x : X) → Has xs x → Has found x) → AllByRecursion (λ x. Has (map encode rows) (encode x)) xs
    all [] of = tt
    all (x ∷ xs) of = (among x (of x (inl refl)), all xs (λ y has. of y (inr has)))
