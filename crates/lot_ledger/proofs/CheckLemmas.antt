-- The first posting that fails a check.
use Rattle.std.proofs.Common.{◌≡◌, ℕ, suc, ◌+◌, Bool, List, Option, Some, None, sym, ap, ◌∙◌, add-one}
use Rattle.std.specs.Prelude.{position}
use Rattle.std.specs.Option.{option_map}
use Rattle.lot_book.specs.declared.refusal.Refusal.{Refusal}
use Rattle.lot_book.specs.Refusals.{place_of}

-- where `position` finds an item, the refusal names its place, from 1
pub at_place : {X : Type 0} (refuse : ℕ → Refusal) (fails : X → Bool) (items : List X) (found : Option ℕ) (index : ℕ)
    → found ≡ position fails items → found ≡ Some index
    → option_map refuse (place_of fails items) ≡ Some (refuse (index + 1))
at_place refuse fails items found index is at =
    ap (λ o. option_map refuse (option_map suc o)) (sym is ∙ at) ∙ ap (λ n. Some (refuse n)) (sym (add-one index))

-- where it finds none, there is no refusal
pub at_no_place : {X : Type 0} (refuse : ℕ → Refusal) (fails : X → Bool) (items : List X) (found : Option ℕ)
    → found ≡ position fails items → found ≡ None → option_map refuse (place_of fails items) ≡ None
at_no_place refuse fails items found is at = ap (λ o. option_map refuse (option_map suc o)) (sym is ∙ at)
