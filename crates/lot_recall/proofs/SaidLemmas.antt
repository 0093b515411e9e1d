-- The narration of a text that is kept.
use Rattle.std.specs.Prelude.{◌≡◌, ℕ, IfOk, List, Option, Result, Ok, Err}
use Rattle.std.proofs.Common.{subst, sym}
use Rattle.lot_base.proofs.TextLemmas.{one_text}
use Rattle.lot_base.specs.Text.{same_text}
use Rattle.std.specs.Prelude.{true}
use Rattle.lot_noted.specs.Book.{Narrates}

pub copied : {E : Type 0} (result : Result (Option (List ℕ)) E) (text : List ℕ) (narration : Option (List ℕ)) → IfOk result (λ copy. copy ≡ narration)
    → Narrates text narration → IfOk result (Narrates text)
copied (Ok copy) text narration is narrates = subst (Narrates text) (sym is) narrates
copied (Err fault) text narration is narrates = tt

-- of the same text
pub of_same : (said text : List ℕ) (narration : Option (List ℕ)) → same_text said text ≡ true → Narrates said narration → Narrates text narration
of_same said text narration same narrates = subst (λ (t : List ℕ). Narrates t narration) (one_text said text same) narrates
