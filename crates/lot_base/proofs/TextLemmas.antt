-- Texts: when two are one, and how the test of it agrees with their order.
use Rattle.std.specs.Prelude.{◌≡◌, ℕ, Bool, true, List}
use Rattle.std.specs.Ordering.{is_eq}
use Rattle.std.specs.Cmp.Lexicographic.{bytes_decides, texts_ties, nat_list_eq_equiv}
use Rattle.std.proofs.Common.{refl, sym, ◌∙◌}
use Rattle.lot_base.specs.Text.{same_text, text_cmp}

pub one_text : (a b : List ℕ) → same_text a b ≡ true → a ≡ b
one_text a b e = (bytes_decides a b).0 e

pub same_text-itself : (text : List ℕ) → same_text text text ≡ true
same_text-itself text = (bytes_decides text text).1 refl

pub same_text-turned : (a b : List ℕ) (same : Bool) → same_text a b ≡ same → same_text b a ≡ same
same_text-turned a b same e = nat_list_eq_equiv.symm b a ∙ e

-- the order of texts and the test of them agree
pub same_text-ordered : (a b : List ℕ) → is_eq (text_cmp a b) ≡ same_text b a
same_text-ordered a b = sym (texts_ties a b) ∙ nat_list_eq_equiv.symm a b
