-- How often a day and a text were counted.
use Rattle.std.specs.Prelude.{◌≡◌, ℕ, ◌+◌, Bool, true, false, ◌&&◌, cond, Option, Some}
use Rattle.std.specs.BTreeMap.{BTreeMap, get, get_by, is_at}
use Rattle.std.specs.Cmp.{signed_Decides, tied_then}
use Rattle.std.specs.Cmp.Lexicographic.{texts_ties}
use Rattle.std.specs.Option.{unwrap_or}
use Rattle.std.specs.Ordering.{int_cmp, int_eq, ordering_then}
use Rattle.std.proofs.Common.{ap, refl, sym, ◌∙◌}
use Rattle.std.proofs.lemmas.Bool.{and_parts}
use Rattle.lot_base.specs.Text.{same_text, text_cmp}
use Rattle.lot_base.proofs.TextLemmas.{one_text}
use Rattle.lot_sequence.specs.Count.{counted, mark_cmp, mark_of}
use Rattle.lot_sequence.specs.Key.{Said, is_same}
use Rattle.lot_sequence.specs.declared.key.Mark.{Mark}

-- what is the same is one
pub one_said : (a b : Said) → is_same a b ≡ true → a ≡ b
one_said a b same =
    let parts = and_parts (int_eq a.0 b.0) (same_text a.1 b.1) same in
    let days : a.0 ≡ b.0 = (signed_Decides a.0 b.0).0 parts.0 in
    let texts : a.1 ≡ b.1 = one_text a.1 b.1 parts.1 in
    λ i. (days i, texts i)

-- the count at a mark is that of what it marks
pub counted_at : (counts : BTreeMap Mark ℕ) (mark : Mark) (row : Said) → mark.day ≡ row.0 → mark.text.now ≡ row.1
    → unwrap_or (get mark_cmp counts mark) 0 ≡ counted counts row
counted_at counts mark row day text =
    λ i. unwrap_or (get_by (λ (other : Mark). ordering_then (int_cmp (day i) other.day) (text_cmp (text i) other.text.now)) counts) 0

same_at : (mark : Mark) (row other : Said) → mark.day ≡ row.0 → mark.text.now ≡ row.1 → is_at (mark_cmp mark) (mark_of other) ≡ is_same row other
same_at mark row other day text =
    sym (tied_then (int_cmp mark.day other.0) (text_cmp mark.text.now other.1))
    ∙ ap (λ b. int_eq mark.day other.0 && b) (sym (texts_ties mark.text.now other.1))
    ∙ (λ i. int_eq (day i) other.0 && same_text (text i) other.1)

picked : (b : Bool) (n : ℕ) (was : Option ℕ) → (b ≡ true → n ≡ unwrap_or was 0 + 1)
    → unwrap_or (cond b (Some n) was) 0 ≡ cond b (unwrap_or was 0 + 1) (unwrap_or was 0)
picked true n was more = more refl
picked false n was more = refl

pub counted_more : (old new : BTreeMap Mark ℕ) (mark : Mark) (row : Said) (number : ℕ) → mark.day ≡ row.0 → mark.text.now ≡ row.1
    → number ≡ counted old row + 1 → ((other : Mark) → get mark_cmp new other ≡ cond (is_at (mark_cmp mark) other) (Some number) (get mark_cmp old other))
    → (other : Said) → counted new other ≡ cond (is_same row other) (counted old other + 1) (counted old other)
counted_more old new mark row number day text is updated other =
    ap (λ o. unwrap_or o 0) (updated (mark_of other))
    ∙ ap (λ b. unwrap_or (cond b (Some number) (get mark_cmp old (mark_of other))) 0) (same_at mark row other day text)
    ∙ picked (is_same row other) number (get mark_cmp old (mark_of other)) (λ same. is ∙ ap (λ said. counted old said + 1) (one_said row other same))
