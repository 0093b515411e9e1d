-- Rows that are shown, and those that are left.
use Rattle.std.proofs.Common.{◌≡◌, ◌⊎◌, inl, inr, ℕ, ◌+◌, ◌<◌, length, take, get_or, List, [], ◌∷◌, ◌++◌, append_assoc, refl, sym, ap, ◌∙◌}
use Rattle.std.proofs.lemmas.Grind.{flat_map-append}
use Rattle.std.proofs.lemmas.List.{append-nil, take_more}
use Rattle.lot_command.specs.declared.key.Key.{Key}
use Rattle.lot_rounding.specs.declared.asked.Asked.{Asked}
use Rattle.lot_export.specs.Show.{shown_given, shown_hand, shown_hands, shown_row}
use Rattle.lot_export.specs.declared.named.Named.{Named}

-- what is shown so far, and what is left
pub record AreShown (numbers left : List ℕ) (commands more : List (Key × Asked)) (before text : List ℕ) : Type 0 where
  pub are : before ++ shown_given numbers commands ≡ text ++ shown_given left more

pub shows_next : (numbers left after : List ℕ) (commands more rest : List (Key × Asked)) (before text new : List ℕ) (number : ℕ) (keyed : Key × Asked)
    → AreShown numbers left commands more before text → left ≡ number ∷ after → more ≡ keyed ∷ rest → new ≡ text ++ shown_row (number, keyed)
    → AreShown numbers after commands rest before new
shows_next numbers left after commands more rest before text new number keyed shown is_left is_more is_new = record {
  are =
      shown.are ∙ ap (λ (ns : List ℕ). text ++ shown_given ns more) is_left ∙ ap (λ (ks : List (Key × Asked)). text ++ shown_given (number ∷ after) ks) is_more
      ∙ sym (append_assoc text (shown_row (number, keyed)) (shown_given after rest)) ∙ ap (λ (t : List ℕ). t ++ shown_given after rest) (sym is_new);
}

none_left : (left : List ℕ) (more : List (Key × Asked)) → (left ≡ []) ⊎ (more ≡ []) → shown_given left more ≡ []
none_left [] more none = refl
none_left (number ∷ left) [] none = refl
none_left (number ∷ left) (keyed ∷ more) (inl none) = cc
none_left (number ∷ left) (keyed ∷ more) (inr none) = cc

pub shown_all : (numbers left : List ℕ) (commands more : List (Key × Asked)) (before text : List ℕ) → AreShown numbers left commands more before text
    → (left ≡ []) ⊎ (more ≡ []) → text ≡ before ++ shown_given numbers commands
shown_all numbers left commands more before text shown none =
    sym (shown.are ∙ ap (λ (t : List ℕ). text ++ t) (none_left left more none) ∙ append-nil text)

shown_one : (row : Named) → shown_hands (row ∷ []) ≡ shown_hand row
shown_one row = append-nil (shown_hand row)

-- one more row that is posted by hand is shown
pub hand_next : (rows : List Named) (at : ℕ) (row : Named) (before text new : List ℕ) → text ≡ before ++ shown_hands (take at rows) → at < length rows
    → row ≡ get_or rows at row → new ≡ text ++ shown_hand row → new ≡ before ++ shown_hands (take (at + 1) rows)
hand_next rows at row before text new so_far small is is_new =
    is_new ∙ ap (λ (t : List ℕ). t ++ shown_hand row) so_far ∙ append_assoc before (shown_hands (take at rows)) (shown_hand row)
    ∙ ap (λ (t : List ℕ). before ++ t)
    (ap (λ (t : List ℕ). shown_hands (take at rows) ++ t) (sym (shown_one row)) ∙ sym (flat_map-append shown_hand (take at rows) (row ∷ []))
    ∙ ap shown_hands (ap (λ (r : Named). take at rows ++ r ∷ []) is ∙ sym (take_more rows at row small)))
