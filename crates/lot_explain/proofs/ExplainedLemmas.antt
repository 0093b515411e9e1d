-- The parts of a text that are left of a split, and what is written of them.
use Rattle.std.proofs.Common.{◌≡◌, ◌<◌, ◌+◌, ◌∙◌, ℕ, Bor, List, [], ◌∷◌, ◌++◌, Bool, true, eqb, append_assoc, append-nil, get_or, length, take, refl, sym, ap, subst}
use Rattle.std.specs.Prelude.{IfOk, OnOk, Option, Some, None, Result, Ok, Err}
use Rattle.std.specs.Io.KnownBytes.{Appends}
use Rattle.std.specs.Iterator.{AlwaysYields}
use Rattle.std.specs.List.{flat_map, slice_split}
use Rattle.std.specs.Str.Iter.{split_has_more, split_pattern, split_steps, split_text}
use Rattle.std.specs.Str.Pattern.{FindsChar}
use Rattle.std.proofs.KnownBytes.{Appends-trans}
use Rattle.std.proofs.lemmas.Grind.{flat_map-append}
use Rattle.std.proofs.lemmas.Iterator.Splits.{YieldsList-from_str_split}
use Rattle.std.proofs.lemmas.List.{take_more}
use Rattle.std.specs.declared.str.Split.{Split}
use Rattle.lot_explain.specs.Explained.{Explains, column_behind, explanation_of, gap, names_one, wrapped, wrapped_behind}
use Rattle.lot_explain.specs.declared.causes.Cause.{Cause}
use Rattle.lot_explain.specs.declared.codes.Code.{Code}

-- these parts are left of a split at a character
abbrev pub Left : Split ℕ → List (List ℕ) → Type 0
Left split parts = AlwaysYields (split_steps FindsChar (λ a b. b ≡ a)) (λ (part : Bor (List ℕ)). part.now) split parts

-- all parts of a text are left
pub all_left : (s : Split ℕ) (c : ℕ) (text : List ℕ) → c < 128 → split_text s ≡ text → split_has_more s ≡ true → split_pattern s ≡ c
    → Left s (slice_split (λ b. eqb b c) text)
all_left s c text low is more pattern = (YieldsList-from_str_split c text low is more pattern).runs

-- the next part comes
pub next_part : (s : Split ℕ) (parts : List (List ℕ)) (part : Bor (List ℕ)) (t : Split ℕ) → Left s parts
    → split_steps FindsChar (λ a b. b ≡ a) s (Some part) t → (rest : List (List ℕ)) × (parts ≡ part.now ∷ rest) × Left t rest
next_part s [] part t left step = absurd (left part t step)
next_part s (first ∷ rest) part t left step =
    let next = left.1 part t step in
    (rest, ap (λ (x : List ℕ). x ∷ rest) (sym next.0), next.1)

-- no part comes
pub no_part : (s : Split ℕ) (parts : List (List ℕ)) (t : Split ℕ) → Left s parts → split_steps FindsChar (λ a b. b ≡ a) s None t → parts ≡ []
no_part s [] t left step = refl
no_part s (first ∷ rest) t left step = absurd (left.0 t step)

-- what is written of the parts so far, and these parts are left
abbrev pub PartsSoFar : (List ℕ → List ℕ) → List (List ℕ) → Split ℕ → Option (List ℕ) → Option (List ℕ) → Type 0
PartsSoFar text all split old new =
    (rest : List (List ℕ)) × (done : List ℕ) × Left split rest × Appends old new done × (done ++ flat_map text rest ≡ flat_map text all)

module _ (text : List ℕ → List ℕ) (all : List (List ℕ)) (s t : Split ℕ) where
  -- one part more
  pub parts_more : (part : Bor (List ℕ)) (old mid new : Option (List ℕ)) → PartsSoFar text all s old mid
      → split_steps FindsChar (λ a b. b ≡ a) s (Some part) t → Appends mid new (text part.now) → PartsSoFar text all t old new
  parts_more part old mid new (rest, done, left, written, is) step now =
      let next = next_part s rest part t left step in (
        next.0,
        done ++ text part.now,
        next.2,
        Appends-trans old mid new _ _ written now,
        append_assoc done (text part.now) (flat_map text next.0) ∙ ap (λ (parts : List (List ℕ)). done ++ flat_map text parts) (sym next.1) ∙ is,
      )

  -- no part more
  pub parts_end : (old new : Option (List ℕ)) → PartsSoFar text all s old new → split_steps FindsChar (λ a b. b ≡ a) s None t
      → Appends old new (flat_map text all)
  parts_end old new (rest, done, left, written, is) step =
      let none = no_part s rest t left step in
      subst (Appends old new) (sym (append-nil done) ∙ ap (λ (parts : List (List ℕ)). done ++ flat_map text parts) (sym none) ∙ is) written

-- the text of one thing more
pub one_more : {X : Type 0} (text : X → List ℕ) (items : List X) (i : ℕ) (d : X) (old mid new : Option (List ℕ)) → i < length items
    → Appends old mid (flat_map text (take i items)) → Appends mid new (text (get_or items i d)) → Appends old new (flat_map text (take (i + 1) items))
one_more text items i d old mid new below written now =
    subst (Appends old new)
    (sym (ap (flat_map text) (take_more items i d below) ∙ flat_map-append text (take i items) (get_or items i d ∷ [])
    ∙ ap (λ (t : List ℕ). flat_map text (take i items) ++ t) (append-nil (text (get_or items i d)))))
    (Appends-trans old mid new _ _ written now)

-- four texts, one behind another
pub four_written : (a b c d e : Option (List ℕ)) (p q r s all : List ℕ) → Appends a b p → Appends b c q → Appends c d r → p ++ (q ++ (r ++ s)) ≡ all → Appends d e s
    → Appends a e all
four_written a b c d e p q r s all first second third is fourth =
    subst (Appends a e) is (Appends-trans a b e p _ first (Appends-trans b c e q _ second (Appends-trans c d e r s third fourth)))

-- one word more of a text in lines
pub word_more : (done : List ℕ) (column : ℕ) (rest more : List (List ℕ)) (word between : List ℕ) (behind : ℕ) (text : List ℕ) → rest ≡ word ∷ more
    → between ≡ gap column word → behind ≡ column_behind column word → done ++ wrapped_behind column rest ≡ wrapped text
    → ((done ++ between) ++ word) ++ wrapped_behind behind more ≡ wrapped text
word_more done column rest more word between behind text split first second is =
    append_assoc (done ++ between) word (wrapped_behind behind more) ∙ append_assoc done between (word ++ wrapped_behind behind more)
    ∙ ap (λ (t : List ℕ). done ++ t) ((λ i. first i ++ (word ++ wrapped_behind (second i) more)) ∙ ap (wrapped_behind column) (sym split))
    ∙ is

-- the tables and the causes that are explained
pub explains : {E : Type 0} (word : List ℕ) (tables : List (Bor (List Code))) (causes : List Cause) (old new : Option (List ℕ)) (r : Result Bool E)
    → IfOk r (λ told. told ≡ names_one word tables causes) → OnOk r (Appends old new (explanation_of word tables causes))
    → IfOk r (Explains word old new)
explains word tables causes old new (Ok told) flag text = (tables, causes, flag, text)
explains word tables causes old new (Err e) flag text = tt
