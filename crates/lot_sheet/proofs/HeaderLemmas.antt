-- Beginnings of lines, field by field.
use Rattle.std.proofs.Common.{◌≡◌, ℕ, ◌+◌, ◌<◌, ◌≤◌, ◌==◌, ◌&&◌, Bool, true, false, if◌then◌else◌, List, [], ◌∷◌, ◌++◌, length, drop, get_or, Option, Some, None, refl, sym, ap, ◌∙◌, arith}
use Rattle.std.proofs.lemmas.Bool.Decides.{nat_tests}
use Rattle.std.proofs.lemmas.List.{drop_all}
use Rattle.std.specs.List.{flat_map}
use Rattle.lot_sheet.specs.Header.{begins, joined, left_behind}
use Rattle.lot_sheet.proofs.ListLemmas.{drop_step}

-- whether what is left of a text begins more
abbrev pub and_begins : Option (List ℕ) → List ℕ → Bool
and_begins None more = false
and_begins (Some text) more = begins text more

by_first : (b : Bool) (o : Option (List ℕ)) (more : List ℕ) → (b && and_begins o more) ≡ and_begins (if b then o else None) more
by_first true o more = refl
by_first false o more = refl

pub begins_behind : (text field more : List ℕ) → begins text (field ++ more) ≡ and_begins (left_behind text field) more
begins_behind text [] more = refl
begins_behind [] (first ∷ field) more = refl
begins_behind (byte ∷ text) (first ∷ field) more =
    ap (λ (b : Bool). (byte == first) && b) (begins_behind text field more) ∙ by_first (byte == first) (left_behind text field) more

-- the first field, and those behind it
joined_split : (between : ℕ) (fields : List (List ℕ))
    → joined between fields ≡ get_or fields 0 [] ++ flat_map (λ (more : List ℕ). between ∷ more) (drop 1 fields)
joined_split between [] = refl
joined_split between (field ∷ fields) = refl

pub begins_start : (text : List ℕ) (fields : List (List ℕ)) (between : ℕ) (field : List ℕ) (o : Option (List ℕ))
    → field ≡ get_or fields 0 [] → o ≡ left_behind text field
    → begins text (joined between fields) ≡ and_begins o (flat_map (λ (more : List ℕ). between ∷ more) (drop 1 fields))
begins_start text fields between field o e h =
    ap (begins text) (joined_split between fields)
    ∙ begins_behind text (get_or fields 0 []) (flat_map (λ (more : List ℕ). between ∷ more) (drop 1 fields))
    ∙ ap (λ (f : List ℕ). and_begins (left_behind text f) (flat_map (λ (more : List ℕ). between ∷ more) (drop 1 fields))) (sym e)
    ∙ ap (λ (p : Option (List ℕ)). and_begins p (flat_map (λ (more : List ℕ). between ∷ more) (drop 1 fields))) (sym h)

pub begins_more : (text : List ℕ) (fields : List (List ℕ)) (between : ℕ) (field : List ℕ) (o : Option (List ℕ)) (i : ℕ) → i < length fields
    → field ≡ get_or fields i [] → o ≡ left_behind text (between ∷ field)
    → begins text (flat_map (λ (more : List ℕ). between ∷ more) (drop i fields))
    ≡ and_begins o (flat_map (λ (more : List ℕ). between ∷ more) (drop (i + 1) fields))
begins_more text fields between field o i lt e h =
    ap (λ (fs : List (List ℕ)). begins text (flat_map (λ (more : List ℕ). between ∷ more) fs))
    (drop_step fields i [] lt ∙ ap (λ (f : List ℕ). f ∷ drop (i + 1) fields) (sym e))
    ∙ begins_behind text (between ∷ field) (flat_map (λ (more : List ℕ). between ∷ more) (drop (i + 1) fields))
    ∙ ap (λ (p : Option (List ℕ)). and_begins p (flat_map (λ (more : List ℕ). between ∷ more) (drop (i + 1) fields))) (sym h)

begins_none : (text : List ℕ) → begins text [] ≡ (length text == 0)
begins_none [] = refl
begins_none (byte ∷ text) = grind (arith, nat_tests)

pub begins_end : (text : List ℕ) (fields : List (List ℕ)) (between i : ℕ) → length fields ≤ i
    → begins text (flat_map (λ (more : List ℕ). between ∷ more) (drop i fields)) ≡ (length text == 0)
begins_end text fields between i over =
    ap (λ (fs : List (List ℕ)). begins text (flat_map (λ (more : List ℕ). between ∷ more) fs)) (drop_all i fields over) ∙ begins_none text
