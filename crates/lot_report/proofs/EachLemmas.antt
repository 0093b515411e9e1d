-- The texts of items, one behind another.
use Rattle.std.proofs.Common.{◌≡◌, ℕ, List, [], ◌∷◌, ◌++◌, sym, ap, ◌∙◌, subst, append_assoc, append-nil, drop, get_or, length, suc, arith, ◌<◌, ◌+◌}
use Rattle.std.specs.Prelude.{Option, Err, flat_map}
use Rattle.std.proofs.Math.Seq.{drop-cons}
use Rattle.std.specs.Io.KnownBytes.{Appends}
use Rattle.std.proofs.KnownBytes.{Appends-trans}
use Rattle.std.proofs.lemmas.Grind.{flat_map-append}
use Rattle.lot_report.specs.declared.line.PrintFault.{PrintFault}
use Rattle.lot_report.specs.declared.line.PrintFault.TheVariants.{Write, Memory}
use Rattle.lot_report.specs.Written.{WritesEach, WritesLine}
use Rattle.lot_report.proofs.PrintLemmas.{prefix_step}

-- the texts of some items are written, and these items are left
abbrev pub EachSoFar : {X : Type 0} → (X → List ℕ) → List X → List X → Option (List ℕ) → Option (List ℕ) → Type 0
EachSoFar text items left old new = (before : List _) × (items ≡ before ++ left) × Appends old new (flat_map text before)

-- the item at a place, and those behind it
pub first_left : {X : Type 0} (items : List X) (i : ℕ) (d : X) → i < length items → drop i items ≡ get_or items i d ∷ drop (i + 1) items
first_left items i d below =
    let next : suc i ≡ i + 1 = omega arith in
    drop-cons items i d below ∙ ap (λ n. get_or items i d ∷ drop n items) next

pub item_at : {X : Type 0} (items : List X) (i : ℕ) (item : X) → i < length items → item ≡ get_or items i item
    → drop i items ≡ item ∷ drop (i + 1) items
item_at items i item below is = first_left items i item below ∙ ap (λ x. x ∷ drop (i + 1) items) (sym is)

pub text_more : {X Y : Type 0} (text : X → List Y) (before : List X) (item : X)
    → flat_map text (before ++ item ∷ []) ≡ flat_map text before ++ text item
text_more text before item =
    flat_map-append text before (item ∷ []) ∙ ap (λ t. flat_map text before ++ t) (append-nil (text item))

-- one text more
pub each_written : {X : Type 0} (text : X → List ℕ) (items left rest : List X) (item : X) (old mid new : Option (List ℕ))
    → EachSoFar text items left old mid → left ≡ item ∷ rest → Appends mid new (text item) → EachSoFar text items rest old new
each_written text items left rest item old mid new (before, split, written) is now = (
  before ++ item ∷ [],
  split ∙ ap (λ xs. before ++ xs) is ∙ sym (append_assoc before (item ∷ []) rest),
  subst (Appends old new) (sym (text_more text before item)) (Appends-trans old mid new _ _ written now),
)

-- a text that isn't written whole
pub each_stops : {X : Type 0} (text : X → List ℕ) (items left rest : List X) (item : X) (old mid new : Option (List ℕ)) (fault : PrintFault)
    → EachSoFar text items left old mid → left ≡ item ∷ rest → WritesLine mid new (Err fault) (text item)
    → WritesEach text items old new (Err fault)
each_stops text items left rest item old mid new Write (before, split, written) is part =
    prefix_step old mid new (flat_map text before) (text item) (flat_map text rest) (flat_map text items) written part
    (sym (ap (flat_map text) (split ∙ ap (λ xs. before ++ xs) is) ∙ flat_map-append text before (item ∷ rest)))
each_stops text items left rest item old mid new Memory (before, split, written) is nothing = (
  before,
  item,
  rest,
  split ∙ ap (λ xs. before ++ xs) is,
  subst (Appends old new) (append-nil (flat_map text before)) (Appends-trans old mid new _ _ written nothing),
)

-- no text is left
pub each_ends : {X : Type 0} (text : X → List ℕ) (items left : List X) (old new : Option (List ℕ)) → EachSoFar text items left old new → left ≡ []
    → Appends old new (flat_map text items)
each_ends text items left old new (before, split, written) is =
    subst (λ xs. Appends old new (flat_map text xs)) (sym (split ∙ ap (λ xs. before ++ xs) is ∙ append-nil before)) written

-- a text that isn't written whole, where only the writer can fail
pub each_fails : {X : Type 0} (text : X → List ℕ) (items left rest : List X) (item : X) (old mid new : Option (List ℕ)) (fault : PrintFault)
    → EachSoFar text items left old mid → left ≡ item ∷ rest → WritesLine mid new (Err fault) (text item) → fault ≡ Write
    → WritesLine old new (Err fault) (flat_map text items)
each_fails text items left rest item old mid new Write so_far is part cause = each_stops text items left rest item old mid new Write so_far is part
each_fails text items left rest item old mid new Memory so_far is nothing cause = cc
