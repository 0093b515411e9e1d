-- Texts that are shown to be balanced tag by tag, from their end: what is behind a place closes the elements that are open there.
use Rattle.std.specs.Prelude.{◌≡◌, ◌⊎◌, ℕ, Bool, cond, false, true, List, [], ◌∷◌, ◌++◌, codes, flat_map}
use Rattle.std.proofs.Common.{refl, sym, ap, subst, ◌∙◌, append-nil, append_assoc, inl, inr}
use Rattle.std.proofs.lemmas.Grind.{flat_map-append}
use Rattle.lot_html.specs.Html.{IsBalanced, StandsAlone, alone_tag, attributes_text, close_tag, element_text, nothing, open_tag}
use Rattle.lot_html.specs.Text.{escaped, escaped_byte}
use Rattle.lot_html.proofs.LawLemmas.{balanced_alone, balanced_behind, balanced_inside, balanced_text}

-- ---- what is said

-- a text is written so that no byte of it is markup
pub record IsSaid (text : List ℕ) : Type 0 where
  pub said : List ℕ
  pub is : text ≡ escaped said

pub plainly : (text : List ℕ) → escaped text ≡ text → IsSaid text
plainly text is = record { said = text; is = sym is }

pub says : (said : List ℕ) → IsSaid (escaped said)
says said = record { said = said; is = refl }

pub says_both : (first second : List ℕ) → IsSaid first → IsSaid second → IsSaid (first ++ second)
says_both first second one two = record {
  said = one.said ++ two.said;
  is = (λ i. one.is i ++ two.is i) ∙ sym (flat_map-append escaped_byte one.said two.said);
}

-- the same, piece by piece
pub spoken : {first second : List ℕ} → IsSaid first → IsSaid second → IsSaid (first ++ second)
spoken {first} {second} one two = says_both first second one two

pub nothing_said : IsSaid []
nothing_said = plainly [] refl

pub said_is_balanced : (text : List ℕ) → IsSaid text → IsBalanced text
said_is_balanced text says = subst IsBalanced (sym says.is) (balanced_text says.said)

pub element_is_balanced : (tag : List ℕ) (attributes : List (List ℕ × List ℕ)) (said : List ℕ) → IsBalanced (element_text tag attributes said)
element_is_balanced tag attributes said = balanced_inside tag attributes (escaped said) (balanced_text said)

pub none_is_balanced : IsBalanced []
none_is_balanced = (nothing, refl)

-- a text that begins in one of two ways
pub either_is_balanced : (b : Bool) (one other rest : List ℕ) → IsBalanced (one ++ rest) → IsBalanced (other ++ rest)
    → IsBalanced (cond b one other ++ rest)
either_is_balanced true one other rest first second = first
either_is_balanced false one other rest first second = second

-- what is written for each of some things
pub each_is_balanced : {X : Type 0} (html : X → List ℕ) (xs : List X) → ((x : X) → IsBalanced (html x)) → IsBalanced (flat_map html xs)
each_is_balanced html [] each = none_is_balanced
each_is_balanced html (x ∷ xs) each = balanced_behind (html x) (flat_map html xs) (each x) (each_is_balanced html xs each)

-- ---- what is open

-- a text closes these elements, the first one first; all else in it is balanced
abbrev pub Closes : List (List ℕ) → List ℕ → Type 0
Closes [] text = IsBalanced text
Closes (tag ∷ tags) text =
    (inner : List ℕ) × (rest : List ℕ) × IsBalanced inner × (text ≡ inner ++ (close_tag tag ++ rest)) × Closes tags rest

pub record Closing (tags : List (List ℕ)) (text : List ℕ) : Type 0 where
  pub closes : Closes tags text

put : (tags : List (List ℕ)) (first rest : List ℕ) → IsBalanced first → Closes tags rest → Closes tags (first ++ rest)
put [] first rest one two = balanced_behind first rest one two
put (tag ∷ tags) first rest one (inner, last, two, is, closes) = (
  first ++ inner,
  last,
  balanced_behind first inner one two,
  ap (λ (t : List ℕ). first ++ t) is ∙ sym (append_assoc first inner (close_tag tag ++ last)),
  closes,
)

-- nothing more
pub done : Closing [] []
done = record { closes = none_is_balanced }

-- something that is balanced
pub more : {tags : List (List ℕ)} {rest : List ℕ} (first : List ℕ) → IsBalanced first → Closing tags rest → Closing tags (first ++ rest)
more {tags} {rest} first one closing = record { closes = put tags first rest one closing.closes }

-- something that is said
pub saying : {tags : List (List ℕ)} {first rest : List ℕ} → IsSaid first → Closing tags rest → Closing tags (first ++ rest)
saying {tags} {first} {rest} says closing = record { closes = put tags first rest (said_is_balanced first says) closing.closes }

-- the end of an element
pub closed : {tags : List (List ℕ)} {rest : List ℕ} (tag : List ℕ) → Closing tags rest → Closing (tag ∷ tags) (close_tag tag ++ rest)
closed {tags} {rest} tag closing = record { closes = ([], rest, none_is_balanced, refl, closing.closes) }

pub is_balanced : (text : List ℕ) → Closing [] text → IsBalanced text
is_balanced text closing = closing.closes

-- ---- tags

-- what is behind the attributes of a tag: the end of the tag, and what closes the element; or the end of one that stands alone
abbrev pub EndsTag : List ℕ → List (List ℕ) → List ℕ → Type 0
EndsTag tag tags text =
    ((rest : List ℕ) × (text ≡ codes ">" ++ rest) × Closes (tag ∷ tags) rest)
    ⊎ (StandsAlone tag × (rest : List ℕ) × (text ≡ codes "/>" ++ rest) × Closes tags rest)

-- what is behind the name of a tag
pub record Tagged (tag : List ℕ) (tags : List (List ℕ)) (text : List ℕ) : Type 0 where
  pub attributes : List (List ℕ × List ℕ)
  pub rest : List ℕ
  pub is : text ≡ attributes_text attributes ++ rest
  pub ends : EndsTag tag tags rest

-- what is behind the first quote of an attribute
pub record Valued (tag : List ℕ) (tags : List (List ℕ)) (text : List ℕ) : Type 0 where
  pub said : List ℕ
  pub rest : List ℕ
  pub is : text ≡ escaped said ++ (codes "\"" ++ rest)
  pub tagged : Tagged tag tags rest

pub inside : {tag : List ℕ} {tags : List (List ℕ)} {rest : List ℕ} → Closing (tag ∷ tags) rest → Tagged tag tags (codes ">" ++ rest)
inside {tag} {tags} {rest} closing =
    record { attributes = []; rest = codes ">" ++ rest; is = refl; ends = inl (rest, refl, closing.closes) }

pub alone : {tag : List ℕ} {tags : List (List ℕ)} {rest : List ℕ} → StandsAlone tag → Closing tags rest → Tagged tag tags (codes "/>" ++ rest)
alone {tag} {tags} {rest} may closing =
    record { attributes = []; rest = codes "/>" ++ rest; is = refl; ends = inr (may, rest, refl, closing.closes) }

pub quoted : {tag : List ℕ} {tags : List (List ℕ)} {rest : List ℕ} → Tagged tag tags rest → Valued tag tags (codes "\"" ++ rest)
quoted {tag} {tags} {rest} tagged = record { said = []; rest = rest; is = refl; tagged = tagged }

pub value : {tag : List ℕ} {tags : List (List ℕ)} {piece text : List ℕ} → IsSaid piece → Valued tag tags text → Valued tag tags (piece ++ text)
value {tag} {tags} {piece} {text} says valued = record {
  said = says.said ++ valued.said;
  rest = valued.rest;
  is = (λ i. says.is i ++ valued.is i)
      ∙ sym (append_assoc (escaped says.said) (escaped valued.said) (codes "\"" ++ valued.rest))
      ∙ ap (λ (t : List ℕ). t ++ (codes "\"" ++ valued.rest)) (sym (flat_map-append escaped_byte says.said valued.said));
  tagged = valued.tagged;
}

pub attribute : {tag : List ℕ} {tags : List (List ℕ)} {text : List ℕ} (name : List ℕ) → Valued tag tags text
    → Tagged tag tags (codes " " ++ (name ++ (codes "=\"" ++ text)))
attribute {tag} {tags} {text} name valued =
    let others = attributes_text valued.tagged.attributes in
    record {
      attributes = (name, valued.said) ∷ valued.tagged.attributes;
      rest = valued.tagged.rest;
      is = ap (λ (t : List ℕ). codes " " ++ (name ++ (codes "=\"" ++ t)))
          (valued.is ∙ ap (λ (t : List ℕ). escaped valued.said ++ (codes "\"" ++ t)) valued.tagged.is)
          ∙ simp append_assoc;
      ends = valued.tagged.ends;
    }

-- the tag with these attributes, what is in the element, and what is behind it
opened : (tag : List ℕ) (attributes : List (List ℕ × List ℕ)) (text inner rest last : List ℕ) → text ≡ attributes_text attributes ++ rest
    → rest ≡ codes ">" ++ (inner ++ (close_tag tag ++ last))
    → (open_tag tag attributes ++ (inner ++ close_tag tag)) ++ last ≡ codes "<" ++ (tag ++ text)
opened tag attributes text inner rest last is ends =
    let front : (open_tag tag attributes ++ (inner ++ close_tag tag)) ++ last
    ≡ codes "<" ++ (tag ++ (attributes_text attributes ++ (codes ">" ++ (inner ++ (close_tag tag ++ last))))) = simp append_assoc in
    front
    ∙ ap (λ (t : List ℕ). codes "<" ++ (tag ++ t)) (sym (is ∙ ap (λ (t : List ℕ). attributes_text attributes ++ t) ends))

standing : (tag : List ℕ) (attributes : List (List ℕ × List ℕ)) (text rest last : List ℕ) → text ≡ attributes_text attributes ++ rest
    → rest ≡ codes "/>" ++ last → alone_tag tag attributes ++ last ≡ codes "<" ++ (tag ++ text)
standing tag attributes text rest last is ends =
    let front : alone_tag tag attributes ++ last ≡ codes "<" ++ (tag ++ (attributes_text attributes ++ (codes "/>" ++ last))) = simp append_assoc in
    front
    ∙ ap (λ (t : List ℕ). codes "<" ++ (tag ++ t)) (sym (is ∙ ap (λ (t : List ℕ). attributes_text attributes ++ t) ends))

begun : (tag : List ℕ) (tags : List (List ℕ)) (attributes : List (List ℕ × List ℕ)) (text rest : List ℕ)
    → text ≡ attributes_text attributes ++ rest → EndsTag tag tags rest → Closes tags (codes "<" ++ (tag ++ text))
begun tag tags attributes text rest is (inl (behind, ends, (inner, last, balanced, closes, others))) =
    subst (Closes tags)
    (opened tag attributes text inner rest last is (ends ∙ ap (λ (t : List ℕ). codes ">" ++ t) closes))
    (put tags (open_tag tag attributes ++ (inner ++ close_tag tag)) last (balanced_inside tag attributes inner balanced) others)
begun tag tags attributes text rest is (inr (may, behind, ends, closes)) =
    subst (Closes tags) (standing tag attributes text rest behind is ends)
    (put tags (alone_tag tag attributes) behind (balanced_alone tag attributes may) closes)

pub begin : {tags : List (List ℕ)} {text : List ℕ} (tag : List ℕ) → Tagged tag tags text → Closing tags (codes "<" ++ (tag ++ text))
begin {tags} {text} tag tagged = record { closes = begun tag tags tagged.attributes text tagged.rest tagged.is tagged.ends }
