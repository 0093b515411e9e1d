-- What is written of a text says it, and elements and texts behind one another are balanced.
use Rattle.std.specs.Prelude.{◌≡◌, ◌==◌, ◌||◌, ◌&&◌, ◌%◌, ℕ, Bool, false, not, cond, List, [], ◌∷◌, ◌++◌, length, codes}
use Rattle.std.specs.List.{list_any}
use Rattle.std.proofs.Common.{refl, sym, ap, subst, ◌∙◌, append-nil, append_assoc, inl, inr}
use Rattle.std.proofs.lemmas.Bool.{cases_Bool, eqb-true}
use Rattle.lot_html.specs.Html.{Html, IsBalanced, StandsAlone, alone, alone_tag, close_tag, element, html_text, nothing, open_tag, text}
use Rattle.lot_html.specs.Number.{comma_at, comma_before, goes_on, grouped_digits, without_commas}
use Rattle.lot_html.specs.Text.{HasNoMarkup, Says, Stands, ampersand, end, escaped, escaped_byte, greater, is_markup, less, plain, quote, reference, return}

-- ---- text

-- a reference of a byte says that byte
says_reference : (name : List ℕ) (known byte : ℕ) (written said : List ℕ) → Stands name known → byte ≡ known → Says written said
    → Says (name ++ written) (byte ∷ said)
says_reference name known byte written said stands is says =
    subst (λ (b : ℕ). Says (name ++ written) (b ∷ said)) (sym is) (reference name known written said stands says)

says_byte : (byte : ℕ) (written said : List ℕ) → Says written said → Says (escaped_byte byte ++ written) (byte ∷ said)
says_byte byte written said says = elim (cases_Bool (byte == 38)) [
  | inl is ↦ rw (is) (says_reference (codes "&amp;") 38 byte written said ampersand (eqb-true byte 38 is) says)
  | inr no_ampersand ↦ elim (cases_Bool (byte == 60)) [
    | inl is ↦ rw (no_ampersand, is) (says_reference (codes "&lt;") 60 byte written said less (eqb-true byte 60 is) says)
    | inr no_less ↦ elim (cases_Bool (byte == 62)) [
      | inl is ↦ rw (no_ampersand, no_less, is) (says_reference (codes "&gt;") 62 byte written said greater (eqb-true byte 62 is) says)
      | inr no_greater ↦ elim (cases_Bool (byte == 34)) [
        | inl is ↦
            rw (no_ampersand, no_less, no_greater, is) (says_reference (codes "&quot;") 34 byte written said quote (eqb-true byte 34 is) says)
        | inr no_quote ↦ elim (cases_Bool (byte == 13)) [
          | inl is ↦
              rw (no_ampersand, no_less, no_greater, no_quote, is)
              (says_reference (codes "&#13;") 13 byte written said return (eqb-true byte 13 is) says)
          | inr no_return ↦
              rw (no_ampersand, no_less, no_greater, no_quote, no_return)
              (plain byte written said (rw (no_ampersand, no_less, no_greater, no_quote, no_return) refl) says)
        ]
      ]
    ]
  ]
]

pub says_all : (said : List ℕ) → Says (escaped said) said
says_all [] = end
says_all (byte ∷ said) = says_byte byte (escaped said) said (says_all said)

byte_has_none : (byte : ℕ) (written : List ℕ) → HasNoMarkup written → HasNoMarkup (escaped_byte byte ++ written)
byte_has_none byte written none = elim (cases_Bool (byte == 38)) [
  | inl is ↦ rw (is) none
  | inr no_ampersand ↦ elim (cases_Bool (byte == 60)) [
    | inl is ↦ rw (no_ampersand, is) none
    | inr no_less ↦ elim (cases_Bool (byte == 62)) [
      | inl is ↦ rw (no_ampersand, no_less, is) none
      | inr no_greater ↦ elim (cases_Bool (byte == 34)) [
        | inl is ↦ rw (no_ampersand, no_less, no_greater, is) none
        | inr no_quote ↦ elim (cases_Bool (byte == 13)) [
          | inl is ↦ rw (no_ampersand, no_less, no_greater, no_quote, is) none
          | inr no_return ↦
              let own : is_markup byte ≡ false = rw (no_less, no_greater, no_quote, no_return) refl in
              let whole : HasNoMarkup (byte ∷ written) = ap (λ (b : Bool). b || list_any is_markup written) own ∙ none in
              rw (no_ampersand, no_less, no_greater, no_quote, no_return) whole
        ]
      ]
    ]
  ]
]

pub has_no_markup : (said : List ℕ) → HasNoMarkup (escaped said)
has_no_markup [] = refl
has_no_markup (byte ∷ said) = byte_has_none byte (escaped said) (has_no_markup said)

-- ---- elements

pub balanced_text : (said : List ℕ) → IsBalanced (escaped said)
balanced_text said = (text said nothing, sym (append-nil (escaped said)))

-- one behind the other
behind : Html → Html → Html
behind nothing second = second
behind (text said rest) second = text said (behind rest second)
behind (element tag attributes inside rest) second = element tag attributes inside (behind rest second)
behind (alone tag may attributes rest) second = alone tag may attributes (behind rest second)

text_behind : (first second : Html) → html_text first ++ html_text second ≡ html_text (behind first second)
unfolding behind
text_behind nothing second = refl
text_behind (text said rest) second =
    append_assoc (escaped said) (html_text rest) (html_text second)
    ∙ ap (λ (more : List ℕ). escaped said ++ more) (text_behind rest second)
text_behind (element tag attributes inside rest) second =
    append_assoc (open_tag tag attributes) (html_text inside ++ (close_tag tag ++ html_text rest)) (html_text second)
    ∙ ap (λ (more : List ℕ). open_tag tag attributes ++ more)
    (append_assoc (html_text inside) (close_tag tag ++ html_text rest) (html_text second)
    ∙ ap (λ (more : List ℕ). html_text inside ++ more)
    (append_assoc (close_tag tag) (html_text rest) (html_text second)
    ∙ ap (λ (more : List ℕ). close_tag tag ++ more) (text_behind rest second)))
text_behind (alone tag may attributes rest) second =
    append_assoc (alone_tag tag attributes) (html_text rest) (html_text second)
    ∙ ap (λ (more : List ℕ). alone_tag tag attributes ++ more) (text_behind rest second)

pub balanced_behind : (first second : List ℕ) → IsBalanced first → IsBalanced second → IsBalanced (first ++ second)
balanced_behind first second (one, is_first) (other, is_second) =
    (behind one other, (λ i. is_first i ++ is_second i) ∙ text_behind one other)

pub balanced_inside : (tag : List ℕ) (attributes : List (List ℕ × List ℕ)) (inner : List ℕ) → IsBalanced inner
    → IsBalanced (open_tag tag attributes ++ (inner ++ close_tag tag))
balanced_inside tag attributes inner (html, is) = (
  element tag attributes html nothing,
  ap (λ (more : List ℕ). open_tag tag attributes ++ more)
      (λ i. is i ++ sym (append-nil (close_tag tag)) i),
)

pub balanced_alone : (tag : List ℕ) (attributes : List (List ℕ × List ℕ)) → StandsAlone tag → IsBalanced (alone_tag tag attributes)
balanced_alone tag attributes may = (alone tag may attributes nothing, sym (append-nil (alone_tag tag attributes)))

-- ---- numbers

at_goes : (left : ℕ) (more : List ℕ) → without_commas (comma_at left ++ more) ≡ without_commas more
at_goes left more = elim (cases_Bool ((left % 3 == 0) && not (left == 0))) [
  | inl is ↦ rw (is) refl
  | inr isnt ↦ rw (isnt) refl
]

comma_goes : (left more : List ℕ) → without_commas (comma_before left ++ more) ≡ without_commas more
comma_goes [] more = refl
comma_goes (digit ∷ left) more = elim (cases_Bool (goes_on digit)) [
  | inl is ↦ rw (is) refl
  | inr isnt ↦ rw (isnt) (at_goes (length (digit ∷ left)) more)
]

pub digits_stay : (digits : List ℕ) → without_commas (grouped_digits digits) ≡ without_commas digits
digits_stay [] = refl
digits_stay (digit ∷ left) =
    ap (λ (more : List ℕ). cond (not (digit == 44)) (digit ∷ more) more)
    (comma_goes left (grouped_digits left) ∙ digits_stay left)
