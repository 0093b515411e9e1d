-- A text has its lines in one way, and they are cut from its beginning on.
use Rattle.std.proofs.Common.{◌≡◌, inl, inr, ℕ, ◌+◌, ◌-◌, ◌<◌, ◌≤◌, Bool, true, false, cond, eqb, List, [], ◌∷◌, ◌++◌, map, length, take, drop, get_or, Some, None, refl, ap, ◌∙◌, sym, subst, arith}
use Rattle.std.specs.Prelude.{◌⊎◌, Option, nat_lt}
use Rattle.std.specs.List.{onto_first, position, position_or_len}
use Rattle.std.proofs.lemmas.Bool.{and_parts, and_from, not-true, not_from_false, eqb-true, false≢true}
use Rattle.std.proofs.lemmas.Bool.Decides.{nat_tests}
use Rattle.std.proofs.lemmas.List.{take-append-drop, drop_more, take_all, get_or-take, length-take, length-drop}
use Rattle.std.proofs.lemmas.List.Elements.{All-from_get_or}
use Rattle.std.proofs.lemmas.List.Sums.{list_all-from_AllPass, fails_before_first, passes_at_first}
use Rattle.memchr.specs.Find.{IsFirstByte, is_byte}
use Rattle.lot_syntax.specs.Line.{is_within_line, IsLine, AreEnded, AreLines, without_return, without_mark, ended_lines, lines_of}

-- ---- Each text has lines.

front_end : (line rest : List ℕ) → [] ≡ line ++ 10 ∷ rest → ⊥
front_end [] rest h = cc
front_end (b ∷ line) rest h = cc

no_lines : (line : List ℕ) (lines : List (List ℕ)) → AreEnded (line ∷ lines) [] → ⊥
no_lines line [] (within, inl e) = front_end line [] e
no_lines line [] (within, inr (e, some)) = some (sym e)
no_lines line (next ∷ lines) (within, rest, more, e) = front_end line rest e

-- a line put before the lines of what follows it
ended_cons : (line rest : List ℕ) (lines : List (List ℕ)) → IsLine line → AreEnded lines rest → AreEnded (line ∷ lines) (line ++ 10 ∷ rest)
ended_cons line rest [] within h = (within, inl (ap (λ t. line ++ 10 ∷ t) h))
ended_cons line rest (next ∷ lines) within h = (within, rest, h, refl)

ended_onto : (b : ℕ) (text : List ℕ) (lines : List (List ℕ)) → eqb b 10 ≡ false → AreEnded lines text → AreEnded (onto_first b lines) (b ∷ text)
ended_onto b text [] e none = (and_from _ _ (not_from_false _ e) refl, inr (ap (λ t. b ∷ t) none, λ k. cc))
ended_onto b text (line ∷ []) e (within, inl whole) =
    (and_from _ _ (not_from_false _ e) within, inl (ap (λ t. b ∷ t) whole))
ended_onto b text (line ∷ []) e (within, inr (whole, some)) =
    (and_from _ _ (not_from_false _ e) within, inr (ap (λ t. b ∷ t) whole, λ k. cc))
ended_onto b text (line ∷ next ∷ lines) e (within, rest, more, whole) =
    (and_from _ _ (not_from_false _ e) within, rest, more, ap (λ t. b ∷ t) whole)

ended_by : (b : ℕ) (text : List ℕ) (end : Bool) → eqb b 10 ≡ end → AreEnded (ended_lines text) text
    → AreEnded (cond end ([] ∷ ended_lines text) (onto_first b (ended_lines text))) (b ∷ text)
ended_by b text true e h =
    subst (λ (x : ℕ). AreEnded ([] ∷ ended_lines text) (x ∷ text)) (sym (eqb-true b 10 e)) (ended_cons [] text (ended_lines text) refl h)
ended_by b text false e h = ended_onto b text (ended_lines text) e h

pub are_ended : (text : List ℕ) → AreEnded (ended_lines text) text
unfolding ended_lines
are_ended [] = refl
are_ended (b ∷ text) = ended_by b text (eqb b 10) refl (are_ended text)

-- ---- The lines of a text are these alone.

pub ended_first : (line rest : List ℕ) → IsLine line → ended_lines (line ++ 10 ∷ rest) ≡ line ∷ ended_lines rest
unfolding ended_lines
ended_first [] rest within = refl
ended_first (b ∷ line) rest within =
    let parts = and_parts _ _ within in
    let other : eqb b 10 ≡ false = not-true _ parts.0 in
    let more : ended_lines (line ++ 10 ∷ rest) ≡ line ∷ ended_lines rest = ended_first line rest parts.1 in
    rw (other, more) refl

pub ended_last : (b : ℕ) (line : List ℕ) → IsLine (b ∷ line) → ended_lines (b ∷ line) ≡ (b ∷ line) ∷ []
unfolding ended_lines
ended_last b [] within =
    let other : eqb b 10 ≡ false = not-true _ (and_parts _ _ within).0 in
    rw other refl
ended_last b (c ∷ line) within =
    let parts = and_parts _ _ within in
    let other : eqb b 10 ≡ false = not-true _ parts.0 in
    let more : ended_lines (c ∷ line) ≡ (c ∷ line) ∷ [] = ended_last c line parts.1 in
    rw (other, more) refl

ended_are : (lines : List (List ℕ)) (text : List ℕ) → AreEnded lines text → ended_lines text ≡ lines
unfolding ended_lines
ended_are [] text none = ap ended_lines none
ended_are (line ∷ []) text (within, inl e) = ap ended_lines e ∙ ended_first line [] within
ended_are ([] ∷ []) text (within, inr (e, some)) = absurd (some refl)
ended_are ((b ∷ line) ∷ []) text (within, inr (e, some)) = ap ended_lines e ∙ ended_last b line within
ended_are (line ∷ next ∷ lines) text (within, rest, more, e) =
    ap ended_lines e ∙ ended_first line rest within ∙ ap (λ zs. line ∷ zs) (ended_are (next ∷ lines) rest more)

-- each text has its lines
pub have_lines : (text : List ℕ) → AreLines (lines_of (without_mark text)) text
have_lines text = (ended_lines (without_mark text), are_ended (without_mark text), refl)

-- and no others
pub lines_are : (lines : List (List ℕ)) (text : List ℕ) → AreLines lines text → lines_of (without_mark text) ≡ lines
lines_are lines text (ended, h, e) = ap (map without_return) (ended_are ended (without_mark text) h) ∙ sym e

-- ---- The search for a line end.

within_prefix : (text : List ℕ) → IsLine (take (position_or_len (λ b. eqb b 10) text) text)
within_prefix text =
    let at = position_or_len (λ b. eqb b 10) text in
    list_all-from_AllPass is_within_line (take at text)
    (All-from_get_or (λ b. is_within_line b ≡ true) (take at text) 0
    (λ i h. let place : i < at = omega (arith, length-take at text) in
    rw (get_or-take at text i 0 place) (not_from_false _ (fails_before_first (λ b. eqb b 10) text i 0 place))))

place_of : (at end place : ℕ) → Some place ≡ cond (nat_lt at end) (Some at) None → (place ≡ at) × (at < end)
place_of at end place e = grind (arith, nat_tests)

no_place : (at end : ℕ) → None ≡ cond (nat_lt at end) (Some at) None → end ≤ at
no_place at end e = grind (arith, nat_tests)

before_or_not : (m n : ℕ) → (m < n) ⊎ (n ≤ m)
before_or_not m n = grind arith

-- the first place of an LF is the position of one
pub first_is : (text : List ℕ) (found : Option ℕ) → IsFirstByte (is_byte 10) text found → found ≡ position (λ b. eqb b 10) text
first_is text None none =
    let at = position_or_len (λ b. eqb b 10) text in
    elim (before_or_not at (length text)) [
      | inl lt ↦ absurd (none at (omega arith) lt (passes_at_first (λ b. eqb b 10) text 0 lt))
      | inr le ↦ grind (arith, nat_tests)
    ]
first_is text (Some place) (before, passes) =
    let at = position_or_len (λ b. eqb b 10) text in
    elim (before_or_not place at) [
      | inl lt ↦ absurd (false≢true (sym (fails_before_first (λ b. eqb b 10) text place 0 lt) ∙ passes))
      | inr le ↦
          elim (before_or_not at place) [
            | inl lt ↦
                absurd (before.before at (omega arith) lt (passes_at_first (λ b. eqb b 10) text 0 (omega (arith, before.high))))
            | inr ge ↦
                let same : place ≡ at = omega arith in
                let within : at < length text = omega (arith, before.high) in
                grind (arith, nat_tests)
          ]
    ]

-- the first line, up to its LF
pub line_found : (text : List ℕ) (at : ℕ) → Some at ≡ position (λ b. eqb b 10) text
    → ended_lines text ≡ take at text ∷ ended_lines (take (length text - (at + 1)) (drop (at + 1) text))
line_found text at e =
    let found = place_of (position_or_len (λ b. eqb b 10) text) (length text) at e in
    let lt : at < length text = omega (arith, found.0, found.1) in
    let rest : take (length text - (at + 1)) (drop (at + 1) text) ≡ drop (at + 1) text = take_all _ _ (omega (arith, length-drop (at + 1) text)) in
    let end : get_or text at 0 ≡ 10 = rw found.0 (eqb-true _ 10 (passes_at_first (λ b. eqb b 10) text 0 found.1)) in
    let split : text ≡ take at text ++ 10 ∷ drop (at + 1) text =
    sym (take-append-drop at text) ∙ ap (λ t. take at text ++ t) (drop_more text at 0 lt ∙ ap (λ b. b ∷ drop (at + 1) text) end) in
    let within : IsLine (take at text) = subst (λ (n : ℕ). IsLine (take n text)) (sym found.0) (within_prefix text) in
    ap ended_lines split ∙ ended_first (take at text) (drop (at + 1) text) within
    ∙ ap (λ t. take at text ∷ ended_lines t) (sym rest)

some_last : (text : List ℕ) → 0 < length text → IsLine text → ended_lines text ≡ text ∷ []
some_last [] some within = absurd (omega arith)
some_last (b ∷ text) some within = ended_last b text within

-- the last line, which has none
pub line_last : (text : List ℕ) → 0 < length text → None ≡ position (λ b. eqb b 10) text → ended_lines text ≡ text ∷ []
line_last text some e =
    let whole : take (position_or_len (λ b. eqb b 10) text) text ≡ text = take_all _ text (no_place _ (length text) e) in
    some_last text some (subst (λ (t : List ℕ). IsLine t) whole (within_prefix text))

-- ---- A CR at the end.

pub return_last : (front : List ℕ) (b : ℕ) → eqb b 13 ≡ true → without_return (front ++ b ∷ []) ≡ front
return_last [] b e = rw e refl
return_last (c ∷ []) b e = rw e refl
return_last (c ∷ d ∷ front) b e = ap (λ x. c ∷ x) (return_last (d ∷ front) b e)

pub return_other : (front : List ℕ) (b : ℕ) → eqb b 13 ≡ false → without_return (front ++ b ∷ []) ≡ front ++ b ∷ []
return_other [] b e = rw e refl
return_other (c ∷ []) b e = rw e refl
return_other (c ∷ d ∷ front) b e = ap (λ x. c ∷ x) (return_other (d ∷ front) b e)

-- ---- One line after another.

pub next_line : (text line rest : List ℕ) (at : ℕ) → Some at ≡ position (λ b. eqb b 10) text → line ≡ without_return (take at text)
    → rest ≡ take (length text - (at + 1)) (drop (at + 1) text) → lines_of text ≡ line ∷ lines_of rest
next_line text line rest at e is behind =
    ap (map without_return) (line_found text at e) ∙ ap (λ x. x ∷ lines_of (take (length text - (at + 1)) (drop (at + 1) text))) (sym is)
    ∙ ap (λ x. line ∷ lines_of x) (sym behind)

no_more : lines_of [] ≡ []
unfolding ended_lines
no_more = refl

pub last_line : (text line : List ℕ) → 0 < length text → None ≡ position (λ b. eqb b 10) text → line ≡ without_return text
    → lines_of text ≡ line ∷ lines_of []
last_line text line some e is = ap (map without_return) (line_last text some e) ∙ ap (λ x. x ∷ []) (sym is) ∙ ap (λ xs. line ∷ xs) (sym no_more)

empty_by : (text : List ℕ) → text ≡ [] → lines_of text ≡ []
empty_by text e = ap lines_of e ∙ no_more

pub empty_text : (text : List ℕ) → length text ≡ 0 → lines_of text ≡ []
empty_text [] e = no_more
empty_text (b ∷ text) e = absurd (omega arith)

-- a list is shorter without its first item
pub shorter : (xs ys : List (List ℕ)) (x : List ℕ) → xs ≡ x ∷ ys → length ys < length xs
shorter xs ys x e = omega (arith, ap length e)
