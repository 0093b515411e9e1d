-- There is one way to read a dump: line after line, by what each is meant as.
use Rattle.std.proofs.Common.{◌≡◌, ℕ, List, [], ◌∷◌, ◌++◌, refl, ap, ◌∙◌, sym, subst, arith, append_assoc, append-nil, get_or}
use Rattle.std.specs.Prelude.{flat_map}
use Rattle.std.proofs.lemmas.Grind.{flat_map-append}
use Rattle.lot_syntax.specs.Line.{IsLine}
use Rattle.lot_report.specs.Printed.{line}
use Rattle.lot_dump.specs.Form.{IsEnd, IsHead, end_text, head_text, heading_text}
use Rattle.lot_dump.specs.declared.end.End.{End}
use Rattle.lot_dump.specs.declared.head.Head.{Head}
use Rattle.lot_dump.specs.declared.heading.Heading.{Heading}
use Rattle.lot_dump.proofs.EndLemmas.{end_one}
use Rattle.lot_dump.proofs.HeadLemmas.{head_one}
use Rattle.lot_dump.proofs.HeadingLemmas.{heading_one}
use Rattle.lot_parts.specs.Dump.{AreParts, Dump, Front, IsDump, IsFront, IsLedger, IsText, AreTextLines, Part, last_number, part_text, rest_text, with_end, with_part}
use Rattle.lot_parts.proofs.LineLemmas.{end_line, head_line, heading_line, same_first}

-- ---- Ledger text.

module _ (l m x y : List ℕ) (line_l : IsLine l) (other_l : IsText l → ⊥) (line_m : IsLine m) (other_m : IsText m → ⊥) where
  lines_until : (ls ms : List (List ℕ)) → AreTextLines ls → AreTextLines ms
      → flat_map line ls ++ (line l ++ x) ≡ flat_map line ms ++ (line m ++ y) → (flat_map line ls ≡ flat_map line ms) × (l ≡ m) × (x ≡ y)
  lines_until [] [] one two whole = let both = same_first l m x y line_l line_m whole in (refl, both.0, both.1)
  lines_until [] (b ∷ ms) one two whole =
      let both =
      same_first l b x (flat_map line ms ++ (line m ++ y)) line_l two.0.0 (whole ∙ append_assoc (line b) (flat_map line ms) (line m ++ y)) in
      absurd (other_l (subst IsText (sym both.0) two.0.1))
  lines_until (a ∷ ls) [] one two whole =
      let both =
      same_first a m (flat_map line ls ++ (line l ++ x)) y one.0.0 line_m (sym (append_assoc (line a) (flat_map line ls) (line l ++ x)) ∙ whole) in
      absurd (other_m (subst IsText both.0 one.0.1))
  lines_until (a ∷ ls) (b ∷ ms) one two whole =
      let both =
      same_first a b (flat_map line ls ++ (line l ++ x)) (flat_map line ms ++ (line m ++ y)) one.0.0 two.0.0
      (sym (append_assoc (line a) (flat_map line ls) (line l ++ x)) ∙ whole ∙ append_assoc (line b) (flat_map line ms) (line m ++ y)) in
      let more = lines_until ls ms one.1 two.1 both.1 in
      (ap (λ t. line t ++ flat_map line ls) both.0 ∙ ap (λ t. line b ++ t) more.0, more.1, more.2)

  pub same_ledger : (s t : List ℕ) → IsLedger s → IsLedger t → s ++ (line l ++ x) ≡ t ++ (line m ++ y) → (s ≡ t) × (l ≡ m) × (x ≡ y)
  same_ledger s t (ls, one, is_s) (ms, two, is_t) whole =
      let all =
      lines_until ls ms one two (ap (λ u. u ++ (line l ++ x)) (sym is_s) ∙ whole ∙ ap (λ u. u ++ (line m ++ y)) is_t) in
      (is_s ∙ all.0 ∙ sym is_t, all.1, all.2)

-- ---- What stands from an entry on, or from the end on.

pub heading_other : (heading : Heading) → IsText (heading_text heading) → ⊥
heading_other heading is = is.1 (_, refl)

pub end_other : (end : End) → IsText (end_text end) → ⊥
end_other end is = is.2 (_, refl)

pub not_both : (heading : Heading) (end : End) → heading_text heading ≡ end_text end → ⊥
not_both heading end is = let e : 116 ≡ 100 = ap (λ (t : List ℕ). get_or t 4 0) is in absurd (omega (arith, e))

-- the line that comes first, and what stands behind it
abbrev pub first_of : List Part → End → List ℕ
first_of [] end = end_text end
first_of (part ∷ parts) end = heading_text part.heading

abbrev pub behind_first : List Part → End → List ℕ
behind_first [] end = []
behind_first (part ∷ parts) end = part.text ++ rest_text parts end

pub part_first : (part : Part) (x : List ℕ) → part_text part ++ x ≡ line (heading_text part.heading) ++ (part.text ++ x)
part_first part x = append_assoc (line (heading_text part.heading)) part.text x

pub rest_first : (parts : List Part) (end : End) → rest_text parts end ≡ line (first_of parts end) ++ behind_first parts end
rest_first [] end = sym (append-nil (line (end_text end)))
rest_first (part ∷ parts) end =
    append_assoc (part_text part) (flat_map part_text parts) (line (end_text end)) ∙ part_first part (rest_text parts end)

pub first_line : (last : ℕ) (parts : List Part) (end : End) → AreParts last parts → IsEnd end → IsLine (first_of parts end)
first_line last [] end are is = end_line end is
first_line last (part ∷ parts) end are is = heading_line part.heading are.1

pub first_other : (parts : List Part) (end : End) → IsText (first_of parts end) → ⊥
first_other [] end = end_other end
first_other (part ∷ parts) end = heading_other part.heading

-- the text is a first line and what stands behind it
pub of_first : (last : ℕ) (parts : List Part) (end : End) (l x : List ℕ) → AreParts last parts → IsEnd end → IsLine l
    → line l ++ x ≡ rest_text parts end → (l ≡ first_of parts end) × (x ≡ behind_first parts end)
of_first last parts end l x are is line_l whole =
    same_first l (first_of parts end) x (behind_first parts end) line_l (first_line last parts end are is) (whole ∙ rest_first parts end)

-- ---- One way.

-- the same text above the same rest
under : (s t : List ℕ) (last also : ℕ) (ps qs : List Part) (d e : End) → AreParts last ps → AreParts also qs → IsEnd d → IsEnd e
    → IsLedger s → IsLedger t → s ++ rest_text ps d ≡ t ++ rest_text qs e → (s ≡ t) × (rest_text ps d ≡ rest_text qs e)
under s t last also ps qs d e one two end_d end_e is_s is_t whole =
    let all =
    same_ledger (first_of ps d) (first_of qs e) (behind_first ps d) (behind_first qs e) (first_line last ps d one end_d) (first_other ps d)
    (first_line also qs e two end_e) (first_other qs e) s t is_s is_t
    (ap (λ u. s ++ u) (sym (rest_first ps d)) ∙ whole ∙ ap (λ u. t ++ u) (rest_first qs e)) in (
      all.0,
      rest_first ps d ∙ ap (λ u. line u ++ behind_first ps d) all.1 ∙ ap (λ u. line (first_of qs e) ++ u) all.2 ∙ sym (rest_first qs e),
    )

pub same_part : (p q : Part) → p.heading ≡ q.heading → p.text ≡ q.text → p ≡ q
same_part p q one two = ap (λ h. record { heading = h; text = p.text }) one ∙ ap (λ t. record { heading = q.heading; text = t }) two

pub one_rest : (last also : ℕ) (ps qs : List Part) (d e : End) → AreParts last ps → AreParts also qs → IsEnd d → IsEnd e
    → rest_text ps d ≡ rest_text qs e → (ps ≡ qs) × (d ≡ e)
one_rest last also [] [] d e one two end_d end_e whole =
    let both = of_first also [] e (end_text d) [] two end_e (end_line d end_d) (sym (rest_first [] d) ∙ whole) in
    (refl, end_one d e end_d end_e both.0)
one_rest last also [] (q ∷ qs) d e one two end_d end_e whole =
    let both = of_first also (q ∷ qs) e (end_text d) [] two end_e (end_line d end_d) (sym (rest_first [] d) ∙ whole) in
    absurd (not_both q.heading d (sym both.0))
one_rest last also (p ∷ ps) [] d e one two end_d end_e whole =
    let both = of_first last (p ∷ ps) d (end_text e) [] one end_d (end_line e end_e) (sym (rest_first [] e) ∙ sym whole) in
    absurd (not_both p.heading e (sym both.0))
one_rest last also (p ∷ ps) (q ∷ qs) d e one two end_d end_e whole =
    let both =
    of_first also (q ∷ qs) e (heading_text p.heading) (p.text ++ rest_text ps d) two end_e (heading_line p.heading one.1)
    (sym (rest_first (p ∷ ps) d) ∙ whole) in
    let below =
    under p.text q.text p.heading.number q.heading.number ps qs d e one.3 two.3 end_d end_e one.2 two.2 both.1 in
    let more = one_rest p.heading.number q.heading.number ps qs d e one.3 two.3 end_d end_e below.1 in
    let first = same_part p q (heading_one p.heading q.heading one.1 two.1 both.0) below.0 in
    (ap (λ (r : Part). r ∷ ps) first ∙ ap (λ rs. q ∷ rs) more.0, more.1)

pub one_dump : (text : List ℕ) (a b : Dump) → IsDump text a → IsDump text b → a ≡ b
one_dump text a b (head_a, above_a, parts_a, end_a, is_a) (head_b, above_b, parts_b, end_b, is_b) =
    let both =
    same_first (head_text a.head) (head_text b.head) (a.above ++ rest_text a.parts a.end) (b.above ++ rest_text b.parts b.end)
    (head_line a.head head_a) (head_line b.head head_b) (sym is_a ∙ is_b) in
    let below = under a.above b.above 0 0 a.parts b.parts a.end b.end parts_a parts_b end_a end_b above_a above_b both.1 in
    let more = one_rest 0 0 a.parts b.parts a.end b.end parts_a parts_b end_a end_b below.1 in
    ap (λ h. record { head = h; above = a.above; parts = a.parts; end = a.end }) (head_one a.head b.head head_a head_b both.0)
    ∙ ap (λ t. record { head = b.head; above = t; parts = a.parts; end = a.end }) below.0
    ∙ ap (λ ps. record { head = b.head; above = b.above; parts = ps; end = a.end }) more.0
    ∙ ap (λ e. record { head = b.head; above = b.above; parts = b.parts; end = e }) more.1

-- ---- Part by part.

pub front_begins : (head : Head) (above : List ℕ) → IsHead head → IsLedger above
    → IsFront (line (head_text head) ++ above) (record { head = head; above = above; parts = [] })
front_begins head above is ledger = (is, ledger, tt, ap (λ t. line (head_text head) ++ t) (sym (append-nil above)))

one_more : (last : ℕ) (parts : List Part) (part : Part) → AreParts last parts → AreParts (last_number last parts) (part ∷ [])
    → AreParts last (parts ++ part ∷ [])
one_more last [] part are is = is
one_more last (p ∷ parts) part are is = (are.0, are.1, are.2, one_more p.heading.number parts part are.3 is)

pub last_is : (last : ℕ) (parts : List Part) (part : Part) → last_number last (parts ++ part ∷ []) ≡ part.heading.number
last_is last [] part = refl
last_is last (p ∷ parts) part = last_is p.heading.number parts part

-- what stands behind the head and the text above the first entry
behind_above : (head above parts rest : List ℕ) → (head ++ (above ++ parts)) ++ rest ≡ head ++ (above ++ (parts ++ rest))
behind_above head above parts rest = append_assoc head (above ++ parts) rest ∙ ap (λ t. head ++ t) (append_assoc above parts rest)

pub front_goes : (text : List ℕ) (front : Front) (part : Part) → IsFront text front → AreParts (last_number 0 front.parts) (part ∷ [])
    → IsFront (text ++ part_text part) (with_part front part)
front_goes text front part (head, above, are, is) next = (
  head,
  above,
  one_more 0 front.parts part are next,
  ap (λ t. t ++ part_text part) is
      ∙ behind_above (line (head_text front.head)) front.above (flat_map part_text front.parts) (part_text part)
      ∙ ap (λ t. line (head_text front.head) ++ (front.above ++ (flat_map part_text front.parts ++ t))) (sym (append-nil (part_text part)))
      ∙ ap (λ t. line (head_text front.head) ++ (front.above ++ t)) (sym (flat_map-append part_text front.parts (part ∷ []))),
)

pub front_ends : (text : List ℕ) (front : Front) (end : End) → IsFront text front → IsEnd end
    → IsDump (text ++ line (end_text end)) (with_end front end)
front_ends text front end (head, above, are, is) is_end = (
  head,
  above,
  are,
  is_end,
  ap (λ t. t ++ line (end_text end)) is
      ∙ behind_above (line (head_text front.head)) front.above (flat_map part_text front.parts) (line (end_text end)),
)
