-- Each step takes the next part of a dump, and is refused only where there is none, at the first line that is none.
use Rattle.std.proofs.Common.{◌≡◌, ◌≢◌, inl, inr, ℕ, zero, suc, ◌<◌, ◌≤◌, ◌+◌, List, [], ◌∷◌, ◌++◌, Option, None, Some, refl, ap, ◌∙◌, sym, subst, arith, append_assoc, append-nil}
use Rattle.std.specs.Prelude.{IfSome, flat_map, replicate, slice_index}
use Rattle.std.specs.Io.KnownBytes.{Consumes, prepend_known}
use Rattle.std.proofs.lemmas.List.{length-replicate}
use Rattle.lot_syntax.specs.Line.{IsLine}
use Rattle.lot_report.specs.Printed.{line}
use Rattle.lot_io.specs.Reads.{counted}
use Rattle.lot_dump.specs.Form.{IsEnd, IsHead, IsHeading, end_text, head_text, heading_text}
use Rattle.lot_dump.specs.declared.end.End.{End}
use Rattle.lot_dump.specs.declared.head.Head.{Head}
use Rattle.lot_dump.specs.declared.heading.Heading.{Heading}
use Rattle.lot_dump.proofs.HeadingLemmas.{heading_one}
use Rattle.lot_parts.specs.Dump.{AreParts, AreTextLines, Dump, IsLedger, IsText, Part, dump_text, rest_text}
use Rattle.lot_parts.specs.Reading.{GoOnAlike, HasNoHead, IsEndlessAt, IsNoDumpAt, IsNoEndAt, IsNoRestAt, IsSomeDump, IsSomeRest, lines_in}
use Rattle.lot_parts.proofs.CountLemmas.{lines_both, one_line, whole_behind, whole_ledger}
use Rattle.lot_parts.proofs.DumpLemmas.{behind_first, first_line, first_of, first_other, not_both, of_first, rest_first}
use Rattle.lot_parts.proofs.LineLemmas.{end_line, head_line, heading_line, no_first, same_first}
use Rattle.lot_parts.proofs.ReadLemmas.{nothing_ledger, taken_on}

-- ---- What was read ahead.

pub none_ahead : (ahead : List ℕ) (known : Option (List ℕ)) → ahead ≡ [] → prepend_known ahead known ≡ known
none_ahead ahead None none = refl
none_ahead ahead (Some x) none = ap (λ t. Some (t ++ x)) none

-- what was taken last is ahead again
pub put_back : (old left : Option (List ℕ)) (taken back ahead : List ℕ) → Consumes old (prepend_known ahead left) (taken ++ back)
    → Consumes old (prepend_known (back ++ ahead) left) taken
put_back None left taken back ahead is = tt
put_back (Some x) None taken back ahead is = absurd is
put_back (Some x) (Some y) taken back ahead is =
    is ∙ append_assoc taken back (ahead ++ y) ∙ ap (λ t. taken ++ t) (sym (append_assoc back ahead y))

-- what stands ahead of a text is taken with it
pub taken_with : (old new : Option (List ℕ)) (front ahead taken : List ℕ) → Consumes (prepend_known ahead old) new taken
    → Consumes (prepend_known (front ++ ahead) old) new (front ++ taken)
taken_with None new front ahead taken is = tt
taken_with (Some x) None front ahead taken is = absurd is
taken_with (Some x) (Some y) front ahead taken is =
    append_assoc front ahead x ∙ ap (λ t. front ++ t) is ∙ sym (append_assoc front taken y)

-- ---- The beginning.

pub begun : (old mid left : Option (List ℕ)) (none l text next lines : List ℕ) (head : Head) → none ≡ []
    → Consumes (prepend_known none old) mid (line l) → l ≡ head_text head → Consumes mid (prepend_known lines left) (text ++ line next)
    → Consumes old (prepend_known (line next ++ lines) left) (line (head_text head) ++ text)
begun old mid left none l text next lines head empty first same more =
    let from_start = subst (λ (o : Option (List ℕ)). Consumes o mid (line l)) (none_ahead none old empty) first in
    let all = taken_on old mid (prepend_known lines left) (line l) (text ++ line next) from_start more in
    put_back old left (line (head_text head) ++ text) (line next) lines
    (subst (λ (t : List ℕ). Consumes old (prepend_known lines left) t)
    (ap (λ t. line t ++ (text ++ line next)) same ∙ sym (append_assoc (line (head_text head)) text (line next))) all)

-- ---- A step.

pub entered : (old left : Option (List ℕ)) (ahead l lines text next after : List ℕ) (heading : Heading) → line l ++ lines ≡ ahead
    → l ≡ heading_text heading → Consumes (prepend_known lines old) (prepend_known after left) (text ++ line next)
    → Consumes (prepend_known ahead old) (prepend_known (line next ++ after) left) (line (heading_text heading) ++ text)
entered old left ahead l lines text next after heading is same more =
    put_back (prepend_known ahead old) left (line (heading_text heading) ++ text) (line next) after
    (subst (λ (t : List ℕ). Consumes (prepend_known ahead old) (prepend_known after left) t)
    (ap (λ t. line t ++ (text ++ line next)) same ∙ sym (append_assoc (line (heading_text heading)) text (line next)))
    (subst (λ (a : List ℕ). Consumes (prepend_known a old) (prepend_known after left) (line l ++ (text ++ line next))) is
    (taken_with old (prepend_known after left) (line l) lines (text ++ line next) more)))

-- ---- What is no dump, and where.

abbrev some_end : End
some_end = record { entries = 0; digest = replicate 32 0 }

zeros : (n i : ℕ) → slice_index (replicate n 0) i < 256
zeros zero i = omega arith
zeros (suc n) zero = omega arith
zeros (suc n) (suc i) = zeros n i

is_some_end : IsEnd some_end
is_some_end = (omega arith, length-replicate {A = ℕ} 32 0, zeros 32)

no_line_there : (l x : List ℕ) → line l ++ x ≡ [] → ⊥
no_line_there [] x is = cc
no_line_there (b ∷ l) x is = cc

-- ledger text, behind which a line has no line end, has no other line
abbrev HasNoOtherLine : List ℕ → Type 0
HasNoOtherLine text =
    (front other rest : List ℕ) → IsLedger front → IsLine other → (IsText other → ⊥) → text ≡ front ++ (line other ++ rest) → ⊥

module _ (other rest last : List ℕ) (is_other : IsText other → ⊥) (line_other : IsLine other) (line_last : IsLine last) where
  none_until : (ls ms : List (List ℕ)) → AreTextLines ls → AreTextLines ms
      → flat_map line ls ++ last ≡ flat_map line ms ++ (line other ++ rest) → ⊥
  none_until [] [] one two whole = no_first last other rest line_last whole
  none_until [] (b ∷ ms) one two whole =
      no_first last b (flat_map line ms ++ (line other ++ rest)) line_last (whole ∙ append_assoc (line b) (flat_map line ms) (line other ++ rest))
  none_until (a ∷ ls) [] one two whole =
      let both =
      same_first a other (flat_map line ls ++ last) rest one.0.0 line_other (sym (append_assoc (line a) (flat_map line ls) last) ∙ whole) in
      is_other (subst IsText both.0 one.0.1)
  none_until (a ∷ ls) (b ∷ ms) one two whole =
      let both =
      same_first a b (flat_map line ls ++ last) (flat_map line ms ++ (line other ++ rest)) one.0.0 two.0.0
      (sym (append_assoc (line a) (flat_map line ls) last) ∙ whole ∙ append_assoc (line b) (flat_map line ms) (line other ++ rest)) in
      none_until ls ms one.1 two.1 both.1

no_other_line : (text last : List ℕ) → IsLedger text → IsLine last → HasNoOtherLine (text ++ last)
no_other_line text last (ls, one, is_text) line_last =
    λ front other rest (ms, two, is_front) line_other is_other whole.
    none_until other rest last is_other line_other line_last ls ms one two
    (ap (λ t. t ++ last) (sym is_text) ∙ whole ∙ ap (λ t. t ++ (line other ++ rest)) is_front)

-- above the first heading

abbrev a_dump : Dump
a_dump = record { head = record { place = 0; entries = 0 }; above = []; parts = []; end = some_end }

no_head_at : (x : List ℕ) (number : ℕ) → number ≡ 1 → HasNoHead x → IsNoDumpAt number x
no_head_at x number place no_head = record {
  above = [];
  behind = x;
  whole = refl;
  lines = inl refl;
  place = omega (arith, place);
  some = (
    dump_text a_dump,
    (a_dump, ((omega arith, omega arith), nothing_ledger, tt, is_some_end, refl)),
  );
  none = none;
}
  where
    none : (more : List ℕ) → IsSomeDump more → GoOnAlike x more → ⊥
    none more (dump, is) (inl same) = no_head dump.head (dump.above ++ rest_text dump.parts dump.end) is.0 (same ∙ is.4)
    none more (dump, is) (inr (next, a, b, line_next, one, two)) =
        let both =
        same_first next (head_text dump.head) b (dump.above ++ rest_text dump.parts dump.end) line_next (head_line dump.head is.0) (sym two ∙ is.4) in
        no_head dump.head a is.0 (one ∙ ap (λ t. line t ++ a) both.0)

pub no_head_dump : (known : Option (List ℕ)) (none : List ℕ) (number : ℕ) → none ≡ []
    → (number ≡ 1) × IfSome (prepend_known none known) HasNoHead → IfSome known (IsNoDumpAt number)
no_head_dump None none number empty (place, no_head) = tt
no_head_dump (Some x) none number empty (place, no_head) =
    no_head_at x number place (subst HasNoHead (ap (λ t. t ++ x) empty) no_head)

endless_below : (head : Head) (front last : List ℕ) (number : ℕ) → IsHead head → IsLedger front → IsLine last
    → number ≡ counted (2 + lines_in front) → IsNoDumpAt number (line (head_text head) ++ (front ++ last))
endless_below head front last number is_head ledger line_last place = record {
  above = line (head_text head) ++ front;
  behind = last;
  whole = sym (append_assoc (line (head_text head)) front last);
  lines = whole_behind (head_text head) front (whole_ledger front ledger);
  place =
      let both = lines_both (line (head_text head)) front in
      let one = one_line (head_text head) (head_line head is_head) in
      omega (arith, place, both, one);
  some = (
    line (end_text some_end),
    (
      record { head = head; above = front; parts = []; end = some_end },
      (is_head, ledger, tt, is_some_end, append_assoc (line (head_text head)) front (line (end_text some_end))),
    ),
  );
  none = none;
}
  where
    none : (more : List ℕ) → IsSomeDump ((line (head_text head) ++ front) ++ more) → GoOnAlike last more → ⊥
    none more (dump, is) (inl same) =
        let both =
        same_first (head_text head) (head_text dump.head) (front ++ last) (dump.above ++ rest_text dump.parts dump.end) (head_line head is_head)
        (head_line dump.head is.0)
        (sym (append_assoc (line (head_text head)) front last) ∙ ap (λ t. (line (head_text head) ++ front) ++ t) same ∙ is.4) in
        no_other_line front last ledger line_last dump.above (first_of dump.parts dump.end) (behind_first dump.parts dump.end) is.1
        (first_line 0 dump.parts dump.end is.2 is.3) (first_other dump.parts dump.end)
        (both.1 ∙ ap (λ t. dump.above ++ t) (rest_first dump.parts dump.end))
    none more (dump, is) (inr (next, a, b, line_next, one, two)) = no_first last next a line_last one

pub no_dump_below : (old mid : Option (List ℕ)) (none l : List ℕ) (head : Head) (number count : ℕ) → none ≡ []
    → Consumes (prepend_known none old) mid (line l) → l ≡ head_text head → IsHead head → count ≡ 1
    → IfSome mid (IsEndlessAt (count + 1) number) → IfSome old (IsNoDumpAt number)
no_dump_below None mid none l head number count empty first same is_head so endless = tt
no_dump_below (Some x) None none l head number count empty first same is_head so endless = absurd first
no_dump_below (Some x) (Some y) none l head number count empty first same is_head so (front, last, ledger, line_last, whole, place) =
    subst (IsNoDumpAt number)
    (ap (λ t. line (head_text head) ++ t) (sym whole) ∙ ap (λ t. line t ++ y) (sym same) ∙ sym first ∙ ap (λ t. t ++ x) empty)
    (endless_below head front last number is_head ledger line_last (omega (arith, place, so)))

-- ---- What is no rest, and where.

-- no rest begins with that line
abbrev IsNoFirst : ℕ → List ℕ → Type 0
IsNoFirst last l = (parts : List Part) (end : End) → AreParts last parts → IsEnd end → l ≡ first_of parts end → ⊥

a_rest : (last : ℕ) → (more : List ℕ) × IsSomeRest last more
a_rest last = (rest_text [] some_end, ([], some_end, (tt, is_some_end, refl)))

not_first : (last at number : ℕ) (l behind : List ℕ) → IsLine l → number ≡ at → IsNoFirst last l → IsNoRestAt last at number (line l ++ behind)
not_first last at number l behind line_l place never = record {
  above = [];
  behind = line l ++ behind;
  whole = refl;
  lines = inl refl;
  place = omega (arith, place);
  some = a_rest last;
  none = none;
}
  where
    none : (more : List ℕ) → IsSomeRest last more → GoOnAlike (line l ++ behind) more → ⊥
    none more (parts, end, (are, is_end, whole)) (inl same) =
        never parts end are is_end (of_first last parts end l behind are is_end line_l (same ∙ whole)).0
    none more (parts, end, (are, is_end, whole)) (inr (next, a, b, line_next, one, two)) =
        let same = same_first l next behind a line_l line_next one in
        never parts end are is_end (same.0 ∙ (of_first last parts end next b are is_end line_next (sym two ∙ whole)).0)

module _ (ahead l lines : List ℕ) (last at : ℕ) (is : line l ++ lines ≡ ahead) (line_l : IsLine l) where
  -- what is ahead begins with that line
  whole_ahead : (x : List ℕ) → line l ++ (lines ++ x) ≡ ahead ++ x
  whole_ahead x = sym (append_assoc (line l) lines x) ∙ ap (λ t. t ++ x) is

  at_first : (known : Option (List ℕ)) (number : ℕ) → number ≡ at → IsNoFirst last l
      → IfSome (prepend_known ahead known) (IsNoRestAt last at number)
  at_first None number place never = tt
  at_first (Some x) number place never =
      subst (IsNoRestAt last at number) (whole_ahead x) (not_first last at number l (lines ++ x) line_l place never)

  -- the number falls
  pub number_falls : (known : Option (List ℕ)) (number : ℕ) (heading : Heading) (own : ℕ) → number ≡ at → IsHeading heading
      → l ≡ heading_text heading → heading.number < own → own ≡ last → IfSome (prepend_known ahead known) (IsNoRestAt last at number)
  number_falls known number heading own place is_heading same falls owns = at_first known number place fallen
    where
      fallen : IsNoFirst last l
      fallen [] end are is_end first = not_both heading end (sym same ∙ first)
      fallen (part ∷ parts) end are is_end first =
          let one = heading_one heading part.heading is_heading are.1 (sym same ∙ first) in
          absurd (omega (arith, falls, owns, are.0, ap (λ (h : Heading). h.number) one))

  -- the text of the entry doesn't end
  endless : (number : ℕ) (heading : Heading) (front end : List ℕ) → last ≤ heading.number → IsHeading heading → IsLedger front → IsLine end
      → number ≡ counted (at + 1 + lines_in front) → IsNoRestAt last at number (line (heading_text heading) ++ (front ++ end))
  endless number heading front end low is_heading ledger line_end place = record {
    above = line (heading_text heading) ++ front;
    behind = end;
    whole = sym (append_assoc (line (heading_text heading)) front end);
    lines = whole_behind (heading_text heading) front (whole_ledger front ledger);
    place =
        let both = lines_both (line (heading_text heading)) front in
        let one = one_line (heading_text heading) (heading_line heading is_heading) in
        omega (arith, place, both, one);
    some = (
      line (end_text some_end),
      (
        record { heading = heading; text = front } ∷ [],
        some_end,
        (
          (low, is_heading, ledger, tt),
          is_some_end,
          ap (λ t. t ++ line (end_text some_end)) (sym (append-nil (line (heading_text heading) ++ front))),
        ),
      ),
    );
    none = none;
  }
    where
      none_with : (parts : List Part) (last_line : End) → AreParts last parts → heading_text heading ≡ first_of parts last_line
          → front ++ end ≡ behind_first parts last_line → IsEnd last_line → ⊥
      none_with [] last_line are first rest is_end = not_both heading last_line first
      none_with (part ∷ parts) last_line are first rest is_end =
          no_other_line front end ledger line_end part.text (first_of parts last_line) (behind_first parts last_line) are.2
          (first_line part.heading.number parts last_line are.3 is_end) (first_other parts last_line)
          (rest ∙ ap (λ t. part.text ++ t) (rest_first parts last_line))

      none : (more : List ℕ) → IsSomeRest last ((line (heading_text heading) ++ front) ++ more) → GoOnAlike end more → ⊥
      none more (parts, last_line, (are, is_end, whole)) (inl same) =
          let both =
          of_first last parts last_line (heading_text heading) (front ++ end) are is_end (heading_line heading is_heading)
          (sym (append_assoc (line (heading_text heading)) front end)
          ∙ ap (λ t. (line (heading_text heading) ++ front) ++ t) same ∙ whole) in
          none_with parts last_line are both.0 both.1 is_end
      none more rest (inr (next, a, b, line_next, one, two)) = no_first end next a line_end one

  pub text_endless : (known : Option (List ℕ)) (number count own : ℕ) (heading : Heading) → count ≡ at → own ≡ last → own ≤ heading.number
      → IsHeading heading → l ≡ heading_text heading
      → IfSome (prepend_known lines known) (IsEndlessAt (count + 1) number) → IfSome (prepend_known ahead known) (IsNoRestAt last at number)
  text_endless None number count own heading counts owns low is_heading same none = tt
  text_endless (Some x) number count own heading counts owns low is_heading same (front, end, ledger, line_end, whole, place) =
      subst (IsNoRestAt last at number)
      (ap (λ t. line (heading_text heading) ++ t) (sym whole) ∙ ap (λ t. line t ++ (lines ++ x)) (sym same) ∙ whole_ahead x)
      (endless number heading front end (omega (arith, owns, low)) is_heading ledger line_end (omega (arith, place, counts)))

  -- more stands behind the end
  behind_end : (number : ℕ) (end : End) (behind : List ℕ) → IsEnd end → behind ≢ [] → number ≡ counted (at + 1)
      → IsNoRestAt last at number (line (end_text end) ++ behind)
  behind_end number end behind is_end some place = record {
    above = line (end_text end);
    behind = behind;
    whole = refl;
    lines = inr (end_text end, refl);
    place = let one = one_line (end_text end) (end_line end is_end) in omega (arith, place, one);
    some = ([], ([], end, (tt, is_end, append-nil (line (end_text end)))));
    none = none;
  }
    where
      nothing : (more : List ℕ) (parts : List Part) (other : End) → AreParts last parts → IsEnd other
          → line (end_text end) ++ more ≡ rest_text parts other → more ≡ []
      nothing more [] other are is_other whole = (of_first last [] other (end_text end) more are is_other (end_line end is_end) whole).1
      nothing more (part ∷ parts) other are is_other whole =
          absurd (not_both part.heading end (sym (of_first last (part ∷ parts) other (end_text end) more are is_other (end_line end is_end) whole).0))

      none : (more : List ℕ) → IsSomeRest last (line (end_text end) ++ more) → GoOnAlike behind more → ⊥
      none more (parts, other, (are, is_other, whole)) (inl same) = some (same ∙ nothing more parts other are is_other whole)
      none more (parts, other, (are, is_other, whole)) (inr (next, a, b, line_next, one, two)) =
          no_line_there next b (sym two ∙ nothing more parts other are is_other whole)

  pub no_end_here : (known : Option (List ℕ)) (number count : ℕ) → count ≡ at
      → ((heading : Heading) → IsHeading heading → l ≡ heading_text heading → ⊥)
      → IsNoEndAt count number l (prepend_known lines known) → IfSome (prepend_known ahead known) (IsNoRestAt last at number)
  no_end_here known number count counts no_heading (inl (no_end, place)) = at_first known number (place ∙ counts) neither
    where
      neither : IsNoFirst last l
      neither [] end are is_end first = no_end end is_end first
      neither (part ∷ parts) end are is_end first = no_heading part.heading are.1 first
  no_end_here None number count counts no_heading (inr (more, place)) = tt
  no_end_here (Some x) number count counts no_heading (inr (((end, is_end, same), some), place)) =
      subst (IsNoRestAt last at number) (ap (λ t. line t ++ (lines ++ x)) (sym same) ∙ whole_ahead x)
      (behind_end number end (lines ++ x) is_end some (omega (arith, place, counts)))
