-- Lines of differences, one behind another.
use Rattle.std.proofs.Common.{◌≡◌, ℕ, List, [], ◌∷◌, ◌++◌, refl, sym, ap, ◌∙◌, subst, append_assoc, append-nil}
use Rattle.std.specs.Prelude.{Bool, true, false, not, cond, ◌&&◌, flat_map, Option, Result, Ok, Err}
use Rattle.std.specs.List.{list_all}
use Rattle.std.specs.Io.KnownBytes.{Appends}
use Rattle.std.proofs.KnownBytes.{Appends-trans}
use Rattle.std.proofs.lemmas.Grind.{flat_map-append}
use Rattle.lot_report.proofs.PrintLemmas.{prefix_step}
use Rattle.lot_report.specs.Written.{AppendsPrefix}
use Rattle.lot_report.specs.declared.fault.ReportFault.{ReportFault}
use Rattle.lot_report.specs.declared.fault.ReportFault.TheVariants.{Memory, Range, Write}
use Rattle.lot_compare.specs.Lines.{Difference, WritesLines, WritesOne, difference_line, fits, of_kind}
use Rattle.lot_compare.specs.Sums.{are_same, differing}
use Rattle.lot_compare.specs.declared.lines.Kind.{Kind}
use Rattle.lot_compare.specs.declared.subject.Subject.{Subject}
use Rattle.lot_compare.specs.declared.sums.Sides.{Sides}

-- ---- two lists of them

all_then : (one two : List Difference) → list_all fits one ≡ true → list_all fits two ≡ true → list_all fits (one ++ two) ≡ true
all_then [] two a b = b
all_then (first ∷ one) two a b = by (fits first) refl a (λ all. all_then one two all b)
  where
    by : (here : Bool) → fits first ≡ here → (here && list_all fits one) ≡ true → (list_all fits one ≡ true → list_all fits (one ++ two) ≡ true)
        → (fits first && list_all fits (one ++ two)) ≡ true
    by true e all rest = ap (λ (b : Bool). b && list_all fits (one ++ two)) e ∙ rest all
    by false e all rest = cc

prefix_then : (one two : List Difference) (old mid new : Option (List ℕ)) → Appends old mid (flat_map difference_line one)
    → AppendsPrefix mid new (flat_map difference_line two) → AppendsPrefix old new (flat_map difference_line (one ++ two))
prefix_then one two old mid new before part =
    prefix_step old mid new (flat_map difference_line one) (flat_map difference_line two) [] (flat_map difference_line (one ++ two)) before part
    (ap (λ (t : List ℕ). flat_map difference_line one ++ t) (append-nil (flat_map difference_line two)) ∙ sym (flat_map-append difference_line one two))

prefix_cut : (one two : List Difference) (old new : Option (List ℕ))
    → AppendsPrefix old new (flat_map difference_line one) → AppendsPrefix old new (flat_map difference_line (one ++ two))
prefix_cut one two old new (part, (next, rest, is), wrote) = (
  part,
  (next, rest ++ flat_map difference_line two, flat_map-append difference_line one two ∙ ap (λ (t : List ℕ). t ++ flat_map difference_line two) is ∙ append_assoc part (next ∷ rest) (flat_map difference_line two)),
  wrote,
)

behind : (one before : List Difference) (next : Difference) (after two : List Difference) → two ≡ before ++ next ∷ after
    → one ++ two ≡ (one ++ before) ++ next ∷ after
behind one before next after two is = ap (λ (ds : List Difference). one ++ ds) is ∙ sym (append_assoc one before (next ∷ after))

ahead : (before : List Difference) (next : Difference) (after one two : List Difference) → one ≡ before ++ next ∷ after
    → one ++ two ≡ before ++ next ∷ (after ++ two)
ahead before next after one two is = ap (λ (ds : List Difference). ds ++ two) is ∙ append_assoc before (next ∷ after) two

both : (one two : List Difference) (old mid new : Option (List ℕ)) → Appends old mid (flat_map difference_line one) → Appends mid new (flat_map difference_line two)
    → Appends old new (flat_map difference_line (one ++ two))
both one two old mid new first second =
    subst (Appends old new) (sym (flat_map-append difference_line one two)) (Appends-trans old mid new _ _ first second)

pub lines_then : (one two : List Difference) (old mid new : Option (List ℕ)) (result : Result (Unit {0}) ReportFault)
    → WritesLines one old mid (Ok tt) → WritesLines two mid new result → WritesLines (one ++ two) old new result
lines_then one two old mid new (Ok done) first second = (all_then one two first.0 second.0, both one two old mid new first.1 second.1)
lines_then one two old mid new (Err Range) first (before, next, after, is, unfit, wrote) =
    (one ++ before, next, after, behind one before next after two is, unfit, both one before old mid new first.1 wrote)
lines_then one two old mid new (Err Memory) first (before, next, after, is, wrote) =
    (one ++ before, next, after, behind one before next after two is, both one before old mid new first.1 wrote)
lines_then one two old mid new (Err Write) first part = prefix_then one two old mid new first.1 part

pub lines_cut : (one two : List Difference) (old new : Option (List ℕ)) (fault : ReportFault)
    → WritesLines one old new (Err fault) → WritesLines (one ++ two) old new (Err fault)
lines_cut one two old new Range (before, next, after, is, unfit, wrote) = (before, next, after ++ two, ahead before next after one two is, unfit, wrote)
lines_cut one two old new Memory (before, next, after, is, wrote) = (before, next, after ++ two, ahead before next after one two is, wrote)
lines_cut one two old new Write part = prefix_cut one two old new part

-- ---- one line

pub lines_of_one : (found : Difference) (old new : Option (List ℕ)) (result : Result (Unit {0}) ReportFault)
    → WritesOne found old new result → WritesLines (found ∷ []) old new result
lines_of_one found old new (Ok done) (fit, wrote) =
    (ap (λ (b : Bool). b && true) fit, subst (Appends old new) (sym (append-nil (difference_line found))) wrote)
lines_of_one found old new (Err Range) (unfit, wrote) = ([], found, [], refl, unfit, wrote)
lines_of_one found old new (Err Memory) wrote = ([], found, [], refl, wrote)
lines_of_one found old new (Err Write) part = subst (AppendsPrefix old new) (sym (append-nil (difference_line found))) part

-- the line of a subject, if its sums differ
pub lines_if : (kind : Kind) (subject : Subject) (sides : Sides) (old new : Option (List ℕ)) (result : Result (Unit {0}) ReportFault)
    → are_same sides ≡ false → WritesOne (kind, (subject, sides)) old new result
    → WritesLines (of_kind kind (differing ((subject, sides) ∷ []))) old new result
lines_if kind subject sides old new result differ wrote =
    subst (λ (b : Bool). WritesLines (of_kind kind (cond (not b) ((subject, sides) ∷ []) [])) old new result) (sym differ)
    (lines_of_one (kind, (subject, sides)) old new result wrote)

pub lines_none : (kind : Kind) (subject : Subject) (sides : Sides) (old new : Option (List ℕ))
    → are_same sides ≡ true → Appends old new []
    → WritesLines (of_kind kind (differing ((subject, sides) ∷ []))) old new (Ok tt)
lines_none kind subject sides old new same kept =
    subst (λ (b : Bool). WritesLines (of_kind kind (cond (not b) ((subject, sides) ∷ []) [])) old new (Ok tt)) (sym same) (refl, kept)

-- ---- all of them

-- the lines of some sums are written, and the others are left
abbrev pub LinesSoFar : Kind → List (Subject × Sides) → List (Subject × Sides) → Option (List ℕ) → Option (List ℕ) → Type 0
LinesSoFar kind sums left old now =
    (before : List (Subject × Sides)) × (sums ≡ before ++ left) × WritesLines (of_kind kind (differing before)) old now (Ok tt)

of_append : (kind : Kind) (one two : List (Subject × Sides))
    → of_kind kind (differing (one ++ two)) ≡ of_kind kind (differing one) ++ of_kind kind (differing two)
of_append kind [] two = refl
of_append kind (sum ∷ one) two = by (are_same sum.1) (of_append kind one two)
  where
    by : (b : Bool) → of_kind kind (differing (one ++ two)) ≡ of_kind kind (differing one) ++ of_kind kind (differing two)
        → of_kind kind (cond (not b) (sum ∷ differing (one ++ two)) (differing (one ++ two)))
        ≡ of_kind kind (cond (not b) (sum ∷ differing one) (differing one)) ++ of_kind kind (differing two)
    by true rest = rest
    by false rest = ap (λ (ds : List Difference). (kind, sum) ∷ ds) rest

pub lines_begin : (kind : Kind) (sums left : List (Subject × Sides)) (old : Option (List ℕ)) → left ≡ sums → Appends old old []
    → LinesSoFar kind sums left old old
lines_begin kind sums left old is nothing = ([], sym is, (refl, nothing))

pub lines_more : (kind : Kind) (sums left rest : List (Subject × Sides)) (sum : Subject × Sides) (old mid new : Option (List ℕ))
    → LinesSoFar kind sums left old mid → left ≡ sum ∷ rest → WritesLines (of_kind kind (differing (sum ∷ []))) mid new (Ok tt)
    → LinesSoFar kind sums rest old new
lines_more kind sums left rest sum old mid new (before, split, wrote) is now = (
  before ++ sum ∷ [],
  split ∙ ap (λ (ss : List (Subject × Sides)). before ++ ss) is ∙ sym (append_assoc before (sum ∷ []) rest),
  subst (λ (ds : List Difference). WritesLines ds old new (Ok tt)) (sym (of_append kind before (sum ∷ [])))
      (lines_then (of_kind kind (differing before)) (of_kind kind (differing (sum ∷ []))) old mid new (Ok tt) wrote now),
)

pub lines_stop : (kind : Kind) (sums left rest : List (Subject × Sides)) (sum : Subject × Sides) (old mid new : Option (List ℕ)) (fault : ReportFault)
    → LinesSoFar kind sums left old mid → left ≡ sum ∷ rest → WritesLines (of_kind kind (differing (sum ∷ []))) mid new (Err fault)
    → WritesLines (of_kind kind (differing sums)) old new (Err fault)
lines_stop kind sums left rest sum old mid new fault (before, split, wrote) is now =
    let one = of_kind kind (differing before) in
    let here = of_kind kind (differing (sum ∷ [])) in
    let others = of_kind kind (differing rest) in
    let all : of_kind kind (differing sums) ≡ one ++ (here ++ others) =
    ap (λ (ss : List (Subject × Sides)). of_kind kind (differing ss)) (split ∙ ap (λ (ss : List (Subject × Sides)). before ++ ss) is)
    ∙ of_append kind before (sum ∷ rest) ∙ ap (λ (ds : List Difference). one ++ ds) (of_append kind (sum ∷ []) rest) in
    subst (λ (ds : List Difference). WritesLines ds old new (Err fault)) (sym all)
    (lines_then one (here ++ others) old mid new (Err fault) wrote (lines_cut here others mid new fault now))

pub lines_end : (kind : Kind) (sums left : List (Subject × Sides)) (old new : Option (List ℕ)) → LinesSoFar kind sums left old new → left ≡ []
    → WritesLines (of_kind kind (differing sums)) old new (Ok tt)
lines_end kind sums left old new (before, split, wrote) is =
    subst (λ (ss : List (Subject × Sides)). WritesLines (of_kind kind (differing ss)) old new (Ok tt))
    (sym (split ∙ ap (λ (ss : List (Subject × Sides)). before ++ ss) is ∙ append-nil before)) wrote
