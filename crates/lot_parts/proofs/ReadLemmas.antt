-- What is read of a text that is known is taken from its beginning.
use Rattle.std.proofs.Common.{◌≡◌, ◌≢◌, ◌<◌, length, length-append, ◌+◌, inl, inr, ℕ, List, [], ◌∷◌, ◌++◌, Option, None, Some, refl, ap, ◌∙◌, sym, subst, arith, append_assoc, append-nil, ◌≤◌}
use Rattle.std.specs.Prelude.{◌↔◌, ◌⊎◌, IfSome, Ok, flat_map}
use Rattle.std.specs.Io.KnownBytes.{Consumes, prepend_known}
use Rattle.std.proofs.lemmas.Grind.{flat_map-append}
use Rattle.lot_syntax.specs.Line.{IsLine}
use Rattle.lot_report.specs.Printed.{line}
use Rattle.lot_report.specs.Written.{IsPrefixOf}
use Rattle.lot_io.specs.Reads.{ReadCalls, ReadsMade, counted}
use Rattle.lot_stream.specs.Input.{NoneFailed, most_calls}
use Rattle.lot_dump.specs.Form.{IsHead, IsNewer, end_front, head_front, head_text, heading_front}
use Rattle.lot_dump.specs.Lines.{EndsFor, EndsLine, HasLongLine, Made, text_of}
use Rattle.lot_dump.specs.declared.head.Head.{Head}
use Rattle.lot_dump.specs.declared.head.HeadFault.{HeadFault}
use Rattle.lot_dump.specs.declared.head.HeadFault.TheVariants as Heads
use Rattle.lot_dump.specs.declared.kind.Kind.{Kind}
use Rattle.lot_dump.specs.declared.kind.Kind.TheVariants as Kinded
use Rattle.lot_dump.specs.declared.lines.LineEnd.{LineEnd}
use Rattle.lot_dump.specs.declared.lines.LineEnd.TheVariants.{Missing, Newline}
use Rattle.lot_dump.specs.declared.lines.LineFault.{LineFault}
use Rattle.lot_dump.specs.declared.lines.LineFault.TheVariants as Lines
use Rattle.lot_dump.proofs.LineLemmas.{between, made_on, none_failed, none_made}
use Rattle.lot_parts.specs.Dump.{AreTextLines, IsLedger, IsText, IsTextLine}
use Rattle.lot_parts.specs.Fault.{HasCause, SaysNoDump, fault_of_head, fault_of_line}
use Rattle.lot_parts.specs.Reading.{BeginsNewer, HasLong, HasNoHead, IsEndlessAt, lines_in, longest_text}
use Rattle.lot_parts.specs.declared.fault.DumpFault.{DumpFault}
use Rattle.lot_parts.specs.declared.fault.DumpFault.TheVariants as Faults
use Rattle.lot_parts.specs.declared.fault.DumpFault.TheVariants.{NewerFormat}
use Rattle.lot_parts.proofs.LineLemmas.{head_line, no_first, same_first}

-- ---- One after another.

pub taken_on : (start mid new : Option (List ℕ)) (a b : List ℕ) → Consumes start mid a → Consumes mid new b → Consumes start new (a ++ b)
taken_on None mid new a b one two = tt
taken_on (Some x) None new a b one two = absurd one
taken_on (Some x) (Some y) None a b one two = absurd two
taken_on (Some x) (Some y) (Some z) a b one two = one ∙ ap (λ t. a ++ t) two ∙ sym (append_assoc a b z)

pub nothing_taken : (known : Option (List ℕ)) → Consumes known known []
nothing_taken None = tt
nothing_taken (Some x) = refl

pub no_calls_fail : (known : Option ReadCalls) → NoneFailed (between known known)
no_calls_fail known = none_failed known known 0 (none_made known)

pub no_more_fail : (old mid new : Option ReadCalls) → NoneFailed (between old mid) → NoneFailed (between mid new) → NoneFailed (between old new)
no_more_fail old mid new (a, one, none_a) (b, two, none_b) =
    none_failed old new _ (made_on old mid new a.made 0 b.made 0 (a, one, refl, none_a) (b, two, refl, none_b))

-- ---- Why reading ends.

none_of : (all : ReadsMade) (made : ℕ) → Made all made 0 → NoneFailed all
none_of all made (calls, counts, is, none) = (calls, counts, none)

pub line_cause : (all : ReadsMade) (fault : LineFault) → EndsFor all fault → HasCause all (fault_of_line fault)
line_cause all Lines.Read (inl failed) = inl failed
line_cause all Lines.Read (inr made) = inr (most_calls, omega arith, made)
line_cause all Lines.TooLong (made, is) = none_of all made is
line_cause all Lines.Memory (made, is) = none_of all made is

pub head_cause : (all : ReadsMade) (fault : HeadFault) → NoneFailed all → HasCause all (fault_of_head fault)
head_cause all Heads.NotADump none = none
head_cause all Heads.NewerFormat none = none

pub room_cause : (all : ReadsMade) (fault : DumpFault) → (fault ≡ Faults.TooLong) ⊎ (fault ≡ Faults.Memory) → NoneFailed all → HasCause all fault
room_cause all fault (inl is) none = subst (HasCause all) (sym is) none
room_cause all fault (inr is) none = subst (HasCause all) (sym is) none

-- ---- Which faults say that the text is no dump.

pub line_says : (P : ℕ → Type 0) (fault : LineFault) → SaysNoDump P (fault_of_line fault)
line_says P Lines.Read = tt
line_says P Lines.TooLong = tt
line_says P Lines.Memory = tt

pub head_says_none : (P : ℕ → Type 0) (fault : HeadFault) → (fault ≡ Heads.NotADump → P 1) → SaysNoDump P (fault_of_head fault)
head_says_none P Heads.NotADump none = none refl
head_says_none P Heads.NewerFormat none = tt

pub room_says : (P : ℕ → Type 0) (fault : DumpFault) → (fault ≡ Faults.TooLong) ⊎ (fault ≡ Faults.Memory) → SaysNoDump P fault
room_says P fault (inl is) = subst (SaysNoDump P) (sym is) tt
room_says P fault (inr is) = subst (SaysNoDump P) (sym is) tt

pub says_on : (P Q : ℕ → Type 0) (fault : DumpFault) → ((number : ℕ) → P number → Q number) → SaysNoDump P fault → SaysNoDump Q fault
says_on P Q (Faults.NotADump number) on says = on number says
says_on P Q Faults.NewerFormat on says = tt
says_on P Q Faults.Read on says = tt
says_on P Q Faults.TooLong on says = tt
says_on P Q Faults.Memory on says = tt

-- calls of which none failed come before
pub cause_on : (old mid new : Option ReadCalls) (fault : DumpFault) → NoneFailed (between old mid) → HasCause (between mid new) fault
    → HasCause (between old new) fault
cause_on old mid new Faults.Read (a, one, none_a) (inl (made, failed)) =
    inl (_, made_on old mid new a.made 0 made 1 (a, one, refl, none_a) failed)
cause_on old mid new Faults.Read (a, one, none_a) (inr (made, most, none)) =
    inr (a.made + made, omega (arith, most), made_on old mid new a.made 0 made 0 (a, one, refl, none_a) none)
cause_on old mid new (Faults.NotADump line) one more = no_more_fail old mid new one more
cause_on old mid new Faults.NewerFormat one more = no_more_fail old mid new one more
cause_on old mid new Faults.TooLong one more = no_more_fail old mid new one more
cause_on old mid new Faults.Memory one more = no_more_fail old mid new one more

-- ---- What is too long.

pub long_line : (known : Option (List ℕ)) → HasLongLine known → IfSome known HasLong
long_line None is = tt
long_line (Some x) (front, rest, whole, line_front, long) = ([], front, rest, inl (line_front, long), whole)

long_within : (a text : List ℕ) → HasLong text → HasLong (a ++ text)
long_within a text (front, long, rest, is, whole) =
    (a ++ front, long, rest, is, ap (λ t. a ++ t) whole ∙ sym (append_assoc a front (long ++ rest)))

-- it stands behind what was taken
pub long_behind : (start now : Option (List ℕ)) (taken : List ℕ) → Consumes start now taken → IfSome now HasLong → IfSome start HasLong
long_behind None now taken is long = tt
long_behind (Some x) None taken is long = absurd is
long_behind (Some x) (Some y) taken is long = subst HasLong (sym is) (long_within taken y long)

-- it stands behind what is ahead
pub long_ahead : (known : Option (List ℕ)) (front lines ahead : List ℕ) → front ++ lines ≡ ahead → IfSome (prepend_known lines known) HasLong
    → IfSome (prepend_known ahead known) HasLong
long_ahead None front lines ahead is long = tt
long_ahead (Some x) front lines ahead is long =
    subst HasLong (sym (append_assoc front lines x) ∙ ap (λ t. t ++ x) is) (long_within front (lines ++ x) long)

-- so is the ledger text that was taken
pub long_taken : (start now : Option (List ℕ)) (text : List ℕ) → Consumes start now text → IsLedger text → longest_text < length text
    → IfSome start HasLong
long_taken None now text is ledger long = tt
long_taken (Some x) None text is ledger long = absurd is
long_taken (Some x) (Some y) text is ledger long = ([], text, y, inr (ledger, long), is)

pub line_length : (text l : List ℕ) → longest_text ≤ length text + length l → longest_text < length (text ++ line l)
line_length text l long = omega (arith, long, length-append text (line l), length-append l (10 ∷ []))

pub line_too_long : (fault : LineFault) → fault_of_line fault ≡ Faults.TooLong → fault ≡ Lines.TooLong
line_too_long Lines.TooLong is = refl
line_too_long Lines.Read is = cc
line_too_long Lines.Memory is = cc

-- ---- The head.

pub no_head : (old new : Option (List ℕ)) (l : List ℕ) → Consumes old new (line l) → IsLine l
    → ((head : Head) → IsHead head → l ≡ head_text head → ⊥) → IfSome old HasNoHead
no_head None new l is line_l none = tt
no_head (Some x) None l is line_l none = absurd is
no_head (Some x) (Some y) l is line_l none =
    λ head rest is_head whole.
    none head is_head (same_first l (head_text head) y rest line_l (head_line head is_head) (sym is ∙ whole)).0

pub newer_head : (fault : HeadFault) → fault_of_head fault ≡ NewerFormat → fault ≡ Heads.NewerFormat
newer_head Heads.NotADump is = cc
newer_head Heads.NewerFormat is = refl

pub begins_newer : (old new : Option (List ℕ)) (l : List ℕ) → Consumes old new (line l) → IsNewer l → IfSome old BeginsNewer
begins_newer None new l is newer = tt
begins_newer (Some x) None l is newer = absurd is
begins_newer (Some x) (Some y) l is newer = (l, y, newer, is)

-- ---- Ledger text.

pub nothing_ledger : IsLedger []
nothing_ledger = ([], tt, refl)

pub ledger_on : (text l : List ℕ) → IsLedger text → IsTextLine l → IsLedger (text ++ line l)
ledger_on text l (lines, are, is) one =
    (lines ++ l ∷ [], lines_on lines are, ap (λ t. t ++ line l) is ∙ ap (λ t. flat_map line lines ++ t) (sym (append-nil (line l))) ∙ sym (flat_map-append line lines (l ∷ [])))
  where
    lines_on : (ls : List (List ℕ)) → AreTextLines ls → AreTextLines (ls ++ l ∷ [])
    lines_on [] all = (one, tt)
    lines_on (a ∷ ls) all = (all.0, lines_on ls all.1)

-- ledger text and a line with no line end
pub endless_at : (first count number : ℕ) (start now : Option (List ℕ)) (text : List ℕ) → Consumes start now text → IsLedger text
    → count ≡ counted (first + lines_in text) → (number ≡ counted (count + 1)) × IfSome now IsLine → IfSome start (IsEndlessAt (first + 1) number)
endless_at first count number None now text is ledger so (place, last) = tt
endless_at first count number (Some x) None text is ledger so (place, last) = absurd is
endless_at first count number (Some x) (Some y) text is ledger so (place, last) = (text, y, ledger, last, is, omega (arith, place, so))

-- a line that was put behind a text
pub put_line : (after text got own : List ℕ) → after ≡ text ++ line got → got ≡ own → after ≡ text ++ line own
put_line after text got own put same = put ∙ ap (λ t. text ++ line t) same

-- what a line is meant as, by what it begins with
abbrev pub Kinds : List ℕ → Kind → Type 0
Kinds text kind =
    ((kind ≡ Kinded.Head) ↔ IsPrefixOf head_front text) × ((kind ≡ Kinded.Heading) ↔ IsPrefixOf heading_front text)
    × ((kind ≡ Kinded.End) ↔ IsPrefixOf end_front text)

pub text_kind : (text : List ℕ) → Kinds text Kinded.Text → IsText text
text_kind text is = (λ it. let k = is.0.1 it in cc, λ it. let k = is.1.1 it in cc, λ it. let k = is.2.1 it in cc)

pub other_kind : (text : List ℕ) (kind : Kind) → Kinds text kind
    → (kind ≡ Kinded.Head) ⊎ ((kind ≡ Kinded.Heading) ⊎ (kind ≡ Kinded.End)) → IsText text → ⊥
other_kind text kind kinds (inl is) none = none.0 (kinds.0.0 is)
other_kind text kind kinds (inr (inl is)) none = none.1 (kinds.1.0 is)
other_kind text kind kinds (inr (inr is)) none = none.2 (kinds.2.0 is)

-- ---- The end.

-- a line behind the end, with or without a line end
pub more_behind : (old new : Option (List ℕ)) (got : List ℕ) (end : Option LineEnd) (how : LineEnd) → end ≡ Some how
    → Consumes old new (text_of got (Ok end)) → EndsLine end got new → IfSome old (λ text. text ≢ [])
more_behind None new got end how is takes ends = tt
more_behind (Some x) None got end how is takes ends = absurd takes
more_behind (Some x) (Some y) got None how is takes ends = cc
more_behind (Some x) (Some y) got (Some Newline) how is takes ends =
    λ none. some_more got y (sym (append_assoc got (10 ∷ []) y) ∙ sym takes ∙ none)
  where
    some_more : (g z : List ℕ) → g ++ 10 ∷ z ≡ [] → ⊥
    some_more [] z e = cc
    some_more (b ∷ g) z e = cc
more_behind (Some x) (Some y) got (Some Missing) how is takes ends =
    λ none. ends.0 (first_none got y (sym takes ∙ none))
  where
    first_none : (g z : List ℕ) → g ++ z ≡ [] → g ≡ []
    first_none [] z e = refl
    first_none (b ∷ g) z e = cc
