-- A dump is read command by command, and why one isn't read.
use Rattle.std.proofs.Common.{◌≡◌, ◌≢◌, ◌∙◌, inr, ◌+◌, ◌++◌, List, ℕ, [], ◌∷◌, Option, None, Some, Ok, true, false, ap, append-nil, append_assoc, arith, length, length-append, refl, subst, sym}
use Rattle.std.specs.Prelude.{IfSome, ◌==◌}
use Rattle.std.proofs.lemmas.Bool.{eqb-false, eqb-true}
use Rattle.std.specs.Io.KnownBytes.{Consumes, prepend_known}
use Rattle.sha2.specs.Hashers.{Holds256}
use Rattle.lot_command.specs.declared.command.Command.{Command}
use Rattle.lot_read.specs.Text.{Reads}
use Rattle.lot_report.specs.Printed.{line}
use Rattle.lot_io.specs.Reads.{counted}
use Rattle.lot_dump.specs.Form.{IsHead, end_text, head_text}
use Rattle.lot_dump.specs.declared.head.Head.{Head}
use Rattle.lot_dump.specs.declared.heading.Heading.{Heading}
use Rattle.lot_parts.specs.Commands.{FaultAbove, FaultNext, HasCommands, HasEntry, IsFaultBelow, IsFaultIn, IsNotOne, IsReadTo, IsReadWhole, SayAll, Says, front_of, front_text}
use Rattle.lot_parts.specs.Dump.{AreParts, Dump, Front, IsLedger, Part, dump_text, part_text, with_end, with_part}
use Rattle.lot_parts.specs.Reading.{Begins, BeginsOther, Reading, SaysNext, lines_in, part_of}
use Rattle.lot_parts.specs.declared.commands.CommandFault.{CommandFault}
use Rattle.lot_parts.specs.declared.commands.CommandFault.TheVariants.{Dump as OfDump, Text}
use Rattle.lot_parts.specs.declared.dumped.Dumped.{Dumped}
use Rattle.lot_parts.specs.declared.fault.DumpFault.TheVariants.{Memory, NewerFormat, NotADump, Read, TooLong}
use Rattle.lot_parts.specs.declared.step.Step.TheVariants.{Entry, End as AtEnd}
use Rattle.lot_parts.specs.declared.step.Sum.{Sum}
use Rattle.lot_parts.proofs.CountLemmas.{lines_both}
use Rattle.lot_parts.proofs.DumpLemmas.{front_ends, front_goes, last_is}
use Rattle.lot_parts.proofs.ReadLemmas.{taken_on}

-- ---- lists

pub empty_list : {X : Type 0} (xs : List X) (count : ℕ) → length xs ≡ count → (count == 0) ≡ true → xs ≡ []
empty_list [] count long is = refl
empty_list (x ∷ xs) count long is = absurd (omega (arith, long, eqb-true count 0 is))

pub some_list : {X : Type 0} (xs : List X) (count : ℕ) → length xs ≡ count → (count == 0) ≡ false → xs ≢ []
some_list [] count long is = λ none. eqb-false count 0 is (sym long)
some_list (x ∷ xs) count long is = λ none. cc

-- ---- above the first heading

pub other_behind : (ahead x : List ℕ) → BeginsOther ahead → BeginsOther (ahead ++ x)
other_behind ahead x (first, rest, is, none, same) =
    (first, rest ++ x, is, none, ap (λ t. t ++ x) same ∙ append_assoc (line first) rest x)

module _ (start now : Option (List ℕ)) (head : Head) (above : List ℕ) (reading : Reading) (begins : Begins start now head above reading) where
  -- the front is the head and the text above the first heading
  fronts : line (head_text head) ++ above ≡ front_text (front_of head above)
  fronts = ap (λ t. line (head_text head) ++ t) (sym (append-nil above))

  pub none_read : Reads above [] → IsReadTo start now reading (front_of head above) []
  none_read says = record {
    is_head = begins.0;
    ledger = begins.1;
    above = says;
    parts = tt;
    says = tt;
    takes = subst (Consumes start (prepend_known reading.ahead now)) fronts begins.2;
    other = begins.3;
    heard = subst (Holds256 reading.hasher) fronts begins.4;
    last = begins.5;
    count = begins.6;
    line = begins.7 ∙ ap (λ t. counted (lines_in t + 1)) fronts;
  }

  has_above : (Kind : List ℕ → Type 0) → Kind above
      → IfSome start (λ text. (h : Head) × (a : List ℕ) × (rest : List ℕ) × IsHead h × IsLedger a × BeginsOther rest
      × (text ≡ line (head_text h) ++ (a ++ rest)) × Kind a)
  has_above Kind kind = by start now begins.2
    where
      by : (s n : Option (List ℕ)) → Consumes s (prepend_known reading.ahead n) (line (head_text head) ++ above)
          → IfSome s (λ text. (h : Head) × (a : List ℕ) × (rest : List ℕ) × IsHead h × IsLedger a × BeginsOther rest
          × (text ≡ line (head_text h) ++ (a ++ rest)) × Kind a)
      by None n takes = tt
      by (Some x) None takes = absurd takes
      by (Some x) (Some y) takes = (
        head,
        above,
        reading.ahead ++ y,
        begins.0,
        begins.1,
        other_behind reading.ahead y begins.3,
        takes ∙ append_assoc (line (head_text head)) above (reading.ahead ++ y),
        kind,
      )

  pub commands_above : (number : ℕ) (commands : List Command) → number ≡ 1 → Reads above commands → commands ≢ []
      → FaultAbove start (OfDump (NotADump number))
  commands_above number commands first says some = by start (has_above HasCommands (commands, says, some))
    where
      by : (s : Option (List ℕ)) → IfSome s (λ text. (h : Head) × (a : List ℕ) × (rest : List ℕ) × IsHead h × IsLedger a × BeginsOther rest
          × (text ≡ line (head_text h) ++ (a ++ rest)) × HasCommands a) → FaultAbove s (OfDump (NotADump number))
      by None has = tt
      by (Some x) has = inr (has, first)

  pub fault_above : (fault : CommandFault) → IsFaultIn 1 above fault → FaultAbove start fault
  fault_above (Text number fault) is = has_above (λ text. IsFaultIn 1 text (Text number fault)) is
  fault_above (OfDump (NotADump number)) is = absurd cc
  fault_above (OfDump NewerFormat) is = absurd cc
  fault_above (OfDump Read) is = tt
  fault_above (OfDump TooLong) is = absurd cc
  fault_above (OfDump Memory) is = tt

-- ---- behind a front

say_more : (parts : List Part) (commands : List Dumped) (part : Part) (dumped : Dumped) → SayAll parts commands → Says part dumped
    → SayAll (parts ++ part ∷ []) (commands ++ dumped ∷ [])
say_more [] [] part dumped all says = (says, tt)
say_more [] (d ∷ commands) part dumped all says = absurd all
say_more (p ∷ parts) [] part dumped all says = absurd all
say_more (p ∷ parts) (d ∷ commands) part dumped all says = (all.0, say_more parts commands part dumped all.1 says)

count_more : (headings : ℕ) (parts : List Part) (part : Part) → headings ≡ counted (length parts)
    → counted (headings + 1) ≡ counted (length (parts ++ part ∷ []))
count_more headings parts part is =
    let long : length (parts ++ part ∷ []) ≡ length parts + 1 = length-append parts (part ∷ []) in
    omega (arith, is, long)

more_lines : (at : ℕ) (front part : List ℕ) → at ≡ counted (lines_in front + 1) → counted (at + lines_in part) ≡ counted (lines_in (front ++ part) + 1)
more_lines at front part is = let both = lines_both front part in omega (arith, is, both)

module _ (start known now : Option (List ℕ)) (old new : Reading) (front : Front) (before : List Dumped)
    (to : IsReadTo start known old front before) where
  pub one_more_read : (heading : Heading) (text : List ℕ) (dumped : Dumped)
      → Consumes (prepend_known old.ahead known) (prepend_known new.ahead now) (part_text (part_of heading text))
      → SaysNext old new text (Ok (Entry heading)) → Says (part_of heading text) dumped
      → (part : Part) × IsReadTo start now new (with_part front part) (before ++ dumped ∷ [])
  one_more_read heading text dumped takes (are, hears, other, last, count, line) says =
      let part = part_of heading text in
      let is_next : AreParts (Rattle.lot_parts.specs.Dump.last_number 0 front.parts) (part ∷ []) = subst (λ n. AreParts n (part ∷ [])) to.last are in
      let goes = front_goes (front_text front) front part (to.is_head, to.ledger, to.parts, refl) is_next in (
        part,
        record {
          is_head = to.is_head;
          ledger = to.ledger;
          above = to.above;
          parts = goes.2;
          says = say_more front.parts before part dumped to.says says;
          takes = subst (Consumes start (prepend_known new.ahead now)) goes.3
              (taken_on start (prepend_known old.ahead known) (prepend_known new.ahead now) (front_text front) (part_text part) to.takes takes);
          other = other;
          heard = subst (Holds256 new.hasher) goes.3 (hears (front_text front) to.heard);
          last = last ∙ sym (last_is 0 front.parts part);
          count = count ∙ count_more old.headings front.parts part to.count;
          line = line ∙ more_lines old.line (front_text front) (part_text part) to.line ∙ ap (λ t. counted (lines_in t + 1)) goes.3;
        },
      )

  pub whole_read : (sum : Sum) (text : List ℕ) → IfSome (prepend_known old.ahead known) (λ rest. rest ≡ line (end_text sum.end))
      → SaysNext old new text (Ok (AtEnd sum)) → IsReadWhole start (with_end front sum.end) before sum
  whole_read sum text takes (is_end, digest, headings) =
      let ends = front_ends (front_text front) front sum.end (to.is_head, to.ledger, to.parts, refl) is_end in
      record {
        is = ((ends.0, ends.1, ends.2, ends.3, refl), to.above, to.says);
        whole = whole start known to.takes takes ends.4;
        found = (refl, digest (front_text front) to.heard, headings ∙ to.count);
      }
    where
      whole : (s k : Option (List ℕ)) → Consumes s (prepend_known old.ahead k) (front_text front)
          → IfSome (prepend_known old.ahead k) (λ rest. rest ≡ line (end_text sum.end))
          → front_text front ++ line (end_text sum.end) ≡ dump_text (with_end front sum.end)
          → IfSome s (λ text. text ≡ dump_text (with_end front sum.end))
      whole None k takes rest same = tt
      whole (Some x) None takes rest same = absurd takes
      whole (Some x) (Some y) takes rest same = takes ∙ ap (λ t. front_text front ++ t) rest ∙ same

-- ---- why the next isn't read

module _ (known now : Option (List ℕ)) (reading : Reading) (behind : List ℕ) (heading : Heading) (text : List ℕ)
    (are : AreParts reading.last (part_of heading text ∷ []))
    (takes : Consumes known (prepend_known behind now) (part_text (part_of heading text))) (other : BeginsOther behind) where
  has_entry : (Kind : List ℕ → Type 0) → Kind text → IfSome known (HasEntry reading.last Kind)
  has_entry Kind kind = by known now takes
    where
      by : (k n : Option (List ℕ)) → Consumes k (prepend_known behind n) (part_text (part_of heading text)) → IfSome k (HasEntry reading.last Kind)
      by None n takes = tt
      by (Some x) None takes = absurd takes
      by (Some x) (Some y) takes = (part_of heading text, behind ++ y, are, other_behind behind y other, takes, kind)

  not_one : (k : Option (List ℕ)) (number : ℕ) → number ≡ reading.line → IfSome k (HasEntry reading.last IsNotOne)
      → FaultNext k reading (OfDump (NotADump number))
  not_one None number place has = tt
  not_one (Some x) number place has = inr (has, place)

  pub fault_next : (at : ℕ) (fault : CommandFault) → at ≡ reading.line → IsFaultBelow at text fault → FaultNext known reading fault
  fault_next at (Text number fault) is below =
      has_entry (λ t. IsFaultIn reading.line t (Text number fault)) (below.0, below.1, below.2 ∙ ap (λ n. counted (n + below.0)) is)
  fault_next at (OfDump (NotADump number)) is below = not_one known number (below.1 ∙ is) (has_entry IsNotOne below.0)
  fault_next at (OfDump NewerFormat) is below = below
  fault_next at (OfDump Read) is below = tt
  fault_next at (OfDump TooLong) is below = absurd below
  fault_next at (OfDump Memory) is below = tt
