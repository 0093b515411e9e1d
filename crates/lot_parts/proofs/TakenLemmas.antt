-- A dump of commands is taken: no fault says that it is none.
use Rattle.std.proofs.Common.{◌≡◌, ◌<◌, inl, inr, ℕ, List, [], ◌∷◌, ◌++◌, Option, None, Some, refl, ap, ◌∙◌, sym, subst, arith, append_assoc, append-nil, length}
use Rattle.std.specs.Prelude.{◌⊎◌, flat_map}
use Rattle.std.proofs.lemmas.Option.{same_Some}
use Rattle.std.specs.Io.KnownBytes.{Consumes, prepend_known}
use Rattle.lot_command.specs.declared.command.Command.{Command}
use Rattle.lot_read.specs.Text.{Reads}
use Rattle.lot_read.proofs.TextLaws.{not_both as reads_or_faults, reads_one}
use Rattle.lot_syntax.specs.Line.{IsLine}
use Rattle.lot_report.specs.Printed.{line}
use Rattle.lot_dump.specs.Form.{IsAnyHead, IsEnd, IsHead, any_head_text, end_text, head_text, heading_text, of_this_format, this_edition, this_format}
use Rattle.lot_dump.specs.declared.end.End.{End}
use Rattle.lot_dump.specs.declared.head.Head.{Head}
use Rattle.lot_dump.specs.Cutting.{any_head_of}
use Rattle.lot_dump.proofs.HeadLemmas.{any_head_found}
use Rattle.lot_dump.proofs.HeadingLemmas.{heading_one}
use Rattle.lot_parts.specs.Commands.{FaultAbove, FaultNext, HasEntry, IsDumpOf, IsFaultIn, IsNotOne, IsReadTo, MayEnd, SayAll, Says, front_text}
use Rattle.lot_parts.specs.Dump.{AreParts, Dump, Front, IsDump, IsLedger, Part, last_number, part_text, rest_text}
use Rattle.lot_parts.specs.Reading.{BeginsNewer, BeginsOther, IsSomeRest, LeavesAt, Reading}
use Rattle.lot_parts.specs.declared.commands.CommandFault.{CommandFault}
use Rattle.lot_parts.specs.declared.commands.CommandFault.TheVariants.{Dump as OfDump, Text}
use Rattle.lot_parts.specs.declared.dumped.Dumped.{Dumped}
use Rattle.lot_parts.specs.declared.fault.DumpFault.TheVariants.{Memory, NewerFormat, NotADump, Read, TooLong}
use Rattle.lot_parts.proofs.CommandLemmas.{other_behind}
use Rattle.lot_parts.proofs.DumpLemmas.{behind_first, first_line, first_of, first_other, heading_other, not_both, of_first, part_first, rest_first, same_ledger, same_part}
use Rattle.lot_parts.proofs.LineLemmas.{any_head_line, head_line, heading_line, same_first}

-- ---- one text

-- ledger text ends where a line is none
same_above : (s t x y : List ℕ) → IsLedger s → IsLedger t → BeginsOther x → BeginsOther y → s ++ x ≡ t ++ y → (s ≡ t) × (x ≡ y)
same_above s t x y is_s is_t (l, a, line_l, other_l, is_x) (m, b, line_m, other_m, is_y) whole =
    let all =
    same_ledger l m a b line_l other_l line_m other_m s t is_s is_t (ap (λ u. s ++ u) (sym is_x) ∙ whole ∙ ap (λ u. t ++ u) is_y) in
    (all.0, is_x ∙ ap (λ u. line u ++ a) all.1 ∙ ap (λ u. line m ++ u) all.2 ∙ sym is_y)

rest_other : (last : ℕ) (parts : List Part) (end : End) → AreParts last parts → IsEnd end → BeginsOther (rest_text parts end)
rest_other last parts end are is =
    (first_of parts end, behind_first parts end, first_line last parts end are is, first_other parts end, rest_first parts end)

parts_other : (last : ℕ) (parts : List Part) (ahead : List ℕ) → AreParts last parts → BeginsOther ahead
    → BeginsOther (flat_map part_text parts ++ ahead)
parts_other last [] ahead are other = other
parts_other last (part ∷ parts) ahead are other = (
  heading_text part.heading,
  part.text ++ (flat_map part_text parts ++ ahead),
  heading_line part.heading are.1,
  heading_other part.heading,
  append_assoc (part_text part) (flat_map part_text parts) ahead ∙ part_first part (flat_map part_text parts ++ ahead),
)

-- the first part of a text is that of the rest of a dump
first_part : (last also : ℕ) (p : Part) (x : List ℕ) (qs : List Part) (e : End) → AreParts last (p ∷ []) → AreParts also qs → IsEnd e
    → BeginsOther x → part_text p ++ x ≡ rest_text qs e → (more : List Part) × (qs ≡ p ∷ more) × (x ≡ rest_text more e)
first_part last also p x [] e one two end_e other whole =
    let both = of_first also [] e (heading_text p.heading) (p.text ++ x) two end_e (heading_line p.heading one.1) (sym (part_first p x) ∙ whole) in
    absurd (not_both p.heading e both.0)
first_part last also p x (q ∷ qs) e one two end_e other whole =
    let both =
    of_first also (q ∷ qs) e (heading_text p.heading) (p.text ++ x) two end_e (heading_line p.heading one.1) (sym (part_first p x) ∙ whole) in
    let below = same_above p.text q.text x (rest_text qs e) one.2 two.2 other (rest_other q.heading.number qs e two.3 end_e) both.1 in
    let same = same_part p q (heading_one p.heading q.heading one.1 two.1 both.0) below.0 in
    (qs, ap (λ (r : Part). r ∷ qs) (sym same), below.1)

parts_of : (last also : ℕ) (ps qs : List Part) (e : End) (ahead : List ℕ) → AreParts last ps → AreParts also qs → IsEnd e → BeginsOther ahead
    → flat_map part_text ps ++ ahead ≡ rest_text qs e → (more : List Part) × (qs ≡ ps ++ more) × (ahead ≡ rest_text more e)
parts_of last also [] qs e ahead one two end_e other whole = (qs, refl, whole)
parts_of last also (p ∷ ps) qs e ahead one two end_e other whole =
    let x = flat_map part_text ps ++ ahead in
    let first =
    first_part last also p x qs e (one.0, one.1, one.2, tt) two end_e (parts_other p.heading.number ps ahead one.3 other)
    (sym (append_assoc (part_text p) (flat_map part_text ps) ahead) ∙ whole) in
    let are : AreParts also (p ∷ first.0) = subst (AreParts also) first.1 two in
    let more = parts_of p.heading.number p.heading.number ps first.0 e ahead one.3 are.3 end_e other (first.2) in
    (more.0, first.1 ∙ ap (λ r. p ∷ r) more.1, more.2)

are_rest : (last : ℕ) (ps qs : List Part) → AreParts last (ps ++ qs) → AreParts (last_number last ps) qs
are_rest last [] qs are = are
are_rest last (p ∷ ps) qs are = are_rest p.heading.number ps qs are.3

say_rest : (ps qs : List Part) (commands : List Dumped) → SayAll (ps ++ qs) commands → (more : List Dumped) × SayAll qs more
say_rest [] qs commands says = (commands, says)
say_rest (p ∷ ps) qs [] says = absurd says
say_rest (p ∷ ps) qs (c ∷ commands) says = say_rest ps qs commands says.1

-- ---- what a text says

says_no_fault : (text : List ℕ) (commands : List Command) (at number : ℕ) (fault : _) → Reads text commands
    → IsFaultIn at text (Text number fault) → ⊥
says_no_fault text commands at number fault reads (below, is, place) = reads_or_faults text commands below fault reads is

says_one : (text : List ℕ) (command : Command) → Reads text (command ∷ []) → IsNotOne text → ⊥
says_one text command reads (commands, others, long) = long (ap length (reads_one text commands (command ∷ []) others reads))

-- what leaves a kind is not of it
leaves_no : {Kind : List ℕ → Type 0} {first number : ℕ} {text : List ℕ} → LeavesAt Kind first number text → Kind text → ⊥
leaves_no {Kind} leaves kind = leaves.none leaves.behind (subst Kind leaves.whole kind) (inl refl)

module _ (text : List ℕ) (dump : Dump) (commands : List Dumped) (is : IsDumpOf text dump commands) where
  whole_is : text ≡ line (head_text dump.head) ++ (dump.above ++ rest_text dump.parts dump.end)
  whole_is = is.0.4

  -- ---- above the first heading

  below_head : (head : Head) (x : List ℕ) → IsHead head → text ≡ line (head_text head) ++ x → x ≡ dump.above ++ rest_text dump.parts dump.end
  below_head head x is_head whole =
      (same_first (head_text head) (head_text dump.head) x (dump.above ++ rest_text dump.parts dump.end) (head_line head is_head)
      (head_line dump.head is.0.0) (sym whole ∙ whole_is)).1

  above_is : (head : Head) (above rest : List ℕ) → IsHead head → IsLedger above → BeginsOther rest
      → text ≡ line (head_text head) ++ (above ++ rest) → (above ≡ dump.above) × (rest ≡ rest_text dump.parts dump.end)
  above_is head above rest is_head ledger other whole =
      same_above above dump.above rest (rest_text dump.parts dump.end) ledger is.0.1 other (rest_other 0 dump.parts dump.end is.0.2 is.0.3)
      (below_head head (above ++ rest) is_head whole)

  reads_above : (above : List ℕ) → above ≡ dump.above → Reads above []
  reads_above above same = subst (λ t. Reads t []) (sym same) is.1

  not_newer : BeginsNewer text → ⊥
  not_newer (first, x, (head, numbers, is_first, later), whole) =
      let both =
      same_first first (head_text dump.head) x (dump.above ++ rest_text dump.parts dump.end)
      (subst (λ (t : List ℕ). IsLine t) (sym is_first) (any_head_line head numbers)) (head_line dump.head is.0.0) (sym whole ∙ whole_is) in
      let same =
      same_Some head (of_this_format dump.head)
      (sym (any_head_found head numbers) ∙ ap any_head_of (sym is_first ∙ both.0)
      ∙ any_head_found (of_this_format dump.head) (omega arith, omega arith, is.0.0.0, is.0.0.1)) in
      elim later [
        | inl format ↦ omega (arith, format, ap (λ h. h.format) same)
        | inr edition ↦ omega (arith, edition, ap (λ h. h.edition) same)
      ]

  pub taken_above : (fault : CommandFault) → FaultAbove (Some text) fault → MayEnd fault
  taken_above (Text number fault) (head, above, rest, is_head, ledger, other, whole, kind) =
      says_no_fault above [] 1 number fault (reads_above above (above_is head above rest is_head ledger other whole).0) kind
  taken_above (OfDump (NotADump number)) (inl leaves) = leaves_no leaves (dump, is.0)
  taken_above (OfDump (NotADump number)) (inr ((head, above, rest, is_head, ledger, other, whole, (others, reads, some)), place)) =
      some (reads_one above others [] reads (reads_above above (above_is head above rest is_head ledger other whole).0))
  taken_above (OfDump NewerFormat) newer = not_newer newer
  taken_above (OfDump Read) is_so = tt
  taken_above (OfDump TooLong) long = tt
  taken_above (OfDump Memory) is_so = tt

  -- ---- behind a front

  module _ (now : Option (List ℕ)) (reading : Reading) (front : Front) (before : List Dumped) (to : IsReadTo (Some text) now reading front before) where
    -- what is left is the rest of its parts
    left : (ahead : List ℕ) → BeginsOther ahead → text ≡ front_text front ++ ahead
        → (more : List Part) × (dump.parts ≡ front.parts ++ more) × (ahead ≡ rest_text more dump.end)
    left ahead other whole =
        let behind = flat_map part_text front.parts ++ ahead in
        let cut : text ≡ line (head_text front.head) ++ (front.above ++ behind) =
        whole ∙ append_assoc (line (head_text front.head)) (front.above ++ flat_map part_text front.parts) ahead
        ∙ ap (λ t. line (head_text front.head) ++ t) (append_assoc front.above (flat_map part_text front.parts) ahead) in
        let below = above_is front.head front.above behind to.is_head to.ledger (parts_other 0 front.parts ahead to.parts other) cut in
        parts_of 0 0 front.parts dump.parts dump.end ahead to.parts is.0.2 is.0.3 other below.1

    says_next : (more : List Part) (part : Part) (rest : List ℕ) → dump.parts ≡ front.parts ++ more → AreParts reading.last (part ∷ [])
        → BeginsOther rest → part_text part ++ rest ≡ rest_text more dump.end → (command : Command) × Reads part.text (command ∷ [])
    says_next more part rest parts are other whole =
        let are_more = are_rest 0 front.parts more (subst (AreParts 0) parts is.0.2) in
        let first = first_part reading.last (last_number 0 front.parts) part rest more dump.end are are_more is.0.3 other whole in
        by (say_rest front.parts more commands (subst (λ ps. SayAll ps commands) parts is.2)) first
      where
        by : (said : List Dumped) × SayAll more said → (others : List Part) × (more ≡ part ∷ others) × (rest ≡ rest_text others dump.end)
            → (command : Command) × Reads part.text (command ∷ [])
        by (said, says) (others, first, same) = one said (subst (λ ps. SayAll ps said) first says)
          where
            one : (said : List Dumped) → SayAll (part ∷ others) said → (command : Command) × Reads part.text (command ∷ [])
            one [] says = absurd says
            one (dumped ∷ said) says = (dumped.command, says.0.2)

    no_entry : (ahead : List ℕ) (Kind : List ℕ → Type 0) → ((command : Command) (t : List ℕ) → Reads t (command ∷ []) → Kind t → ⊥)
        → (more : List Part) × (dump.parts ≡ front.parts ++ more) × (ahead ≡ rest_text more dump.end) → HasEntry reading.last Kind ahead → ⊥
    no_entry ahead Kind none (more, parts, same) (part, rest, are, other, whole, kind) =
        let says = says_next more part rest parts are other (sym whole ∙ same) in
        none says.0 part.text says.1 kind

    is_rest : (ahead : List ℕ) → (more : List Part) × (dump.parts ≡ front.parts ++ more) × (ahead ≡ rest_text more dump.end)
        → IsSomeRest reading.last ahead
    is_rest ahead (more, parts, same) = (
      more,
      dump.end,
      (
        subst (λ n. AreParts n more) (sym to.last) (are_rest 0 front.parts more (subst (AreParts 0) parts is.0.2)),
        is.0.3,
        same,
      ),
    )

    by_ahead : (ahead : List ℕ) → (more : List Part) × (dump.parts ≡ front.parts ++ more) × (ahead ≡ rest_text more dump.end)
        → (fault : CommandFault) → FaultNext (Some ahead) reading fault → MayEnd fault
    by_ahead ahead at (Text number fault) has =
        no_entry ahead (λ t. IsFaultIn reading.line t (Text number fault))
        (λ command t reads kind. says_no_fault t (command ∷ []) reading.line number fault reads kind) at has
    by_ahead ahead at (OfDump (NotADump number)) (inl leaves) = leaves_no leaves (is_rest ahead at)
    by_ahead ahead at (OfDump (NotADump number)) (inr (has, place)) =
        no_entry ahead IsNotOne (λ command t reads kind. says_one t command reads kind) at has
    by_ahead ahead at (OfDump NewerFormat) none = none
    by_ahead ahead at (OfDump Read) is_so = tt
    by_ahead ahead at (OfDump TooLong) long = tt
    by_ahead ahead at (OfDump Memory) is_so = tt

    pub taken_next : (fault : CommandFault) → FaultNext (prepend_known reading.ahead now) reading fault → MayEnd fault
    taken_next fault fails = by now to.takes fails
      where
        behind_other : (x : List ℕ) → BeginsOther (reading.ahead ++ x)
        behind_other x = other_behind reading.ahead x to.other

        by : (n : Option (List ℕ)) → Consumes (Some text) (prepend_known reading.ahead n) (front_text front)
            → FaultNext (prepend_known reading.ahead n) reading fault → MayEnd fault
        by None takes fails = absurd takes
        by (Some x) takes fails = by_ahead (reading.ahead ++ x) (left (reading.ahead ++ x) (behind_other x) takes) fault fails
