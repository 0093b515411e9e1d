-- What is read ahead and what a reader has left is one text, of which lines are taken.
use Rattle.std.proofs.Common.{◌≡◌, ◌≢◌, ◌<◌, ◌≤◌, ◌+◌, ◌-◌, ℕ, inl, inr, List, [], ◌∷◌, ◌++◌, length, take, drop, Option, None, Some, Bor, refl, ap, ◌∙◌, sym, subst, arith, append_assoc, append-nil, length-append}
use Rattle.std.specs.Prelude.{Result, Ok, Err, option_map}
use Rattle.std.specs.Io.KnownBytes.{Consumes, IsAtEnd, prepend_known}
use Rattle.std.specs.declared.io.Error.{Error}
use Rattle.std.proofs.lemmas.Bool.{and_from, and_parts}
use Rattle.std.specs.IoError.{error_kind}
use Rattle.std.specs.declared.io.ErrorKind.{ErrorKind}
use Rattle.std.proofs.Math.Seq.{drop-append_seam}
use Rattle.std.proofs.lemmas.List.{drop-drop, drop-take, length-take}
use Rattle.lot_io.specs.Reads.{Counts, CountsRead, GrowsBy, IsCall, ReadCalls, ReadsMade}
use Rattle.lot_stream.specs.Input.{NoneFailed}
use Rattle.lot_syntax.specs.Line.{IsLine}
use Rattle.lot_dump.specs.Cutting.{cut_of, parts}
use Rattle.lot_dump.specs.Lines.{EndsFor, HasLongLine, Made, TakesAhead, longest_input_line}
use Rattle.lot_dump.specs.declared.lines.Found.{Found}
use Rattle.lot_dump.specs.declared.lines.Found.TheVariants.{Part, Whole}
use Rattle.lot_dump.specs.declared.lines.LineFault.{LineFault}
use Rattle.lot_dump.specs.declared.lines.LineFault.TheVariants.{Memory, Read, TooLong}
use Rattle.lot_dump.proofs.CutLemmas.{Stood, cut_stood}

-- ---- Where the line end is.

module _ (ahead : List ℕ) (cut : Option (Bor (List ℕ) × Bor (List ℕ))) (is : cut_of 10 ahead ≡ option_map parts cut) where
  pub cut_there : (p : Bor (List ℕ) × Bor (List ℕ)) → cut ≡ Some p → (ahead ≡ p.0.now ++ 10 ∷ p.1.now) × IsLine p.0.now
  cut_there p at = subst (Stood 10 ahead) (is ∙ ap (option_map parts) at) (cut_stood 10 ahead)

  pub cut_nowhere : cut ≡ None → IsLine ahead
  cut_nowhere at = subst (Stood 10 ahead) (is ∙ ap (option_map parts) at) (cut_stood 10 ahead)

-- nothing was put behind the line
pub takes_none : (ahead line after part rest : List ℕ) (fault : LineFault) → after ≡ line
    → (fault ≡ TooLong → longest_input_line < length line + length part) → fault ≢ Read → IsLine part → ahead ≡ part ++ rest
    → TakesAhead ahead line ahead after (Err fault)
takes_none ahead line after part rest TooLong same long other is whole = (refl, same, (part, rest, is, whole, long refl))
takes_none ahead line after part rest Memory same long other is whole = (refl, same)
takes_none ahead line after part rest Read same long other is whole = absurd (other refl)

-- ---- What calls come to.

together : (old mid new a b both : ReadCalls) → GrowsBy old mid a → GrowsBy mid new b
    → (both.made ≡ a.made + b.made) × (both.failed ≡ a.failed + b.failed) × (both.ended ≡ a.ended + b.ended) × (both.given ≡ a.given + b.given)
    → GrowsBy old new both
together old mid new a b both one two is =
    (omega (arith, one.0, two.0, is.0), omega (arith, one.1, two.1, is.1), omega (arith, one.2, two.2, is.2), omega (arith, one.3, two.3, is.3))

abbrev sum_of : ReadCalls → ReadCalls → ReadCalls
sum_of a b = record { made = a.made + b.made; failed = a.failed + b.failed; ended = a.ended + b.ended; given = a.given + b.given }

counts_on : (old mid new : Option ReadCalls) (a b : ReadCalls) → Counts old mid a → Counts mid new b → Counts old new (sum_of a b)
counts_on None mid new a b one two = tt
counts_on (Some old) None new a b one two = absurd one
counts_on (Some old) (Some mid) None a b one two = absurd two
counts_on (Some old) (Some mid) (Some new) a b one two = together old mid new a b (sum_of a b) one two (refl, refl, refl, refl)

abbrev pub between : Option ReadCalls → Option ReadCalls → ReadsMade
between old new = record { before = old; after = new }

-- more calls after some
pub made_on : (old mid new : Option ReadCalls) (m k n j : ℕ) → Made (between old mid) m k → Made (between mid new) n j → Made (between old new) (m + n) (k + j)
made_on old mid new m k n j (a, one, made, failed) (b, two, more, worse) =
    (sum_of a b, counts_on old mid new a b one two, omega (arith, made, more), omega (arith, failed, worse))

pub none_made : (known : Option ReadCalls) → Made (between known known) 0 0
none_made None = (record { made = 0; failed = 0; ended = 0; given = 0 }, tt, refl, refl)
none_made (Some calls) =
    (record { made = 0; failed = 0; ended = 0; given = 0 }, (omega arith, omega arith, omega arith, omega arith), refl, refl)

pub none_failed : (old new : Option ReadCalls) (made : ℕ) → Made (between old new) made 0 → NoneFailed (between old new)
none_failed old new made (calls, counts, is, none) = (calls, counts, none)

-- one call
pub one_call : (old new : Option ReadCalls) (outcome : Result ℕ Error) (failed : ℕ) → CountsRead old new outcome
    → ((call : ReadCalls) → IsCall outcome call → (call.made ≡ 1) × (call.failed ≡ failed)) → Made (between old new) 1 failed
one_call None new outcome failed counts is = (record { made = 1; failed = failed; ended = 0; given = 0 }, tt, refl, refl)
one_call (Some old) None outcome failed counts is = absurd counts
one_call (Some old) (Some new) outcome failed (call, one, grows) is = let both = is call one in (call, grows, both.0, both.1)

-- ---- What stands before what is left.

pub lines_join : (a b : List ℕ) → IsLine a → IsLine b → IsLine (a ++ b)
lines_join [] b one two = two
lines_join (x ∷ a) b one two = let parts = and_parts _ _ one in and_from _ _ parts.0 (lines_join a b parts.1 two)

-- what was ahead is taken
pub ahead_taken : (start left : Option (List ℕ)) (taken part ahead : List ℕ) → Consumes start (prepend_known (part ++ ahead) left) taken
    → Consumes start (prepend_known ahead left) (taken ++ part)
ahead_taken None left taken part ahead is = tt
ahead_taken (Some x) None taken part ahead is = absurd is
ahead_taken (Some x) (Some y) taken part ahead is =
    is ∙ ap (λ t. taken ++ t) (append_assoc part ahead y) ∙ sym (append_assoc taken part (ahead ++ y))

-- a call puts what the reader gave ahead
pub call_puts : (start old new : Option (List ℕ)) (taken ahead : List ℕ) → Consumes start (prepend_known [] old) taken → Consumes old new ahead
    → Consumes start (prepend_known ahead new) taken
call_puts None old new taken ahead is gave = tt
call_puts (Some x) None new taken ahead is gave = absurd is
call_puts (Some x) (Some y) None taken ahead is gave = absurd gave
call_puts (Some x) (Some y) (Some z) taken ahead is gave = is ∙ ap (λ t. taken ++ t) gave

-- the line goes on past the limit
pub long_line : (start left : Option (List ℕ)) (taken part rest : List ℕ) → Consumes start (prepend_known (part ++ rest) left) taken
    → IsLine taken → IsLine part → longest_input_line < length taken + length part → HasLongLine start
long_line None left taken part rest is line more long = tt
long_line (Some x) None taken part rest is line more long = absurd is
long_line (Some x) (Some y) taken part rest is line more long =
    let len = length-append taken part in (
      taken ++ part,
      rest ++ y,
      is ∙ ap (λ t. taken ++ t) (append_assoc part rest y) ∙ sym (append_assoc taken part (rest ++ y)),
      lines_join taken part line more,
      omega (arith, len, long),
    )

pub nothing_taken : (known : Option (List ℕ)) → Consumes known known []
nothing_taken None = tt
nothing_taken (Some x) = refl

-- nothing is ahead of a reader that is at its end
pub at_end : (left : Option (List ℕ)) (ahead : List ℕ) → ahead ≡ [] → IsAtEnd left → IsAtEnd (prepend_known ahead left)
at_end None ahead none end = tt
at_end (Some x) ahead none end = ap (λ a. a ++ x) none ∙ end

-- ---- Once round.

module _ (start old : Option (List ℕ)) (ahead taken now after : List ℕ) (before : Consumes start (prepend_known ahead old) taken) where
  pub part_goes : (new : Option (List ℕ)) (more : List ℕ) (found : Found) → found ≡ Part → TakesAhead ahead taken now after (Ok found)
      → Consumes old new more → Consumes start (prepend_known more new) after
  part_goes new more Whole is takes gave = cc
  part_goes new more Part is (line, none, same) gave =
      let all : Consumes start (prepend_known [] old) (taken ++ ahead) =
      ahead_taken start old taken ahead [] (subst (λ (t : List ℕ). Consumes start (prepend_known t old) taken) (sym (append-nil ahead)) before) in
      subst (Consumes start (prepend_known more new)) (sym same) (call_puts start old new (taken ++ ahead) more all gave)

  pub too_long_by : (fault : LineFault) → IsLine taken → TakesAhead ahead taken now after (Err fault) → fault ≡ TooLong → HasLongLine start
  too_long_by TooLong line (left, same, (part, rest, is, whole, long)) this =
      long_line start old taken part rest (subst (λ (t : List ℕ). Consumes start (prepend_known t old) taken) whole before) line is long
  too_long_by Memory line takes this = cc
  too_long_by Read line takes this = absurd takes

pub part_line : (ahead taken now after : List ℕ) (found : Found) → found ≡ Part → TakesAhead ahead taken now after (Ok found) → IsLine taken
    → IsLine after
part_line ahead taken now after Whole is takes line = cc
part_line ahead taken now after Part is (more, none, same) line = subst (λ (t : List ℕ). IsLine t) (sym same) (lines_join taken ahead line more)

pub ahead_cause : (all : ReadsMade) (made : ℕ) (ahead taken now after : List ℕ) (fault : LineFault) → TakesAhead ahead taken now after (Err fault)
    → Made all made 0 → EndsFor all fault
ahead_cause all made ahead taken now after TooLong takes calls = (made, calls)
ahead_cause all made ahead taken now after Memory takes calls = (made, calls)
ahead_cause all made ahead taken now after Read takes calls = absurd takes

pub read_cause : (all : ReadsMade) (made : ℕ) (fault : LineFault) → fault ≡ Read → Made all made 1 → EndsFor all fault
read_cause all made Read this calls = inl (made, calls)
read_cause all made TooLong this calls = cc
read_cause all made Memory this calls = cc

-- ---- What is ahead, in the chunk.

behind_byte : (part rest : List ℕ) → drop (length part + 1) (part ++ 10 ∷ rest) ≡ rest
behind_byte part rest = sym (drop-drop 1 (length part) (part ++ 10 ∷ rest)) ∙ ap (drop 1) (drop-append_seam part (10 ∷ rest))

-- behind a part and the byte after it
module _ (chunk : List ℕ) (start end : ℕ) (part rest : List ℕ) (order : start ≤ end)
    (is : take (end - start) (drop start chunk) ≡ part ++ 10 ∷ rest) where
  pub moved_within : start + (length part + 1) ≤ end
  moved_within =
      let whole = ap length is in
      let short = length-take (end - start) (drop start chunk) in
      let len = length-append part (10 ∷ rest) in
      omega (arith, whole, short, len, order)

  pub moved : take (end - (start + (length part + 1))) (drop (start + (length part + 1)) chunk) ≡ rest
  moved =
      let within = moved_within in
      let left : end - start ≡ (length part + 1) + (end - (start + (length part + 1))) = omega (arith, within, order) in
      sym (ap (λ t. take (end - (start + (length part + 1))) t) (drop-drop (length part + 1) start chunk))
      ∙ sym (drop-take (length part + 1) (end - (start + (length part + 1))) (drop start chunk))
      ∙ sym (ap (λ n. drop (length part + 1) (take n (drop start chunk))) left)
      ∙ ap (λ t. drop (length part + 1) t) is
      ∙ behind_byte part rest

pub none_ahead : (end : ℕ) (chunk : List ℕ) → take (end - end) (drop end chunk) ≡ []
none_ahead end chunk = let none : end - end ≡ 0 = omega arith in ap (λ n. take n (drop end chunk)) none

-- ---- One call, by its outcome.

pub gave_call : (outcome : Result ℕ Error) (count : ℕ) → outcome ≡ Ok count → (call : ReadCalls) → IsCall outcome call
    → (call.made ≡ 1) × (call.failed ≡ 0)
gave_call (Ok given) count at call is = (is.0, is.1)
gave_call (Err error) count at call is = cc

pub paused_call : (outcome : Result ℕ Error) (error : Error) → outcome ≡ Err error → error_kind error ≡ ErrorKind.Interrupted
    → (call : ReadCalls) → IsCall outcome call → (call.made ≡ 1) × (call.failed ≡ 0)
paused_call (Ok given) error at kind call is = cc
paused_call (Err other) error at kind call (one, inl (same, none), on, nothing) = (one, none)
paused_call (Err other) error at kind call (one, inr (differs, failed), on, nothing) =
    let this : other ≡ error = cc in absurd (differs (ap error_kind this ∙ kind))

pub failed_call : (outcome : Result ℕ Error) (error : Error) → outcome ≡ Err error → error_kind error ≢ ErrorKind.Interrupted
    → (call : ReadCalls) → IsCall outcome call → (call.made ≡ 1) × (call.failed ≡ 1)
failed_call (Ok given) error at kind call is = cc
failed_call (Err other) error at kind call (one, inl (same, none), on, nothing) =
    let this : other ≡ error = cc in absurd (kind (ap error_kind (sym this) ∙ same))
failed_call (Err other) error at kind call (one, inr (differs, failed), on, nothing) = (one, failed)
