-- Replies to commands that were applied all or none: one more, all of them, and the last line.
use Rattle.std.proofs.Common.{◌≡◌, ◌∙◌, ◌⊎◌, inl, inr, ◌<◌, ◌≤◌, ◌+◌, ℕ, List, [], ◌∷◌, ◌++◌, Option, Err, length, take, drop, get_or, zero, suc, add-one, append_assoc, append-nil, length-append, take-append-drop, refl, sym, ap, subst, arith}
use Rattle.std.proofs.KnownBytes.{Appends-trans}
use Rattle.std.proofs.Math.Seq.{take-suc}
use Rattle.std.proofs.lemmas.List.{get_or_default}
use Rattle.std.proofs.lemmas.List.FromFn.{get_or-range_with_len}
use Rattle.std.specs.Io.KnownBytes.{Appends}
use Rattle.std.specs.List.{range_with_len}
use Rattle.lot_book.specs.declared.verdict.Verdict.{Verdict}
use Rattle.lot_book.specs.declared.verdict.Verdict.TheVariants.{Accepted, Refused, Repeated}
use Rattle.lot_report.specs.Printed.{replies, reply}
use Rattle.lot_report.specs.Written.{AppendsPrefix, IsPrefixOf, IsProperPrefixOf, WritesLine}
use Rattle.lot_report.specs.declared.line.PrintFault.{PrintFault}
use Rattle.lot_report.specs.declared.line.PrintFault.TheVariants.{Write, Memory as Unwritten}
use Rattle.lot_store.specs.Run.{count_refused}
use Rattle.lot_store.specs.declared.run.Ending.{Ending}
use Rattle.lot_store.specs.declared.run.Ending.TheVariants.{Output}
use Rattle.lot_atomic.specs.Replies.{RepliesAll, RepliesCut, WritesLast, WritesPart, WritesWhole, last_line, number_at, replies_by}
use Rattle.lot_atomic.specs.declared.all_or_none.Ended.{Ended}

-- ---- numbers

-- the number of a command that has one
pub numbered : (numbers : List ℕ) (place other : ℕ) → place < length numbers → get_or numbers place other ≡ number_at numbers place
numbered numbers place other within = get_or_default numbers place other (get_or numbers 0 1) within

-- one reply, between those before it and those behind it
replies_split : (numbers : List ℕ) (done : List Verdict) (next : Verdict) (left : List Verdict) (other : ℕ) → length done < length numbers
    → replies_by numbers (done ++ next ∷ left)
    ≡ replies_by numbers done ++ (reply (get_or numbers (length done) other) next ++ replies_by (drop (suc (length done)) numbers) left)
replies_split [] done next left other within = let none : ⊥ = omega (arith, within) in absurd none
replies_split (number ∷ numbers) [] next left other within = refl
replies_split (number ∷ numbers) (v ∷ done) next left other within =
    ap (λ text. reply number v ++ text) (replies_split numbers done next left other (omega (arith, within)))
    ∙ sym (append_assoc (reply number v) (replies_by numbers done)
    (reply (get_or numbers (length done) other) next ++ replies_by (drop (suc (length done)) numbers) left))

-- one reply more
replies_one : (numbers : List ℕ) (done : List Verdict) (next : Verdict) → length done < length numbers
    → replies_by numbers (done ++ next ∷ []) ≡ replies_by numbers done ++ reply (number_at numbers (length done)) next
replies_one numbers done next within =
    replies_split numbers done next [] (get_or numbers 0 1) within
    ∙ ap (λ text. replies_by numbers done ++ text) (append-nil (reply (number_at numbers (length done)) next))

-- with numbers that follow one another they are those of a run
pub replies_in_a_row : (from count : ℕ) (verdicts : List Verdict) → length verdicts ≤ count
    → replies_by (range_with_len from count) verdicts ≡ replies from verdicts
replies_in_a_row from count [] few = refl
replies_in_a_row from zero (v ∷ verdicts) few = let none : ⊥ = omega (arith, few) in absurd none
replies_in_a_row from (suc count) (v ∷ verdicts) few =
    ap (λ text. reply from v ++ text)
    (replies_in_a_row (from + 1) count verdicts (omega (arith, few)) ∙ ap (λ n. replies n verdicts) counted_on)
  where
    counted_on : from + 1 ≡ suc from
    counted_on = omega arith

pub number_in_a_row : (from count place : ℕ) → place < count → number_at (range_with_len from count) place ≡ place + from
number_in_a_row from count place within =
    get_or-range_with_len from count place (get_or (range_with_len from count) 0 1) within ∙ swapped
  where
    swapped : from + place ≡ place + from
    swapped = omega arith

-- ---- one more

refused_more : (verdicts : List Verdict) (verdict : Verdict) → count_refused (verdicts ++ verdict ∷ []) ≡ count_refused verdicts + count_refused (verdict ∷ [])
refused_more [] verdict = omega arith
refused_more (Accepted ∷ verdicts) verdict = refused_more verdicts verdict
refused_more (Repeated ∷ verdicts) verdict = refused_more verdicts verdict
refused_more (Refused refusal ∷ verdicts) verdict = omega (arith, refused_more verdicts verdict)

-- one reply more, or not all of it
module _ (verdicts : List Verdict) (numbers : List ℕ) (enough : length verdicts ≤ length numbers) (index number refused : ℕ) (next other : Verdict)
    (is_next : next ≡ get_or verdicts index other) (within : index < length verdicts) (is_number : number ≡ number_at numbers index)
    (old now new : Option (List ℕ)) (so : RepliesAll numbers (take index verdicts) index refused old now) where
  taken : take (index + 1) verdicts ≡ take index verdicts ++ next ∷ []
  taken = rw add-one (take-suc verdicts index other within) ∙ ap (λ (v : Verdict). take index verdicts ++ v ∷ []) (sym is_next)

  all_of : verdicts ≡ take index verdicts ++ next ∷ drop (index + 1) verdicts
  all_of =
      sym (take-append-drop (index + 1) verdicts) ∙ ap (λ (vs : List Verdict). vs ++ drop (index + 1) verdicts) taken
      ∙ append_assoc (take index verdicts) (next ∷ []) (drop (index + 1) verdicts)

  has_number : number ≡ number_at numbers (length (take index verdicts))
  has_number = is_number ∙ ap (number_at numbers) so.count

  pub one_more : Appends now new (reply number next) → RepliesAll numbers (take (index + 1) verdicts) (index + 1) (refused + count_refused (next ∷ [])) old new
  one_more printed = subst (λ (vs : List Verdict). RepliesAll numbers vs (index + 1) (refused + count_refused (next ∷ [])) old new) (sym taken) (record {
    count = sym (length-append (take index verdicts) (next ∷ []) ∙ ap (λ n. n + 1) (sym so.count));
    refusals = ap (λ n. n + count_refused (next ∷ [])) so.refusals ∙ sym (refused_more (take index verdicts) next);
    written = subst (Appends old new) (sym (replies_one numbers (take index verdicts) next (omega (arith, so.count, within, enough))))
        (Appends-trans old now new (replies_by numbers (take index verdicts)) (reply (number_at numbers (length (take index verdicts))) next) so.written
        (subst (λ n. Appends now new (reply n next)) has_number printed));
  })

  pub one_cut : AppendsPrefix now new (reply number next) → RepliesCut numbers verdicts index refused old new
  one_cut (part, is_part, printed) = record {
    done = take index verdicts;
    next = next;
    left = drop (index + 1) verdicts;
    split = all_of;
    count = so.count;
    refusals = so.refusals;
    part = part;
    is_part = subst (λ n. IsProperPrefixOf part (reply n next)) has_number is_part;
    written = Appends-trans old now new (replies_by numbers (take index verdicts)) part so.written printed;
  }

-- a reply that isn't written whole is so for the writer alone
pub cut_by_writer : (fault : PrintFault) (old new : Option (List ℕ)) (text : List ℕ)
    → fault ≡ Write → WritesLine old new (Err fault) text → AppendsPrefix old new text
cut_by_writer Write old new text is written = written
cut_by_writer Unwritten old new text is written = absurd cc

-- ---- all of it

-- a prefix of a text that stands between others
prefix_between : (front part text back : List ℕ) → IsPrefixOf part text → IsPrefixOf (front ++ part) (front ++ (text ++ back))
prefix_between front part text back (rest, is) = (
  rest ++ back,
  ap (λ t. front ++ (t ++ back)) is ∙ ap (λ t. front ++ t) (append_assoc part rest back) ∙ sym (append_assoc front part (rest ++ back)),
)

prefix_behind : (front part text : List ℕ) → IsPrefixOf part text → IsPrefixOf (front ++ part) (front ++ text)
prefix_behind front part text (rest, is) = (rest, ap (λ t. front ++ t) is ∙ sym (append_assoc front part rest))

module _ (numbers : List ℕ) (verdicts : List Verdict) (ended : Ended) (replied refused : ℕ) (old : Option (List ℕ)) where
  -- all are replied to, and then the last line is written, or not
  pub then_last : (ending : Ending) (mid new : Option (List ℕ)) → RepliesAll numbers verdicts replied refused old mid → WritesLast (number_at numbers replied) ended mid new ending
      → WritesWhole numbers verdicts ended (record { replied = replied; refused = refused; ending = ending }) old new
      ⊎ WritesPart numbers verdicts ended (record { replied = replied; refused = refused; ending = ending }) old new
  then_last ending mid new so last = by last
    where
      has_number : number_at numbers replied ≡ number_at numbers (length verdicts)
      has_number = ap (number_at numbers) so.count

      by : WritesLast (number_at numbers replied) ended mid new ending
          → WritesWhole numbers verdicts ended (record { replied = replied; refused = refused; ending = ending }) old new
          ⊎ WritesPart numbers verdicts ended (record { replied = replied; refused = refused; ending = ending }) old new
      by (inl (is, printed)) = inl (record {
        ending = is;
        replied = so.count;
        refused = so.refusals;
        written = Appends-trans old mid new (replies_by numbers verdicts) (last_line (number_at numbers (length verdicts)) ended) so.written
            (subst (λ n. Appends mid new (last_line n ended)) has_number printed);
      })
      by (inr (is, (part, is_part, printed))) =
          let begins : IsPrefixOf part (last_line (number_at numbers (length verdicts)) ended) = subst (λ n. IsPrefixOf part (last_line n ended)) has_number is_part in
          inr (record {
            ending = is;
            done = verdicts;
            left = [];
            split = sym (append-nil verdicts);
            replied = so.count;
            refused = so.refusals;
            part = part;
            is_part = begins;
            is_prefix = prefix_behind (replies_by numbers verdicts) part (last_line (number_at numbers (length verdicts)) ended) begins;
            written = Appends-trans old mid new (replies_by numbers verdicts) part so.written printed;
          })

  -- the writer failed at a reply
  pub ends_cut : length verdicts ≤ length numbers → (new : Option (List ℕ)) → RepliesCut numbers verdicts replied refused old new
      → WritesPart numbers verdicts ended (record { replied = replied; refused = refused; ending = Output }) old new
  ends_cut enough new so = record {
    ending = refl;
    done = so.done;
    left = so.next ∷ so.left;
    split = so.split;
    replied = so.count;
    refused = so.refusals;
    part = so.part;
    is_part = so.is_part;
    is_prefix = subst (IsPrefixOf (replies_by numbers so.done ++ so.part)) (sym whole)
        (prefix_between (replies_by numbers so.done) so.part (reply number so.next) (behind ++ last) (proper so.is_part));
    written = so.written;
  }
    where
      number : ℕ
      number = number_at numbers (length so.done)

      behind : List ℕ
      behind = replies_by (drop (suc (length so.done)) numbers) so.left

      last : List ℕ
      last = last_line (number_at numbers (length verdicts)) ended

      proper : IsProperPrefixOf so.part (reply number so.next) → IsPrefixOf so.part (reply number so.next)
      proper (byte, rest, is) = (byte ∷ rest, is)

      has : length so.done < length numbers
      has = omega (arith, enough, ap length so.split, length-append so.done (so.next ∷ so.left))

      whole : replies_by numbers verdicts ++ last ≡ replies_by numbers so.done ++ (reply number so.next ++ (behind ++ last))
      whole =
          ap (λ (vs : List Verdict). replies_by numbers vs ++ last) so.split
          ∙ ap (λ text. text ++ last) (replies_split numbers so.done so.next so.left (get_or numbers 0 1) has)
          ∙ append_assoc (replies_by numbers so.done) (reply number so.next ++ behind) last
          ∙ ap (λ text. replies_by numbers so.done ++ text) (append_assoc (reply number so.next) behind last)
