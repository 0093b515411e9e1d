-- What is applied all or none is a session that keeps its commands so.
use Rattle.std.proofs.Common.{◌≡◌, ◌≢◌, ◌∙◌, ◌⊎◌, inl, inr, ap, refl, subst, suc, sym, arith, append-nil, IsTrue, List, [], ◌∷◌, ◌++◌, length, Option}
use Rattle.std.proofs.lemmas.List.{length-append}
use Rattle.std.specs.List.{AllByRecursion}
use Rattle.sqlite.specs.Effect.{Database}
use Rattle.sqlite.specs.State.{State}
use Rattle.sqlite.specs.Tree.{Trees}
use Rattle.lot_atomic.specs.AllOrNone.{ComesTo, KeepsAll, LeavesAll, LeavesAs, MayKeep, comes_to, joined, together}
use Rattle.lot_atomic.specs.declared.all_or_none.Ended.{Ended}
use Rattle.lot_atomic.specs.declared.all_or_none.Ended.TheVariants.{Dropped, Failed, Kept}
use Rattle.lot_book.specs.Facts.{Entry}
use Rattle.lot_book.specs.Judged.{JudgesAll, JudgesOn}
use Rattle.lot_book.specs.declared.verdict.Verdict.{Verdict}
use Rattle.lot_book.specs.declared.verdict.Verdict.TheVariants.{Accepted, Refused, Repeated}
use Rattle.lot_command.specs.declared.command.Command.{Command}
use Rattle.lot_command.specs.declared.key.Key.{Key}
use Rattle.lot_laws.proofs.JudgedLaws.{some_judged}
use Rattle.lot_rounding.specs.declared.asked.Asked.{Asked}
use Rattle.lot_rounding.specs.declared.rounding.Rounding.{Rounding}
use Rattle.lot_rows.specs.Tables.{layout}
use Rattle.lot_stored.specs.StandFor.{Left, Stands}
use Rattle.lot_store.proofs.RunLemmas.{turns_judge}
use Rattle.lot_store.specs.Run.{count_refused}
use Rattle.lot_store.specs.declared.fault.StoreFault.{StoreFault}
use Rattle.lot_store.specs.declared.fault.StoreFault.TheVariants.{Damaged, Device, InDoubt, Memory, NeedsReopen}
use Rattle.lot_table.specs.Book.{Holds}
use Rattle.lot_cli.specs.AllOrNone.{AppliedOn, that_count}
use Rattle.lot_cli.specs.Sessions.{AcknowledgeAll, AllOrNoneLeaves, AreAllKept}
use Rattle.lot_cli.specs.Reopen.{LeavesOneOf}

-- ---- commands judged one after another

-- each has its verdict
pub as_many : (before after : List Entry) (done : List (Key × Command)) (vs : List Verdict) → JudgesAll before done vs after → length done ≡ length vs
as_many before after [] [] all = refl
as_many before after [] (v ∷ vs) all = absurd all
as_many before after (c ∷ done) [] all = absurd all
as_many before after (c ∷ done) (v ∷ vs) all = ap suc (as_many all.0 after done vs all.2)

-- ---- verdicts together

abbrev AllRepeat : List Verdict → Type 0
AllRepeat vs = AllByRecursion (λ (v : Verdict). v ≡ Repeated) vs

repeats_refuse_none : (vs : List Verdict) → AllRepeat vs → count_refused vs ≡ 0
repeats_refuse_none [] all = refl
repeats_refuse_none (v ∷ vs) all = ap (λ (w : Verdict). count_refused (w ∷ vs)) all.0 ∙ repeats_refuse_none vs all.1

-- which verdicts come to what one comes to
abbrev Sums : List Verdict → Verdict → Type 0
Sums vs Accepted = count_refused vs ≡ 0
Sums vs Repeated = AllRepeat vs
Sums vs (Refused refusal) = count_refused vs ≢ 0

one_more : (v : Verdict) (vs : List Verdict) (one : Verdict) → together vs ≡ comes_to one → Sums vs one
    → (sum : Verdict) × (together (v ∷ vs) ≡ comes_to sum) × Sums (v ∷ vs) sum
one_more Accepted vs Accepted is sums = (Accepted, ap (joined (comes_to Accepted)) is, sums)
one_more Accepted vs Repeated is sums = (Accepted, ap (joined (comes_to Accepted)) is, repeats_refuse_none vs sums)
one_more Accepted vs (Refused refusal) is sums = (Refused refusal, ap (joined (comes_to Accepted)) is, sums)
one_more Repeated vs Accepted is sums = (Accepted, is, sums)
one_more Repeated vs Repeated is sums = (Repeated, is, (refl, sums))
one_more Repeated vs (Refused refusal) is sums = (Refused refusal, is, sums)
one_more (Refused refusal) vs one is sums = (Refused refusal, refl, λ none. absurd cc)

as_one : (vs : List Verdict) → (one : Verdict) × (together vs ≡ comes_to one) × Sums vs one
as_one [] = (Repeated, refl, tt)
as_one (v ∷ vs) = let rest = as_one vs in one_more v vs rest.0 rest.1 rest.2

-- where they accept, none refuses
accepts_refuse_none : (vs : List Verdict) → together vs ≡ comes_to Accepted → count_refused vs ≡ 0
accepts_refuse_none vs accepts = let one = as_one vs in by one.0 one.1 one.2
  where
    by : (one : Verdict) → together vs ≡ comes_to one → Sums vs one → count_refused vs ≡ 0
    by Accepted is sums = sums
    by Repeated is sums = repeats_refuse_none vs sums
    by (Refused refusal) is sums = let no : comes_to Accepted ≡ comes_to (Refused refusal) = sym accepts ∙ is in absurd cc

-- repeats alone leave the book
repeats_leave : (before after : List Entry) (commands : List (Key × Command)) (vs : List Verdict) → AllRepeat vs
    → JudgesAll before commands vs after → after ≡ before
repeats_leave before after [] [] repeat all = all
repeats_leave before after [] (v ∷ vs) repeat all = absurd all
repeats_leave before after (c ∷ commands) [] repeat all = absurd all
repeats_leave before after (c ∷ commands) (v ∷ vs) repeat all =
    let one : JudgesOn before c.0 c.1 Repeated all.0 = subst (λ (w : Verdict). JudgesOn before c.0 c.1 w all.0) repeat.0 all.1 in
    repeats_leave all.0 after commands vs repeat.1 all.2 ∙ one.1

-- ---- replies

-- where a command is refused, the replies don't acknowledge
not_acknowledged : (before after : List Entry) (commands : List (Key × Command)) (vs replied more : List Verdict) → JudgesAll before commands vs after
    → vs ≡ replied ++ more → count_refused vs ≢ 0 → ¬ AcknowledgeAll commands replied
not_acknowledged before after commands vs replied [] judged split some (many, none) =
    some (ap count_refused (split ∙ append-nil replied) ∙ none)
not_acknowledged before after commands vs replied (v ∷ more) judged split some (many, none) =
    absurd (omega (arith, many, as_many before after commands vs judged, ap length split, length-append replied (v ∷ more)))

none_before : (a b : List Verdict) → [] ≡ a ++ b → a ≡ []
none_before [] b is = refl
none_before (v ∷ a) b is = absurd cc

-- before any reply they may not be kept
none_replied : (before : List Entry) (commands : List (Key × Command)) → AllOrNoneLeaves before commands [] before
none_replied before [] = record { verdicts = []; whole = before; judged = refl; more = []; replies = refl; leaves = inl (refl, refl) }
none_replied before (c ∷ commands) =
    let run = some_judged before (c ∷ commands) in record {
      verdicts = run.0;
      whole = run.1;
      judged = run.2;
      more = run.0;
      replies = refl;
      leaves = inr (λ all. let no : 0 ≡ length (c ∷ commands) = all.0 in absurd cc, refl);
    }

-- ---- what a crash leaves

module _ (rounding : Option Rounding) (asked : List (Key × Asked)) (entries : List Entry) (old new : State) (verdicts : List Verdict) (ended : Ended)
    (it : AppliedOn rounding asked entries old new verdicts ended) where
  abbrev turned : List (Key × Command)
  turned = it.turned

  -- the book after all
  whole_left : (trees : Trees) → (together verdicts ≡ comes_to Accepted) × LeavesAll rounding asked turned verdicts old trees
      → (after : List Entry) × JudgesAll entries turned verdicts after × (count_refused verdicts ≡ 0) × Left trees after
  whole_left trees (accepts, leaves) =
      let on = leaves entries it.stands in
      (on.0, turns_judge rounding entries asked turned verdicts on.0 on.1, accepts_refuse_none verdicts accepts, on.2)

  -- one book of these
  abbrev LeftOf : (List Entry → Type 0) → Trees → Type 0
  LeftOf Books trees = (book : List Entry) × Books book × Left trees book

  -- what was committed is left
  committed_left : (after : List Entry) → Stands new after → new.now ≡ new.committed → (trees : Trees) → trees ≡ new.committed.trees → Left trees after
  committed_left after stands same trees is = record {
    book = stands.book;
    tables = stands.tables;
    holds = subst (λ (t : Trees). Holds layout t stands.tables) (ap (λ (db : Database). db.trees) same ∙ sym is) stands.has.1;
    stand = stands.stand;
  }

  -- Where they are kept, the book after all is left: it is committed, or what could be left before.
  module _ (after : List Entry) (judged : JudgesAll entries turned verdicts after) (shows : IsTrue new.is_open → Stands new after)
      (trees : Trees) (may : new.may_leave trees) where
    kept_left : (one : Verdict) → together verdicts ≡ comes_to one → Sums verdicts one → KeepsAll (comes_to one) old new
        → old.may_leave trees ⊎ MayKeep rounding asked turned verdicts Kept old trees → (count_refused verdicts ≡ 0) × Left trees after
    kept_left Accepted is sums keeps from = (sums, committed_left after (shows keeps.0) keeps.1 trees (it.safe keeps.0 trees may))
    kept_left Repeated is sums keeps (inl was) =
        (repeats_refuse_none verdicts sums, subst (Left trees) (sym (repeats_leave entries after turned verdicts sums judged)) (it.could trees was))
    kept_left Repeated is sums keeps (inr (accepts, leaves)) = let no : comes_to Repeated ≡ comes_to Accepted = sym is ∙ accepts in absurd cc
    kept_left (Refused refusal) is sums keeps from = absurd keeps

  -- all are kept
  all_kept : ended ≡ Kept → (trees : Trees) → new.may_leave trees
      → (after : List Entry) × JudgesAll entries turned verdicts after × (count_refused verdicts ≡ 0) × Left trees after
  all_kept is trees may =
      let comes : ComesTo rounding entries asked turned old new verdicts Kept = subst (ComesTo rounding entries asked turned old new verdicts) is (it.applies.judged it.clean entries it.stands) in
      let judged = turns_judge rounding entries asked turned verdicts comes.0 comes.1 in
      let one = as_one verdicts in
      let keeps : KeepsAll (comes_to one.0) old new = subst (λ sum. KeepsAll sum old new) one.1 (subst (λ (e : Ended). LeavesAs verdicts e old new) is (it.applies.rest it.clean)) in
      let from : old.may_leave trees ⊎ MayKeep rounding asked turned verdicts Kept old trees =
      subst (λ (e : Ended). old.may_leave trees ⊎ MayKeep rounding asked turned verdicts e old trees) is (it.applies.crash.crash it.clean trees may) in
      let left = kept_left comes.0 judged comes.2 trees may one.0 one.1 one.2 keeps from in
      (comes.0, judged, left.0, left.1)

  pub kept_leaves : ended ≡ Kept → LeavesOneOf (AreAllKept entries turned) new.may_leave
  kept_leaves is trees may = let all = all_kept is trees may in (all.0, (verdicts, all.1, all.2), all.3)

  -- ---- by what counts of the replies

  -- the book after all
  after_all : (replied more : List Verdict) → verdicts ≡ replied ++ more → (after : List Entry) → JudgesAll entries turned verdicts after
      → count_refused verdicts ≡ 0 → AllOrNoneLeaves entries turned replied after
  after_all replied more split after judged none =
      record { verdicts = verdicts; whole = after; judged = judged; more = more; replies = split; leaves = inl (none, refl) }

  -- the book before, of commands of which one is refused
  before_refused : (replied more : List Verdict) → verdicts ≡ replied ++ more → (after : List Entry) → JudgesAll entries turned verdicts after
      → count_refused verdicts ≢ 0 → AllOrNoneLeaves entries turned replied entries
  before_refused replied more split after judged some = record {
    verdicts = verdicts;
    whole = after;
    judged = judged;
    more = more;
    replies = split;
    leaves = inr (not_acknowledged entries after turned verdicts replied more judged split some, refl);
  }

  -- of commands that are dropped one is refused
  dropped_refuse : LeavesAs verdicts Dropped old new → count_refused verdicts ≢ 0
  dropped_refuse leaves = let one = as_one verdicts in by one.0 one.1 one.2
    where
      by : (one : Verdict) → together verdicts ≡ comes_to one → Sums verdicts one → count_refused verdicts ≢ 0
      by Accepted is sums = let no = sym is ∙ leaves.0 in absurd cc
      by Repeated is sums = let no = sym is ∙ leaves.0 in absurd cc
      by (Refused refusal) is sums = sums

  -- before any reply the book before is left
  failed_left : (fault : StoreFault) (trees : Trees) → old.may_leave trees ⊎ MayKeep rounding asked turned verdicts (Failed fault) old trees
      → LeftOf (AllOrNoneLeaves entries turned []) trees
  failed_left fault trees (inl was) = (entries, none_replied entries turned, it.could trees was)
  failed_left InDoubt trees (inr keeps) = let all = whole_left trees keeps in (all.0, after_all [] verdicts refl all.0 all.1 all.2, all.3)
  failed_left Memory trees (inr keeps) = let all = whole_left trees keeps in (all.0, after_all [] verdicts refl all.0 all.1 all.2, all.3)
  failed_left Device trees (inr none) = absurd none
  failed_left NeedsReopen trees (inr none) = absurd none
  failed_left Damaged trees (inr none) = absurd none

  module _ (replied more : List Verdict) (trees : Trees) (may : new.may_leave trees) where
    left_by : (e : Ended) → ended ≡ e → that_count e verdicts ≡ replied ++ more → LeftOf (AllOrNoneLeaves entries turned replied) trees
    left_by Kept is split = let all = all_kept is trees may in (all.0, after_all replied more split all.0 all.1 all.2, all.3)
    left_by Dropped is split =
        let comes : ComesTo rounding entries asked turned old new verdicts Dropped =
        subst (ComesTo rounding entries asked turned old new verdicts) is (it.applies.judged it.clean entries it.stands) in
        let judged = turns_judge rounding entries asked turned verdicts comes.0 comes.1 in
        let leaves : LeavesAs verdicts Dropped old new = subst (λ (e : Ended). LeavesAs verdicts e old new) is (it.applies.rest it.clean) in
        let from : old.may_leave trees ⊎ ⊥ =
        subst (λ (e : Ended). old.may_leave trees ⊎ MayKeep rounding asked turned verdicts e old trees) is (it.applies.crash.crash it.clean trees may) in
        elim from [
          | inl was ↦ (entries, before_refused replied more split comes.0 judged (dropped_refuse leaves), it.could trees was)
          | inr none ↦ absurd none
        ]
    left_by (Failed fault) is split =
        let from : old.may_leave trees ⊎ MayKeep rounding asked turned verdicts (Failed fault) old trees =
        subst (λ (e : Ended). old.may_leave trees ⊎ MayKeep rounding asked turned verdicts e old trees) is (it.applies.crash.crash it.clean trees may) in
        subst (λ (vs : List Verdict). LeftOf (AllOrNoneLeaves entries turned vs) trees) (sym (none_before replied more split)) (failed_left fault trees from)

  pub all_leave : (replied more : List Verdict) → that_count ended verdicts ≡ replied ++ more → LeavesOneOf (AllOrNoneLeaves entries turned replied) new.may_leave
  all_leave replied more split trees may = left_by replied more trees may ended refl split
