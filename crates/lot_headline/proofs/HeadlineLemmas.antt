-- Sessions that follow one another, and a list that is sent again.
use Rattle.std.proofs.Common.{◌≡◌, ◌∙◌, ◌≤◌, inl, inr, ap, refl, subst, sym, arith, append_assoc, append-nil, ℕ, suc, List, [], ◌∷◌, ◌++◌, length, drop, Option, Some, None, cond}
use Rattle.std.specs.List.{AllByRecursion}
use Rattle.lot_args.specs.declared.action.Keeping.{Keeping}
use Rattle.lot_args.specs.declared.action.Keeping.TheVariants.{AllOrNone, Each}
use Rattle.std.proofs.lemmas.List.{length-append}
use Rattle.lot_base.proofs.TextLemmas.{one_text}
use Rattle.lot_base.specs.Text.{same_text}
use Rattle.lot_command.specs.Canonical.{canonical}
use Rattle.lot_command.specs.declared.command.Command.{Command}
use Rattle.lot_command.specs.declared.command.Command.TheVariants.{Opening, Closing, Declaring, Quoting, Transaction}
use Rattle.lot_command.specs.declared.key.Key.{Key}
use Rattle.lot_command.specs.declared.transaction.Transaction.{Transaction as TransactionOf}
use Rattle.lot_book.proofs.CaseLemmas.{by_bool}
use Rattle.lot_book.specs.Book.{IsBookIn, entry_of}
use Rattle.lot_book.specs.Booking.{All, Bookings, Stopped, TieRule}
use Rattle.lot_book.specs.Edition.{After, Second, ties_in}
use Rattle.lot_book.specs.Facts.{Entry, Facts, facts_of, text_under}
use Rattle.lot_book.specs.Judged.{JudgesAll, JudgesOn}
use Rattle.lot_book.specs.Step.{DecidesByUnder, JudgesTransactionUnder, JudgesUnder, Refuse, Repeat, accept_unless, concluded}
use Rattle.lot_book.specs.declared.leg.Leg.{Leg}
use Rattle.lot_book.specs.declared.refusal.Refusal.{Refusal}
use Rattle.lot_book.specs.declared.refusal.Refusal.TheVariants.{KeyReused}
use Rattle.lot_book.specs.declared.verdict.Verdict.{Verdict}
use Rattle.lot_book.specs.declared.verdict.Verdict.TheVariants.{Accepted, Refused, Repeated}
use Rattle.lot_laws.proofs.JudgedLaws.{judged_alike, judged_book_in, some_judged}
use Rattle.lot_laws.proofs.KeyLaws.{accepted_stands, is_repeat, remains}
use Rattle.lot_laws.proofs.LawUnits.{held_as_bought}
use Rattle.lot_laws.proofs.MigrationLaws.{judged_behind_place}
use Rattle.lot_store.specs.Run.{count_refused}
use Rattle.lot_store.specs.Session.{IsAfter, StopLeaves}
use Rattle.lot_headline.specs.Again.{AllSentAgain, AreBehind, AreKeptOnce, ComesAgain, IsOneRun, SentAgain}
use Rattle.lot_cli.proofs.AllOrNoneLemmas.{as_many}
use Rattle.lot_cli.specs.Sessions.{AcknowledgeAll, AllOrNoneLeaves, AreAllKept, LeavesBy, Sent, StopsLeave}
use Rattle.lot_headline.specs.Headline.{AddFirst, AddsFirst, AreUnderKeys, Headline, HoldsAcknowledged, HoldsBy, IsUnderKey, count_accepted}
use Rattle.lot_headline.proofs.RealisedLemmas.{all_realised}

-- ---- commands judged one after another

judges_append : (before mid after : List Entry) (done more : List (Key × Command)) (vs ws : List Verdict) → JudgesAll before done vs mid
    → JudgesAll mid more ws after → JudgesAll before (done ++ more) (vs ++ ws) after
judges_append before mid after [] more [] ws all rest = subst (λ (b : List Entry). JudgesAll b more ws after) all rest
judges_append before mid after [] more (v ∷ vs) ws all rest = absurd all
judges_append before mid after (c ∷ done) more [] ws all rest = absurd all
judges_append before mid after (c ∷ done) more (v ∷ vs) ws all rest = (all.0, all.1, judges_append all.0 mid after done more vs ws all.2 rest)

judges_split : (before after : List Entry) (done more : List (Key × Command)) (vs : List Verdict) → JudgesAll before (done ++ more) vs after
    → (ws us : List Verdict) × (mid : List Entry) × (vs ≡ ws ++ us) × JudgesAll before done ws mid × JudgesAll mid more us after
judges_split before after [] more vs all = ([], vs, before, refl, refl, all)
judges_split before after (c ∷ done) more [] all = absurd all
judges_split before after (c ∷ done) more (v ∷ vs) all =
    let rest = judges_split all.0 after done more vs all.2 in
    (v ∷ rest.0, rest.1, rest.2, ap (λ (xs : List Verdict). v ∷ xs) rest.3, (all.0, all.1, rest.4), rest.5)

-- the last of them
judges_last : (before after : List Entry) (done : List (Key × Command)) (vs : List Verdict) (v : Verdict) → JudgesAll before done (vs ++ v ∷ []) after
    → (first : List (Key × Command)) × (last : Key × Command) × (mid : List Entry) × (done ≡ first ++ last ∷ []) × JudgesAll before first vs mid × JudgesOn mid last.0 last.1 v after
judges_last before after [] [] v all = absurd all
judges_last before after [] (w ∷ vs) v all = absurd all
judges_last before after (c ∷ []) [] v all = ([], c, before, refl, refl, subst (JudgesOn before c.0 c.1 v) (sym all.2) all.1)
judges_last before after (c ∷ (d ∷ done)) [] v all = absurd all.2
judges_last before after (c ∷ done) (w ∷ vs) v all =
    let rest = judges_last all.0 after done vs v all.2 in
    (c ∷ rest.0, rest.1, rest.2, ap (λ (cs : List (Key × Command)). c ∷ cs) rest.3, (all.0, all.1, rest.4), rest.5)

-- they add an entry for each that is accepted
grows : (before after : List Entry) (commands : List (Key × Command)) (vs : List Verdict) → JudgesAll before commands vs after
    → (added : List Entry) × (after ≡ before ++ added) × (length added ≡ count_accepted vs)
grows before after [] [] all = ([], all ∙ sym (append-nil before), refl)
grows before after [] (v ∷ vs) all = absurd all
grows before after (c ∷ commands) [] all = absurd all
grows before after (c ∷ commands) (Accepted ∷ vs) all =
    let rest = grows all.0 after commands vs all.2 in
    let entry = entry_of c.0 c.1 all.1.0 in
    (entry ∷ rest.0, rest.1 ∙ ap (λ (b : List Entry). b ++ rest.0) all.1.2 ∙ append_assoc before (entry ∷ []) rest.0, ap suc rest.2)
grows before after (c ∷ commands) (Repeated ∷ vs) all =
    let rest = grows all.0 after commands vs all.2 in (rest.0, rest.1 ∙ ap (λ (b : List Entry). b ++ rest.0) all.1.1, rest.2)
grows before after (c ∷ commands) (Refused refusal ∷ vs) all =
    let rest = grows all.0 after commands vs all.2 in (rest.0, rest.1 ∙ ap (λ (b : List Entry). b ++ rest.0) all.1.1, rest.2)

one_accepted_more : (vs : List Verdict) → count_accepted (vs ++ Accepted ∷ []) ≡ suc (count_accepted vs)
one_accepted_more [] = refl
one_accepted_more (Accepted ∷ vs) = ap suc (one_accepted_more vs)
one_accepted_more (Repeated ∷ vs) = one_accepted_more vs
one_accepted_more (Refused refusal ∷ vs) = one_accepted_more vs

-- ---- a prefix of the accepted commands

module _ (before : List Entry) (commands : List (Key × Command)) (book : List Entry) where
  is_first : (vs : List Verdict) → IsAfter before commands vs book → (verdicts : List Verdict) (whole : List Entry) → JudgesAll before commands verdicts whole
      → (rest : List Entry) × (whole ≡ book ++ rest)
  is_first vs (left, on) verdicts whole all =
      let parts = judges_split before whole on.done left verdicts (subst (λ (cs : List (Key × Command)). JudgesAll before cs verdicts whole) on.split all) in
      let same : parts.2 ≡ book = (judged_alike before on.done parts.0 vs parts.2 book parts.4 on.judged).1 in
      let more = grows parts.2 whole left parts.1 parts.5 in
      (more.0, more.1 ∙ ap (λ (b : List Entry). b ++ more.0) same)

-- what a session adds that keeps these commands so, and in which these verdicts were replied to
abbrev Adds : Keeping → List Entry → List (Key × Command) → List Verdict → List Entry → Type 0
Adds keeping before commands replied book = AddsFirst before (record { keeping = keeping; commands = commands; replied = replied }) book

module _ (before : List Entry) (commands : List (Key × Command)) (replied : List Verdict) (book : List Entry) where
  adds : (vs : List Verdict) → IsAfter before commands vs book
      → count_accepted replied ≤ count_accepted vs → count_accepted vs ≤ suc (count_accepted replied) → Adds Each before commands replied book
  adds vs after least most =
      let g = grows before book after.1.done vs after.1.judged in
      let run = some_judged before commands in
      let more = is_first before commands book vs after run.0 run.1 run.2 in record {
        verdicts = run.0;
        whole = run.1;
        judged = run.2;
        added = g.0;
        rest = more.0;
        behind = g.1;
        first = more.1;
        many = record { least = omega (arith, g.2, least); most = omega (arith, g.2, most) };
      }

  adds_each : StopLeaves before commands replied book → Adds Each before commands replied book
  adds_each (inl after) = adds replied after (omega arith) (omega arith)
  adds_each (inr after) =
      let one = one_accepted_more replied in
      adds (replied ++ Accepted ∷ []) after (omega (arith, one)) (omega (arith, one))

  module _ (leave : AllOrNoneLeaves before commands replied book) where
    adds_all : (count_refused leave.verdicts ≡ 0) × (book ≡ leave.whole) → Adds AllOrNone before commands replied book
    adds_all (none, is) =
        let g = grows before leave.whole commands leave.verdicts leave.judged in record {
          verdicts = leave.verdicts;
          whole = leave.whole;
          judged = leave.judged;
          added = g.0;
          rest = [];
          behind = is ∙ g.1;
          first = sym is ∙ sym (append-nil book);
          many = record { either = inr (none, refl); acknowledged = λ all. refl };
        }

    adds_none : (¬ AcknowledgeAll commands replied) × (book ≡ before) → Adds AllOrNone before commands replied book
    adds_none (apart, is) =
        let g = grows before leave.whole commands leave.verdicts leave.judged in record {
          verdicts = leave.verdicts;
          whole = leave.whole;
          judged = leave.judged;
          added = [];
          rest = g.0;
          behind = is ∙ sym (append-nil before);
          first = g.1 ∙ ap (λ (b : List Entry). b ++ g.0) (sym is);
          many = record { either = inl refl; acknowledged = λ all. absurd (apart all) };
        }

    adds_together : Adds AllOrNone before commands replied book
    adds_together = elim leave.leaves [ inl all ↦ adds_all all | inr none ↦ adds_none none ]

  adds_by : (keeping : Keeping) → LeavesBy keeping before commands replied book → Adds keeping before commands replied book
  adds_by Each stop = adds_each stop
  adds_by AllOrNone leave = adds_together leave

-- ---- what was acknowledged

-- a command that repeats stands under its key
no_repeat : (condition : Option Refusal) (legs : List Leg) → Repeat ≡ accept_unless condition legs → ⊥
no_repeat None legs is = cc
no_repeat (Some refusal) legs is = cc

no_repeat_booked : (facts : Facts) (t : TransactionOf) (bookings : Bookings) → Repeat ≡ concluded facts t bookings → ⊥
no_repeat_booked facts t (Stopped refusal) is = cc
no_repeat_booked facts t (All booked) is = no_repeat _ _ is

module _ (ties : TieRule) where
  no_repeat_of : (facts : Facts) (t : TransactionOf) (condition : Option Refusal) → JudgesTransactionUnder ties facts t condition Repeat → ⊥
  no_repeat_of facts t (Some refusal) is = cc
  no_repeat_of facts t None (bookings, books, is) = no_repeat_booked facts t bookings is

  judges_no_repeat : (facts : Facts) (command : Command) → JudgesUnder ties facts command Repeat → ⊥
  judges_no_repeat facts (Opening o) is = no_repeat _ _ is
  judges_no_repeat facts (Closing c) is = no_repeat _ _ is
  judges_no_repeat facts (Declaring d) is = no_repeat _ _ is
  judges_no_repeat facts (Quoting q) is = no_repeat _ _ is
  judges_no_repeat facts (Transaction t) is = no_repeat_of facts t _ is

repeats_by : (ties : TieRule) (text : Option (List ℕ)) (facts : Facts) (command : Command) → DecidesByUnder ties text facts command Repeat → text ≡ Some (canonical command)
repeats_by ties None facts command is = absurd (judges_no_repeat ties facts command is)
repeats_by ties (Some text) facts command is = by_bool (same_text text (canonical command))
    (λ same. ap Some (one_text text (canonical command) same))
    (λ other. let none : Repeat ≡ Refuse KeyReused = is ∙ ap (λ b. cond b Repeat (Refuse KeyReused)) other in absurd cc)

remains_all : (before after : List Entry) (commands : List (Key × Command)) (vs : List Verdict) → JudgesAll before commands vs after
    → (keyed : Key × Command) → IsUnderKey before keyed → IsUnderKey after keyed
remains_all before after [] [] all keyed known = ap (λ (b : List Entry). text_under b keyed.0) all ∙ known
remains_all before after [] (v ∷ vs) all keyed known = absurd all
remains_all before after (c ∷ commands) [] all keyed known = absurd all
remains_all before after (c ∷ commands) (v ∷ vs) all keyed known =
    remains_all all.0 after commands vs all.2 keyed (remains Second before all.0 keyed.0 c.0 (canonical keyed.1) c.1 v known all.1)

-- the commands that were judged stand, with whatever comes behind them
stand_after : (before after : List Entry) (done left : List (Key × Command)) (vs : List Verdict) → JudgesAll before done vs after → AreUnderKeys after (done ++ left) vs
stand_after before after [] left [] all = tt
stand_after before after [] left (v ∷ vs) all = absurd all
stand_after before after (c ∷ done) left [] all = absurd all
stand_after before after (c ∷ done) left (Accepted ∷ vs) all = (
  remains_all all.0 after done vs all.2 c (accepted_stands Second before all.0 c.0 c.1 all.1),
  stand_after all.0 after done left vs all.2,
)
stand_after before after (c ∷ done) left (Repeated ∷ vs) all = (
  remains_all all.0 after done vs all.2 c (ap (λ (b : List Entry). text_under b c.0) all.1.1 ∙ repeats_by (ties_in Second before) (text_under before c.0) (facts_of before c.0) c.1 all.1.0),
  stand_after all.0 after done left vs all.2,
)
stand_after before after (c ∷ done) left (Refused refusal ∷ vs) all = stand_after all.0 after done left vs all.2

-- all of them, where all were judged
stand_all : (before after : List Entry) (commands : List (Key × Command)) (vs : List Verdict) → JudgesAll before commands vs after → AreUnderKeys after commands vs
stand_all before after commands vs all =
    subst (λ (cs : List (Key × Command)). AreUnderKeys after cs vs) (append-nil commands) (stand_after before after commands [] vs all)

stand_still : (a b : List Entry) → ((keyed : Key × Command) → IsUnderKey a keyed → IsUnderKey b keyed) → (commands : List (Key × Command)) (vs : List Verdict)
    → AreUnderKeys a commands vs → AreUnderKeys b commands vs
stand_still a b still commands [] stand = tt
stand_still a b still [] (v ∷ vs) stand = absurd stand
stand_still a b still (c ∷ commands) (Accepted ∷ vs) stand = (still c stand.0, stand_still a b still commands vs stand.1)
stand_still a b still (c ∷ commands) (Repeated ∷ vs) stand = (still c stand.0, stand_still a b still commands vs stand.1)
stand_still a b still (c ∷ commands) (Refused refusal ∷ vs) stand = stand_still a b still commands vs stand

but_more : (book : List Entry) (commands : List (Key × Command)) (vs more : List Verdict) → AreUnderKeys book commands (vs ++ more) → AreUnderKeys book commands vs
but_more book commands [] more stand = tt
but_more book [] (w ∷ vs) more stand = absurd stand
but_more book (c ∷ commands) (Accepted ∷ vs) more stand = (stand.0, but_more book commands vs more stand.1)
but_more book (c ∷ commands) (Repeated ∷ vs) more stand = (stand.0, but_more book commands vs more stand.1)
but_more book (c ∷ commands) (Refused refusal ∷ vs) more stand = but_more book commands vs more stand

-- ---- one session

-- a book with that place of migration
abbrev IsAt : ℕ → List Entry → Type 0
IsAt place book = (place ≤ length book) × IsBookIn (After place) book

-- it remains one where commands are judged
remains_at : (place : ℕ) (before after : List Entry) (commands : List (Key × Command)) (vs : List Verdict) → JudgesAll before commands vs after
    → IsAt place before → IsAt place after
remains_at place before after commands vs all is =
    let more = grows before after commands vs all in (
      omega (arith, is.0, ap length more.1, length-append before more.0),
      judged_book_in (After place) before commands vs after is.1 ((judged_behind_place place before commands vs after is.0).1 all),
    )

-- it leaves a book, in which what stood before stands, and what it acknowledged
record Passes (keeping : Keeping) (before : List Entry) (commands : List (Key × Command)) (replied : List Verdict) (book : List Entry) : Type 0 where
  pub is_book : (place : ℕ) → IsAt place before → IsAt place book
  pub still : (keyed : Key × Command) → IsUnderKey before keyed → IsUnderKey book keyed
  pub holds : HoldsBy keeping book commands replied

module _ (before : List Entry) (commands : List (Key × Command)) (replied : List Verdict) (book : List Entry) where
  -- the commands that came to these verdicts stand
  stand_of : (vs : List Verdict) → IsAfter before commands vs book → AreUnderKeys book commands vs
  stand_of vs (left, on) =
      subst (λ (cs : List (Key × Command)). AreUnderKeys book cs vs) (sym on.split) (stand_after before book on.done left vs on.judged)

  passes_each : StopLeaves before commands replied book → Passes Each before commands replied book
  passes_each (inl after) = record {
    is_book = λ place. remains_at place before book after.1.done replied after.1.judged;
    still = remains_all before book after.1.done replied after.1.judged;
    holds = stand_of replied after;
  }
  passes_each (inr after) =
      let vs = replied ++ Accepted ∷ [] in record {
        is_book = λ place. remains_at place before book after.1.done vs after.1.judged;
        still = remains_all before book after.1.done vs after.1.judged;
        holds = but_more book commands replied (Accepted ∷ []) (stand_of vs after);
      }

  module _ (leave : AllOrNoneLeaves before commands replied book) where
    passes_all : (count_refused leave.verdicts ≡ 0) × (book ≡ leave.whole) → Passes AllOrNone before commands replied book
    passes_all (none, is) =
        let judged : JudgesAll before commands leave.verdicts book = subst (JudgesAll before commands leave.verdicts) (sym is) leave.judged in record {
          is_book = λ place. remains_at place before book commands leave.verdicts judged;
          still = remains_all before book commands leave.verdicts judged;
          holds = λ all.
              but_more book commands replied leave.more
              (subst (AreUnderKeys book commands) leave.replies (stand_all before book commands leave.verdicts judged));
        }

    passes_none : (¬ AcknowledgeAll commands replied) × (book ≡ before) → Passes AllOrNone before commands replied book
    passes_none (apart, is) = record {
      is_book = λ place was. subst (IsAt place) (sym is) was;
      still = λ keyed known. ap (λ (b : List Entry). text_under b keyed.0) is ∙ known;
      holds = λ all. absurd (apart all);
    }

    passes_together : Passes AllOrNone before commands replied book
    passes_together = elim leave.leaves [ inl all ↦ passes_all all | inr none ↦ passes_none none ]

  passes_by : (keeping : Keeping) → LeavesBy keeping before commands replied book → Passes keeping before commands replied book
  passes_by Each stop = passes_each stop
  passes_by AllOrNone leave = passes_together leave

-- ---- sessions that follow one another

record PassAll (before : List Entry) (sessions : List Sent) (book : List Entry) : Type 0 where
  pub is_book : (place : ℕ) → IsAt place before → IsAt place book
  pub still : (keyed : Key × Command) → IsUnderKey before keyed → IsUnderKey book keyed
  pub adds : AddFirst before sessions book
  pub holds : AllByRecursion (HoldsAcknowledged book) sessions

holds_still : (keeping : Keeping) (a b : List Entry) → ((keyed : Key × Command) → IsUnderKey a keyed → IsUnderKey b keyed)
    → (commands : List (Key × Command)) (vs : List Verdict) → HoldsBy keeping a commands vs → HoldsBy keeping b commands vs
holds_still Each a b still commands vs holds = stand_still a b still commands vs holds
holds_still AllOrNone a b still commands vs holds = λ all. stand_still a b still commands vs (holds all)

pass_all : (before : List Entry) (sessions : List Sent) (book : List Entry) → StopsLeave before sessions book → PassAll before sessions book
pass_all before [] book is = record {
  is_book = λ place was. subst (IsAt place) (sym is) was;
  still = λ keyed known. ap (λ (b : List Entry). text_under b keyed.0) is ∙ known;
  adds = is;
  holds = tt;
}
pass_all before (sent ∷ more) book (mid, stop, rest) =
    let one = passes_by before sent.commands sent.replied mid sent.keeping stop in
    let all = pass_all mid more book rest in record {
      is_book = λ place was. all.is_book place (one.is_book place was);
      still = λ keyed known. all.still keyed (one.still keyed known);
      adds = (mid, adds_by before sent.commands sent.replied mid sent.keeping stop, all.adds);
      holds = (holds_still sent.keeping mid book all.still sent.commands sent.replied one.holds, all.holds);
    }

-- ---- the headline

pub headline : (place : ℕ) (before : List Entry) (sessions : List Sent) (book : List Entry) → place ≤ length before → IsBookIn (After place) before
    → StopsLeave before sessions book → Headline place before sessions book
headline place before sessions book placed was leave =
    let all = pass_all before sessions book leave in
    let is_book : IsBookIn (After place) book = (all.is_book place (placed, was)).1 in record {
      is_book = is_book;
      accepted = all.adds;
      acknowledged = all.holds;
      units = λ account commodity. held_as_bought (After place) book account commodity is_book;
      gains = λ sales are. all_realised (After place) book sales is_book are;
    }

pub headline_of_made : (sessions : List Sent) (book : List Entry) → StopsLeave [] sessions book → Headline 0 [] sessions book
headline_of_made sessions book leave = headline 0 [] sessions book (omega arith) tt leave

-- ---- a list that is sent again

drop_done : (done left : List (Key × Command)) (n : ℕ) → n ≡ length done → drop n (done ++ left) ≡ left
drop_done [] left n is = ap (λ k. drop k left) is
drop_done (c ∷ done) left n is = ap (λ k. drop k ((c ∷ done) ++ left)) is ∙ drop_done done left (length done) refl

-- where the first verdict is `repeat`, it may be `accepted`
first_accepted : (sessions : List (List Verdict)) (verdicts : List Verdict) → AreBehind sessions (Repeated ∷ verdicts) → AreBehind sessions (Accepted ∷ verdicts)
first_accepted [] verdicts is = absurd cc
first_accepted (replied ∷ more) verdicts ([], rest, but, behind, is) =
    ([], Accepted ∷ verdicts, but, first_accepted more verdicts (subst (AreBehind more) (sym is) behind), refl)
first_accepted (replied ∷ more) verdicts (v ∷ first, rest, inl same, behind, is) =
    let head : v ≡ Repeated = cc in
    let tail : verdicts ≡ first ++ rest = cc in
    (Accepted ∷ first, rest, inr (first, same ∙ ap (λ (w : Verdict). w ∷ first) head, refl), behind, ap (λ (vs : List Verdict). Accepted ∷ vs) tail)
first_accepted (replied ∷ more) verdicts (v ∷ first, rest, inr (left, repeated, accepted), behind, is) =
    let head : v ≡ Repeated = cc in
    let other : v ≡ Accepted = cc in
    let none : Accepted ≡ Repeated = sym other ∙ head in absurd cc

-- a command that stands under its key is a repeat
repeats_first : (book after : List Entry) (c : Key × Command) (left : List (Key × Command)) (vs : List Verdict) → IsUnderKey book c → JudgesAll book (c ∷ left) vs after
    → (more : List Verdict) × (vs ≡ Repeated ∷ more) × JudgesAll book left more after
repeats_first book after c left [] known all = absurd all
repeats_first book after c left (v ∷ vs) known all =
    let is = is_repeat Second book all.0 c.0 c.1 v known all.1 in
    (vs, ap (λ (w : Verdict). w ∷ vs) is.0, subst (λ (b : List Entry). JudgesAll b left vs after) is.1 all.2)

pub one_run : (before : List Entry) (commands : List (Key × Command)) (replied : List Verdict) (again : List (List Verdict)) (book : List Entry)
    → SentAgain before commands replied again book → IsOneRun before commands replied again book
one_run before commands replied [] book all = record {
  verdicts = [];
  judged = subst (λ (vs : List Verdict). JudgesAll before commands vs book) (sym (append-nil replied)) all;
  replies = refl;
}
one_run before commands replied (next ∷ more) book (mid, inl (left, on), rest) =
    let run = one_run mid (drop (length replied) commands) next more book rest in
    let sent : drop (length replied) commands ≡ left =
    ap (drop (length replied)) on.split ∙ drop_done on.done left (length replied) (sym (as_many before mid on.done replied on.judged)) in
    let judged = subst (λ (cs : List (Key × Command)). JudgesAll mid cs (next ++ run.verdicts) book) sent run.judged in record {
      verdicts = next ++ run.verdicts;
      judged = subst (λ (cs : List (Key × Command)). JudgesAll before cs (replied ++ (next ++ run.verdicts)) book) (sym on.split)
          (judges_append before mid book on.done left replied (next ++ run.verdicts) on.judged judged);
      replies = (next, run.verdicts, inl refl, run.replies, refl);
    }
one_run before commands replied (next ∷ more) book (mid, inr (left, on), rest) =
    let run = one_run mid (drop (length replied) commands) next more book rest in
    let last = judges_last before mid on.done replied Accepted on.judged in
    let whole : commands ≡ last.0 ++ last.1 ∷ left =
    on.split ∙ ap (λ (cs : List (Key × Command)). cs ++ left) last.3 ∙ append_assoc last.0 (last.1 ∷ []) left in
    let sent : drop (length replied) commands ≡ last.1 ∷ left =
    ap (drop (length replied)) whole ∙ drop_done last.0 (last.1 ∷ left) (length replied) (sym (as_many before last.2 last.0 replied last.4)) in
    let judged = subst (λ (cs : List (Key × Command)). JudgesAll mid cs (next ++ run.verdicts) book) sent run.judged in
    let again = repeats_first mid book last.1 left (next ++ run.verdicts) (accepted_stands Second last.2 mid last.1.0 last.1.1 last.5) judged in record {
      verdicts = Accepted ∷ again.0;
      judged = subst (λ (cs : List (Key × Command)). JudgesAll before cs (replied ++ (Accepted ∷ again.0)) book) (sym on.split)
          (subst (λ (vs : List Verdict). JudgesAll before (on.done ++ left) vs book) (append_assoc replied (Accepted ∷ []) again.0)
          (judges_append before mid book on.done left (replied ++ Accepted ∷ []) again.0 on.judged again.2));
      replies = first_accepted (next ∷ more) again.0 (next, run.verdicts, inl refl, run.replies, sym again.1);
    }

-- ---- commands that are kept all or none, and come again

-- of which none is refused, all stand
all_under : (book : List Entry) (commands : List (Key × Command)) (vs : List Verdict) → AreUnderKeys book commands vs → count_refused vs ≡ 0
    → length commands ≡ length vs → AllByRecursion (IsUnderKey book) commands
all_under book [] vs stand none many = tt
all_under book (c ∷ commands) [] stand none many = absurd cc
all_under book (c ∷ commands) (Accepted ∷ vs) stand none many = (stand.0, all_under book commands vs stand.1 none (omega (arith, many)))
all_under book (c ∷ commands) (Repeated ∷ vs) stand none many = (stand.0, all_under book commands vs stand.1 none (omega (arith, many)))
all_under book (c ∷ commands) (Refused refusal ∷ vs) stand none many = absurd cc

repeat_all : (book after : List Entry) (commands : List (Key × Command)) (again : List Verdict) → AllByRecursion (IsUnderKey book) commands
    → JudgesAll book commands again after → AllByRecursion (λ (v : Verdict). v ≡ Repeated) again × (after ≡ book)
repeat_all book after [] [] stand all = (tt, all)
repeat_all book after [] (w ∷ again) stand all = absurd all
repeat_all book after (c ∷ commands) [] stand all = absurd all
repeat_all book after (c ∷ commands) (w ∷ again) stand all =
    let is = is_repeat Second book all.0 c.0 c.1 w stand.0 all.1 in
    let rest = repeat_all book after commands again stand.1 (subst (λ (b : List Entry). JudgesAll b commands again after) is.1 all.2) in
    ((is.0, rest.0), rest.1)

module _ (before : List Entry) (commands : List (Key × Command)) where
  kept_repeats : (book after : List Entry) (again : List Verdict) → AreAllKept before commands book → JudgesAll book commands again after
      → AllByRecursion (λ (v : Verdict). v ≡ Repeated) again × (after ≡ book)
  kept_repeats book after again (vs, judged, none) all =
      repeat_all book after commands again (all_under book commands vs (stand_all before book commands vs judged) none (as_many before book commands vs judged)) all

  kept_of : (replied : List Verdict) (book : List Entry) (leave : AllOrNoneLeaves before commands replied book)
      → (count_refused leave.verdicts ≡ 0) × (book ≡ leave.whole) → AreAllKept before commands book
  kept_of replied book leave (none, is) = (leave.verdicts, subst (JudgesAll before commands leave.verdicts) (sym is) leave.judged, none)

  pub comes_again : (book after : List Entry) (replied again : List Verdict) → AllOrNoneLeaves before commands replied book → JudgesAll book commands again after
      → ComesAgain before commands book again after
  comes_again book after replied again leave all = elim leave.leaves [
    | inl whole ↦
        let kept = kept_of replied book leave whole in
        let repeats = kept_repeats book after again kept all in inl (kept, repeats.0, repeats.1)
    | inr none ↦ inr (none.1, subst (λ (b : List Entry). JudgesAll b commands again after) none.1 all)
  ]

  -- once they are kept, no stop changes the book
  stays_kept : (mid book : List Entry) (replied : List Verdict) → AreAllKept before commands mid → AllOrNoneLeaves mid commands replied book → book ≡ mid
  stays_kept mid book replied kept leave = elim leave.leaves [
    | inl whole ↦ whole.1 ∙ (kept_repeats mid leave.whole leave.verdicts kept leave.judged).1
    | inr none ↦ none.1
  ]

  remains_kept : (mid book : List Entry) (sessions : List (List Verdict)) → AreAllKept before commands mid → AllSentAgain mid commands sessions book → book ≡ mid
  remains_kept mid book [] kept is = is
  remains_kept mid book (replied ∷ more) kept (next, leave, rest) =
      let same = stays_kept mid next replied kept leave in
      remains_kept mid book more kept (subst (λ (b : List Entry). AllSentAgain b commands more book) same rest)

  acknowledged_once : (book : List Entry) (sessions : List (List Verdict)) → AreAllKept before commands book
      → AllByRecursion (λ (replied : List Verdict). AcknowledgeAll commands replied → AreAllKept before commands book) sessions
  acknowledged_once book [] kept = tt
  acknowledged_once book (replied ∷ more) kept = (λ all. kept, acknowledged_once book more kept)

  pub kept_once : (book : List Entry) (sessions : List (List Verdict)) → AllSentAgain before commands sessions book → AreKeptOnce before commands sessions book
  kept_once book [] is = record { leaves = inr is; acknowledged = tt }
  kept_once book (replied ∷ more) (mid, leave, rest) = elim leave.leaves [
    | inl whole ↦
        let now = kept_of replied mid leave whole in
        let kept = subst (AreAllKept before commands) (sym (remains_kept mid book more now rest)) now in
        record { leaves = inl kept; acknowledged = acknowledged_once book (replied ∷ more) kept }
    | inr none ↦
        let on = kept_once book more (subst (λ (b : List Entry). AllSentAgain b commands more book) none.1 rest) in
        record { leaves = on.leaves; acknowledged = (λ all. absurd (none.0 all), on.acknowledged) }
  ]
