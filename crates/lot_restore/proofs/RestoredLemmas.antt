-- Restoring the dump of a book gives that book, restoring gives one book, and what is restored is a book.
use Rattle.std.specs.Prelude.{◌≡◌, ◌≤◌, ◌<◌, ◌+◌, ℕ, suc, Bool, true, false, nat_le, cond, List, [], ◌∷◌, ◌++◌, length, Ok}
use Rattle.std.proofs.Common.{ap, refl, sym, subst, ◌∙◌, append_assoc, append-nil, arith, length-append}
use Rattle.sqlite.specs.State.{HasCleanDisk, State}
use Rattle.std.proofs.lemmas.Bool.{le-leb, leb-false, leb-true, lt-leb}
use Rattle.lot_command.specs.declared.command.Command.{Command}
use Rattle.lot_command.specs.declared.key.Key.{Key}
use Rattle.lot_book.specs.declared.verdict.Verdict.{Verdict}
use Rattle.lot_book.specs.declared.verdict.Verdict.TheVariants.{Accepted, Repeated, Refused}
use Rattle.lot_book.specs.Book.{ContinuesIn, IsBookIn, entry_of}
use Rattle.lot_book.specs.Edition.{After, Edition, First, Migration, NotYet, Second, edition_on}
use Rattle.lot_book.specs.Facts.{Entry}
use Rattle.lot_book.specs.Judged.{JudgesBy}
use Rattle.lot_laws.proofs.JudgedLaws.{judged_alike_by, judged_book_in}
use Rattle.lot_laws.proofs.LawBooks.{second_there}
use Rattle.lot_laws.proofs.MigrationLaws.{up_to_place}
use Rattle.lot_restore.specs.Judge.{AreRestored, JudgesNextBy, MayJudge, StandsAt}
use Rattle.lot_restore.specs.Restored.{NeverFall, Restores, all_accepted, dumped_from, edition_at, last_number, place_after, place_by}
use Rattle.lot_parts.specs.declared.dumped.Dumped.{Dumped}

-- ---- by which edition

first_at : (place number : ℕ) → number ≤ place → edition_at place number ≡ First
first_at place number within = ap (λ b. cond b First Second) (le-leb number place within)

second_at : (place number : ℕ) → place < number → edition_at place number ≡ Second
second_at place number behind = ap (λ b. cond b First Second) (lt-leb number place behind)

one_more : (before : List Entry) (entry : Entry) → length (before ++ entry ∷ []) ≡ suc (length before)
one_more before entry = omega (arith, length-append before (entry ∷ []))

-- ---- the dump of a book

-- each entry behind some is judged again by the edition of its number, which is that of its place
pub dump_gives : (place : ℕ) (before entries : List Entry) → ContinuesIn (After place) before entries
    → Restores place before (dumped_from (suc (length before)) entries) (all_accepted entries) (before ++ entries)
dump_gives place before [] h = append-nil before
dump_gives place before (entry ∷ entries) h =
    let rest = dump_gives place (before ++ entry ∷ []) entries h.1 in (
      before ++ entry ∷ [],
      (entry.legs, h.0, refl),
      subst (λ (number : ℕ). Restores place (before ++ entry ∷ []) (dumped_from (suc number) entries) (all_accepted entries) (before ++ entry ∷ entries))
          (one_more before entry)
          (subst (λ (book : List Entry). Restores place (before ++ entry ∷ []) (dumped_from (suc (length (before ++ entry ∷ []))) entries) (all_accepted entries) book)
          (append_assoc before (entry ∷ []) entries) rest),
    )

-- behind the place nothing is added to it
behind_dump : (place made number : ℕ) (entries : List Entry) → place < number
    → place_after place (dumped_from number entries) (all_accepted entries) made ≡ made
behind_dump place made number [] behind = refl
behind_dump place made number (entry ∷ entries) behind =
    ap (λ (edition : Edition). place_after place (dumped_from (suc number) entries) (all_accepted entries) (place_by edition Accepted made))
    (second_at place number behind) ∙ behind_dump place made (suc number) entries (omega (arith, behind))

-- the place after the first of some entries
abbrev after_one : ℕ → ℕ → List Entry → Edition → ℕ
after_one place count entries edition = place_after place (dumped_from (suc (suc count)) entries) (all_accepted entries) (place_by edition Accepted count)

pub place_of_dump : (place count : ℕ) (entries : List Entry) → count ≤ place → place ≤ count + length entries
    → place_after place (dumped_from (suc count) entries) (all_accepted entries) count ≡ place
place_of_dump place count [] less most = omega (arith, less, most)
place_of_dump place count (entry ∷ entries) less most =
    go (nat_le (suc count) place) refl (λ within. place_of_dump place (suc count) entries within (omega (arith, most)))
  where
    go : (b : Bool) → nat_le (suc count) place ≡ b → (suc count ≤ place → after_one place count entries First ≡ place) → after_one place count entries (edition_at place (suc count)) ≡ place
    go true is rest = ap (λ b. after_one place count entries (cond b First Second)) is ∙ rest (leb-true (suc count) place is)
    go false is rest =
        let at : count ≡ place = omega (arith, less, leb-false (suc count) place is) in
        ap (λ b. after_one place count entries (cond b First Second)) is
        ∙ behind_dump place count (suc (suc count)) entries (omega (arith, leb-false (suc count) place is)) ∙ at

pub dump_rises : (number : ℕ) (entries : List Entry) → (least : ℕ) → least ≤ number → NeverFall least (dumped_from number entries)
dump_rises number [] least less = tt
dump_rises number (entry ∷ entries) least less = (less, dump_rises (suc number) entries number (omega arith))

-- ---- one book

one_verdict : (v w : Verdict) → (v ∷ []) ≡ (w ∷ []) → v ≡ w
one_verdict v w same = cc

pub restored_alike : (place : ℕ) (before : List Entry) (dumped : List Dumped) (vs ws : List Verdict) (a b : List Entry)
    → Restores place before dumped vs a → Restores place before dumped ws b → (vs ≡ ws) × (a ≡ b)
restored_alike place before [] [] [] a b h k = (refl, h ∙ sym k)
restored_alike place before [] [] (w ∷ ws) a b h k = absurd k
restored_alike place before [] (v ∷ vs) ws a b h k = absurd h
restored_alike place before (it ∷ more) [] ws a b h k = absurd h
restored_alike place before (it ∷ more) (v ∷ vs) [] a b h k = absurd k
restored_alike place before (it ∷ more) (v ∷ vs) (w ∷ ws) a b h k =
    let first = judged_alike_by (λ _. edition_at place it.number) before ((it.key, it.command) ∷ []) (v ∷ []) (w ∷ []) h.0 k.0 (h.0, h.1, refl) (k.0, k.1, refl) in
    let rest = restored_alike place h.0 more vs ws a b h.2 (subst (λ (mid : List Entry). Restores place mid more ws b) (sym first.1) k.2) in
    (ap (λ (u : Verdict). u ∷ vs) (one_verdict v w first.0) ∙ ap (λ (us : List Verdict). w ∷ us) rest.0, rest.1)

-- ---- a book

-- a command that is judged by the edition of a book leaves a book
grows : (migration : Migration) (edition : Edition) (before : List Entry) (key : Key) (command : Command) (verdict : Verdict) (after : List Entry)
    → edition ≡ edition_on migration before → IsBookIn migration before → JudgesBy edition before key command verdict after → IsBookIn migration after
grows migration edition before key command verdict after same book judged =
    judged_book_in migration before ((key, command) ∷ []) (verdict ∷ []) after book
    (after, subst (λ (e : Edition). JudgesBy e before key command verdict after) same judged, refl)

-- how many entries there are after one more command
abbrev length_by : Verdict → ℕ → ℕ
length_by Accepted count = suc count
length_by Repeated count = count
length_by (Refused refusal) count = count

lengths : (edition : Edition) (before : List Entry) (key : Key) (command : Command) (verdict : Verdict) (after : List Entry)
    → JudgesBy edition before key command verdict after → length after ≡ length_by verdict (length before)
lengths edition before key command Accepted after h = ap length h.2 ∙ one_more before (entry_of key command h.0)
lengths edition before key command Repeated after h = ap length h.1
lengths edition before key command (Refused refusal) after h = ap length h.1

no_fewer : (verdict : Verdict) (count : ℕ) → count ≤ length_by verdict count
no_fewer Accepted count = omega arith
no_fewer Repeated count = omega arith
no_fewer (Refused refusal) count = omega arith

by_first : (verdict : Verdict) (count : ℕ) → place_by First verdict count ≡ length_by verdict count
by_first Accepted count = refl
by_first Repeated count = refl
by_first (Refused refusal) count = refl

by_any : (edition : Edition) (verdict : Verdict) (made count : ℕ) → made ≤ count → place_by edition verdict made ≤ length_by verdict count
by_any First Accepted made count less = omega (arith, less)
by_any First Repeated made count less = less
by_any First (Refused refusal) made count less = less
by_any Second verdict made count less = omega (arith, less, no_fewer verdict count)

pub place_within : (place made : ℕ) (before : List Entry) (dumped : List Dumped) (verdicts : List Verdict) (after : List Entry)
    → made ≤ length before → Restores place before dumped verdicts after → place_after place dumped verdicts made ≤ length after
place_within place made before [] [] after less h = omega (arith, less, ap length h)
place_within place made before [] (verdict ∷ verdicts) after less h = absurd h
place_within place made before (it ∷ more) [] after less h = absurd h
place_within place made before (it ∷ more) (verdict ∷ verdicts) after less h =
    place_within place (place_by (edition_at place it.number) verdict made) h.0 more verdicts after
    (omega (arith, by_any (edition_at place it.number) verdict made (length before) less, lengths (edition_at place it.number) before it.key it.command verdict h.0 h.1)) h.2

-- once a number is behind the place, edition 2 judges the rest
second_book : (place made least : ℕ) (before : List Entry) (dumped : List Dumped) (verdicts : List Verdict) (after : List Entry)
    → place < least → made ≤ length before → NeverFall least dumped → IsBookIn (After made) before → Restores place before dumped verdicts after
    → IsBookIn (After (place_after place dumped verdicts made)) after
second_book place made least before [] [] after behind within rise book h = subst (IsBookIn (After made)) (sym h) book
second_book place made least before [] (verdict ∷ verdicts) after behind within rise book h = absurd h
second_book place made least before (it ∷ more) [] after behind within rise book h = absurd h
second_book place made least before (it ∷ more) (verdict ∷ verdicts) after behind within rise book h =
    let second = second_at place it.number (omega (arith, behind, rise.0)) in
    let long = lengths (edition_at place it.number) before it.key it.command verdict h.0 h.1 in
    subst (λ (edition : Edition). IsBookIn (After (place_after place more verdicts (place_by edition verdict made))) after) (sym second)
    (second_book place made it.number h.0 more verdicts after (omega (arith, behind, rise.0)) (omega (arith, within, long, no_fewer verdict (length before))) rise.1
    (grows (After made) (edition_at place it.number) before it.key it.command verdict h.0 (second ∙ sym (second_there made before within)) book h.1) h.2)

-- what more commands leave is a book, of which so many entries before them are of edition 1
abbrev Made : ℕ → List Dumped → List Verdict → List Entry → ℕ → Type 0
Made place more verdicts after count = IsBookIn (After (place_after place more verdicts count)) after

-- up to the place all entries are of edition 1
pub first_book : (place least : ℕ) (before : List Entry) (dumped : List Dumped) (verdicts : List Verdict) (after : List Entry)
    → NeverFall least dumped → IsBookIn NotYet before → Restores place before dumped verdicts after
    → IsBookIn (After (place_after place dumped verdicts (length before))) after
first_book place least before [] [] after rise book h =
    subst (IsBookIn (After (length before))) (sym h) ((up_to_place (length before) before (omega arith)).1 book)
first_book place least before [] (verdict ∷ verdicts) after rise book h = absurd h
first_book place least before (it ∷ more) [] after rise book h = absurd h
first_book place least before (it ∷ more) (verdict ∷ verdicts) after rise book h =
    go (nat_le it.number place) refl (λ here. first_book place it.number h.0 more verdicts after rise.1 here h.2)
  where
    go : (b : Bool) → nat_le it.number place ≡ b → (IsBookIn NotYet h.0 → Made place more verdicts after (length h.0))
        → IsBookIn (After (place_after place (it ∷ more) (verdict ∷ verdicts) (length before))) after
    go true is rest =
        let first = first_at place it.number (leb-true it.number place is) in
        let long = lengths (edition_at place it.number) before it.key it.command verdict h.0 h.1 in
        subst (λ (edition : Edition). Made place more verdicts after (place_by edition verdict (length before))) (sym first)
        (subst (Made place more verdicts after) (long ∙ sym (by_first verdict (length before)))
        (rest (grows NotYet (edition_at place it.number) before it.key it.command verdict h.0 first book h.1)))
    go false is rest =
        second_book place (length before) it.number before (it ∷ more) (verdict ∷ verdicts) after (leb-false it.number place is) (omega arith)
        (omega arith, rise.1) ((up_to_place (length before) before (omega arith)).1 book) h

-- ---- one command more

-- one more command behind those before it
pub restores_more : (place : ℕ) (before : List Entry) (done : List Dumped) (verdicts : List Verdict) (mid : List Entry) (next : Dumped) (verdict : Verdict)
    (after : List Entry) → Restores place before done verdicts mid → JudgesBy (edition_at place next.number) mid next.key next.command verdict after
    → Restores place before (done ++ next ∷ []) (verdicts ++ verdict ∷ []) after
restores_more place before [] [] mid next verdict after h judged =
    (after, subst (λ (book : List Entry). JudgesBy (edition_at place next.number) book next.key next.command verdict after) h judged, refl)
restores_more place before [] (v ∷ verdicts) mid next verdict after h judged = absurd h
restores_more place before (it ∷ done) [] mid next verdict after h judged = absurd h
restores_more place before (it ∷ done) (v ∷ verdicts) mid next verdict after h judged =
    (h.0, h.1, restores_more place h.0 done verdicts mid next verdict after h.2 judged)

-- the place of migration then
pub place_more : (place made : ℕ) (before : List Entry) (done : List Dumped) (verdicts : List Verdict) (mid : List Entry) (next : Dumped) (verdict : Verdict)
    → Restores place before done verdicts mid
    → place_after place (done ++ next ∷ []) (verdicts ++ verdict ∷ []) made ≡ place_by (edition_at place next.number) verdict (place_after place done verdicts made)
place_more place made before [] [] mid next verdict h = refl
place_more place made before [] (v ∷ verdicts) mid next verdict h = absurd h
place_more place made before (it ∷ done) [] mid next verdict h = absurd h
place_more place made before (it ∷ done) (v ∷ verdicts) mid next verdict h =
    place_more place (place_by (edition_at place it.number) v made) h.0 done verdicts mid next verdict h.2

-- its number isn't less than the last
pub rises_more : (least : ℕ) (done : List Dumped) (next : Dumped) → NeverFall least done → last_number least done ≤ next.number
    → NeverFall least (done ++ next ∷ [])
rises_more least [] next rise last = (last, tt)
rises_more least (it ∷ done) next rise last = (rise.0, rises_more it.number done next rise.1 last)

-- numbers that never fall, cut in two
pub rises_split : (least : ℕ) (done left : List Dumped) → NeverFall least (done ++ left) → NeverFall least done × NeverFall (last_number least done) left
rises_split least [] left rise = (tt, rise)
rises_split least (it ∷ done) left rise = let rest = rises_split it.number done left rise.1 in ((rise.0, rest.0), rest.1)

least_of_all : (least : ℕ) (done : List Dumped) (next : Dumped) → NeverFall least (done ++ next ∷ []) → least ≤ next.number
least_of_all least [] next rise = rise.0
least_of_all least (it ∷ done) next rise = omega (arith, rise.0, least_of_all it.number done next rise.1)

-- before a command of edition 1 all entries are of edition 1
all_first : (place least : ℕ) (before : List Entry) (done : List Dumped) (verdicts : List Verdict) (mid : List Entry) (next : Dumped)
    → NeverFall least (done ++ next ∷ []) → next.number ≤ place → Restores place before done verdicts mid
    → place_after place done verdicts (length before) ≡ length mid
all_first place least before [] [] mid next rise first h = ap length (sym h)
all_first place least before [] (v ∷ verdicts) mid next rise first h = absurd h
all_first place least before (it ∷ done) [] mid next rise first h = absurd h
all_first place least before (it ∷ done) (v ∷ verdicts) mid next rise first h =
    let here = first_at place it.number (omega (arith, first, least_of_all it.number done next rise.1)) in
    let long = lengths (edition_at place it.number) before it.key it.command v h.0 h.1 in
    ap (λ (edition : Edition). place_after place done verdicts (place_by edition v (length before))) here
    ∙ ap (λ (made : ℕ). place_after place done verdicts made) (by_first v (length before) ∙ sym long)
    ∙ all_first place it.number h.0 done verdicts mid next rise.1 first h.2

-- so the edition of the next command may judge it
pub next_may : (place : ℕ) (done : List Dumped) (verdicts : List Verdict) (mid : List Entry) (next : Dumped) → NeverFall 0 (done ++ next ∷ [])
    → Restores place [] done verdicts mid → MayJudge (edition_at place next.number) mid (place_after place done verdicts 0)
next_may place done verdicts mid next rise h = go (nat_le next.number place) refl
  where
    go : (b : Bool) → nat_le next.number place ≡ b → MayJudge (cond b First Second) mid (place_after place done verdicts 0)
    go true is = all_first place 0 [] done verdicts mid next rise (leb-true next.number place is) h
    go false is = tt

-- ---- commands so far, in the open transaction

pub none_restored : (place : ℕ) (Kept : List Entry → Type 0) (s : State) → StandsAt Kept s [] 0 → AreRestored place [] [] Kept s
none_restored place Kept s at = record { book = []; restores = refl; stands = at }

-- with the next one judged they are those so far
pub next_restored : (place : ℕ) (done : List Dumped) (verdicts : List Verdict) (Kept KeptThen : List Entry → Type 0) (next : Dumped) (verdict : Verdict) (old new : State)
    → HasCleanDisk new → NeverFall 0 (done ++ next ∷ []) → AreRestored place done verdicts Kept old
    → JudgesNextBy (edition_at place next.number) Kept KeptThen next.key next.command old new (Ok verdict)
    → AreRestored place (done ++ next ∷ []) (verdicts ++ verdict ∷ []) KeptThen new
next_restored place done verdicts Kept KeptThen next verdict old new clean rise so judges =
    let made = place_after place done verdicts 0 in
    let it = judges.judged clean so.book made so.stands (next_may place done verdicts so.book next rise so.restores) in
    record {
      book = it.0;
      restores = restores_more place [] done verdicts so.book next verdict it.0 so.restores it.1;
      stands = subst (λ (n : ℕ). StandsAt KeptThen new it.0 n) (sym (place_more place 0 [] done verdicts so.book next verdict so.restores)) it.2;
    }
