-- Facts that record each accepted command are what the book says.
use Rattle.std.specs.Prelude.{◌≡◌, ℕ, suc, ◌<◌, Bool, true, false, cond, ◌||◌, List, [], ◌∷◌, ◌++◌, length, Option, None, Some, is_some, ℤ, nat_le}
use Rattle.std.specs.FinMap as finite
use Rattle.std.specs.Option.{is_none, option_map, option_or}
use Rattle.std.proofs.Common.{refl, sym, ap, subst, ◌∙◌, arith, inl, inr, add-one, append_assoc, length-append}
use Rattle.std.proofs.lemmas.Grind.{flat_map-append}
use Rattle.std.proofs.lemmas.Bool.{cases_lt}
use Rattle.std.proofs.lemmas.Bool.Decides.{nat_tests}
use Rattle.std.proofs.lemmas.List.{append-nil}
use Rattle.std.proofs.lemmas.List.Folds.{list_any-append}
use Rattle.lot_base.specs.Text.{same_text}
use Rattle.lot_base.proofs.OptionLemmas.{none_there, not_mapped, or_none, or_or}
use Rattle.lot_base.proofs.TextLemmas.{one_text}
use Rattle.lot_inv.specs.Zeros.{HasNoZeros}
use Rattle.lot_inv.proofs.LotLemmas.{same_held}
use Rattle.lot_book.specs.declared.leg.Position.{Position}
use Rattle.lot_command.specs.Canonical.{canonical}
use Rattle.lot_command.specs.declared.command.Command.{Command}
use Rattle.lot_command.specs.declared.command.Command.TheVariants.{Opening, Closing, Declaring, Quoting, Transaction}
use Rattle.lot_command.specs.declared.command.Opening.{Opening as OpeningOf}
use Rattle.lot_command.specs.declared.command.Closing.{Closing as ClosingOf}
use Rattle.lot_command.specs.declared.key.Key.{Key}
use Rattle.lot_book.specs.declared.leg.Leg.{Leg}
use Rattle.lot_book.specs.declared.refusal.Refusal.{Refusal}
use Rattle.lot_book.specs.declared.refusal.Refusal.TheVariants.{AlreadyOpen, BookFull, KeyReused, UnknownAccount}
use Rattle.lot_book.specs.Book.{ContinuesIn, IsBook, IsBookIn, entry_of}
use Rattle.lot_book.specs.Edition.{After, Edition, Migration, edition_on, ties_in}
use Rattle.lot_book.specs.Facts.{Entry, Facts, closing_by, closing_of, declares, facts_of, is_declared, legs_of, opening_by, opening_of, standing_by, standing_of, text_under}
use Rattle.lot_book.specs.Leg.{inventory_of, with_legs}
use Rattle.lot_book.specs.Refusals.{already_declared, already_open, book_full, closing_again, closing_too_early, closing_unknown, fill_not_allowed, fill_out_of_range, holds_as, inexact_fill, most_entries, not_balanced, too_many_lots}
use Rattle.lot_book.specs.Step.{Accept, DecidesByUnder, DecidesUnder, JudgesTransactionUnder, JudgesUnder, Refuse, Repeat, Step, StepIn, accept_unless, all_legs, concluded, fill_legs, first_conditions, first_of}
use Rattle.lot_book.specs.Balance.{elided_postings, residuals, weights_in}
use Rattle.lot_book.specs.Booking.{All, Bookings, Stopped, TieRule, legs_in}
use Rattle.lot_book.specs.declared.change.Change.{Change}
use Rattle.lot_laws.proofs.LawBooks.{accepted, second_there}
use Rattle.lot_laws.proofs.RecordedDays.{last_none, latest-recorded}
use Rattle.lot_book.specs.Change.{IsChange, ListsSums, day_listed}
use Rattle.lot_book.specs.Recorded.{closed_on, facts_in, nothing_but, recorded, standing_after, with_rows, with_text}
use Rattle.lot_book.proofs.LegLemmas.{with_legs-append}
use Rattle.lot_book.proofs.FactLemmas.{same_facts}
use Rattle.lot_book.proofs.HeldLemmas.{get-with_legs, get-with_rows, no_zeros-empty, no_zeros-legs}

-- ---- what an acceptance says

holds_not : (holds : Bool) (refusal : Refusal) (conditions : List (Option Refusal)) (legs others : List Leg)
    → Accept legs ≡ accept_unless (first_of (holds_as holds refusal ∷ conditions)) others
    → (holds ≡ false) × (Accept legs ≡ accept_unless (first_of conditions) others)
holds_not true refusal conditions legs others e = cc
holds_not false refusal conditions legs others e = (refl, e)

-- the key of an accepted command is new
pub key_was_new : (ties : TieRule) (facts : Facts) (command : Command) (legs : List Leg) (text : Option (List ℕ))
    → DecidesByUnder ties text facts command (Accept legs)
    → (text ≡ None) × JudgesUnder ties facts command (Accept legs)
key_was_new ties facts command legs None judges = (refl, judges)
key_was_new ties facts command legs (Some text) e = absurd (by (same_text text (canonical command)) e)
  where
    by : (b : Bool) → Accept legs ≡ cond b Repeat (Refuse KeyReused) → ⊥
    by true e = cc
    by false e = cc

-- an account that is opened wasn't open
pub opening_is_new : (ties : TieRule) (facts : Facts) (o : OpeningOf) (legs : List Leg)
    → JudgesUnder ties facts (Opening o) (Accept legs)
    → facts.standing o.account ≡ None
opening_is_new ties facts o legs judges =
    none_there (facts.standing o.account)
    (holds_not (is_some (facts.standing o.account)) AlreadyOpen (book_full facts ∷ []) legs [] judges).0

-- an account that is closed was open
pub closing_is_known : (ties : TieRule) (facts : Facts) (c : ClosingOf) (legs : List Leg)
    → JudgesUnder ties facts (Closing c) (Accept legs)
    → is_none (facts.standing c.account) ≡ false
closing_is_known ties facts c legs judges =
    (holds_not (is_none (facts.standing c.account)) (UnknownAccount None)
    (closing_too_early facts c.account c.day ∷ closing_again facts c.account ∷ book_full facts ∷ []) legs [] judges).0

none_holds : (condition : Option Refusal) (legs others : List Leg) → Accept legs ≡ accept_unless condition others
    → condition ≡ None
none_holds None legs others e = refl
none_holds (Some refusal) legs others e = cc

room_where_not_full : (facts : Facts) → book_full facts ≡ None → facts.entries < most_entries
room_where_not_full facts none = by facts.entries most_entries none
  where
    by : (n m : ℕ) → holds_as (nat_le m n) BookFull ≡ None → n < m
    by n m e = elim (cases_lt n m) [
      | inl less ↦ less
      | inr full ↦ absurd (grind (arith, nat_tests))
    ]

-- a book that accepts a command isn't full
pub room_where_accepted : (ties : TieRule) (facts : Facts) (command : Command) (legs : List Leg)
    → JudgesUnder ties facts command (Accept legs)
    → facts.entries < most_entries
room_where_accepted ties facts command legs judges = room_where_not_full facts (by command judges)
  where
    by : (c : Command) → JudgesUnder ties facts c (Accept legs) → book_full facts ≡ None
    by (Opening o) judges =
        let conditions = already_open facts o.account ∷ [] in
        last_none conditions (book_full facts) (none_holds (first_of (conditions ++ book_full facts ∷ [])) legs [] judges)
    by (Closing c) judges =
        let conditions =
        closing_unknown facts c.account ∷ closing_too_early facts c.account c.day ∷ closing_again facts c.account ∷ [] in
        last_none conditions (book_full facts) (none_holds (first_of (conditions ++ book_full facts ∷ [])) legs [] judges)
    by (Declaring d) judges =
        let conditions = already_declared facts d.commodity ∷ [] in
        last_none conditions (book_full facts) (none_holds (first_of (conditions ++ book_full facts ∷ [])) legs [] judges)
    by (Quoting q) judges = last_none [] (book_full facts) (none_holds (first_of (book_full facts ∷ [])) legs [] judges)
    by (Transaction t) judges = transacts (first_of (first_conditions facts t)) judges
      where
        books : (bookings : Bookings) → Accept legs ≡ concluded facts t bookings → book_full facts ≡ None
        books (Stopped refusal) e = cc
        books (All booked) e =
            let elided = elided_postings 1 t.postings in
            let rs = residuals (weights_in booked) in
            let conditions =
            inexact_fill elided rs ∷ fill_not_allowed facts elided rs ∷ fill_out_of_range facts elided (legs_in booked)
            (fill_legs facts t booked)
            ∷ not_balanced elided rs ∷ too_many_lots facts (all_legs facts t booked) t.postings ∷ [] in
            last_none conditions (book_full facts)
            (none_holds (first_of (conditions ++ book_full facts ∷ [])) legs (all_legs facts t booked) e)

        transacts : (refused : Option Refusal) → JudgesTransactionUnder ties facts t refused (Accept legs)
            → book_full facts ≡ None
        transacts (Some refusal) e = cc
        transacts None judges = books judges.0 judges.2

pub room_where_decided : (ties : TieRule) (facts : Facts) (command : Command) (legs : List Leg)
    → DecidesUnder ties facts command (Accept legs)
    → facts.entries < most_entries
room_where_decided ties facts command legs decides =
    room_where_accepted ties facts command legs (key_was_new ties facts command legs facts.text decides).1

-- ---- openings and closings

pub opening_of-append : (entries : List Entry) (entry : Entry) (account : List ℕ)
    → opening_of (entries ++ entry ∷ []) account ≡ option_or (opening_of entries account) (opening_by account entry.command)
opening_of-append [] entry account = or_none (opening_by account entry.command)
opening_of-append (first ∷ entries) entry account =
    ap (option_or (opening_by account first.command)) (opening_of-append entries entry account)
    ∙ or_or (opening_by account first.command) (opening_of entries account) (opening_by account entry.command)

closing_of-append : (entries : List Entry) (entry : Entry) (account : List ℕ)
    → closing_of (entries ++ entry ∷ []) account ≡ option_or (closing_of entries account) (closing_by account entry.command)
closing_of-append [] entry account = or_none (closing_by account entry.command)
closing_of-append (first ∷ entries) entry account =
    ap (option_or (closing_by account first.command)) (closing_of-append entries entry account)
    ∙ or_or (closing_by account first.command) (closing_of entries account) (closing_by account entry.command)

-- an account that was never opened was never closed
abbrev pub ClosesOpened : List Entry → Type 0
ClosesOpened entries = (account : List ℕ) → opening_of entries account ≡ None → closing_of entries account ≡ None

first_none : {X : Type 0} (o p : Option X) → option_or o p ≡ None → o ≡ None
first_none None p e = refl
first_none (Some x) p e = cc

-- a command that is accepted closes no account that wasn't opened
closes_none : (ties : TieRule) (book : List Entry) (key : Key) (command : Command) (legs : List Leg) (account : List ℕ)
    → JudgesUnder ties (facts_of book key) command (Accept legs)
    → opening_of book account ≡ None → closing_by account command ≡ None
closes_none ties book key (Opening o) legs account judges e = refl
closes_none ties book key (Declaring d) legs account judges e = refl
closes_none ties book key (Quoting q) legs account judges e = refl
closes_none ties book key (Transaction t) legs account judges e = refl
closes_none ties book key (Closing c) legs account judges e = by (same_text account c.account) refl
  where
    known : is_none (standing_of book c.account) ≡ false
    known = closing_is_known ties (facts_of book key) c legs judges

    by : (b : Bool) → same_text account c.account ≡ b → cond b (Some c.day) None ≡ None
    by true here =
        let unknown : opening_of book c.account ≡ None = ap (opening_of book) (sym (one_text account c.account here)) ∙ e in
        let contrary : true ≡ false =
        sym (ap (λ (o : Option OpeningOf). is_none (option_map (standing_by (closing_of book c.account)) o)) unknown) ∙ known in
        cc
    by false apart = refl

closes_opened-append : (edition : Edition) (before : List Entry) (entry : Entry) → ClosesOpened before
    → StepIn edition before entry.key entry.command (Accept entry.legs) → ClosesOpened (before ++ entry ∷ [])
closes_opened-append edition before entry closes step account e =
    let unknown : opening_of before account ≡ None =
    first_none (opening_of before account) (opening_by account entry.command)
    (sym (opening_of-append before entry account) ∙ e) in
    let judges = (accepted edition before entry.key entry.command entry.legs step).1 in
    closing_of-append before entry account
    ∙ ap (λ o. option_or o (closing_by account entry.command)) (closes account unknown)
    ∙ closes_none (ties_in edition before) before entry.key entry.command entry.legs account judges unknown

closes_opened-continues : (migration : Migration) (before entries : List Entry) → ClosesOpened before → ContinuesIn migration before entries
    → ClosesOpened (before ++ entries)
closes_opened-continues migration before [] closes continues = subst ClosesOpened (sym (append-nil before)) closes
closes_opened-continues migration before (entry ∷ entries) closes continues =
    subst ClosesOpened (append_assoc before (entry ∷ []) entries)
    (closes_opened-continues migration (before ++ entry ∷ []) entries
    (closes_opened-append (edition_on migration before) before entry closes continues.0) continues.1)

pub closes_opened : (migration : Migration) (book : List Entry) → IsBookIn migration book → ClosesOpened book
closes_opened migration book is = closes_opened-continues migration [] book (λ account e. refl) is

-- how an account stands is what its opening and its closing say
standing_of-append : (book : List Entry) (entry : Entry) (account : List ℕ)
    → standing_of (book ++ entry ∷ []) account
    ≡ option_map (standing_by (option_or (closing_of book account) (closing_by account entry.command)))
    (option_or (opening_of book account) (opening_by account entry.command))
standing_of-append book entry account =
    λ i. option_map (standing_by (closing_of-append book entry account i)) (opening_of-append book entry account i)

standing_kept : (closing : Option ℤ) (opening : Option OpeningOf)
    → option_map (standing_by closing) opening ≡ option_map (standing_by (option_or closing None)) (option_or opening None)
standing_kept closing opening = λ i. option_map (standing_by (sym (or_none closing) i)) (sym (or_none opening) i)

pub standing-recorded : (ties : TieRule) (book : List Entry) (key : Key) (command : Command) (legs : List Leg) → ClosesOpened book
    → JudgesUnder ties (facts_of book key) command (Accept legs)
    → (account : List ℕ) → standing_after account command (standing_of book account)
    ≡ standing_of (book ++ entry_of key command legs ∷ []) account
standing-recorded ties book key command legs closes judges account =
    by command judges ∙ sym (standing_of-append book (entry_of key command legs) account)
  where
    by : (c : Command) → JudgesUnder ties (facts_of book key) c (Accept legs)
        → standing_after account c (standing_of book account)
        ≡ option_map (standing_by (option_or (closing_of book account) (closing_by account c)))
        (option_or (opening_of book account) (opening_by account c))
    by (Declaring d) judges = standing_kept (closing_of book account) (opening_of book account)
    by (Quoting q) judges = standing_kept (closing_of book account) (opening_of book account)
    by (Transaction t) judges = standing_kept (closing_of book account) (opening_of book account)
    by (Closing c) judges = closes_by (same_text account c.account) (opening_of book account)
      where
        closes_by : (b : Bool) (o : Option OpeningOf)
            → cond b (option_map (closed_on c.day) (option_map (standing_by (closing_of book account)) o))
            (option_map (standing_by (closing_of book account)) o)
            ≡ option_map (standing_by (option_or (closing_of book account) (cond b (Some c.day) None))) (option_or o None)
        closes_by true None = refl
        closes_by true (Some o) = refl
        closes_by false o = standing_kept (closing_of book account) o
    by (Opening o) judges = opens_by (same_text account o.account) refl
      where
        opens_by : (b : Bool) → same_text account o.account ≡ b
            → cond b (Some (standing_by None o)) (standing_of book account)
            ≡ option_map (standing_by (option_or (closing_of book account) None))
            (option_or (opening_of book account) (cond b (Some o) None))
        opens_by true here =
            let new : standing_of book account ≡ None =
            ap (standing_of book) (one_text account o.account here) ∙ opening_is_new ties (facts_of book key) o legs judges in
            let unknown : opening_of book account ≡ None =
            not_mapped (standing_by (closing_of book account)) (opening_of book account) new in
            rw (unknown, closes account unknown) refl
        opens_by false apart = standing_kept (closing_of book account) (opening_of book account)

-- ---- commodities

or_turned : (a b : Bool) → (a || b) ≡ (b || (a || false))
or_turned true true = refl
or_turned true false = refl
or_turned false true = refl
or_turned false false = refl

pub declared-recorded : (book : List Entry) (entry : Entry) (commodity : List ℕ)
    → (declares commodity entry.command || is_declared book commodity) ≡ is_declared (book ++ entry ∷ []) commodity
declared-recorded book entry commodity =
    or_turned (declares commodity entry.command) (is_declared book commodity)
    ∙ sym (list_any-append (λ (e : Entry). declares commodity e.command) book (entry ∷ []))

-- ---- inventories

pub legs_of-append : (book : List Entry) (entry : Entry) → legs_of (book ++ entry ∷ []) ≡ legs_of book ++ entry.legs
legs_of-append book entry =
    flat_map-append (λ (e : Entry). e.legs) book (entry ∷ [])
    ∙ ap (λ legs. legs_of book ++ legs) (append-nil entry.legs)

pub inventory_of-append : (book : List Entry) (entry : Entry) (account : List ℕ)
    → inventory_of (legs_of (book ++ entry ∷ [])) account ≡ with_legs account (inventory_of (legs_of book) account) entry.legs
inventory_of-append book entry account =
    ap (λ legs. inventory_of legs account) (legs_of-append book entry)
    ∙ with_legs-append account finite.empty (legs_of book) entry.legs

-- rows that list the sums after legs make the inventory with the legs
held-recorded : (facts : Facts) (legs : List Leg) (rows : List (Position × ℤ)) (account : List ℕ)
    → HasNoZeros (facts.held account) → ListsSums facts legs rows
    → with_rows account (facts.held account) rows ≡ with_legs account (facts.held account) legs
held-recorded facts legs rows account kept lists = same_held _ _ (λ place.
    get-with_rows account (facts.held account) rows place ∙ sym (get-with_legs facts legs rows account kept lists place))

-- ---- one more entry

entries-recorded : (book : List Entry) (entry : Entry) → suc (length book) ≡ length (book ++ entry ∷ [])
entries-recorded book entry = sym (length-append book (entry ∷ []) ∙ add-one (length book))

-- The facts of a book, once an accepted command is recorded, are those of the book with its entry. How ties were decided
-- doesn't matter: the legs are those of the change.
recorded-facts : (ties : TieRule) (migration : Migration) (book : List Entry) (key : Key) (command : Command) (legs : List Leg) (change : Change)
    → IsBookIn migration book → DecidesUnder ties (facts_of book key) command (Accept legs)
    → IsChange (facts_of book key) command legs change
    → recorded (facts_of book key) command change ≡ facts_in (book ++ entry_of key command legs ∷ [])
recorded-facts ties migration book key command legs change is decides changes =
    let entry = entry_of key command legs in
    let facts = facts_of book key in
    let judges = (key_was_new ties facts command legs (text_under book key) decides).1 in
    same_facts (recorded facts command change) (facts_in (book ++ entry ∷ []))
    (entries-recorded book entry)
    refl
    (standing-recorded ties book key command legs (closes_opened migration book is) judges)
    (declared-recorded book entry)
    (λ account commodity. latest-recorded ties book key entry account commodity (day_listed change.heads account commodity) judges
    (changes.heads account commodity))
    (λ account. held-recorded facts legs change.positions.entries account
    (no_zeros-legs account finite.empty (legs_of book) no_zeros-empty) changes.positions
    ∙ sym (inventory_of-append book entry account))

-- the same of facts that are those of the book, as a view holds them
pub recorded-known : (ties : TieRule) (migration : Migration) (facts : Facts) (book : List Entry) (key : Key) (command : Command) (legs : List Leg) (change : Change)
    → IsBookIn migration book → facts ≡ facts_of book key → DecidesUnder ties facts command (Accept legs)
    → IsChange facts command legs change
    → recorded facts command change ≡ facts_in (book ++ entry_of key command legs ∷ [])
recorded-known ties migration facts book key command legs change is same decides changes =
    ap (λ (f : Facts). recorded f command change) same
    ∙ recorded-facts ties migration book key command legs change is
    (subst (λ (f : Facts). DecidesUnder ties f command (Accept legs)) same decides)
    (subst (λ (f : Facts). IsChange f command legs change) same changes)

-- a book says no more to a command with a new key
pub new-key : (entries : List Entry) (key : Key) → text_under entries key ≡ None → facts_in entries ≡ facts_of entries key
new-key entries key none = λ i. record (facts_in entries) { text = sym none i }

-- to a command with a key that it has it says what text stands under it
pub known-key : (entries : List Entry) (key : Key) (text : List ℕ) → text_under entries key ≡ Some text
    → with_text text (facts_in entries) ≡ facts_of entries key
known-key entries key text some = λ i. record (facts_in entries) { text = sym some i }

-- a book without entries says nothing
pub no-entries : nothing_but 0 ≡ facts_in []
no-entries = refl

-- an accepted command's entry continues a book
continues-append : (migration : Migration) (before entries : List Entry) (entry : Entry) → ContinuesIn migration before entries
    → StepIn (edition_on migration (before ++ entries)) (before ++ entries) entry.key entry.command (Accept entry.legs) → ContinuesIn migration before (entries ++ entry ∷ [])
continues-append migration before [] entry continues step =
    (subst (λ (b : List Entry). StepIn (edition_on migration b) b entry.key entry.command (Accept entry.legs)) (append-nil before) step, tt)
continues-append migration before (first ∷ entries) entry continues step = (
  continues.0,
  continues-append migration (before ++ first ∷ []) entries entry continues.1
      (subst (λ (b : List Entry). StepIn (edition_on migration b) b entry.key entry.command (Accept entry.legs))
      (sym (append_assoc before (first ∷ []) entries)) step),
)

pub book-grows_in : (migration : Migration) (book : List Entry) (key : Key) (command : Command) (legs : List Leg)
    → IsBookIn migration book → StepIn (edition_on migration book) book key command (Accept legs)
    → IsBookIn migration (book ++ entry_of key command legs ∷ [])
book-grows_in migration book key command legs is step = continues-append migration [] book (entry_of key command legs) is step

-- a book of edition 2 keeps its place of migration
pub book-grows : (book : List Entry) (key : Key) (command : Command) (legs : List Leg) → IsBook book
    → Step book key command (Accept legs)
    → IsBook (book ++ entry_of key command legs ∷ [])
book-grows book key command legs is step =
    let entry = entry_of key command legs in record {
      place = is.place;
      placed = omega (arith, is.placed, length-append book (entry ∷ []));
      is = book-grows_in (After is.place) book key command legs is.is
          (subst (λ (edition : Edition). StepIn edition book key command (Accept legs))
          (sym (second_there is.place book is.placed)) step);
    }
