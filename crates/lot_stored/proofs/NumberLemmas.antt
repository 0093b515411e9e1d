-- Which entry the legs and the sales of a book are of.
use Rattle.std.specs.Prelude.{◌≡◌, ℕ, suc, ◌≤◌, List, [], ◌∷◌, ◌++◌, length}
use Rattle.std.specs.List.{AllByRecursion}
use Rattle.std.proofs.Common.{sym, subst, ◌∙◌, arith, add-one, append_assoc, length-append}
use Rattle.std.proofs.lemmas.List.{append-nil}
use Rattle.sqlite.specs.Tree.{IsAscending}
use Rattle.sqlite_keyed.proofs.ListLemmas.{all-append, all_weaker}
use Rattle.lot_command.specs.declared.command.Command.{Command}
use Rattle.lot_command.specs.declared.command.Command.TheVariants.{Opening, Closing, Declaring, Quoting, Transaction}
use Rattle.lot_book.specs.Book.{ContinuesIn, IsBookIn}
use Rattle.lot_book.specs.Booking.{TieRule}
use Rattle.lot_book.specs.Edition.{Migration, edition_on, ties_in}
use Rattle.lot_book.specs.Facts.{Entry, Facts, facts_of, legs_of}
use Rattle.lot_book.specs.Refusals.{already_declared, already_open, book_full, closing_again, closing_too_early, closing_unknown}
use Rattle.lot_book.specs.Step.{Accept, JudgesUnder, first_conditions, first_of}
use Rattle.lot_book.specs.declared.leg.Leg.{Leg}
use Rattle.lot_laws.proofs.LawBooks.{accepted, none_holds}
use Rattle.lot_laws.proofs.RecordedBook.{legs_of-append}
use Rattle.lot_stored.proofs.BookedLemmas.{Precedes, booked_as, transaction_legs}

-- ---- an accepted command

-- no command but a transaction has legs
abbrev pub AreLegsFor : Command → List Leg → Type 0
AreLegsFor (Opening o) legs = legs ≡ []
AreLegsFor (Closing c) legs = legs ≡ []
AreLegsFor (Declaring d) legs = legs ≡ []
AreLegsFor (Quoting q) legs = legs ≡ []
AreLegsFor (Transaction t) legs = Unit {0}

pub legs_for : (ties : TieRule) (facts : Facts) (command : Command) (legs : List Leg) → JudgesUnder ties facts command (Accept legs) → AreLegsFor command legs
legs_for ties facts (Opening o) legs judges =
    (none_holds (first_of (already_open facts o.account ∷ book_full facts ∷ [])) legs [] judges).1
legs_for ties facts (Closing c) legs judges =
    (none_holds (first_of (closing_unknown facts c.account ∷ closing_too_early facts c.account c.day
    ∷ closing_again facts c.account ∷ book_full facts ∷ [])) legs [] judges).1
legs_for ties facts (Declaring d) legs judges =
    (none_holds (first_of (already_declared facts d.commodity ∷ book_full facts ∷ [])) legs [] judges).1
legs_for ties facts (Quoting q) legs judges = (none_holds (first_of (book_full facts ∷ [])) legs [] judges).1
legs_for ties facts (Transaction t) legs judges = tt

-- the legs of an accepted command bear the number of its entry, and those of each posting rise
abbrev pub AreOwn : ℕ → List Leg → Type 0
AreOwn entry legs = AllByRecursion (λ (leg : Leg). leg.entry ≡ entry) legs × IsAscending Precedes legs

none_own : (entry : ℕ) (legs : List Leg) → legs ≡ [] → AreOwn entry legs
none_own entry legs none = subst (AreOwn entry) (sym none) (tt, tt)

pub own_legs : (ties : TieRule) (facts : Facts) (command : Command) (legs : List Leg) → JudgesUnder ties facts command (Accept legs)
    → AreOwn (suc facts.entries) legs
own_legs ties facts (Opening o) legs judges = none_own (suc facts.entries) legs (legs_for ties facts (Opening o) legs judges)
own_legs ties facts (Closing c) legs judges = none_own (suc facts.entries) legs (legs_for ties facts (Closing c) legs judges)
own_legs ties facts (Declaring d) legs judges = none_own (suc facts.entries) legs (legs_for ties facts (Declaring d) legs judges)
own_legs ties facts (Quoting q) legs judges = none_own (suc facts.entries) legs (legs_for ties facts (Quoting q) legs judges)
own_legs ties facts (Transaction t) legs judges =
    transaction_legs ties facts t legs (booked_as ties facts t (first_of (first_conditions facts t)) legs judges)

-- ---- the legs of a book

pub one_longer : {X : Type 0} (xs : List X) (x : X) → length (xs ++ x ∷ []) ≡ suc (length xs)
one_longer xs x = length-append xs (x ∷ []) ∙ add-one (length xs)

-- each leg is of some entry
abbrev pub AreOfEntries : List Entry → Type 0
AreOfEntries book = AllByRecursion (λ (leg : Leg). leg.entry ≤ length book) (legs_of book)

pub numbered_next : (ties : TieRule) (before : List Entry) (entry : Entry) → AreOfEntries before
    → JudgesUnder ties (facts_of before entry.key) entry.command (Accept entry.legs)
    → AreOfEntries (before ++ entry ∷ [])
numbered_next ties before entry numbered judges =
    let number = length before in
    let here : (leg : Leg) → leg.entry ≡ suc number → leg.entry ≤ length (before ++ entry ∷ []) =
    λ leg is. subst (λ n. leg.entry ≤ n) (sym (one_longer before entry)) (omega arith) in
    let there : (leg : Leg) → leg.entry ≤ number → leg.entry ≤ length (before ++ entry ∷ []) =
    λ leg less. subst (λ n. leg.entry ≤ n) (sym (one_longer before entry)) (omega arith) in
    subst (AllByRecursion (λ (leg : Leg). leg.entry ≤ length (before ++ entry ∷ []))) (sym (legs_of-append before entry))
    (all-append (λ (leg : Leg). leg.entry ≤ length (before ++ entry ∷ [])) (legs_of before) entry.legs
    (all_weaker (λ (leg : Leg). leg.entry ≤ number) (λ (leg : Leg). leg.entry ≤ length (before ++ entry ∷ [])) there (legs_of before) numbered)
    (all_weaker (λ (leg : Leg). leg.entry ≡ suc number) (λ (leg : Leg). leg.entry ≤ length (before ++ entry ∷ [])) here entry.legs
    (own_legs ties (facts_of before entry.key) entry.command entry.legs judges).0))

numbered_all : (migration : Migration) (before entries : List Entry) → AreOfEntries before → ContinuesIn migration before entries → AreOfEntries (before ++ entries)
numbered_all migration before [] numbered continues = subst AreOfEntries (sym (append-nil before)) numbered
numbered_all migration before (entry ∷ entries) numbered continues =
    subst AreOfEntries (append_assoc before (entry ∷ []) entries)
    (numbered_all migration (before ++ entry ∷ []) entries
    (numbered_next (ties_in (edition_on migration before) before) before entry numbered
    (accepted (edition_on migration before) before entry.key entry.command entry.legs continues.0).1) continues.1)

pub numbered_legs : (migration : Migration) (book : List Entry) → IsBookIn migration book → AreOfEntries book
numbered_legs migration book is = numbered_all migration [] book tt is

-- the legs of the next entry are of none before it
pub precede_next : (book : List Entry) (legs : List Leg) → AreOfEntries book
    → AllByRecursion (λ (leg : Leg). leg.entry ≡ suc (length book)) legs
    → AllByRecursion (λ (a : Leg). AllByRecursion (Precedes a) legs) (legs_of book)
precede_next book legs numbered own =
    all_weaker (λ (leg : Leg). leg.entry ≤ length book) (λ (a : Leg). AllByRecursion (Precedes a) legs)
    (λ a below. all_weaker (λ (leg : Leg). leg.entry ≡ suc (length book)) (Precedes a)
    (λ b is same _. absurd (apart a.entry b.entry (length book) below is same)) legs own) (legs_of book) numbered
  where
    apart : (m n most : ℕ) → m ≤ most → n ≡ suc most → m ≡ n → ⊥
    apart m n most below is same = omega arith
