-- Opening numbers as facts: what edition 2 looks at beside what edition 1 does.
use Rattle.std.specs.Prelude.{◌≡◌, ◌≢◌, ℕ, ◌&&◌, if◌then◌else◌, List, Some, ℤ, pos}
use Rattle.std.specs.BTreeMap.{BTreeMap}
use Rattle.std.specs.List.{AllByRecursion}
use Rattle.std.specs.Ordering.{int_eq}
use Rattle.lot_cost.specs.declared.lot_key.LotKey.{LotKey}
use Rattle.lot_inv.specs.Inventory.{Held, units_at}
use Rattle.lot_booking.specs.Method.{ByOpening}
use Rattle.lot_command.specs.declared.command.Command.{Command}
use Rattle.lot_command.specs.declared.key.Key.{Key}
use Rattle.lot_command.specs.declared.transaction.Amount.{Amount}
use Rattle.lot_book.specs.declared.change.Change.{Change}
use Rattle.lot_book.specs.declared.change.Pair.{Pair}
use Rattle.lot_book.specs.declared.leg.Leg.{Leg}
use Rattle.lot_book.specs.declared.leg.Position.{Position}
use Rattle.lot_book.specs.Agree.{Agrees}
use Rattle.lot_book.specs.Booking.{Line, TieRule, all_by_key, line_under}
use Rattle.lot_book.specs.Change.{IsAcceptedUnder, listed_or}
use Rattle.lot_book.specs.Edition.{Edition, First, Second}
use Rattle.lot_book.specs.Facts.{Entry, Facts, facts_of, legs_of}
use Rattle.lot_book.specs.Leg.{inventory_of, same_position}
use Rattle.lot_book.specs.OpeningNumber.{opening_in, opening_with_legs}
use Rattle.lot_book.specs.Recorded.{recorded}
use Rattle.lot_book.specs.Step.{DecidesUnder, Outcome}
use Rattle.lot_book.specs.Touched.{pairs_in}

-- ---- facts with opening numbers

-- the opening number of each lot, by account and commodity; of a lot that holds nothing it says nothing
abbrev pub Openings : Type 0
Openings = List ℕ → List ℕ → LotKey → ℕ

-- what a command with some key looks at, and the opening numbers of the lots that are held
pub record FactsWithOpenings : Type 0 where
  pub facts : Facts
  pub opening : Openings

-- what a book says to a command with that key
abbrev pub facts_with_openings : List Entry → Key → FactsWithOpenings
facts_with_openings entries key = record { facts = facts_of entries key; opening = opening_in (legs_of entries) }

-- each lot of the commodity that is held has the same number
abbrev pub HaveSameOpenings : List ℕ → Held → (LotKey → ℕ) → (LotKey → ℕ) → Type 0
HaveSameOpenings commodity held a b = (lot : LotKey) → units_at held (commodity, Some lot) ≢ pos 0 → a lot ≡ b lot

-- the numbers are those of a book, for each lot that is held there
abbrev pub AreOpeningsOf : List Entry → Openings → Type 0
AreOpeningsOf entries opening =
    (account commodity : List ℕ) → HaveSameOpenings commodity (inventory_of (legs_of entries) account)
    (opening account commodity) (opening_in (legs_of entries) account commodity)

-- ---- what further legs make of the numbers

-- all opening numbers after further legs
abbrev pub opening_after : FactsWithOpenings → List Leg → Openings
opening_after known legs account commodity =
    opening_with_legs account commodity (known.facts.held account) (known.opening account commodity) legs

-- the facts after an accepted command and what it changes
abbrev pub recorded_with_openings : FactsWithOpenings → Command → Change → FactsWithOpenings
recorded_with_openings known command change =
    record { facts = recorded known.facts command change; opening = opening_after known change.legs }

-- all opening numbers once those of a change are put in: a lot has the one that the change lists, or else its own
abbrev pub with_listed : BTreeMap Position ℕ → Openings → Openings
with_listed openings opening account commodity lot = listed_or openings account commodity lot (opening account commodity lot)

-- all opening numbers once units are added at a position under an opening number: a lot that holds nothing has that one
abbrev pub with_opening : FactsWithOpenings → Position → ℕ → Openings
with_opening known position number account commodity lot =
    if same_position (record { account = account; commodity = commodity; lot = Some lot }) position
    && int_eq (units_at (known.facts.held account) (commodity, Some lot)) (pos 0)
    then number else known.opening account commodity lot

-- ---- the step of edition 2 on facts

-- ties are decided by the opening numbers behind the legs so far of the transaction
abbrev pub ties_on : FactsWithOpenings → TieRule
ties_on known before account commodity = ByOpening (opening_after known before account commodity)

-- how an edition decides ties on what a book says
abbrev pub ties_for : Edition → FactsWithOpenings → TieRule
ties_for First known = all_by_key
ties_for Second known = ties_on known

-- the posting with that amount, on what a book says and the legs so far of the transaction, by an edition
abbrev pub line_in : Edition → FactsWithOpenings → ℤ → List Leg → ℕ → List ℕ → Amount → Line
line_in edition known day before place account amount =
    line_under (ties_for edition known) known.facts day before place account amount

-- what a command comes to on what a book says, by edition 2
abbrev pub DecidesByOpening : FactsWithOpenings → Command → Outcome → Type 0
DecidesByOpening known command outcome = DecidesUnder (ties_on known) known.facts command outcome

-- a command is accepted so, and makes the change
abbrev pub IsAcceptedWith : FactsWithOpenings → Command → Change → Type 0
IsAcceptedWith known command change = IsAcceptedUnder (ties_on known) known.facts command change

-- ---- what a command looks at

-- the facts say the same number of each lot that is held at one of these pairs
abbrev pub AgreesOnOpenings : FactsWithOpenings → FactsWithOpenings → List Pair → Type 0
AgreesOnOpenings a b pairs =
    AllByRecursion (λ (pair : Pair). HaveSameOpenings pair.commodity (a.facts.held pair.account)
    (a.opening pair.account pair.commodity) (b.opening pair.account pair.commodity)) pairs

-- they agree on what the command looks at, and on the numbers of the lots that are held where it posts
pub record AgreesWithOpenings (a b : FactsWithOpenings) (command : Command) : Type 0 where
  pub facts : Agrees a.facts b.facts command
  pub opening : AgreesOnOpenings a b (pairs_in command)
