-- What is known of a book grows: nothing is put but what the book says.
use Rattle.std.specs.Prelude.{◌≡◌, ◌⊎◌, ℕ, List, Option, Some, None}
use Rattle.std.specs.FinMap as finite
use Rattle.std.specs.List.{AllByRecursion}
use Rattle.lot_inv.specs.Inventory.{Position}
use Rattle.lot_cost.specs.declared.lot_key.LotKey.{LotKey}
use Rattle.lot_book.specs.Agree.{HaveSameOf, HaveSamePlain}
use Rattle.lot_book.specs.Facts.{Entry, Facts, legs_of}
use Rattle.lot_book.specs.OpeningNumber.{opening_in}
use Rattle.lot_book.specs.Openings.{FactsWithOpenings, HaveSameOpenings}
use Rattle.lot_book.specs.Recorded.{facts_in, nothing_but}
use Rattle.lot_book.specs.declared.change.Pair.{Pair}
use Rattle.lot_view.specs.declared.touched.Touched.{Touched}
use Rattle.lot_rows.specs.declared.lot.LotRow.{LotRow}
use Rattle.lot_rows.specs.declared.opening.OpeningRow.{OpeningRow}
use Rattle.lot_rows.specs.declared.plain.PlainRow.{PlainRow}

-- a fact is what it was, or what the book says
abbrev pub IsKept : {X : Type 0} → X → X → X → Type 0
IsKept book before after = (after ≡ before) ⊎ (after ≡ book)

-- so is each fact beside the number of entries and the text
pub record Fills (book before after : Facts) : Type 0 where
  pub standing : (account : List ℕ) → IsKept (book.standing account) (before.standing account) (after.standing account)
  pub is_declared : (commodity : List ℕ) → IsKept (book.is_declared commodity) (before.is_declared commodity) (after.is_declared commodity)
  pub latest_at_cost : (account commodity : List ℕ)
      → IsKept (book.latest_at_cost account commodity) (before.latest_at_cost account commodity) (after.latest_at_cost account commodity)
  pub held : (account : List ℕ) (position : Position)
      → IsKept (finite.get (book.held account) position) (finite.get (before.held account) position) (finite.get (after.held account) position)

-- all that is known is what the book says
abbrev pub IsPart : Facts → Facts → Type 0
IsPart book known = Fills book (nothing_but 0) known

-- ---- opening numbers

-- what a book says to a command with a key that it doesn't have, and its opening numbers
abbrev pub said_by : List Entry → FactsWithOpenings
said_by entries = record { facts = facts_in entries; opening = opening_in (legs_of entries) }

-- each lot that is known to hold something is known with the book's number
abbrev pub KnowsOpenings : FactsWithOpenings → FactsWithOpenings → Type 0
KnowsOpenings book known = (account commodity : List ℕ)
    → HaveSameOpenings commodity (known.facts.held account) (known.opening account commodity) (book.opening account commodity)

-- ---- a step

-- More is known, and now this too. Where each lot had the book's opening number before, each has it after.
pub record Learns (Knows : Facts → Facts → Type 0) (book before after : FactsWithOpenings) : Type 0 where
  pub entries : after.facts.entries ≡ before.facts.entries
  pub text : after.facts.text ≡ before.facts.text
  pub fills : Fills book.facts before.facts after.facts
  pub openings : KnowsOpenings book before → KnowsOpenings book after
  pub knows : IsPart book.facts before.facts → Knows book.facts after.facts

-- ---- what is known

-- how an account stands
abbrev pub KnowsStanding : List ℕ → Facts → Facts → Type 0
KnowsStanding account book known = known.standing account ≡ book.standing account

-- whether a commodity is declared
abbrev pub KnowsDeclared : List ℕ → Facts → Facts → Type 0
KnowsDeclared commodity book known = known.is_declared commodity ≡ book.is_declared commodity

-- the latest day at cost of an account and a commodity
abbrev pub KnowsHead : List ℕ → List ℕ → Facts → Facts → Type 0
KnowsHead account commodity book known = known.latest_at_cost account commodity ≡ book.latest_at_cost account commodity

-- what an account holds of a commodity, plain and in lots
abbrev pub KnowsHeld : List ℕ → List ℕ → Facts → Facts → Type 0
KnowsHeld account commodity book known = HaveSameOf commodity (known.held account) (book.held account)

abbrev pub KnowsPair : Pair → Facts → Facts → Type 0
KnowsPair pair book known =
    KnowsHead pair.account pair.commodity book known × KnowsHeld pair.account pair.commodity book known

-- the plain units of an account, of every commodity
abbrev pub KnowsPlain : List ℕ → Facts → Facts → Type 0
KnowsPlain account book known = HaveSamePlain (known.held account) (book.held account)

-- the same of each of these
abbrev pub KnowsEach : {K : Type 0} → (K → Facts → Facts → Type 0) → List K → Facts → Facts → Type 0
KnowsEach {K} Knows keys book known = AllByRecursion (λ (key : K). Knows key book known) keys

-- what a command looks at
abbrev pub KnowsTouched : Touched → Facts → Facts → Type 0
KnowsTouched touched book known =
    KnowsEach KnowsStanding touched.accounts.keys book known × KnowsEach KnowsDeclared touched.declared.keys book known
    × KnowsEach KnowsPair touched.pairs.keys book known × KnowsEach KnowsPlain touched.plain.keys book known

-- what an account holds at a position
abbrev pub KnowsAt : List ℕ → Position → Facts → Facts → Type 0
KnowsAt account position book known = finite.get (known.held account) position ≡ finite.get (book.held account) position

-- all lots of a commodity in an account
abbrev pub KnowsLots : List ℕ → List ℕ → Facts → Facts → Type 0
KnowsLots account commodity book known = (lot : LotKey) → KnowsAt account (commodity, Some lot) book known

-- a lot of an account and a commodity
abbrev pub KnowsLot : Pair → LotRow → Facts → Facts → Type 0
KnowsLot pair row = KnowsAt pair.account (pair.commodity, Some row.lot)

abbrev pub KnowsUnits : PlainRow → Facts → Facts → Type 0
KnowsUnits row = KnowsAt row.account (row.commodity, None)

-- ---- rows that say what the book says

-- of an account and a commodity: the units of a lot, and its opening number
abbrev pub IsTrueLot : Pair → Facts → LotRow → Type 0
IsTrueLot pair book row = finite.get (book.held pair.account) (pair.commodity, Some row.lot) ≡ Some row.units

abbrev pub IsTrueOpening : Pair → FactsWithOpenings → OpeningRow → Type 0
IsTrueOpening pair book row = book.opening pair.account pair.commodity row.lot ≡ row.opening

abbrev pub IsTruePlain : Facts → PlainRow → Type 0
IsTruePlain book row = finite.get (book.held row.account) (row.commodity, None) ≡ Some row.units

-- ---- the text

-- the same, with the text that stands under another key, or none
abbrev pub turned_to : Option (List ℕ) → Facts → Facts
turned_to text facts = record facts { text = text }
