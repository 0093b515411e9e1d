-- Opening numbers: which lot was opened before which (docs/PROMISES.md, Migration). They say it of legs alone.
use Rattle.std.specs.Prelude.{◌≡◌, ◌≢◌, ℕ, ◌+◌, ◌-◌, ◌*◌, ◌^◌, ◌<◌, ◌≤◌, ◌&&◌, Bool, if◌then◌else◌, List, [], ◌∷◌, ◌++◌, take, Option, None, Some, pos}
use Rattle.std.specs.Option.{option_map, option_or, unwrap_or}
use Rattle.std.specs.Ordering.{int_eq}
use Rattle.lot_num.specs.Amount.{IsUnits}
use Rattle.lot_cost.specs.declared.lot_key.LotKey.{LotKey}
use Rattle.lot_inv.specs.Inventory.{Held, units_at}
use Rattle.lot_book.specs.declared.leg.Leg.{Leg}
use Rattle.lot_book.specs.declared.leg.Position.{Position}
use Rattle.lot_book.specs.Leg.{same_position, sum_at, with_leg}
use Rattle.lot_book.specs.Refusals.{most_entries, most_postings}

-- ---- What is so.

-- the number of a leg's posting in its book, as if each transaction had the most postings: entries and postings count from 1
abbrev pub posting_number : Leg → ℕ
posting_number leg = most_postings * (leg.entry - 1) + leg.posting

-- a leg opens a lot behind other legs: it stands there, and before it the sum of units there is zero
pub record Opens (lot : Position) (before : List Leg) (leg : Leg) : Type 0 where
  pub there : leg.position ≡ lot
  pub none_before : sum_at before lot ≡ pos 0

-- of legs that leave some units in a lot, the last one that opens it
pub record IsLastToOpen (legs : List Leg) (lot : Position) (leg : Leg) : Type 0 where
  pub before : List Leg
  pub behind : List Leg
  pub split : legs ≡ before ++ leg ∷ behind
  pub opens : Opens lot before leg
  pub last : (between : List Leg) (later : Leg) (rest : List Leg)
      → behind ≡ between ++ later ∷ rest → Opens lot (before ++ leg ∷ between) later → ⊥
  pub some_left : sum_at legs lot ≢ pos 0

-- the opening number of a lot
pub record HasOpeningNumber (legs : List Leg) (lot : Position) (number : ℕ) : Type 0 where
  pub leg : Leg
  pub last : IsLastToOpen legs lot leg
  pub of_posting : number ≡ posting_number leg

-- ---- The same as a value; the law `a_lot_has_one_opening_number` ties the two.

-- whether a leg opens a lot behind other legs
abbrev pub does_open : Position → List Leg → Leg → Bool
does_open lot before leg = same_position lot leg.position && int_eq (sum_at before lot) (pos 0)

-- of legs behind others, the last one that opens the lot
abbrev pub last_to_open : Position → List Leg → List Leg → Option Leg
last_to_open lot before [] = None
last_to_open lot before (leg ∷ legs) =
    option_or (last_to_open lot (before ++ leg ∷ []) legs) (if does_open lot before leg then Some leg else None)

-- the opening number of a lot, none where it holds nothing
abbrev pub opening_number : List Leg → Position → Option ℕ
opening_number legs lot =
    if int_eq (sum_at legs lot) (pos 0) then None else option_map posting_number (last_to_open lot [] legs)

-- the opening number of each lot of an account and a commodity, 0 for a lot that holds nothing
abbrev pub opening_in : List Leg → List ℕ → List ℕ → LotKey → ℕ
opening_in legs account commodity lot =
    unwrap_or (opening_number legs (record { account = account; commodity = commodity; lot = Some lot })) 0

-- ---- What further legs make of the numbers.

-- The opening numbers of the lots of an account and a commodity after a leg. The lot of the leg has the number of the leg's
-- posting where it held nothing. Any other lot keeps its own.
abbrev pub opening_with_leg : List ℕ → List ℕ → Held → (LotKey → ℕ) → Leg → LotKey → ℕ
opening_with_leg account commodity held opening leg lot =
    if same_position (record { account = account; commodity = commodity; lot = Some lot }) leg.position
    && int_eq (units_at held (commodity, Some lot)) (pos 0)
    then posting_number leg else opening lot

-- the same after further legs
abbrev pub opening_with_legs : List ℕ → List ℕ → Held → (LotKey → ℕ) → List Leg → LotKey → ℕ
opening_with_legs account commodity held opening [] = opening
opening_with_legs account commodity held opening (leg ∷ legs) =
    opening_with_legs account commodity (with_leg account held leg) (opening_with_leg account commodity held opening leg) legs

-- ---- Where legs have numbers.

-- the posting at a place of an entry has a number that 64 bits hold
pub record HasNumber (entry posting : ℕ) : Type 0 where
  pub from_one : 1 ≤ entry
  pub fits : most_postings * (entry - 1) + posting < 2 ^ 64

-- a leg is numbered as in a book: entries count from 1 to the most of a book, postings from 1 to the most of a transaction
pub record IsNumbered (leg : Leg) : Type 0 where
  pub entry_from_one : 1 ≤ leg.entry
  pub entry_in_book : leg.entry ≤ most_entries
  pub posting_from_one : 1 ≤ leg.posting
  pub posting_in_entry : leg.posting ≤ most_postings

-- however many legs are booked so far, what they leave at a position is in the range of units
abbrev pub StayInRange : List Leg → Type 0
StayInRange legs = (count : ℕ) (position : Position) → IsUnits (sum_at (take count legs) position)
