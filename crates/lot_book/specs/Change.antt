-- What a change lists.
use Rattle.std.specs.Prelude.{◌≡◌, ℕ, List, Option, Some, ℤ}
use Rattle.std.specs.declared.cmp.Ordering.{Ordering}
use Rattle.std.specs.BTreeMap.{BTreeMap, get}
use Rattle.std.specs.Map.{lookup}
use Rattle.std.specs.Option.{unwrap_or}
use Rattle.std.specs.Ordering.{ordering_then}
use Rattle.lot_base.specs.Text.{text_cmp}
use Rattle.lot_cost.specs.declared.lot_key.LotKey.{LotKey}
use Rattle.lot_inv.specs.Inventory.{units_at}
use Rattle.lot_command.specs.declared.command.Command.{Command}
use Rattle.lot_book.specs.declared.change.Change.{Change}
use Rattle.lot_book.specs.declared.change.Pair.{Pair}
use Rattle.lot_book.specs.declared.leg.Leg.{Leg}
use Rattle.lot_book.specs.declared.leg.Position.{Position}
use Rattle.lot_book.specs.Booking.{TieRule}
use Rattle.lot_book.specs.Facts.{Facts, day_at_cost}
use Rattle.lot_book.specs.Leg.{position_cmp, same_position, with_legs}
use Rattle.lot_book.specs.OpeningNumber.{opening_with_legs}
use Rattle.lot_book.specs.Sale.{AreSalesUnder}
use Rattle.lot_book.specs.Step.{Accept, DecidesUnder}

-- ---- positions

-- what a position holds after further legs
abbrev pub units_after : Facts → List Leg → Position → ℤ
units_after facts legs position =
    units_at (with_legs position.account (facts.held position.account) legs) (position.commodity, position.lot)

-- what it holds before them
abbrev pub units_before : Facts → Position → ℤ
units_before facts position = units_at (facts.held position.account) (position.commodity, position.lot)

-- Rows list what further legs change: after them each position holds what is listed of it, or else what it held before.
abbrev pub ListsSums : Facts → List Leg → List (Position × ℤ) → Type 0
ListsSums facts legs listed =
    (position : Position) → unwrap_or (lookup (same_position position) listed) (units_before facts position) ≡ units_after facts legs position

-- ---- opening numbers

-- the opening number that is listed of a lot, else that one
abbrev pub listed_or : BTreeMap Position ℕ → List ℕ → List ℕ → LotKey → ℕ → ℕ
listed_or openings account commodity lot opening =
    unwrap_or (get position_cmp openings (record { account = account; commodity = commodity; lot = Some lot })) opening

-- The lots that further legs open are listed, each with its number after them, and no other lot is. Whatever the
-- numbers are before the legs, after them a lot has the number that is listed, or else its own.
abbrev pub ListsOpened : Facts → List Leg → BTreeMap Position ℕ → Type 0
ListsOpened facts legs openings = (account commodity : List ℕ) (lot : LotKey) (opening : LotKey → ℕ)
    → opening_with_legs account commodity (facts.held account) opening legs lot
    ≡ listed_or openings account commodity lot (opening lot)

-- ---- days at cost

-- the order of pairs: by the bytes of account and commodity
abbrev pub pair_cmp : Pair → Pair → Ordering
pair_cmp p q = ordering_then (text_cmp p.account q.account) (text_cmp p.commodity q.commodity)

-- the day that is listed for an account and a commodity
abbrev pub day_listed : BTreeMap Pair ℤ → List ℕ → List ℕ → Option ℤ
day_listed heads account commodity = get pair_cmp heads (record { account = account; commodity = commodity })

-- the pairs that a command posts to with braces are listed, each with its day, and no other
abbrev pub ListsHeads : Command → BTreeMap Pair ℤ → Type 0
ListsHeads command heads =
    (account commodity : List ℕ) → day_listed heads account commodity ≡ day_at_cost account commodity command

-- ---- a change

-- the change that a command with these legs makes, its sales apart
pub record IsChange (facts : Facts) (command : Command) (legs : List Leg) (change : Change) : Type 0 where
  pub same_legs : change.legs ≡ legs
  pub positions : ListsSums facts legs change.positions.entries
  pub openings : ListsOpened facts legs change.openings
  pub heads : ListsHeads command change.heads

-- a change lists what an accepted command changes, where ties are decided so
pub record ListsUnder (ties : TieRule) (facts : Facts) (command : Command) (change : Change) : Type 0 where
  pub positions : ListsSums facts change.legs change.positions.entries
  pub openings : ListsOpened facts change.legs change.openings
  pub heads : ListsHeads command change.heads
  pub sales : AreSalesUnder ties facts command change.sales

-- a command is accepted, however ties are decided, and makes the change
abbrev pub IsAcceptedUnder : TieRule → Facts → Command → Change → Type 0
IsAcceptedUnder ties facts command change = DecidesUnder ties facts command (Accept change.legs) × ListsUnder ties facts command change
