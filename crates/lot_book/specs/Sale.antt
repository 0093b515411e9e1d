-- Sales: postings that took lots away, with the legs that did so (docs/RULES.md, Reduce or augment, Legs).
use Rattle.std.specs.Prelude.{◌≡◌, ◌≢◌, ℕ, ◌&&◌, ◌||◌, Bool, true, if◌then◌else◌, List, [], ◌∷◌, ◌++◌, Option, None, Some, ℤ, pos, int_lt}
use Rattle.std.specs.List.{list_all}
use Rattle.lot_cost.specs.declared.lot_key.LotKey.{LotKey}
use Rattle.lot_command.specs.declared.command.Command.{Command}
use Rattle.lot_command.specs.declared.command.Command.TheVariants.{Opening, Closing, Declaring, Quoting, Transaction}
use Rattle.lot_command.specs.declared.price.Price.{Price}
use Rattle.lot_booking.specs.Booking.{units_in}
use Rattle.lot_book.specs.Booking.{All, Booked, BooksAllUnder, TieRule, all_by_key}
use Rattle.lot_book.specs.Facts.{Facts}
use Rattle.lot_book.specs.declared.leg.Leg.{Leg}

-- ---- the legs of a sale

-- whether both numbers are below zero, or both are above it
abbrev pub same_sign : ℤ → ℤ → Bool
same_sign a b = (int_lt a (pos 0) && int_lt b (pos 0)) || (int_lt (pos 0) a && int_lt (pos 0) b)

-- legs are those of units: there are some of each, every leg has the sign of the units, and the legs add up to them
pub record AreLegsOf (units : ℤ) (legs : List (LotKey × ℤ)) : Type 0 where
  pub some : units ≢ pos 0
  pub signs : list_all (λ (leg : LotKey × ℤ). same_sign units leg.1) legs ≡ true
  pub sum : units_in legs ≡ units

-- ---- sales

-- what a contract sees of a sale
pub record SaleParts : Type 0 where
  pub day : ℤ
  pub account : List ℕ
  pub commodity : List ℕ
  pub units : ℤ
  pub price : Option Price
  pub legs : List (LotKey × ℤ)

-- ---- the sales of a transaction

-- the lots of legs, with what is taken of each
abbrev pub lots_in_legs : List Leg → List (LotKey × ℤ)
lots_in_legs [] = []
lots_in_legs (leg ∷ legs) = lot_before leg.position.lot leg.units (lots_in_legs legs)
  where
    lot_before : Option LotKey → ℤ → List (LotKey × ℤ) → List (LotKey × ℤ)
    lot_before None units lots = lots
    lot_before (Some lot) units lots = (lot, units) ∷ lots

-- the sale that a posting of that day is, with its place, where it takes lots away
abbrev pub sales_of : ℤ → Booked → List (ℕ × SaleParts)
sales_of day booked =
    if booked.reduces then (
      booked.place,
      record {
        day = day;
        account = booked.account;
        commodity = booked.amount.commodity;
        units = booked.amount.units;
        price = booked.amount.price;
        legs = lots_in_legs booked.legs;
      },
    ) ∷ [] else []

-- the sales of all postings, in their order
abbrev pub sales_in : ℤ → List Booked → List (ℕ × SaleParts)
sales_in day [] = []
sales_in day (booked ∷ more) = sales_of day booked ++ sales_in day more

-- the sales of a command, where ties are decided so: of a transaction its postings that take lots away
abbrev pub AreSalesUnder : TieRule → Facts → Command → List (ℕ × SaleParts) → Type 0
AreSalesUnder ties facts (Opening o) sales = sales ≡ []
AreSalesUnder ties facts (Closing c) sales = sales ≡ []
AreSalesUnder ties facts (Declaring d) sales = sales ≡ []
AreSalesUnder ties facts (Quoting q) sales = sales ≡ []
AreSalesUnder ties facts (Transaction t) sales =
    (booked : List Booked) × BooksAllUnder ties facts t.day [] 1 t.postings (All booked) × (sales ≡ sales_in t.day booked)

-- the same where all ties are decided by key
abbrev pub AreSales : Facts → Command → List (ℕ × SaleParts) → Type 0
AreSales facts command sales = AreSalesUnder all_by_key facts command sales
