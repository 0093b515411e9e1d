-- What each sale of a book realised: by its posting as it was written, by the lots that the method of its account names at that
-- place of the book, and by what these cost (docs/RULES.md, Gain).
use Rattle.std.specs.Prelude.{◌≡◌, ◌↔◌, ◌<◌, ℕ, suc, true, List, ◌∷◌, ◌++◌, length, Some, ℤ, pos, ◌-ℤ◌, ◌*ℤ◌, neg_ℤ}
use Rattle.std.specs.List.{AllByRecursion}
use Rattle.std.specs.Option.{IsSome}
use Rattle.lot_cost.specs.declared.cost.Cost.{Cost}
use Rattle.lot_command.specs.declared.command.Command.TheVariants.{Transaction}
use Rattle.lot_command.specs.declared.price.Price.{Price}
use Rattle.lot_command.specs.declared.price.Price.TheVariants.{Each, Whole}
use Rattle.lot_command.specs.declared.transaction.Amount.{Amount}
use Rattle.lot_command.specs.declared.transaction.Posting.{Posting}
use Rattle.lot_command.specs.declared.transaction.Transaction.{Transaction as TransactionOf}
use Rattle.lot_booking.specs.Booking.{Braced, ComesTo, Legs, posting_by}
use Rattle.lot_book.specs.Booking.{method_of}
use Rattle.lot_book.specs.Edition.{Migration, edition_on, ties_in}
use Rattle.lot_book.specs.Facts.{Entry, legs_of, standing_of}
use Rattle.lot_book.specs.Gain.{IsPriced, cost_of, gain_of, with_opposite_sign}
use Rattle.lot_book.specs.Leg.{inventory_of, legs_at_lots}
use Rattle.lot_book.specs.Sale.{AreLegsOf, SaleParts}
use Rattle.lot_book.specs.declared.gain.Gain.{Gain}
use Rattle.lot_book.specs.declared.leg.Leg.{Leg}

-- a sale with the number of its entry and the place of its posting
abbrev pub Sold : Type 0
Sold = ℕ × (ℕ × SaleParts)

-- ---- the posting

-- The posting of a sale, as it was written: the sale has the place, the day, the account, the commodity, the units and the price
-- of a posting with braces that stands in a transaction of the book.
pub record IsWritten (book : List Entry) (sold : Sold) : Type 0 where
  pub before : List Entry
  pub entry : Entry
  pub behind : List Entry
  pub stands : book ≡ before ++ entry ∷ behind
  pub number : sold.0 ≡ suc (length before)
  pub transaction : TransactionOf
  pub command : entry.command ≡ Transaction transaction
  pub earlier : List Posting
  pub posting : Posting
  pub later : List Posting
  pub among : transaction.postings ≡ earlier ++ posting ∷ later
  pub place : sold.1.0 ≡ suc (length earlier)
  pub amount : Amount
  pub has_amount : posting.amount ≡ Some amount
  pub cost : Cost
  pub has_braces : amount.cost ≡ Some cost
  pub day : sold.1.1.day ≡ transaction.day
  pub account : sold.1.1.account ≡ posting.account
  pub commodity : sold.1.1.commodity ≡ amount.commodity
  pub units : sold.1.1.units ≡ amount.units
  pub price : sold.1.1.price ≡ amount.price

-- ---- the lots

-- a posting with braces behind these entries and the legs so far of its transaction: on what its account holds there, by the
-- method with which the account was opened, where the edition there decides ties
abbrev pub posting_there : Migration → List Entry → List Leg → List ℕ → Amount → Cost → ℤ → Braced
posting_there migration before so_far account amount cost day =
    posting_by (ties_in (edition_on migration before) before so_far account amount.commodity)
    (method_of (standing_of before account)) (inventory_of (legs_of before ++ so_far) account)
    amount.commodity amount.units cost day

-- The lots of a sale are those that the method of its account names there: the legs of the sale are the choice that the method
-- allows among the lots of the other sign that the braces fit. They stand in the book as the legs of the posting.
pub record AreNamed (migration : Migration) (book : List Entry) (sold : Sold) (at : IsWritten book sold) : Type 0 where
  pub so_far : List Leg
  pub more : List Leg
  pub legs : at.entry.legs
      ≡ so_far ++ (legs_at_lots sold.0 sold.1.0 sold.1.1.account sold.1.1.commodity 0 sold.1.1.legs ++ more)
  pub earlier : AllByRecursion (λ (leg : Leg). leg.posting < sold.1.0) so_far
  pub chosen : ComesTo
      (posting_there migration at.before so_far at.posting.account at.amount at.cost at.transaction.day)
      (Legs true sold.1.1.legs)
  -- the legs add up to the units
  pub sum : AreLegsOf sold.1.1.units sold.1.1.legs

-- ---- the gain, at scale 16

-- what units go for: as many, with their sign turned, at the price of one, or the stated total with the opposite sign
abbrev pub proceeds_of : Price → ℤ → ℤ
proceeds_of (Each price) units = neg_ℤ units *ℤ pos price.rate
proceeds_of (Whole price) units = with_opposite_sign units price.0

-- The proceeds are those of the units at the price; the cost is that of the lots, over the legs the units with their sign turned
-- at the cost of one; and the gain is the proceeds less the cost.
pub record IsGainOf (sale : SaleParts) (gain : Gain) : Type 0 where
  pub price : Price
  pub priced : sale.price ≡ Some price
  pub proceeds : gain.proceeds ≡ proceeds_of price sale.units
  pub cost : gain.cost ≡ cost_of sale.legs
  pub difference : gain.gain ≡ gain.proceeds -ℤ gain.cost

-- ---- all of it

pub record IsRealised (migration : Migration) (book : List Entry) (sold : Sold) : Type 0 where
  pub written : IsWritten book sold
  pub lots : AreNamed migration book sold written
  -- it has a gain where its price is in the currency of all its lots
  pub has_gain : IsSome (gain_of sold.1.1) ↔ IsPriced sold.1.1.price sold.1.1.legs
  pub gain : (gain : Gain) → gain_of sold.1.1 ≡ Some gain → IsGainOf sold.1.1 gain
