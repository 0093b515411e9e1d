-- What each lot of a sale goes for, and what it gains (docs/RULES.md, Gain).
use Rattle.std.specs.Prelude.{◌≡◌, ◌*◌, ◌/◌, ◌-◌, ℕ, ℤ, pos, neg_ℤ, ◌*ℤ◌, ◌-ℤ◌, unsigned_abs, List, [], ◌∷◌, ◌++◌, length, map, take, zip, Option, None, Some, option_map}
use Rattle.lot_num.specs.Sum.{sum_of}
use Rattle.lot_cost.specs.declared.lot_key.LotKey.{LotKey}
use Rattle.lot_command.specs.declared.price.Price.{Price}
use Rattle.lot_command.specs.declared.price.Price.TheVariants as price
use Rattle.lot_book.specs.declared.gain.Gain.{Gain}
use Rattle.lot_book.specs.Gain.{gain_from, gain_of, with_opposite_sign}
use Rattle.lot_book.specs.Sale.{SaleParts}
use Rattle.lot_csv.specs.declared.shares.LotPrice.{LotPrice}
use Rattle.lot_csv.specs.declared.shares.LotPrice.TheVariants.{Each, Share}

-- ---- shares of a total

-- the part of a total that goes to some of all units, cut at eight decimals towards zero: all three
-- are mantissas, sign aside
abbrev pub part_of : ℕ → ℕ → ℕ → ℕ
part_of total all units = total * units / all

-- the parts that lots of a sale of so many units have in its total
abbrev pub parts_of : ℤ → ℤ → List (LotKey × ℤ) → List ℤ
parts_of total units legs =
    map
    (λ (leg : LotKey × ℤ). pos (part_of (unsigned_abs total) (unsigned_abs units) (unsigned_abs leg.1)))
    legs

-- parts of a total, and what is left of it
abbrev pub with_rest : ℤ → List ℤ → List ℤ
with_rest total parts = parts ++ (total -ℤ sum_of parts) ∷ []

-- the shares of all lots of a sale in its total, in their order: each has its part, but the last
-- has what is left
abbrev pub shares_of : ℤ → ℤ → List (LotKey × ℤ) → List ℤ
shares_of total units legs = with_rest total (parts_of total units (take (length legs - 1) legs))

-- ---- what lots go for

-- a lot of a sale with the units that were taken of it, and what it goes for: nothing is known
-- where the sale is unpriced
abbrev pub SoldLot : Type 0
SoldLot = (LotKey × ℤ) × Option LotPrice

-- with a price of each unit all lots have that price; with one of all units each has its share
abbrev pub lots_at : Price → SaleParts → List SoldLot
lots_at (price.Each each) sale = map (λ (leg : LotKey × ℤ). (leg, Some (Each each.rate))) sale.legs
lots_at (price.Whole whole) sale =
    map (λ (shared : (LotKey × ℤ) × ℤ). (shared.0, Some (Share shared.1)))
    (zip sale.legs (shares_of whole.0 sale.units sale.legs))

abbrev pub lots_unpriced : List (LotKey × ℤ) → List SoldLot
lots_unpriced legs = map (λ (leg : LotKey × ℤ). (leg, None)) legs

abbrev pub lots_priced : Option Price → SaleParts → List SoldLot
lots_priced None sale = lots_unpriced sale.legs
lots_priced (Some price) sale = lots_at price sale

abbrev pub lots_in : Option Gain → SaleParts → List SoldLot
lots_in None sale = lots_unpriced sale.legs
lots_in (Some gain) sale = lots_priced sale.price sale

-- the lots of a sale, in the order in which they were taken
abbrev pub lots_of : SaleParts → List SoldLot
lots_of sale = lots_in (gain_of sale) sale

-- ---- what lots gain, at scale 16

-- of a sale of so many units, a lot of which so many were taken goes for so much
abbrev pub lot_proceeds : ℤ → ℤ → LotPrice → ℤ
lot_proceeds units taken (Each rate) = neg_ℤ taken *ℤ pos rate
lot_proceeds units taken (Share share) = with_opposite_sign units share

abbrev pub lot_cost : LotKey × ℤ → ℤ
lot_cost leg = neg_ℤ leg.1 *ℤ pos leg.0.number

abbrev pub lot_gain : ℤ → LotKey × ℤ → LotPrice → Gain
lot_gain units leg price = gain_from (lot_proceeds units leg.1 price) (lot_cost leg)

-- what a lot of a sale of so many units gains; none where the sale is unpriced
abbrev pub gain_in : ℤ → SoldLot → Option Gain
gain_in units lot = option_map (lot_gain units lot.0) lot.1

-- gains add up to one: their proceeds, their costs and themselves
pub record AddUpTo (gains : List Gain) (whole : Gain) : Type 0 where
  pub proceeds : sum_of (map (λ (g : Gain). g.proceeds) gains) ≡ whole.proceeds
  pub cost : sum_of (map (λ (g : Gain). g.cost) gains) ≡ whole.cost
  pub gain : sum_of (map (λ (g : Gain). g.gain) gains) ≡ whole.gain
