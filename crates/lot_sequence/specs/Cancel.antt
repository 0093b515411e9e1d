-- Which purchase a row takes back (docs/FORMATS.md, Profiles).
use Rattle.std.specs.Prelude.{◌≡◌, ℕ, ◌<◌, List, length, slice_index_or, Option, Some, None, ℤ, neg_ℤ}
use Rattle.std.specs.List.{slice_get}
use Rattle.lot_sequence.specs.declared.cancel.Side.{Side}
use Rattle.lot_sequence.specs.declared.cancel.Side.TheVariants.{Buys, Cancels}
use Rattle.lot_sequence.specs.declared.cancel.Trade.{Trade}

-- ---- What a row may take back.

-- what is bought: units of a symbol at a price, for an amount of a currency
pub record Bought : Type 0 where
  pub symbol : List ℕ
  pub units : ℤ
  pub price : Option ℕ
  pub amount : ℤ
  pub currency : List ℕ

abbrev pub bought_as : Side → Trade → Bought
bought_as Cancels trade = record {
  symbol = trade.symbol.now;
  units = neg_ℤ trade.units;
  price = trade.price;
  amount = neg_ℤ trade.amount;
  currency = trade.currency.now;
}
bought_as _ trade = record {
  symbol = trade.symbol.now;
  units = trade.units;
  price = trade.price;
  amount = trade.amount;
  currency = trade.currency.now;
}

-- what a purchase buys; of a cancellation what was bought by a purchase that it may take back, of the opposite units and amount
abbrev pub bought : Trade → Bought
bought trade = bought_as trade.side trade

-- at that place stands a purchase that a cancellation may take back
pub record MayTakeBack (rows : List Trade) (cancellation : Trade) (place : ℕ) : Type 0 where
  pub purchase : Trade
  pub there : slice_get rows place ≡ Some purchase
  pub buys : purchase.side ≡ Buys
  pub same : bought purchase ≡ bought cancellation

-- ---- What it takes back.

-- the place of what the row at a place takes back
abbrev pub partner_at : List (Option ℕ) → ℕ → Option ℕ
partner_at partners place = slice_index_or partners place None

-- a row before that place takes back the purchase at the other place
abbrev pub IsTaken : List (Option ℕ) → ℕ → ℕ → Type 0
IsTaken partners place purchase = (earlier : ℕ) × (earlier < place) × (partner_at partners earlier ≡ Some purchase)

-- at that place stands a purchase before the cancellation that it may take back and no earlier one does, and the last such
pub record IsLast (rows : List Trade) (partners : List (Option ℕ)) (place : ℕ) (cancellation : Trade) (purchase : ℕ) : Type 0 where
  pub before : purchase < place
  pub may : MayTakeBack rows cancellation purchase
  pub left : IsTaken partners place purchase → ⊥
  pub last : (other : ℕ) → purchase < other → other < place → MayTakeBack rows cancellation other → IsTaken partners place other

-- each purchase before the cancellation that it may take back is taken by an earlier one
abbrev pub IsNoneLeft : List Trade → List (Option ℕ) → ℕ → Trade → Type 0
IsNoneLeft rows partners place cancellation =
    (other : ℕ) → other < place → MayTakeBack rows cancellation other → IsTaken partners place other

-- the last purchase that is left, or none where none is left
abbrev pub IsLastLeft : List Trade → List (Option ℕ) → ℕ → Trade → Option ℕ → Type 0
IsLastLeft rows partners place cancellation None = IsNoneLeft rows partners place cancellation
IsLastLeft rows partners place cancellation (Some purchase) = IsLast rows partners place cancellation purchase

abbrev pub TakesAs : List Trade → List (Option ℕ) → ℕ → Trade → Side → Type 0
TakesAs rows partners place trade Cancels = IsLastLeft rows partners place trade (partner_at partners place)
TakesAs rows partners place trade _ = partner_at partners place ≡ None

-- what a row takes back: a cancellation the last purchase that is left for it, any other row nothing
abbrev pub TakesBack : List Trade → List (Option ℕ) → ℕ → Trade → Type 0
TakesBack rows partners place trade = TakesAs rows partners place trade trade.side

-- each of so many rows takes back what it should
pub record IsMatching (rows : List Trade) (count : ℕ) (partners : List (Option ℕ)) : Type 0 where
  pub each : length partners ≡ count
  pub takes : (place : ℕ) (trade : Trade) → place < count → slice_get rows place ≡ Some trade → TakesBack rows partners place trade
