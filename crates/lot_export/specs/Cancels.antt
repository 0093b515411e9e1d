-- Which purchase a row of an export takes back (docs/FORMATS.md, Profiles).
use Rattle.std.specs.Prelude.{◌≡◌, ℕ, if◌then◌else◌, List, [], length, map, Option, Some, None, ℤ, pos}
use Rattle.std.specs.List.{slice_get}
use Rattle.lot_deal_read.specs.declared.says.Compared.{Compared}
use Rattle.lot_deal_read.specs.declared.says.Dated.{Dated}
use Rattle.lot_deal_read.specs.declared.says.Saying.{Saying}
use Rattle.lot_deal_read.specs.declared.says.Saying.TheVariants as saying
use Rattle.lot_sequence.specs.Cancel.{IsMatching}
use Rattle.lot_sequence.specs.declared.cancel.Side.{Side}
use Rattle.lot_sequence.specs.declared.cancel.Side.TheVariants.{Buys, Cancels, Neither}
use Rattle.lot_sequence.specs.declared.cancel.Trade.{Trade}
use Rattle.lot_export.specs.Entries.{dated_at}
use Rattle.lot_export.specs.Named.{is_left_out}
use Rattle.lot_export.specs.declared.entry.Entry.{Entry}
use Rattle.lot_export.specs.declared.named.Named.{Named}

-- ---- Purchases, and what takes one back.

-- what is compared of a row
pub record PlainTrade : Type 0 where
  pub side : Side
  pub symbol : List ℕ
  pub units : ℤ
  pub price : Option ℕ
  pub amount : ℤ
  pub currency : List ℕ

abbrev pub plain : Trade → PlainTrade
plain t = record {
  side = t.side;
  symbol = t.symbol.now;
  units = t.units;
  price = t.price;
  amount = t.amount;
  currency = t.currency.now;
}

abbrev pub plain_trade : Side → Compared → PlainTrade
plain_trade side c = record {
  side = side;
  symbol = c.symbol;
  units = c.units;
  price = c.price;
  amount = c.amount;
  currency = c.currency;
}

-- nothing is compared of a row that does nothing with a purchase
abbrev pub neither : PlainTrade
neither = record { side = Neither; symbol = []; units = pos 0; price = None; amount = pos 0; currency = [] }

abbrev pub bought_by : Option Compared → PlainTrade
bought_by None = neither
bought_by (Some compared) = plain_trade Buys compared

abbrev pub trade_by : Saying → PlainTrade
trade_by (saying.Deal deal bought) = bought_by bought
trade_by (saying.CancelBuy note trade compared) = plain_trade Cancels compared
trade_by _ = neither

abbrev pub trade_in : Option Dated → PlainTrade
trade_in None = neither
trade_in (Some dated) = trade_by dated.saying

-- what a row does with a purchase
abbrev pub trade_of : List Entry → Named → PlainTrade
trade_of entries row = trade_in (dated_at entries row.number)

-- that of each row, in their order
abbrev pub trades_of : List Entry → List Named → List PlainTrade
trades_of entries rows = map (trade_of entries) rows

-- each row that takes a purchase back has its own, given by its place among these
pub record ArePartners (entries : List Entry) (rows : List Named) (partners : List (Option ℕ)) : Type 0 where
  pub trades : List Trade
  pub are : map plain trades ≡ trades_of entries rows
  pub matching : IsMatching trades (length trades) partners

-- ---- The day of a purchase that is taken back.

abbrev pub day_of : List (List ℕ) → Option Named → Option ℤ
day_of except None = None
day_of except (Some purchase) = if is_left_out except purchase then None else Some purchase.day

-- the day of the purchase that a row takes back, if it takes one back that isn't left out; the place of the purchase among the rows
-- that are judged is given
abbrev pub bought_on : List Named → List (List ℕ) → Option ℕ → Option ℤ
bought_on rows except None = None
bought_on rows except (Some place) = day_of except (slice_get rows place)
