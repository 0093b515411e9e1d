-- Whether what a row of a trade says agrees (docs/FORMATS.md, Profiles).
use Rattle.std.specs.Prelude.{ℕ, ◌==◌, Bool, true, false, if◌then◌else◌, Option, Some, None, Ok, Err, ℤ}
use Rattle.lot_num.specs.Amount.{one}
use Rattle.lot_profile.specs.declared.role.Role.TheVariants as role
use Rattle.lot_roles.specs.Numbers.{rate_of}
use Rattle.lot_roles.specs.Reading.{Read, ◌>>=◌, if_any}
use Rattle.lot_roles.specs.Rules.{has_sources}
use Rattle.lot_roles.specs.declared.fault.RowFault.TheVariants.{Disagree, RateZero}
use Rattle.lot_roles.specs.declared.rules.Rules.{Rules}
use Rattle.lot_sheet.specs.Sheet.{SheetRow}
use Rattle.lot_deal_read.specs.Figures.{agree, places_of}
use Rattle.lot_deal_read.specs.Needed.{must}
use Rattle.lot_deal_read.specs.TradeRow.{cash_fee, has_one_currency, price_fee, price_of, third_fee}
use Rattle.lot_deal_read.specs.declared.money.Money.{Money}
use Rattle.lot_deal_read.specs.declared.figures.Figures.{Figures}
use Rattle.lot_deal_read.specs.declared.figures.Places.{Places}
use Rattle.lot_deal_read.specs.declared.trade_row.TradeRow.{TradeRow}

-- ---- How much of the price's currency one of the cash's is.

abbrev pub above_zero : ℕ → Read ℕ
above_zero rate = if rate == 0 then Err RateZero else Ok rate

abbrev pub rate_by : Bool → Rules → SheetRow → Read (Option ℕ)
rate_by true rules row = Ok (Some one)
rate_by false rules row = rate_of rules row role.Rate >>= if_any above_zero

-- one, where they are the same, else what the row says, if it says it
abbrev pub rate_for : Rules → SheetRow → TradeRow → Read (Option ℕ)
rate_for rules row said = rate_by (has_one_currency said) rules row

-- ---- The comparison.

abbrev pub figures_of : TradeRow → ℤ → ℕ → ℕ → Figures
figures_of said amount price rate = record {
  units = said.units;
  price = price;
  amount = amount;
  fee = cash_fee said;
  price_fee = price_fee said;
  rate = rate;
}

abbrev pub places_by : Option Money → Places → Places
places_by None places = places
places_by (Some fee) places = record places { fee = 0 }

-- the last places, where that of a fee counts if it is in the amount
abbrev pub places_for : Rules → TradeRow → Places
places_for rules said = places_by (third_fee said) (places_of rules.profile.now.basis.rounded)

abbrev pub compared_at : Rules → TradeRow → Figures → Read (Unit {0})
compared_at rules said figures = must Disagree (agree (places_for rules said) rules.profile.now.basis.within figures)

abbrev pub compared_if_tied : Option ℕ → Rules → TradeRow → ℤ → ℕ → Read (Unit {0})
compared_if_tied None rules said amount price = Ok tt
compared_if_tied (Some rate) rules said amount price = compared_at rules said (figures_of said amount price rate)

abbrev pub compared_by : Option ℕ → Rules → SheetRow → TradeRow → ℤ → Read (Unit {0})
compared_by None rules row said amount = Ok tt
compared_by (Some price) rules row said amount =
    rate_for rules row said >>= λ rate. compared_if_tied rate rules said amount price

abbrev pub compared_if : Bool → Rules → SheetRow → TradeRow → ℤ → Read (Unit {0})
compared_if false rules row said amount = Ok tt
compared_if true rules row said amount = compared_by (price_of said.pricing) rules row said amount

-- Units, price, fee and amount agree: of an amount that was read, where there is a price, and both are in one currency or a rate ties
-- them.
unfoldable pub comparison : Rules → SheetRow → TradeRow → ℤ → Read (Unit {0})
comparison rules row said amount = compared_if (has_sources rules role.Amount) rules row said amount
