-- The table `leg`.
use Rattle.std.specs.Prelude.{pos, [], ◌∷◌}
use Rattle.sqlite.specs.Order.{Row}
use Rattle.sqlite.specs.declared.types.Value.TheVariants.{Int, Text}
use Rattle.lot_num.specs.Amount.{IsUnits}
use Rattle.lot_base.specs.Name.{IsName, is_account, is_commodity}
use Rattle.lot_table.specs.Cell.{IsOrdinal, IsPlace}
use Rattle.lot_rows.specs.LotKey.{IsLotOrPlain, cost_currency, cost_day, cost_label, cost_number}
use Rattle.lot_rows.specs.declared.leg.LegRow.{LegRow}

abbrev pub leg_cells : LegRow → Row
leg_cells leg =
    Int (pos leg.entry) ∷ Int (pos leg.posting) ∷ Int (pos leg.place) ∷ Text leg.account ∷ Text leg.commodity ∷ Int leg.units
    ∷ cost_number leg.lot ∷ cost_currency leg.lot ∷ cost_day leg.lot ∷ cost_label leg.lot ∷ []

pub record IsLegRow (leg : LegRow) : Type 0 where
  pub entry : IsOrdinal leg.entry
  pub posting : IsOrdinal leg.posting
  pub place : IsPlace leg.place
  pub account : IsName is_account leg.account
  pub commodity : IsName is_commodity leg.commodity
  pub units : IsUnits leg.units
  pub lot : IsLotOrPlain leg.lot
