-- The table `commodity`.
use Rattle.std.specs.Prelude.{[], ◌∷◌}
use Rattle.sqlite.specs.Order.{Row}
use Rattle.sqlite.specs.declared.types.Value.TheVariants.{Int, Text}
use Rattle.lot_base.specs.Day.{IsDayNumber}
use Rattle.lot_base.specs.Name.{IsName, is_commodity}
use Rattle.lot_rows.specs.declared.commodity.CommodityRow.{CommodityRow}

abbrev pub commodity_cells : CommodityRow → Row
commodity_cells commodity = Text commodity.name ∷ Int commodity.day ∷ []

pub record IsCommodityRow (commodity : CommodityRow) : Type 0 where
  pub name : IsName is_commodity commodity.name
  pub day : IsDayNumber commodity.day
