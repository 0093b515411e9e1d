-- The rows of a table rise in the order of their key.
use Rattle.std.specs.Prelude.{map}
use Rattle.sqlite.specs.Tree.{Trees}
use Rattle.lot_page.specs.Cursor.{Rises}
use Rattle.lot_rows.specs.Entry.{entry_cells}
use Rattle.lot_rows.specs.Leg.{leg_cells}
use Rattle.lot_rows.specs.Lot.{lot_cells}
use Rattle.lot_rows.specs.Price.{price_cells}
use Rattle.lot_rows.specs.Sale.{sale_cells}
use Rattle.lot_rows.specs.Tables.{Tables, layout}
use Rattle.lot_table.specs.Book.{Holds}

pub entries_rise : (trees : Trees) (tables : Tables) → Holds layout trees tables → Rises 1 (map entry_cells tables.entry)
entries_rise trees tables holds = holds.held.1.1.1.1.1.0.rises

pub legs_rise : (trees : Trees) (tables : Tables) → Holds layout trees tables
    → Rises 3 (map leg_cells tables.leg)
legs_rise trees tables holds = holds.held.1.1.1.1.1.1.0.rises

pub sales_rise : (trees : Trees) (tables : Tables) → Holds layout trees tables → Rises 2 (map sale_cells tables.sale)
sales_rise trees tables holds = holds.held.1.1.1.1.1.1.1.0.rises

pub lots_rise : (trees : Trees) (tables : Tables) → Holds layout trees tables → Rises 6 (map lot_cells tables.lot)
lots_rise trees tables holds = holds.held.1.1.1.1.1.1.1.1.0.rises

pub prices_rise : (trees : Trees) (tables : Tables) → Holds layout trees tables → Rises 3 (map price_cells tables.price)
prices_rise trees tables holds = holds.held.1.1.1.1.0.rises
