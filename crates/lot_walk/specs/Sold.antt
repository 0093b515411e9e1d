-- What the sales of a book take of a lot, and what rows of holdings say is left of it.
use Rattle.std.specs.Prelude.{ℕ, List, map, filter, ℤ, pos}
use Rattle.std.specs.Map.{lookup}
use Rattle.std.specs.Option.{unwrap_or}
use Rattle.lot_num.specs.Sum.{sum_of}
use Rattle.lot_cost.specs.declared.lot_key.LotKey.{LotKey}
use Rattle.lot_book.specs.Holding.{entry_of}
use Rattle.lot_book.specs.Leg.{same_position}
use Rattle.lot_book.specs.Sale.{SaleParts}
use Rattle.lot_book.specs.declared.holding.Holding.{Holding}
use Rattle.lot_book.specs.declared.leg.Position.{Position}
use Rattle.lot_laws.specs.Laws.{lot_at}

-- what a sale takes of a lot: the units of its legs there, with their sign
abbrev pub taken_by : Position → SaleParts → ℤ
taken_by lot sale =
    sum_of (map (λ (leg : LotKey × ℤ). leg.1)
    (filter (λ (leg : LotKey × ℤ). same_position lot (lot_at sale.account sale.commodity leg.0)) sale.legs))

-- what all of them take of it
abbrev pub taken_of : List (ℕ × (ℕ × SaleParts)) → Position → ℤ
taken_of sales lot = sum_of (map (λ (sold : ℕ × (ℕ × SaleParts)). taken_by lot sold.1.1) sales)

-- what rows of holdings say is left of it: its units, or nothing where no row has it
abbrev pub left_of : List Holding → Position → ℤ
left_of rows lot = unwrap_or (lookup (same_position lot) (map entry_of rows)) (pos 0)
