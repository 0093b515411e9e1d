-- The columns of a row of the table `leg` tell the row, where a book can have it.
use Rattle.std.proofs.Common.{◌≡◌, Option, None, Some}
use Rattle.lot_cost.specs.declared.lot_key.LotKey.{LotKey}
use Rattle.lot_rows.specs.Leg.{IsLegRow, leg_cells}
use Rattle.lot_rows.specs.LotKey.{IsLotOrPlain, cost_currency, cost_day, cost_label, cost_number}
use Rattle.lot_rows.specs.declared.leg.LegRow.{LegRow}
use Rattle.lot_table.specs.Cell.{label_text}
use Rattle.lot_stored.proofs.KeyLemmas.{one_label}

one_lot : (a b : Option LotKey) → IsLotOrPlain a → IsLotOrPlain b → cost_number a ≡ cost_number b → cost_currency a ≡ cost_currency b → cost_day a ≡ cost_day b → cost_label a ≡ cost_label b → a ≡ b
one_lot None None p q n c d t = λ i. None
one_lot None (Some lot) p q n c d t = absurd cc
one_lot (Some lot) None p q n c d t = absurd cc
one_lot (Some lot) (Some other) p q n c d t =
    let number : lot.number ≡ other.number = cc in
    let currency : lot.currency ≡ other.currency = cc in
    let day : lot.day ≡ other.day = cc in
    let text : label_text lot.label ≡ label_text other.label = cc in
    let label = one_label lot.label other.label p.label q.label text in
    λ i. Some (record { day = day i; currency = currency i; number = number i; label = label i })

pub one_leg_row : (a b : LegRow) → IsLegRow a → IsLegRow b → leg_cells a ≡ leg_cells b → a ≡ b
one_leg_row a b p q same =
    let entry : a.entry ≡ b.entry = cc in
    let posting : a.posting ≡ b.posting = cc in
    let place : a.place ≡ b.place = cc in
    let account : a.account ≡ b.account = cc in
    let commodity : a.commodity ≡ b.commodity = cc in
    let units : a.units ≡ b.units = cc in
    let number : cost_number a.lot ≡ cost_number b.lot = cc in
    let currency : cost_currency a.lot ≡ cost_currency b.lot = cc in
    let day : cost_day a.lot ≡ cost_day b.lot = cc in
    let label : cost_label a.lot ≡ cost_label b.lot = cc in
    let lot = one_lot a.lot b.lot p.lot q.lot number currency day label in
    λ i. record { entry = entry i; posting = posting i; place = place i; account = account i; commodity = commodity i; units = units i; lot = lot i }
