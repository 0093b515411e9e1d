-- Rows that a book can have are told by their columns.
use Rattle.std.specs.Prelude.{◌≡◌, Option, None, Some}
use Rattle.std.proofs.Common.{refl}
use Rattle.lot_cost.specs.declared.lot_key.LotKey.{LotKey}
use Rattle.lot_rows.specs.Account.{IsAccountRow, account_cells}
use Rattle.lot_rows.specs.Allowed.{IsAllowedRow, allowed_cells}
use Rattle.lot_rows.specs.Commodity.{IsCommodityRow, commodity_cells}
use Rattle.lot_rows.specs.Head.{IsHeadRow, head_cells}
use Rattle.lot_rows.specs.Leg.{IsLegRow, leg_cells}
use Rattle.lot_rows.specs.Lot.{IsLotRow, lot_cells}
use Rattle.lot_rows.specs.LotKey.{IsLotOrPlain, cost_currency, cost_day, cost_label, cost_number}
use Rattle.lot_rows.specs.Opening.{IsOpeningRow, opening_cells}
use Rattle.lot_rows.specs.Plain.{IsPlainRow, plain_cells}
use Rattle.lot_rows.specs.Price.{IsPriceRow, price_cells}
use Rattle.lot_rows.specs.declared.account.AccountRow.{AccountRow}
use Rattle.lot_rows.specs.declared.allowed.AllowedRow.{AllowedRow}
use Rattle.lot_rows.specs.declared.commodity.CommodityRow.{CommodityRow}
use Rattle.lot_rows.specs.declared.head.HeadRow.{HeadRow}
use Rattle.lot_rows.specs.declared.leg.LegRow.{LegRow}
use Rattle.lot_rows.specs.declared.lot.LotRow.{LotRow}
use Rattle.lot_rows.specs.declared.opening.OpeningRow.{OpeningRow}
use Rattle.lot_rows.specs.declared.plain.PlainRow.{PlainRow}
use Rattle.lot_rows.specs.declared.price.PriceRow.{PriceRow}
use Rattle.lot_rows.proofs.AccountLemmas.{same_row as same_account}
use Rattle.lot_rows.proofs.AllowedLemmas.{same_row as same_allowed}
use Rattle.lot_rows.proofs.CommodityLemmas.{same_row as same_commodity}
use Rattle.lot_rows.proofs.HeadLemmas.{same_row as same_head}
use Rattle.lot_rows.proofs.PlainLemmas.{same_row as same_plain}
use Rattle.lot_rows.proofs.PriceLemmas.{same_row as same_price}
use Rattle.lot_table.specs.Cell.{label_text}
use Rattle.lot_stored.proofs.KeyLemmas.{one_label}

pub one_account : (x y : AccountRow) → IsAccountRow x → IsAccountRow y → account_cells x ≡ account_cells y → x ≡ y
one_account x y p q = same_account x y

pub one_allowed : (x y : AllowedRow) → IsAllowedRow x → IsAllowedRow y → allowed_cells x ≡ allowed_cells y → x ≡ y
one_allowed x y p q = same_allowed x y

pub one_commodity : (x y : CommodityRow) → IsCommodityRow x → IsCommodityRow y → commodity_cells x ≡ commodity_cells y → x ≡ y
one_commodity x y p q = same_commodity x y

pub one_head : (x y : HeadRow) → IsHeadRow x → IsHeadRow y → head_cells x ≡ head_cells y → x ≡ y
one_head x y p q = same_head x y

pub one_plain : (x y : PlainRow) → IsPlainRow x → IsPlainRow y → plain_cells x ≡ plain_cells y → x ≡ y
one_plain x y p q = same_plain x y

pub one_price : (x y : PriceRow) → IsPriceRow x → IsPriceRow y → price_cells x ≡ price_cells y → x ≡ y
one_price x y p q = same_price x y

pub one_lot : (x y : LotRow) → IsLotRow x → IsLotRow y → lot_cells x ≡ lot_cells y → x ≡ y
one_lot x y p q same =
    let account : x.account ≡ y.account = cc in
    let commodity : x.commodity ≡ y.commodity = cc in
    let day : x.lot.day ≡ y.lot.day = cc in
    let currency : x.lot.currency ≡ y.lot.currency = cc in
    let number : x.lot.number ≡ y.lot.number = cc in
    let text : label_text x.lot.label ≡ label_text y.lot.label = cc in
    let units : x.units ≡ y.units = cc in
    let label = one_label x.lot.label y.lot.label p.lot.label q.lot.label text in
    λ i. record {
      account = account i;
      commodity = commodity i;
      lot = record { day = day i; currency = currency i; number = number i; label = label i };
      units = units i;
    }

pub one_opening : (x y : OpeningRow) → IsOpeningRow x → IsOpeningRow y → opening_cells x ≡ opening_cells y → x ≡ y
one_opening x y p q same =
    let account : x.account ≡ y.account = cc in
    let commodity : x.commodity ≡ y.commodity = cc in
    let day : x.lot.day ≡ y.lot.day = cc in
    let currency : x.lot.currency ≡ y.lot.currency = cc in
    let number : x.lot.number ≡ y.lot.number = cc in
    let text : label_text x.lot.label ≡ label_text y.lot.label = cc in
    let opening : x.opening ≡ y.opening = cc in
    let label = one_label x.lot.label y.lot.label p.lot.label q.lot.label text in
    λ i. record {
      account = account i;
      commodity = commodity i;
      lot = record { day = day i; currency = currency i; number = number i; label = label i };
      opening = opening i;
    }

of_cost : (a b : Option LotKey) → IsLotOrPlain a → IsLotOrPlain b → cost_number a ≡ cost_number b
    → cost_currency a ≡ cost_currency b → cost_day a ≡ cost_day b → cost_label a ≡ cost_label b → a ≡ b
of_cost None None p q n c d t = refl
of_cost None (Some lot) p q n c d t = absurd cc
of_cost (Some lot) None p q n c d t = absurd cc
of_cost (Some lot) (Some other) p q n c d t =
    let number : lot.number ≡ other.number = cc in
    let currency : lot.currency ≡ other.currency = cc in
    let day : lot.day ≡ other.day = cc in
    let text : label_text lot.label ≡ label_text other.label = cc in
    let label = one_label lot.label other.label p.label q.label text in
    λ i. Some (record { day = day i; currency = currency i; number = number i; label = label i })

pub one_leg : (a b : LegRow) → IsLegRow a → IsLegRow b → leg_cells a ≡ leg_cells b → a ≡ b
one_leg a b p q same =
    let entry : a.entry ≡ b.entry = cc in
    let posting : a.posting ≡ b.posting = cc in
    let place : a.place ≡ b.place = cc in
    let account : a.account ≡ b.account = cc in
    let commodity : a.commodity ≡ b.commodity = cc in
    let units : a.units ≡ b.units = cc in
    let number : cost_number a.lot ≡ cost_number b.lot = cc in
    let currency : cost_currency a.lot ≡ cost_currency b.lot = cc in
    let day : cost_day a.lot ≡ cost_day b.lot = cc in
    let label : cost_label a.lot ≡ cost_label b.lot = cc in
    let lot = of_cost a.lot b.lot p.lot q.lot number currency day label in
    λ i. record {
      entry = entry i;
      posting = posting i;
      place = place i;
      account = account i;
      commodity = commodity i;
      units = units i;
      lot = lot i;
    }
