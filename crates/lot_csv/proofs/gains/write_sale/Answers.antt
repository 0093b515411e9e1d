use Rattle.std.proofs.Common.{◌∙◌}
use Rattle.lot_csv.specs.Gains.{lot_record}
use Rattle.lot_csv.specs.Shares.{SoldLot, gain_in}
use Rattle.lot_csv.proofs.LotLemmas.{none_wrote, wrote_lots}
use Rattle.lot_csv.proofs.gains.write_sale.Goals as goal

pub returns-in_err-gains-clause-records : goal.returns-in_err-gains-clause-records
returns-in_err-gains-clause-records g c =
    let sale = c.args.sale.now in
    none_wrote (λ (lot : SoldLot). lot_record c.args.seller.entry c.args.seller.posting sale (lot.0, gain_in sale.units lot)) sale _
    c.from_residual.result c.legs-legs.ensures.of_units c.from_residual.ensures.1

pub returns-clause-records : goal.returns-clause-records
returns-clause-records g c =
    let sale = c.args.sale.now in
    wrote_lots (lot_record c.args.seller.entry c.args.seller.posting sale) sale c.legs-legs.ensures.of_units
    c.legs-legs.result.now c.deref.result.now _ _ _
    c.legs-legs.ensures.value (c.deref.ensures.value ∙ c.in_ok-gains.ensures) c.write_lots.ensures.records
