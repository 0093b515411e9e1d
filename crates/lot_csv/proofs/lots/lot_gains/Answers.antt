use Rattle.std.specs.Prelude.{◌≡◌, ℤ, IfOk, List, None, Option, map}
use Rattle.std.proofs.Common.{◌∙◌, ap, subst, sym}
use Rattle.lot_book.specs.declared.gain.Gain.{Gain}
use Rattle.lot_cost.specs.declared.lot_key.LotKey.{LotKey}
use Rattle.lot_csv.specs.Shares.{SoldLot, gain_in, lots_in, lots_of}
use Rattle.lot_csv.proofs.SumLemmas.{fused}
use Rattle.lot_csv.proofs.lots.lot_gains.Goals as goal

pub returns-in-None : goal.returns-in-None
returns-in-None c =
    let sale = c.args.sale.now in
    let lot : LotKey × ℤ → SoldLot = λ leg. (leg, None) in
    let same : map (λ (leg : LotKey × ℤ). gain_in sale.units (lot leg)) sale.legs ≡ map (gain_in sale.units) (lots_of sale) =
    sym (ap (λ gain. map (gain_in sale.units) (lots_in gain sale)) (sym c.gain.ensures ∙ c.in-None.is) ∙ fused (gain_in sale.units) lot sale.legs) in
    subst (λ (all : List (Option Gain)). IfOk c.gains_alike-in-None.result (λ gains. gains.items ≡ all)) same c.gains_alike-in-None.ensures
