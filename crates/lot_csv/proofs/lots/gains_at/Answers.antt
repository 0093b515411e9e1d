use Rattle.std.specs.Prelude.{◌≡◌, ℤ, IfOk, List, Option, Some, map, zip}
use Rattle.std.proofs.Common.{◌∙◌, ap, subst, sym}
use Rattle.lot_book.specs.declared.gain.Gain.{Gain}
use Rattle.lot_cost.specs.declared.lot_key.LotKey.{LotKey}
use Rattle.lot_csv.specs.Shares.{SoldLot, gain_in, lots_at}
use Rattle.lot_csv.specs.declared.shares.LotPrice.TheVariants.{Each, Share}
use Rattle.lot_csv.proofs.SumLemmas.{fused}
use Rattle.lot_csv.proofs.lots.gains_at.Goals as goal

pub returns-in-Each : goal.returns-in-Each
returns-in-Each c =
    let sale = c.args.sale.now in
    let lot : LotKey × ℤ → SoldLot = λ leg. (leg, Some (Each c.in-Each.price.rate)) in
    let same : map (λ (leg : LotKey × ℤ). gain_in sale.units (lot leg)) sale.legs ≡ map (gain_in sale.units) (lots_at c.args.price.now sale) =
    sym (ap (λ price. map (gain_in sale.units) (lots_at price sale)) c.in-Each.is ∙ fused (gain_in sale.units) lot sale.legs) in
    subst (λ (all : List (Option Gain)). IfOk c.gains_alike.result (λ gains. gains.items ≡ all)) same c.gains_alike.ensures

pub returns-in_ok-shares-in-Whole : goal.returns-in_ok-shares-in-Whole
returns-in_ok-shares-in-Whole c =
    let sale = c.args.sale.now in
    let lot : (LotKey × ℤ) × ℤ → SoldLot = λ shared. (shared.0, Some (Share shared.1)) in
    let same : map (λ (shared : (LotKey × ℤ) × ℤ). gain_in sale.units (lot shared)) (zip sale.legs c.deref.result.now)
    ≡ map (gain_in sale.units) (lots_at c.args.price.now sale) =
    ap (λ shares. map (λ (shared : (LotKey × ℤ) × ℤ). gain_in sale.units (lot shared)) (zip sale.legs shares)) (c.deref.ensures.value ∙ c.in_ok-shares-in-Whole.ensures.value)
    ∙ sym (ap (λ price. map (gain_in sale.units) (lots_at price sale)) c.in-Whole.is ∙ fused (gain_in sale.units) lot _) in
    subst (λ (all : List (Option Gain)). IfOk c.gains_shared.result (λ gains. gains.items ≡ all)) same c.gains_shared.ensures
