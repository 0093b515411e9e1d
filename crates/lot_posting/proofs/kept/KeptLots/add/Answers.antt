-- A leg at no lot of the pair leaves the lots; one at a lot adds its units there.
use Rattle.std.proofs.Common.{ℕ, Option, sym, ap₂, ◌∙◌}
use Rattle.std.proofs.lemmas.Result.{on_ok_weaker}
use Rattle.lot_cost.specs.declared.lot_key.LotKey.{LotKey}
use Rattle.lot_inv.specs.Inventory.{added_lot}
use Rattle.lot_posting.proofs.KeptLemmas.{has-apart, has-here}
use Rattle.lot_posting.proofs.kept.KeptLots.add.Goals as goal

pub returns-then-not-is_lot_of : goal.returns-then-not-is_lot_of
returns-then-not-is_lot_of c known legs has =
    let kept = c.args.self.now in
    has-apart known legs kept.pair.account kept.pair.commodity kept.lots c.args.leg.now has (sym c.if-not-is_lot_of.ensures)

pub returns : goal.returns
returns c =
    let kept = c.args.self.now in
    let leg = c.args.leg.now in
    on_ok_weaker c.add.result
    (λ becomes known legs has.
    has-here known legs kept.pair.account kept.pair.commodity kept.lots leg has c.add.new.self
    (sym c.if-not-is_lot_of.ensures) c.has_no_zeros.ensures.no_zeros c.has_no_zeros.ensures.numbered
    (becomes
    ∙ ap₂ (λ (lot : Option LotKey) (number : ℕ). added_lot kept.lots (kept.pair.commodity, lot) leg.units number)
    c.as_ref-lot.ensures.value c.number.ensures))
    c.add.ensures.ok
