-- The lots of a commodity are those of its holding.
use Rattle.std.proofs.Common.{length, option_copied, inl, None, Some, sym, ap, subst, ◌∙◌, unsigned_abs}
use Rattle.lot_inv.specs.Foremost.{Counts, only_of}
use Rattle.lot_inv.specs.Inventory.{held_in, with_number}
use Rattle.lot_inv.proofs.FittingLemmas.{fitting-takeable, none_numbered, numbered-takeable}
use Rattle.lot_inv.proofs.inventory.Inventory.available.Goals as goal

pub returns-in-Some : goal.returns-in-Some
returns-in-Some c =
    let spec = with_number c.args.number.now c.args.spec.now in
    let holdings = c.self.inside.held.entries in
    let stock = c.args.self.now in
    let commodity = c.args.commodity.now in
    let holding = c.in-Some.holding.now in
    let is = ap option_copied (sym c.in-Some.is) ∙ c.get.ensures.value in
    record {
      counted = subst (Counts (unsigned_abs c.args.units) c.available.result.lots c.available.result.held)
          (fitting-takeable holdings stock commodity c.self.invariant.0 c.self.view_is c.args.units spec (Some holding) is) c.available.ensures.counted;
      only = c.available.ensures.only
          ∙ ap only_of (numbered-takeable holdings stock commodity c.self.invariant.0 c.self.view_is c.args.units spec holding is);
    }

pub returns-in-None : goal.returns-in-None
returns-in-None c =
    let spec = with_number c.args.number.now c.args.spec.now in
    let holdings = c.self.inside.held.entries in
    let stock = c.args.self.now in
    let commodity = c.args.commodity.now in
    let is = ap option_copied (sym c.in-None.is) ∙ c.get.ensures.value in
    let same = fitting-takeable holdings stock commodity c.self.invariant.0 c.self.view_is c.args.units spec None is in
    record {
      counted = inl (record { lots_counted = ap length same; held_counted = ap held_in same });
      only = ap only_of (none_numbered holdings stock commodity c.self.invariant.0 c.self.view_is c.args.units spec is);
    }
