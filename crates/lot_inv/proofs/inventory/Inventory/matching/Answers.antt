-- The lots of a commodity are those of its holding.
use Rattle.std.proofs.Common.{◌≡◌, Some, option_copied, sym, ap, ◌∙◌, filter, map, ℤ, List, subst}
use Rattle.std.specs.List.Sorted.{IsStrictlySortedBy}
use Rattle.std.specs.Map.{keys_of}
use Rattle.std.specs.Option.{unwrap_or}
use Rattle.std.specs.Prelude.{option_and_then}
use Rattle.std.proofs.lemmas.Result.{IfOk-weaker}
use Rattle.lot_cost.specs.CostSpec.{fits}
use Rattle.lot_cost.specs.declared.lot_key.LotKey.{LotKey}
use Rattle.lot_cost.specs.LotKey.{lot_cmp}
use Rattle.lot_inv.specs.declared.inventory.Holding.{Holding}
use Rattle.lot_inv.specs.declared.lots.OpenLot.{OpenLot}
use Rattle.lot_inv.specs.declared.lot.Lot.{Lot}
use Rattle.lot_inv.specs.Holding.{held_at, listed, opening_of, units_in}
use Rattle.lot_inv.specs.Inventory.{matching, opening_at}
use Rattle.lot_inv.specs.Lots.{lot_at}
use Rattle.lot_inv.specs.Lot.{AreNumberedBy, key_and_units}
use Rattle.lot_inv.proofs.InventoryLemmas.{holding_seen, lots_at, lots_seen, opening_seen}
use Rattle.lot_inv.proofs.LawLemmas.{sorted_matching}
use Rattle.lot_inv.proofs.ListedLemmas.{none-listed, numbers-listed, units-listed}
use Rattle.lot_inv.proofs.SetLemmas.{on_err-then}
use Rattle.lot_inv.proofs.inventory.Inventory.matching.Goals as goal

pub returns-in-Some : goal.returns-in-Some
returns-in-Some c =
    let commodity = c.args.commodity.now in
    let spec = c.args.spec.now in
    let stock = c.args.self.now in
    let entries = c.in-Some.holding.now.lots in
    let lots = lots_seen c.self.inside.held.entries stock commodity (option_copied c.get.result) c.self.invariant.0 c.self.view_is c.get.ensures.value in
    let is = holding_seen c.self.inside.held.entries commodity c.in-Some.holding.now c.self.invariant.0 (ap option_copied (sym c.in-Some.is) ∙ c.get.ensures.value) in
    let fitted : map key_and_units (filter (λ (lot : Lot). fits spec lot.key) (listed entries)) ≡ matching stock.held commodity spec =
    units-listed spec entries
    ∙ ap (filter (λ (lot : LotKey × ℤ). fits spec lot.0)) (sym (lots ∙ ap (λ o. units_in (lots_at (option_copied o))) c.in-Some.is)) in
    let numbered = λ (key : LotKey) (lot : OpenLot) (e : lot_at c.in-Some.holding.now.lots key ≡ Some lot).
    sym (ap (λ o. unwrap_or o 0) (opening_seen c.self.inside.held.entries stock commodity key (option_copied c.get.result) c.self.invariant.0 c.self.view_is c.get.ensures.value
    ∙ ap (λ o. opening_of (option_and_then (λ (holding : Holding). held_at holding (Some key)) (option_copied o))) c.in-Some.is
    ∙ ap opening_of e)) in
    let found = IfOk-weaker c.matching.result _ _ (λ lots e. ap (map key_and_units) e ∙ fitted) c.matching.ensures.all in
    record {
      all = found;
      numbers = IfOk-weaker c.matching.result _ _ (λ lots e. subst (AreNumberedBy (opening_at stock commodity)) (sym e)
          (numbers-listed (opening_at stock commodity) spec entries is.sorted numbered)) c.matching.ensures.all;
      distinct = IfOk-weaker c.matching.result _ _ (λ lots e. subst (λ (ls : List (LotKey × ℤ)). IsStrictlySortedBy lot_cmp (keys_of ls)) (sym e)
          (sorted_matching stock.held commodity spec)) found;
      memory = on_err-then c.matching.result (λ some none. some (none-listed _ (fitted ∙ none))) c.matching.ensures.memory;
    }

pub returns-in-None : goal.returns-in-None
returns-in-None c =
    let commodity = c.args.commodity.now in
    let stock = c.args.self.now in
    let lots = lots_seen c.self.inside.held.entries stock commodity (option_copied c.get.result) c.self.invariant.0 c.self.view_is c.get.ensures.value in
    let none = ap (map key_and_units) c.new.ensures.items
    ∙ ap (filter (λ (lot : LotKey × ℤ). fits c.args.spec.now lot.0)) (sym (lots ∙ ap (λ o. units_in (lots_at (option_copied o))) c.in-None.is)) in
    record {
      all = none;
      numbers = subst (AreNumberedBy (opening_at stock commodity)) (sym c.new.ensures.items) tt;
      distinct = subst (λ (ls : List (LotKey × ℤ)). IsStrictlySortedBy lot_cmp (keys_of ls)) (sym none) (sorted_matching stock.held commodity c.args.spec.now);
      memory = tt;
    }
