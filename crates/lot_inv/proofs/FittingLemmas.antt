-- The lots of a commodity that units may take are those that they may take of its holding, with their opening numbers.
use Rattle.std.specs.Prelude.{◌≡◌, ℕ, List, [], filter, None, Option, Some, ℤ}
use Rattle.std.specs.BTreeMap.{is_at}
use Rattle.std.specs.Map.{lookup}
use Rattle.std.specs.Option.{unwrap_or}
use Rattle.std.proofs.Common.{sym, ap, ◌∙◌}
use Rattle.std.proofs.lemmas.List.Elements.{All-filter, All-from_recursion, recursion_from_All}
use Rattle.lot_base.specs.Text.{text_cmp}
use Rattle.lot_cost.specs.declared.cost_spec.CostSpec.{CostSpec}
use Rattle.lot_cost.specs.declared.lot_key.LotKey.{LotKey}
use Rattle.lot_cost.specs.CostSpec.{fits}
use Rattle.lot_inv.specs.declared.inventory.Holding.{Holding}
use Rattle.lot_inv.specs.declared.lots.OpenLot.{OpenLot}
use Rattle.lot_inv.specs.declared.lot.Lot.{Lot}
use Rattle.lot_inv.specs.Foremost.{numbered}
use Rattle.lot_inv.specs.Holding.{AreHoldings, listed, opening_of, takeable, takeable_lots, units_in}
use Rattle.lot_inv.specs.Inventory.{Stock, fitting, opening_at, other_sign}
use Rattle.lot_inv.specs.Lots.{lot_at}
use Rattle.lot_inv.proofs.InventoryLemmas.{AreOf, holding_seen, lots_at, lots_seen, opening_seen}
use Rattle.lot_inv.proofs.LentLemmas.{are_numbered}
use Rattle.lot_inv.proofs.ListedLemmas.{numbers-listed, takeable-listed}

module _ (holdings : List (List ℕ × Holding)) (stock : Stock) (commodity : List ℕ) (are : AreHoldings holdings) (view : AreOf holdings stock)
    (units : ℤ) (spec : CostSpec) where
  abbrev opening : LotKey → ℕ
  opening = opening_at stock commodity

  abbrev At : Option Holding → Type 0
  At at = at ≡ lookup (is_at (text_cmp commodity)) holdings

  pub fitting-takeable : (at : Option Holding) → At at → takeable units spec (units_in (lots_at at)) ≡ fitting stock.held commodity units spec
  fitting-takeable at is = ap (takeable units spec) (sym (lots_seen holdings stock commodity at are view is))

  pub numbered-takeable : (holding : Holding) → At (Some holding)
      → takeable_lots units spec (listed holding.lots) ≡ numbered opening (fitting stock.held commodity units spec)
  numbered-takeable holding is =
      let entries = holding.lots in
      let IsNumbered : Lot → Type 0 = λ lot. lot.opening ≡ opening lot.key in
      let number = λ (key : LotKey) (lot : OpenLot) (e : lot_at holding.lots key ≡ Some lot).
      sym (ap (λ o. unwrap_or o 0) (opening_seen holdings stock commodity key (Some holding) are view is ∙ ap opening_of e)) in
      let fit = filter (λ (lot : Lot). fits spec lot.key) (listed entries) in
      let all = takeable_lots units spec (listed entries) in
      let each = recursion_from_All IsNumbered all
      (All-filter (λ (lot : Lot). other_sign lot.units units) IsNumbered fit
      (All-from_recursion IsNumbered fit (numbers-listed opening spec entries (holding_seen holdings commodity holding are is).sorted number))) in
      are_numbered opening all each ∙ ap (numbered opening) (takeable-listed units spec entries ∙ fitting-takeable (Some holding) is)

  pub none_numbered : At None → [] ≡ numbered opening (fitting stock.held commodity units spec)
  none_numbered is = ap (numbered opening) (fitting-takeable None is)
