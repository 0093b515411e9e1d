-- What is found at a position is what a holding keeps, which is never zero units, and of a lot has its opening number.
use Rattle.std.proofs.Common.{◌≡◌, ℕ, List, Option, None, Some, ℤ, pos, refl, sym, ap, ◌∙◌}
use Rattle.std.specs.BTreeMap.{is_at}
use Rattle.std.specs.Map.{lookup}
use Rattle.std.specs.Option.{unwrap_or}
use Rattle.std.specs.Prelude.{option_and_then}
use Rattle.lot_base.specs.Text.{text_cmp}
use Rattle.lot_inv.specs.declared.inventory.Holding.{Holding}
use Rattle.lot_inv.specs.Holding.{AreHoldings, held_at, units_of}
use Rattle.lot_inv.specs.Inventory.{Position, non_zero}
use Rattle.lot_inv.proofs.InventoryLemmas.{found_seen, holding_seen, held_at-nonzero, numbers_seen}
use Rattle.lot_inv.proofs.inventory.Inventory.has_no_zeros.Goals as goal

-- what a holding that may be there has at a position, in units
abbrev units_there : Option Holding → Position → Option ℤ
units_there at position = units_of (option_and_then (λ (holding : Holding). held_at holding position.1) at)

nonzero_in : (holdings : List (List ℕ × Holding)) (position : Position) → AreHoldings holdings → (at : Option Holding) → at ≡ lookup (is_at (text_cmp position.0)) holdings
    → units_there at position ≡ non_zero (unwrap_or (units_there at position) (pos 0))
nonzero_in holdings position are None is = refl
nonzero_in holdings position are (Some holding) is = held_at-nonzero holding position.1 (holding_seen holdings position.0 holding are is)

pub returns-clause-no_zeros : goal.returns-clause-no_zeros
returns-clause-no_zeros c = λ position.
    let holdings = c.self.inside.held.entries in
    let at = lookup (is_at (text_cmp position.0)) holdings in
    let found = found_seen holdings c.args.self.now position.0 position.1 at c.self.invariant.0 c.self.view_is refl in
    found
    ∙ nonzero_in holdings position c.self.invariant.0 at refl
    ∙ ap (λ (o : Option ℤ). non_zero (unwrap_or o (pos 0))) (sym found)

pub returns-clause-numbered : goal.returns-clause-numbered
returns-clause-numbered c = numbers_seen c.self.inside.held.entries c.args.self.now c.self.invariant.0 c.self.view_is
