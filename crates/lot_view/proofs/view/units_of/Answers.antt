-- Where nothing is known the account holds nothing.
use Rattle.std.proofs.Common.{◌≡◌, None, refl, sym}
use Rattle.std.specs.BTreeMap.{get}
use Rattle.std.specs.FinMap.{get-empty}
use Rattle.lot_base.specs.Text.{text_cmp}
use Rattle.lot_inv.specs.Inventory.{position_cmp}
use Rattle.lot_view.proofs.view.units_of.Goals as goal

pub returns-in-None-clause-value : goal.returns-in-None-clause-value
returns-in-None-clause-value c =
    let nothing : get text_cmp c.args.held.now c.args.account.now ≡ None = sym c.in-None.ensures.value in
    rw (nothing, get-empty position_cmp) refl

pub returns-in-None-clause-held : goal.returns-in-None-clause-held
returns-in-None-clause-held c =
    let nothing : get text_cmp c.args.held.now c.args.account.now ≡ None = sym c.in-None.ensures.value in
    rw (nothing, get-empty position_cmp) refl
