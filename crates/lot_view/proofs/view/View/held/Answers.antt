-- An account of which nothing is known holds nothing.
use Rattle.std.proofs.Common.{◌≡◌, Option, None, ap, subst}
use Rattle.std.specs.BTreeMap.{get}
use Rattle.std.specs.Option.{unwrap_or}
use Rattle.lot_base.specs.Text.{text_cmp}
use Rattle.lot_inv.specs.Inventory.{Stock, nothing}
use Rattle.lot_inv.specs.Zeros.{HasNoZeros}
use Rattle.lot_view.proofs.view.View.held.Goals as goal
use Rattle.lot_book.proofs.HeldLemmas.{no_zeros-empty}

pub returns-in_err-held-clause-no_zeros : goal.returns-in_err-held-clause-no_zeros
returns-in_err-held-clause-no_zeros c =
    let unknown : None ≡ get text_cmp c.args.self.now.held c.args.account.now = c.in_err-held.ensures.value in
    subst HasNoZeros (ap (λ (o : Option Stock). (unwrap_or o nothing).held) unknown) no_zeros-empty
