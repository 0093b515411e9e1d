-- The whole name is behind nothing.
use Rattle.std.proofs.Common.{◌∙◌, ℕ, List, ap, sym}
use Rattle.lot_roles.specs.Accounts.{piece_text}
use Rattle.lot_roles.proofs.AccountLemmas.{behind_nothing, name_behind}
use Rattle.lot_roles.proofs.accounts.name.Goals as goal

pub loop-piece-init : goal.loop-piece-init
loop-piece-init c =
    let text = piece_text c.args.values.account.now c.args.values.currency.now c.args.values.symbol.now in
    behind_nothing text c.args.pieces.now ∙ ap (λ (before : List ℕ). name_behind before text c.args.pieces.now) (sym c.new-name.ensures.bytes)
