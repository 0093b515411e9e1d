-- The last of the lots decides.
use Rattle.std.proofs.Common.{option_copied, sym, ap, ◌∙◌}
use Rattle.lot_inv.proofs.LentLemmas.{past_last}
use Rattle.lot_inv.proofs.foremost.Foremost.is_past.Goals as goal

pub returns-in-Some : goal.returns-in-Some
returns-in-Some c =
    c.is_later.ensures
    ∙ sym (past_last c.args.self c.args.lots.now c.in-Some.last.now c.args.lot.now (sym c.last.ensures.value ∙ ap option_copied c.in-Some.is))
