use Rattle.std.proofs.Common.{sym, ◌∙◌}
use Rattle.lot_roles.proofs.TextLemmas.{up_to_all, up_to_at}
use Rattle.lot_roles.proofs.parts.up_to.Goals as goal

pub returns-in-Some : goal.returns-in-Some
returns-in-Some c =
    let h = c.in-Some.ensures.cases in
    h.3 ∙ sym (up_to_at c.args.until.now c.args.field.now h.0 _ h.2.0 h.2.1.split)

pub returns-in-None : goal.returns-in-None
returns-in-None c = sym (up_to_all c.args.until.now c.args.field.now c.in-None.ensures.cases)
