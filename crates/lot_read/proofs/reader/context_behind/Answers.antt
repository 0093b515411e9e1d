-- By the last command.
use Rattle.std.proofs.Common.{◌-◌, length, refl, sym, ◌∙◌, ap}
use Rattle.lot_read.specs.Text.{is_transaction}
use Rattle.lot_read.proofs.LastLemmas.{IsLast, takes_other, takes_by_last}
use Rattle.lot_read.proofs.reader.context_behind.Goals as goal

pub returns-in-Transaction : goal.returns-in-Transaction
returns-in-Transaction c =
    let last : IsLast c.args.commands.now (length c.args.commands.now - 1) c.in-Some.last.now =
    record { some = c.in-Some.ensures.item.3.0; place = refl; is = c.in-Some.ensures.item.1 } in
    sym (takes_by_last c.args.commands.now _ c.in-Some.last.now last ∙ ap is_transaction c.in-Transaction.is)

pub returns-in_default-last : goal.returns-in_default-last
returns-in_default-last c =
    let last : IsLast c.args.commands.now (length c.args.commands.now - 1) c.in-Some.last.now =
    record { some = c.in-Some.ensures.item.3.0; place = refl; is = c.in-Some.ensures.item.1 } in
    sym (takes_other c.args.commands.now _ c.in-Some.last.now last c.in_default-last.not-Transaction)
