-- The last command is the same behind it.
use Rattle.std.proofs.Common.{◌-◌, ap}
use Rattle.lot_read.proofs.LastLemmas.{IsLast, left_alone}
use Rattle.lot_read.proofs.reader.end_last.Goals as goal

pub returns-in-Transaction : goal.returns-in-Transaction
returns-in-Transaction c =
    let items = c.args.commands.now.items in
    let last : IsLast items (c.args.commands.now.len - 1) c.in-Some.last.now = record {
      some = c.in-Some.ensures.item.3.0;
      place = ap (λ n. n - 1) c.args.commands.now.ok.0;
      is = c.in-Some.ensures.item.1;
    } in
    left_alone items _ c.in-Some.last.now c.in-Transaction.transaction c.shrink_to_fit.new.self last c.in-Transaction.is c.shrink_to_fit.ensures
