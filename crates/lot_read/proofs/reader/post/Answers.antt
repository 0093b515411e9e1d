-- The last command is a transaction, and its postings are those before and one more.
use Rattle.std.proofs.Common.{◌-◌, ap}
use Rattle.std.proofs.lemmas.Bool.{both_ways}
use Rattle.std.proofs.lemmas.Result.{on_ok_weaker}
use Rattle.lot_read.specs.Text.{takes_posting}
use Rattle.lot_read.proofs.LastLemmas.{IsLast, posted, takes_other}
use Rattle.lot_read.proofs.reader.post.Goals as goal

pub unreachable-requires-in_default-last : goal.unreachable-requires-in_default-last
unreachable-requires-in_default-last c =
    let items = c.args.commands.now.items in
    let last : IsLast items (c.args.commands.now.len - 1) c.in-Some.last.now = record {
      some = c.in-Some.ensures.item.3.0;
      place = ap (λ n. n - 1) c.args.commands.now.ok.0;
      is = c.in-Some.ensures.item.1;
    } in
    both_ways (takes_posting items) (takes_other items _ c.in-Some.last.now last c.in_default-last.not-Transaction) c.requires

pub returns : goal.returns
returns c =
    let items = c.args.commands.now.items in
    let last : IsLast items (c.args.commands.now.len - 1) c.in-Some.last.now = record {
      some = c.in-Some.ensures.item.3.0;
      place = ap (λ n. n - 1) c.args.commands.now.ok.0;
      is = c.in-Some.ensures.item.1;
    } in
    on_ok_weaker c.push.result
    (posted items _ c.in-Some.last.now c.in-Transaction.transaction c.args.posting c.push.new.self last c.in-Transaction.is) c.push.ensures.ok
