-- The entries are counted, and the action is served behind that; or the disk failed.
use Rattle.std.proofs.Common.{◌∙◌, inl, inr}
use Rattle.lot_cli.specs.Preview.{outcome}
use Rattle.lot_cli.specs.Says.{told}
use Rattle.lot_cli.proofs.PreviewLemmas.{ends_so, ends_told, never_inside, outside_still, served_on}
use Rattle.lot_cli.proofs.preview.serve_with_gains.Goals as goal

pub returns-in-Ok-clause-serves : goal.returns-in-Ok-clause-serves
returns-in-Ok-clause-serves g c =
    let served = c.serve-served.result in
    let answered = outcome served.conn (g.W.CountedWrite.contents c.serve-served.new.writer) (g.W.CountedWrite.calls c.serve-served.new.writer)
    (told served.status served.halt) in
    record {
      counted = c.count_entries-before.new.conn;
      count = c.count_entries-before.result;
      counts = c.count_entries-before.ensures;
      serves = inr (
        answered,
        served_on g.S.Store c.count_entries-before.new.conn c.in-Ok.conn c.in-Ok.ensures.same c.args.action.now _
            (g.W.CountedWrite.contents c.args.writer.now) (g.W.CountedWrite.calls c.args.writer.now) answered c.serve-served.ensures.serves,
        c.tell_gains.ensures.tells,
      );
    }

pub returns-in-Err-clause-serves : goal.returns-in-Err-clause-serves
returns-in-Err-clause-serves g c =
    let counts = c.count_entries-before.ensures in
    record {
      counted = c.count_entries-before.new.conn;
      count = c.count_entries-before.result;
      counts = counts;
      serves = inl (
        (λ clean.
            never_inside g.S.Store c.count_entries-before.new.conn c.in-Err.conn c.in-Err.ensures.inside.0 c.in-Err.ensures.inside.1
            ((counts.left clean).mode c.requires.outside)),
        c.halted.ensures.says,
      );
    }

pub returns-in-Err-clause-outside : goal.returns-in-Err-clause-outside
returns-in-Err-clause-outside g c =
    outside_still g.S.Store c.count_entries-before.new.conn c.halted.result.conn (c.halted.ensures.same ∙ c.in-Err.ensures.inside.0)
    (λ clean. (c.count_entries-before.ensures.left clean).mode c.requires.outside)

pub returns-in-Ok-clause-status : goal.returns-in-Ok-clause-status
returns-in-Ok-clause-status g c =
    ends_told c.args.action.now c.serve-served.result.status c.tell_gains.result.status c.serve-served.ensures.status c.tell_gains.ensures.status

pub returns-in-Err-clause-status : goal.returns-in-Err-clause-status
returns-in-Err-clause-status g c = ends_so c.args.action.now c.halted.result.status c.halted.ensures.status
