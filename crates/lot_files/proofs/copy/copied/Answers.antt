use Rattle.std.proofs.Common.{rules}
use Rattle.lot_files.proofs.CopyLemmas.{torn_more, torn_none}
use Rattle.lot_files.proofs.copy.copied.Goals as goal

pub loop-try-init : goal.loop-try-init
loop-try-init g c = torn_none g.S.Source c.args.source.now

pub loop-try-preserved : goal.loop-try-preserved
loop-try-preserved g c =
    torn_more g.S.Source c.loop-try._try c.args.source.now c.loop-try.source c.stamp-in-loop-try.new.self c.in_ok-before.before
    c.in_ok-stamp.field-0 (record { log = c.in_ok-log.log; db = c.in_ok-db.db }) c.loop-try.invariant (search rules) (search rules)
