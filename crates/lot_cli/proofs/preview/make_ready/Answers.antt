-- A connection outside a transaction has no limit then; one inside is handed back as it was.
use Rattle.std.proofs.Common.{refl}
use Rattle.lot_cli.proofs.PreviewLemmas.{inside_if, outside_if, outside_then, unlimited_then}
use Rattle.lot_cli.proofs.preview.make_ready.Goals as goal

pub returns-then-not-is_autocommit-clause-inside : goal.returns-then-not-is_autocommit-clause-inside
returns-then-not-is_autocommit-clause-inside g c =
    (refl, inside_if c.is_autocommit.result c.args.conn.in_transaction c.is_autocommit.ensures.value c.if-not-is_autocommit.true)

pub returns-clause-outside : goal.returns-clause-outside
returns-clause-outside g c =
    outside_then g.S.Store c.args.conn c.set_step_limit.new.self c.set_step_limit.ensures
    (outside_if c.is_autocommit.result c.args.conn.in_transaction c.is_autocommit.ensures.value c.if-not-is_autocommit.false)

pub returns-clause-unlimited : goal.returns-clause-unlimited
returns-clause-unlimited g c = unlimited_then g.S.Store c.args.conn c.set_step_limit.new.self c.set_step_limit.ensures

pub returns-clause-same : goal.returns-clause-same
returns-clause-same g c = c.set_step_limit.ensures
