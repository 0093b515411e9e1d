-- A book is made, and the check is on it; or none is made.
use Rattle.std.proofs.Common.{inl, inr, subst, sym}
use Rattle.sqlite.specs.Held.{state}
use Rattle.lot_cli.specs.Check.{Checks}
use Rattle.lot_cli.proofs.crumbs.check_with.Goals as goal

pub returns-in-Ok-clause-checks : goal.returns-in-Ok-clause-checks
returns-in-Ok-clause-checks g c =
    subst (λ conn. Checks c.args.rounding.now (record {
      bytes = g.R.CountedRead.remaining c.args.reader.now;
      left = g.R.CountedRead.remaining c.check_on-status.new.reader;
      calls = record { before = g.R.CountedRead.calls c.args.reader.now; after = g.R.CountedRead.calls c.check_on-status.new.reader };
    }) (state g.S.Store c.args.conn) (state g.S.Store conn) (g.W.CountedWrite.contents c.args.writer.now) (g.W.CountedWrite.contents c.check_on-status.new.writer)
    (record { before = g.W.CountedWrite.calls c.args.writer.now; after = g.W.CountedWrite.calls c.check_on-status.new.writer })
    (record { status = c.check_on-status.result.0; halt = c.check_on-status.result.1 }))
    (sym c.into_connection.ensures.same) (inr (c.in-Ok.ensures.empty, c.check_on-status.ensures.checks))

pub returns-in-Err-clause-checks : goal.returns-in-Err-clause-checks
returns-in-Err-clause-checks g c =
    subst (λ conn. Checks c.args.rounding.now (record {
      bytes = g.R.CountedRead.remaining c.args.reader.now;
      left = g.R.CountedRead.remaining c.args.reader.now;
      calls = record { before = g.R.CountedRead.calls c.args.reader.now; after = g.R.CountedRead.calls c.args.reader.now };
    }) (state g.S.Store c.args.conn) (state g.S.Store conn) (g.W.CountedWrite.contents c.args.writer.now) (g.W.CountedWrite.contents c.not_made.new.writer)
    (record { before = g.W.CountedWrite.calls c.args.writer.now; after = g.W.CountedWrite.calls c.not_made.new.writer })
    (record { status = c.not_made.result.status; halt = c.not_made.result.halt }))
    (sym c.not_made.ensures.same)
    (inl (
      c.in-Err.left.fault,
      record {
        refused = c.in-Err.ensures.refused;
        other = c.in-Err.ensures.other;
        handed_back = c.in-Err.ensures.handed_back;
        kept = c.in-Err.ensures.kept;
        crash = c.in-Err.ensures.crash_err;
      },
      c.not_made.ensures.says,
    ))
