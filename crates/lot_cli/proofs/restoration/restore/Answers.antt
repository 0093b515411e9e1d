use Rattle.std.proofs.Common.{None, inl, inr, refl, subst, sym}
use Rattle.sqlite.specs.Held.{state}
use Rattle.lot_cli.specs.Restore.{RestoresBook}
use Rattle.lot_cli.proofs.restoration.restore.Goals as goal

pub returns-in-Ok-clause-restores : goal.returns-in-Ok-clause-restores
returns-in-Ok-clause-restores g c =
    subst (λ (w : _). RestoresBook (record { without = w; strictness = c.args.asked.now.strictness; tolerance = c.args.asked.now.tolerance }) (record { bytes = g.R.CountedRead.remaining c.args.reader.now; left = g.R.CountedRead.remaining c.restore.new.reader; calls = record { before = g.R.CountedRead.calls c.args.reader.now; after = g.R.CountedRead.calls c.restore.new.reader } }) (state g.S.Store c.args.conn) (state g.S.Store c.restore.new.conn) (g.W.CountedWrite.contents c.args.writer.now) (g.W.CountedWrite.contents c.answer.new.writer) (record { before = g.W.CountedWrite.calls c.args.writer.now; after = g.W.CountedWrite.calls c.answer.new.writer }) (record { status = c.answer.result; halt = None }))
    c.deref.ensures.value
    (inl (record {
      how = c.in-Ok.restored;
      mid = g.W.CountedWrite.contents c.restore.new.writer;
      between = g.W.CountedWrite.calls c.restore.new.writer;
      empty = c.in-Ok.ensures.empty;
      restores = c.in-Ok.ensures.restores;
      crash = c.in-Ok.ensures.crash;
      read = c.in-Ok.ensures.read;
      none_failed = c.in-Ok.ensures.none_failed;
      says = c.answer.ensures.says;
      goes_on = refl;
    }))

pub returns-in-Err-clause-restores : goal.returns-in-Err-clause-restores
returns-in-Err-clause-restores g c =
    subst (λ conn. RestoresBook (record { without = c.args.asked.now.without.items; strictness = c.args.asked.now.strictness; tolerance = c.args.asked.now.tolerance }) (record { bytes = g.R.CountedRead.remaining c.args.reader.now; left = g.R.CountedRead.remaining c.restore.new.reader; calls = record { before = g.R.CountedRead.calls c.args.reader.now; after = g.R.CountedRead.calls c.restore.new.reader } }) (state g.S.Store c.args.conn) (state g.S.Store conn) (g.W.CountedWrite.contents c.args.writer.now) (g.W.CountedWrite.contents c.unrestored.new.writer) (record { before = g.W.CountedWrite.calls c.args.writer.now; after = g.W.CountedWrite.calls c.unrestored.new.writer }) (record { status = c.unrestored.result.status; halt = c.unrestored.result.halt }))
    (sym c.unrestored.ensures.same)
    (subst (λ (w : _). RestoresBook (record { without = w; strictness = c.args.asked.now.strictness; tolerance = c.args.asked.now.tolerance }) (record { bytes = g.R.CountedRead.remaining c.args.reader.now; left = g.R.CountedRead.remaining c.restore.new.reader; calls = record { before = g.R.CountedRead.calls c.args.reader.now; after = g.R.CountedRead.calls c.restore.new.reader } }) (state g.S.Store c.args.conn) (state g.S.Store c.restore.new.conn) (g.W.CountedWrite.contents c.args.writer.now) (g.W.CountedWrite.contents c.unrestored.new.writer) (record { before = g.W.CountedWrite.calls c.args.writer.now; after = g.W.CountedWrite.calls c.unrestored.new.writer }) (record { status = c.unrestored.result.status; halt = c.unrestored.result.halt }))
    c.deref.ensures.value
    (inr (
      c.in-Err.fault,
      record {
        mid = g.W.CountedWrite.contents c.restore.new.writer;
        between = g.W.CountedWrite.calls c.restore.new.writer;
        fails = c.in-Err.ensures.fails;
        other = λ apart. let same = c.in-Err.ensures.other apart in cc;
        unchanged = c.in-Err.ensures.unchanged;
        crash = c.in-Err.ensures.crash;
        read = c.in-Err.ensures.read;
        said = c.in-Err.ensures.said;
        ends = c.unrestored.ensures.ends;
      },
    )))
