-- What is read of the file is read of the file that it is.
use Rattle.std.proofs.Common.{◌<◌, length, sym, subst}
use Rattle.std.specs.Prelude.{IsTrue, OnOk}
use Rattle.sqlite_disk.specs.Disk.{Holds}
use Rattle.lot_files.specs.declared.medium.Medium.{Medium}
use Rattle.lot_files.specs.Medium.{either}
use Rattle.lot_files.proofs.medium.MediumDisk.read_at.Goals as goal

pub returns-in-System-clause-read : goal.returns-in-System-clause-read
returns-in-System-clause-read g c =
    subst (λ (m : Medium g.row.A.Denot g.row.B.Denot). OnOk c.read_at.result (IsTrue (g.A.Disk.is_clean c.read_at.new.self)
    → 0 < length c.args.buf.now → Holds (either g.A.Disk.seen g.B.Disk.seen m) c.args.at c.read_at.new.buf))
    (sym c.in-System.is) c.read_at.ensures.read

pub returns-in-Memory-clause-read : goal.returns-in-Memory-clause-read
returns-in-Memory-clause-read g c =
    subst (λ (m : Medium g.row.A.Denot g.row.B.Denot). OnOk c.read_at-in-Memory.result
    (IsTrue (g.B.Disk.is_clean c.read_at-in-Memory.new.self)
    → 0 < length c.args.buf.now → Holds (either g.A.Disk.seen g.B.Disk.seen m) c.args.at c.read_at-in-Memory.new.buf))
    (sym c.in-Memory.is) c.read_at-in-Memory.ensures.read
