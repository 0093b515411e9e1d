-- It stays as it is where the file that it is does.
use Rattle.std.proofs.Common.{subst}
use Rattle.std.specs.Prelude.{IsTrue}
use Rattle.lot_files.specs.declared.medium.Medium.{Medium}
use Rattle.lot_files.specs.Medium.{either}
use Rattle.lot_files.proofs.MediumLemmas.{frozen_memory, frozen_system}
use Rattle.lot_files.proofs.medium.MediumDisk.write_at.Goals as goal

pub returns-in-System-clause-frozen : goal.returns-in-System-clause-frozen
returns-in-System-clause-frozen g c = λ frozen.
    let stays = c.write_at.ensures.frozen (subst (λ (m : Medium g.row.A.Denot g.row.B.Denot).
    IsTrue (either g.A.Disk.is_frozen g.B.Disk.is_frozen m)) c.in-System.is frozen) in (
      stays.0,
      frozen_system g.A.Disk.seen g.B.Disk.seen g.A.Disk.may_leave g.B.Disk.may_leave g.A.Disk.is_clean g.B.Disk.is_clean
          g.A.Disk.is_frozen g.B.Disk.is_frozen c.args.self.now c.in-System.file c.write_at.new.self c.in-System.is stays.1,
    )

pub returns-in-Memory-clause-frozen : goal.returns-in-Memory-clause-frozen
returns-in-Memory-clause-frozen g c = λ frozen.
    let stays = c.write_at-in-Memory.ensures.frozen (subst (λ (m : Medium g.row.A.Denot g.row.B.Denot).
    IsTrue (either g.A.Disk.is_frozen g.B.Disk.is_frozen m)) c.in-Memory.is frozen) in (
      stays.0,
      frozen_memory g.A.Disk.seen g.B.Disk.seen g.A.Disk.may_leave g.B.Disk.may_leave g.A.Disk.is_clean g.B.Disk.is_clean
          g.A.Disk.is_frozen g.B.Disk.is_frozen c.args.self.now c.in-Memory.file c.write_at-in-Memory.new.self c.in-Memory.is stays.1,
    )
