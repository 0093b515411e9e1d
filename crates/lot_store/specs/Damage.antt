-- Commands under whose keys the tables have a damaged text (docs/RULES.md, Keys and repeats), or that post to an account and a
-- commodity whose lots and opening numbers don't belong together (docs/FORMATS.md, Tables).
use Rattle.std.specs.Prelude.{Option, Result, Ok, Err, ⊤}
use Rattle.sqlite.specs.State.{HasCleanDisk, State}
use Rattle.lot_command.specs.declared.command.Command.{Command}
use Rattle.lot_command.specs.declared.key.Key.{Key}
use Rattle.lot_book.specs.Touched.{pairs_in}
use Rattle.lot_load.specs.Damage.{HasDamagedText}
use Rattle.lot_load.specs.Paired.{AreWholeOrPaired}
use Rattle.lot_load.specs.declared.kept.Kept.{Kept}
use Rattle.lot_rows.specs.Tables.{Has, Tables}
use Rattle.lot_table.specs.Statement.{DiskFailed}
use Rattle.lot_book.specs.declared.verdict.Verdict.{Verdict}
use Rattle.lot_store.specs.declared.fault.StoreFault.{StoreFault}
use Rattle.lot_store.specs.declared.fault.StoreFault.TheVariants.{Damaged, Device, InDoubt, Memory, NeedsReopen}

-- The answer to a command that meets such damage. It is that the tables are damaged, or what may come before the rows are
-- read: out of memory, that the disk failed, or that the book needs reopening.
abbrev pub IsOfDamage : State → State → Result Verdict StoreFault → Type 0
IsOfDamage old new (Ok verdict) = ⊥
IsOfDamage old new (Err Damaged) = ⊤
IsOfDamage old new (Err Memory) = ⊤
IsOfDamage old new (Err Device) = DiskFailed old new
IsOfDamage old new (Err NeedsReopen) = ⊤
IsOfDamage old new (Err InDoubt) = ⊥

-- so is the answer on any tables with such a text
abbrev pub MeetsDamage : Key → State → State → Result Verdict StoreFault → Type 0
MeetsDamage key old new answer =
    HasCleanDisk new → (tables : Tables) → Has old tables → HasDamagedText tables key → IsOfDamage old new answer

-- so it is on any tables that don't have the same lots of some pair that the command posts to, of which not all was known
abbrev pub MeetsUnpaired : Option Kept → Command → State → State → Result Verdict StoreFault → Type 0
MeetsUnpaired kept command old new answer =
    HasCleanDisk new → (tables : Tables) → Has old tables → ¬ AreWholeOrPaired kept tables (pairs_in command)
    → IsOfDamage old new answer
