-- What commands come to on tables, whatever these stand for: by the texts under their keys (docs/RULES.md, Keys and repeats).
use Rattle.std.specs.Prelude.{◌≡◌, List, [], ◌∷◌, ◌++◌, IfSome, IsTrue, Option, None, Some, Result, Err, ⊤}
use Rattle.std.specs.List.{AllByRecursion}
use Rattle.std.specs.Result.{result_ok}
use Rattle.sqlite.specs.State.{HasCleanDisk, State}
use Rattle.lot_command.specs.Canonical.{canonical}
use Rattle.lot_command.specs.declared.command.Command.{Command}
use Rattle.lot_command.specs.declared.key.Key.{Key}
use Rattle.lot_book.specs.Openings.{DecidesByOpening, FactsWithOpenings, IsAcceptedWith}
use Rattle.lot_book.specs.Step.{Refuse, Repeat}
use Rattle.lot_book.specs.declared.change.Change.{Change}
use Rattle.lot_book.specs.declared.verdict.Verdict.{Verdict}
use Rattle.lot_book.specs.declared.verdict.Verdict.TheVariants.{Accepted, Repeated, Refused}
use Rattle.lot_load.specs.Damage.{HasDamagedText, HasText}
use Rattle.lot_load.specs.Paired.{HavePairedFor}
use Rattle.lot_rows.specs.Tables.{Has, Tables}
use Rattle.lot_write.specs.Write.{written_all}
use Rattle.lot_write.specs.Writes.{writes_of}
use Rattle.lot_store.specs.declared.fault.StoreFault.{StoreFault}
use Rattle.lot_store.specs.Damage.{IsOfDamage}
use Rattle.lot_store.specs.declared.run.Ending.{Ending}
use Rattle.lot_store.specs.declared.run.Ending.TheVariants.{Complete, Output, Stopped}

-- ---- one command

-- What a command comes to by edition 2 on these facts and opening numbers, and which tables it leaves. Where it is accepted
-- its writes are made, and its canonical text stands under its key then; else nothing changes.
abbrev pub TurnsOn : FactsWithOpenings → Tables → Key → Command → Verdict → Tables → Type 0
TurnsOn known tables key command Accepted after =
    (change : Change) × IsAcceptedWith known command change
    × (after ≡ written_all (writes_of known.facts key command change) tables) × HasText after key (Some (canonical command))
TurnsOn known tables key command Repeated after = DecidesByOpening known command Repeat × (after ≡ tables)
TurnsOn known tables key command (Refused refusal) after = DecidesByOpening known command (Refuse refusal) × (after ≡ tables)

-- The same on facts with the text that the tables have under the key. Where there is one it is canonical, and the verdict is
-- `Repeated` or `Refused KeyReused` by it; else it is that of a command whose key is new.
abbrev pub TurnsByText : Tables → Key → Command → Verdict → Tables → Type 0
TurnsByText tables key command verdict after =
    (known : FactsWithOpenings) × HasText tables key known.facts.text × TurnsOn known tables key command verdict after

-- the database has the tables that the command leaves with that verdict
abbrev pub HasTurned : Tables → Key → Command → State → Verdict → Type 0
HasTurned tables key command new verdict = (after : Tables) × TurnsByText tables key command verdict after × Has new after

-- so is a verdict on any tables
abbrev pub IsByText : Key → Command → State → State → Result Verdict StoreFault → Type 0
IsByText key command old new answer =
    HasCleanDisk new → (tables : Tables) → Has old tables → IfSome (result_ok answer) (HasTurned tables key command new)

-- ---- a run

-- commands with their keys, one after another: the verdict on each, and the tables that all of them leave
abbrev pub TurnAllByText : Tables → List (Key × Command) → List Verdict → Tables → Type 0
TurnAllByText tables [] [] after = after ≡ tables
TurnAllByText tables [] (verdict ∷ verdicts) after = ⊥
TurnAllByText tables (keyed ∷ more) [] after = ⊥
TurnAllByText tables (keyed ∷ more) (verdict ∷ verdicts) after =
    (mid : Tables) × TurnsByText tables keyed.0 keyed.1 verdict mid × TurnAllByText mid more verdicts after

-- the tables that an answer leaves; without a verdict they are as they were, while the connection is open
abbrev pub LeavesByText : Option Verdict → Tables → Key → Command → State → Type 0
LeavesByText None tables key command new = IsTrue new.is_open → Has new tables
LeavesByText (Some verdict) tables key command new = HasTurned tables key command new verdict

-- the answer to a command on these tables: with a damaged text under its key it tells of the damage, or of what may come before
pub record AnswersByText (tables : Tables) (key : Key) (command : Command) (old new : State) (answer : Result Verdict StoreFault)
    : Type 0 where
  pub damage : HasDamagedText tables key → IsOfDamage old new answer
  pub leaves : LeavesByText (result_ok answer) tables key command new

-- the same of the answer to the first of these commands
abbrev pub AnswersFirst : Tables → List (Key × Command) → State → State → Result Verdict StoreFault → Type 0
AnswersFirst tables [] old new answer = ⊤
AnswersFirst tables (next ∷ left) old new answer = AnswersByText tables next.0 next.1 old new answer

-- how a run ends on these tables, with these commands left: behind all, or at the first of them; where the writer failed that
-- one has the answer
abbrev pub EndsByText : Tables → List (Key × Command) → State → State → Result Verdict StoreFault → Ending → Type 0
EndsByText tables left old new answer Complete = (left ≡ []) × Has new tables
EndsByText tables left old new answer (Stopped fault) = AnswersFirst tables left old new (Err fault)
EndsByText tables left old new answer Output = AnswersFirst tables left old new answer

-- the answer to the first of these commands, where some pair that it posts to isn't paired in the tables before a run: it tells
-- of the damage, or of what may come before
abbrev pub MeetsUnpairedFirst : Tables → List (Key × Command) → State → State → Result Verdict StoreFault → Type 0
MeetsUnpairedFirst tables [] old new answer = ⊤
MeetsUnpairedFirst tables (next ∷ left) old new answer = ¬ HavePairedFor next.1 tables → IsOfDamage old new answer

-- the same of how a run ends with these commands left
abbrev pub EndsUnpaired : Tables → List (Key × Command) → State → State → Result Verdict StoreFault → Ending → Type 0
EndsUnpaired tables left old new answer Complete = ⊤
EndsUnpaired tables left old new answer (Stopped fault) = MeetsUnpairedFirst tables left old new (Err fault)
EndsUnpaired tables left old new answer Output = MeetsUnpairedFirst tables left old new answer

-- A run of commands on tables, whatever these stand for: the first of them came to the verdicts, and it ended behind those. Each
-- account and commodity that they post to has the same lots in both tables before the run.
pub record RunsByText (tables : Tables) (commands : List (Key × Command)) (verdicts : List Verdict) (old new : State)
    (answer : Result Verdict StoreFault) (ending : Ending) : Type 0 where
  pub done : List (Key × Command)
  pub left : List (Key × Command)
  pub split : commands ≡ done ++ left
  pub after : Tables
  pub turn : TurnAllByText tables done verdicts after
  pub ends : EndsByText after left old new answer ending
  pub paired : AllByRecursion (λ (keyed : Key × Command). HavePairedFor keyed.1 tables) done
  pub unpaired : EndsUnpaired tables left old new answer ending
