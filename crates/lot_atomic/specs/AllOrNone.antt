-- What commands come to that are applied all or none: judged in their order, and kept in one commit, or not at all.
use Rattle.std.specs.Prelude.{◌≡◌, ◌≢◌, ◌⊎◌, ℕ, ◌+◌, false, IfOk, IsTrue, List, [], ◌∷◌, ◌++◌, length, OnOk, Option, Result, Ok, Err, ⊤}
use Rattle.std.specs.List.{AllByRecursion}
use Rattle.sqlite.specs.State.{HasCleanDisk, KeepsCommit, State, Survives}
use Rattle.sqlite.specs.Tree.{Trees}
use Rattle.lot_command.specs.declared.command.Command.{Command}
use Rattle.lot_command.specs.declared.key.Key.{Key}
use Rattle.lot_book.specs.Facts.{Entry}
use Rattle.lot_book.specs.Judged.{JudgesOn}
use Rattle.lot_book.specs.Openings.{AgreesWithOpenings, FactsWithOpenings, IsAcceptedWith, facts_with_openings}
use Rattle.lot_book.specs.declared.change.Change.{Change}
use Rattle.lot_book.specs.declared.verdict.Verdict.{Verdict}
use Rattle.lot_book.specs.declared.verdict.Verdict.TheVariants.{Accepted, Refused, Repeated}
use Rattle.lot_book.specs.Touched.{pairs_in}
use Rattle.lot_load.specs.Damage.{HasDamagedText}
use Rattle.lot_load.specs.Kept.{IsOf}
use Rattle.lot_load.specs.Paired.{AreWholeOrPaired, FindsPaired, HavePairedFor, KeepsPaired}
use Rattle.lot_load.specs.declared.kept.Kept.{Kept as Known}
use Rattle.lot_rows.specs.Tables.{Has, Tables, layout}
use Rattle.lot_rounding.specs.declared.asked.Asked.{Asked}
use Rattle.lot_rounding.specs.declared.rounding.Rounding.{Rounding}
use Rattle.lot_stored.specs.StandFor.{Left, Stands}
use Rattle.lot_table.specs.Rowids.{EachStaysInReach}
use Rattle.lot_table.specs.Statement.{DiskFailed}
use Rattle.lot_table.specs.declared.fault.Fault.{Fault}
use Rattle.lot_table.specs.declared.fault.Fault.TheVariants as table
use Rattle.lot_write.specs.Writes.{writes_of}
use Rattle.lot_store.specs.Apply.{HasNoRoomFor, RefusedByDeviceWith, StandsWith, store_fault_of}
use Rattle.lot_store.specs.ByText.{HasTurned, MeetsUnpairedFirst, TurnAllByText}
use Rattle.lot_store.specs.Damage.{IsOfDamage}
use Rattle.lot_store.specs.Step.{LeavesTables}
use Rattle.lot_store.specs.Turned.{AreLeft, AreTurnedOn, IsLastTurned, IsTurned}
use Rattle.lot_atomic.specs.declared.all_or_none.Ended.{Ended}
use Rattle.lot_atomic.specs.declared.all_or_none.Ended.TheVariants as end
use Rattle.lot_atomic.specs.declared.all_or_none.Together.{Together}
use Rattle.lot_atomic.specs.declared.all_or_none.Together.TheVariants.{Accepts, Refuses, Repeats}
use Rattle.lot_store.specs.declared.fault.StoreFault.{StoreFault}
use Rattle.lot_store.specs.declared.fault.StoreFault.TheVariants.{Damaged, Device, InDoubt, Memory, NeedsReopen}

-- ---- verdicts together

abbrev pub comes_to : Verdict → Together
comes_to Accepted = Accepts
comes_to Repeated = Repeats
comes_to (Refused refusal) = Refuses

-- of two: a refusal, where one of them is; else what accepts, where one of them does
abbrev pub joined : Together → Together → Together
joined Refuses other = Refuses
joined Accepts Refuses = Refuses
joined Accepts Accepts = Accepts
joined Accepts Repeats = Accepts
joined Repeats other = other

-- what verdicts come to together: one refuses; or none does, and one accepts; or all repeat entries
abbrev pub together : List Verdict → Together
together [] = Repeats
together (verdict ∷ verdicts) = joined (comes_to verdict) (together verdicts)

-- ---- one command, in an open transaction

-- a repeated command and a refused one change nothing
abbrev pub ChangesBy : Verdict → State → State → Type 0
ChangesBy Accepted old new = ⊤
ChangesBy Repeated old new = new.now ≡ old.now
ChangesBy (Refused refusal) old new = new.now ≡ old.now

-- How many rows a command changes on a book, by facts that agree with it. It is none of a command that isn't accepted.
abbrev pub ChangesRows : List Entry → Key → Command → Verdict → ℕ → Type 0
ChangesRows book key command Accepted count =
    (known : FactsWithOpenings) × (change : Change) × AgreesWithOpenings known (facts_with_openings book key) command
    × IsAcceptedWith known command change × (count ≡ length (writes_of known.facts key command change))
ChangesRows book key command Repeated count = count ≡ 0
ChangesRows book key command (Refused refusal) count = count ≡ 0

-- A command is judged on the books that what is kept is of, by what the transaction has made of the tables. Where it is accepted,
-- what it writes is made there, too. The last commit stands, whatever happens.
pub record JudgesNext (Kept KeptThen : List Entry → Type 0) (key : Key) (command : Command) (old new : State)
    (result : Result Verdict Fault) : Type 0 where
  -- the verdict is that of a step of edition 2, and the book after the step is there then
  pub judged : HasCleanDisk new → IfOk result (λ verdict. (entries : List Entry) → StandsWith Kept old entries
      → (after : List Entry) × JudgesOn entries key command verdict after × StandsWith KeptThen new after)
  pub inside : HasCleanDisk new → OnOk result (IsTrue new.in_transaction)
  pub changes : HasCleanDisk new → IfOk result (λ verdict. ChangesBy verdict old new)
  -- each row that is changed is given no rowid but the next one of its table
  pub rowids : HasCleanDisk new → IfOk result (λ verdict. (entries : List Entry) → StandsWith Kept old entries
      → (count : ℕ) × ChangesRows entries key command verdict count × EachStaysInReach count layout.schema old.now.trees new.now.trees)
  pub rest : HasCleanDisk new → KeepsCommit old new
  -- damage is found only where no such book is there
  pub damaged : HasCleanDisk new → result ≡ Err table.Damaged → (entries : List Entry) → ¬ StandsWith Kept old entries
  pub device : HasCleanDisk new → result ≡ Err table.Device → RefusedByDeviceWith Kept key command old new
  pub crash : Survives old new (λ _. ⊥)

-- what a command comes to that meets such damage: a fault, as `apply` has it there
abbrev pub IsOfDamagedText : {A : Type 0} → State → State → Result A Fault → Type 0
IsOfDamagedText old new (Ok done) = ⊥
IsOfDamagedText old new (Err fault) = IsOfDamage old new (Err (store_fault_of fault))

-- on any tables, whatever these stand for, a verdict is by the text under the key
abbrev pub JudgesByText : Key → Command → State → State → Result Verdict Fault → Type 0
JudgesByText key command old new result =
    HasCleanDisk new → (tables : Tables) → Has old tables → IfOk result (HasTurned tables key command new)

-- with a damaged text under the key a fault comes
abbrev pub FailsByText : Key → State → State → Result Verdict Fault → Type 0
FailsByText key old new result =
    HasCleanDisk new → (tables : Tables) → Has old tables → HasDamagedText tables key → IsOfDamagedText old new result

-- What is found of the pairs that a command posts to. Where not all was known of some pair, and the tables don't have the same
-- lots of it, a fault comes.
pub record JudgesPairs (kept kept_then : Option Known) (command : Command) (old new : State) (result : Result Verdict Fault) : Type 0 where
  pub unpaired : HasCleanDisk new → (tables : Tables) → Has old tables → ¬ AreWholeOrPaired kept tables (pairs_in command)
      → IsOfDamagedText old new result
  pub paired : FindsPaired kept command old new result
  pub whole : KeepsPaired kept kept_then old new

-- The command that is judged in the place of what was handed in. Where a fault came it may also be what was handed in itself.
abbrev pub IsTurnedAs : {A : Type 0} → Result A Fault → Option Rounding → List Entry → Key × Asked → Key × Command → Type 0
IsTurnedAs (Ok done) rounding book asked turned = IsTurned rounding book asked turned
IsTurnedAs (Err fault) rounding book asked turned = IsLastTurned false rounding book asked turned

-- so is what was handed in, and another command may be judged in its place
pub record JudgesTurned (kept kept_then : Option Known) (rounding : Option Rounding) (asked : Key × Asked)
    (turned : Key × Command) (old new : State) (result : Result Verdict Fault) : Type 0 where
  pub turns : HasCleanDisk new → (entries : List Entry) → StandsWith (IsOf kept) old entries
      → IsTurnedAs result rounding entries asked turned
  pub next : JudgesNext (IsOf kept) (IsOf kept_then) turned.0 turned.1 old new result
  pub text : JudgesByText turned.0 turned.1 old new result
  pub damage : FailsByText turned.0 old new result
  pub pairs : JudgesPairs kept kept_then turned.1 old new result

abbrev pub JudgesAsked : Option Known → Option Known → Option Rounding → Key × Asked → State → State → Result Verdict Fault → Type 0
JudgesAsked kept kept_then rounding asked old new result =
    (turned : Key × Command) × JudgesTurned kept kept_then rounding asked turned old new result

-- the verdict of an answer that tells something else, too
abbrev pub verdict_in : {A : Type 0} → Result (Verdict × A) Fault → Result Verdict Fault
verdict_in (Ok answer) = Ok answer.0
verdict_in (Err fault) = Err fault

-- ---- all of them, in an open transaction

-- The first of the commands were judged from a book, each or another in its place, and came to these verdicts. What is left begins
-- with the one at which a fault came.
pub record JudgesFirst (rounding : Option Rounding) (entries : List Entry) (asked : List (Key × Asked)) (turned : List (Key × Command))
    (verdicts : List Verdict) : Type 0 where
  pub first : List (Key × Asked)
  pub rest : List (Key × Asked)
  pub asked_are : asked ≡ first ++ rest
  pub done : List (Key × Command)
  pub left : List (Key × Command)
  pub turned_are : turned ≡ done ++ left
  -- the book after them
  pub book : List Entry
  pub turns : AreTurnedOn rounding entries first done verdicts book
  pub next : AreLeft false rounding book rest left

-- how many rows commands change that are judged one after another from a book, up to the book after them
abbrev pub ChangeRows : List Entry → List (Key × Command) → List Verdict → List Entry → ℕ → Type 0
ChangeRows before [] [] after count = (after ≡ before) × (count ≡ 0)
ChangeRows before (keyed ∷ more) (verdict ∷ verdicts) after count =
    (mid : List Entry) × JudgesOn before keyed.0 keyed.1 verdict mid
    × (first : ℕ) × ChangesRows before keyed.0 keyed.1 verdict first × (rest : ℕ) × ChangeRows mid more verdicts after rest
    × (count ≡ rest + first)
ChangeRows before _ _ after count = ⊥

-- Trees that the writes of commands make of others: they stand for the book after the commands, and each row that was changed was
-- given no rowid but the next one of its table.
pub record AreMade (entries : List Entry) (done : List (Key × Command)) (verdicts : List Verdict) (book : List Entry)
    (before made : Trees) : Type 0 where
  pub count : ℕ
  pub rows : ChangeRows entries done verdicts book count
  pub reach : EachStaysInReach count layout.schema before made
  pub stand : Left made book

-- the commands were judged, and the database has no room for the first of those that are left on what they made of these trees
abbrev pub LacksRoomForNext : List Entry → List (Key × Command) → List Verdict → List Entry → List (Key × Command) → Trees → State
    → Type 0
LacksRoomForNext entries done verdicts book [] before new = ⊥
LacksRoomForNext entries done verdicts book (next ∷ left) before new =
    (made : Trees) × (are : AreMade entries done verdicts book before made)
    × HasNoRoomFor next.0 next.1 book are.stand.tables made new

-- a fault of the tables behind these commands: the device refuses the next one only where the disk failed, or for lack of room
abbrev pub StopsInside : Fault → List Entry → List (Key × Command) → List Verdict → List Entry → List (Key × Command) → State → State
    → Type 0
StopsInside table.Device entries done verdicts book left old new =
    DiskFailed old new ⊎ LacksRoomForNext entries done verdicts book left old.now.trees new
StopsInside table.Damaged entries done verdicts book left old new = ⊥
StopsInside table.Memory entries done verdicts book left old new = ⊤

-- what commands come to in a transaction on a book: all are judged, and the tables are those of the book after them; or some
abbrev pub ComesInside : Option Rounding → List Entry → List (Key × Asked) → List (Key × Command) → State → State → List Verdict
    → Result Together Fault → Type 0
ComesInside rounding entries asked turned old new verdicts (Ok it) =
    (after : List Entry) × AreTurnedOn rounding entries asked turned verdicts after × Stands new after
ComesInside rounding entries asked turned old new verdicts (Err fault) =
    (it : JudgesFirst rounding entries asked turned verdicts) × StopsInside fault entries it.done verdicts it.book it.left old new

-- with a damaged text under the key of the first of these commands that is the fault, or what may come before the text is read
abbrev pub MeetsDamageFirst : Tables → List (Key × Command) → State → State → StoreFault → Type 0
MeetsDamageFirst tables [] old new fault = ⊤
MeetsDamageFirst tables (next ∷ left) old new fault = HasDamagedText tables next.0 → IsOfDamage old new (Err fault)

-- The first of the commands came to these verdicts on tables, whatever these stand for, and then a fault came.
pub record FailsByTextFirst (tables : Tables) (turned : List (Key × Command)) (verdicts : List Verdict) (old new : State)
    (fault : StoreFault) : Type 0 where
  pub done : List (Key × Command)
  pub left : List (Key × Command)
  pub split : turned ≡ done ++ left
  pub after : Tables
  pub turn : TurnAllByText tables done verdicts after
  pub damage : MeetsDamageFirst after left old new fault
  -- each account and commodity that those post to has the same lots in both tables before them all
  pub paired : AllByRecursion (λ (keyed : Key × Command). HavePairedFor keyed.1 tables) done
  pub unpaired : MeetsUnpairedFirst tables left old new (Err fault)

-- what commands come to in a transaction on tables, whatever these stand for
abbrev pub ComesByTextInside : Tables → List (Key × Command) → State → State → List Verdict → Result Together Fault → Type 0
ComesByTextInside tables turned old new verdicts (Ok it) =
    (after : Tables) × TurnAllByText tables turned verdicts after × Has new after
    × AllByRecursion (λ (keyed : Key × Command). HavePairedFor keyed.1 tables) turned
ComesByTextInside tables turned old new verdicts (Err fault) = FailsByTextFirst tables turned verdicts old new (store_fault_of fault)

pub record JudgesAllTurned (rounding : Option Rounding) (asked : List (Key × Asked)) (turned : List (Key × Command)) (old new : State)
    (verdicts : List Verdict) (result : Result Together Fault) : Type 0 where
  pub judged : HasCleanDisk new → (entries : List Entry) → Stands old entries
      → ComesInside rounding entries asked turned old new verdicts result
  pub sums : IfOk result (λ it. it ≡ together verdicts)
  pub inside : HasCleanDisk new → OnOk result (IsTrue new.in_transaction)
  pub changes : HasCleanDisk new → IfOk result (λ it. it ≡ Repeats → new.now ≡ old.now)
  pub rest : HasCleanDisk new → KeepsCommit old new
  pub texts : HasCleanDisk new → (tables : Tables) → Has old tables → ComesByTextInside tables turned old new verdicts result
  pub crash : Survives old new (λ _. ⊥)

abbrev pub JudgesAllAsked : Option Rounding → List (Key × Asked) → State → State → List Verdict → Result Together Fault → Type 0
JudgesAllAsked rounding asked old new verdicts result =
    (turned : List (Key × Command)) × JudgesAllTurned rounding asked turned old new verdicts result

-- ---- all or none

-- how commands ended whose entries were committed, or not
abbrev pub ended_by : Result (Unit {0}) StoreFault → Ended
ended_by (Ok done) = end.Kept
ended_by (Err fault) = end.Failed fault

-- A fault behind these commands. A commit is in doubt only behind the last command, where the disk failed.
abbrev pub StopsAll : StoreFault → List Entry → List (Key × Command) → List Verdict → List Entry → List (Key × Command) → State → State
    → Type 0
StopsAll Device entries done verdicts book left old new =
    DiskFailed old new ⊎ LacksRoomForNext entries done verdicts book left old.now.trees new
StopsAll InDoubt entries done verdicts book left old new = (left ≡ []) × DiskFailed old new
StopsAll NeedsReopen entries done verdicts book left old new = ⊥
StopsAll Damaged entries done verdicts book left old new = ⊥
StopsAll Memory entries done verdicts book left old new = ⊤

-- What commands come to on a book. Kept or dropped, all are judged, each or another in its place; at a fault those before it.
abbrev pub ComesTo : Option Rounding → List Entry → List (Key × Asked) → List (Key × Command) → State → State → List Verdict → Ended
    → Type 0
ComesTo rounding entries asked turned old new verdicts end.Kept =
    (after : List Entry) × AreTurnedOn rounding entries asked turned verdicts after × (IsTrue new.is_open → Stands new after)
ComesTo rounding entries asked turned old new verdicts end.Dropped =
    (after : List Entry) × AreTurnedOn rounding entries asked turned verdicts after
ComesTo rounding entries asked turned old new verdicts (end.Failed fault) =
    (it : JudgesFirst rounding entries asked turned verdicts) × StopsAll fault entries it.done verdicts it.book it.left old new

-- What commands come to on tables, whatever these stand for: by the texts under their keys. Each account and commodity that they
-- post to has the same lots in both tables before.
abbrev pub ComesByText : Tables → List (Key × Command) → State → State → List Verdict → Ended → Type 0
ComesByText tables turned old new verdicts end.Kept =
    (after : Tables) × TurnAllByText tables turned verdicts after × (IsTrue new.is_open → Has new after)
    × AllByRecursion (λ (keyed : Key × Command). HavePairedFor keyed.1 tables) turned
ComesByText tables turned old new verdicts end.Dropped =
    (after : Tables) × TurnAllByText tables turned verdicts after
    × AllByRecursion (λ (keyed : Key × Command). HavePairedFor keyed.1 tables) turned
ComesByText tables turned old new verdicts (end.Failed fault) = FailsByTextFirst tables turned verdicts old new fault

-- all is committed of commands that are kept, if one of them is accepted; else nothing changes
abbrev pub KeepsAll : Together → State → State → Type 0
KeepsAll Accepts old new = IsTrue new.is_open × (new.now ≡ new.committed)
KeepsAll Repeats old new = LeavesTables old new
KeepsAll Refuses old new = ⊥

-- what the tables are then, whatever they stand for: of commands that are kept none is refused; of others nothing changes
abbrev pub LeavesAs : List Verdict → Ended → State → State → Type 0
LeavesAs verdicts end.Kept old new = KeepsAll (together verdicts) old new
LeavesAs verdicts end.Dropped old new = (together verdicts ≡ Refuses) × LeavesTables old new
LeavesAs verdicts (end.Failed fault) old new = LeavesTables old new

-- the book after all commands
abbrev pub LeavesAll : Option Rounding → List (Key × Asked) → List (Key × Command) → List Verdict → State → Trees → Type 0
LeavesAll rounding asked turned verdicts old trees =
    (entries : List Entry) → Stands old entries
    → (after : List Entry) × AreTurnedOn rounding entries asked turned verdicts after × Left trees after

-- What a crash may leave anew: the book after all commands, where it is committed, where nobody knows, or where memory refused the
-- commit. One of the commands is accepted then, and none is refused.
abbrev pub MayKeep : Option Rounding → List (Key × Asked) → List (Key × Command) → List Verdict → Ended → State → Trees → Type 0
MayKeep rounding asked turned verdicts end.Kept old trees =
    (together verdicts ≡ Accepts) × LeavesAll rounding asked turned verdicts old trees
MayKeep rounding asked turned verdicts end.Dropped old trees = ⊥
MayKeep rounding asked turned verdicts (end.Failed InDoubt) old trees =
    (together verdicts ≡ Accepts) × LeavesAll rounding asked turned verdicts old trees
MayKeep rounding asked turned verdicts (end.Failed Memory) old trees =
    (together verdicts ≡ Accepts) × LeavesAll rounding asked turned verdicts old trees
MayKeep rounding asked turned verdicts (end.Failed Device) old trees = ⊥
MayKeep rounding asked turned verdicts (end.Failed NeedsReopen) old trees = ⊥
MayKeep rounding asked turned verdicts (end.Failed Damaged) old trees = ⊥

-- Commands are applied all or none, these in the place of those that were handed in.
pub record AppliesTurned (rounding : Option Rounding) (asked : List (Key × Asked)) (turned : List (Key × Command)) (old new : State)
    (verdicts : List Verdict) (ended : Ended) : Type 0 where
  -- on each book that the tables stand for
  pub judged : HasCleanDisk new → (entries : List Entry) → Stands old entries
      → ComesTo rounding entries asked turned old new verdicts ended
  pub rest : HasCleanDisk new → LeavesAs verdicts ended old new
  pub in_doubt : HasCleanDisk new → ended ≡ end.Failed InDoubt → DiskFailed old new
  pub usable : ended ≢ end.Failed NeedsReopen
  pub texts : HasCleanDisk new → (tables : Tables) → Has old tables → ComesByText tables turned old new verdicts ended
  pub crash : Survives old new (MayKeep rounding asked turned verdicts ended old)

abbrev pub AppliesAll : Option Rounding → List (Key × Asked) → State → State → List Verdict → Ended → Type 0
AppliesAll rounding asked old new verdicts ended =
    (turned : List (Key × Command)) × AppliesTurned rounding asked turned old new verdicts ended
