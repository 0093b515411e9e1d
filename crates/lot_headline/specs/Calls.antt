-- Calls of the program on the two files of a book, one after another, each of which ends or is stopped (docs/PROMISES.md, The
-- headline).
use Rattle.std.specs.Prelude.{◌≡◌, ◌⊎◌, ℕ, List, [], ◌∷◌, Option, None, ⊤}
use Rattle.std.proofs.Common.{inl, inr}
use Rattle.sqlite.specs.Files.{IsOpened, file_state}
use Rattle.sqlite.specs.Held.{Held}
use Rattle.sqlite.specs.State.{HasCleanDisk, State}
use Rattle.sqlite.specs.Tree.{Trees}
use Rattle.sqlite_disk.specs.declared.Disk.{Ghosts}
use Rattle.sqlite_disk.specs.declared.Files.{Files}
use Rattle.sqlite_store.specs.declared.store.FileStore.{FileStore}
use Rattle.lot_args.specs.declared.action.Action.{Action}
use Rattle.lot_args.specs.declared.action.Action.TheVariants.{Check, Init, Migrate, Post, PostRow, Import, ImportBy, Report, Reconcile, Restore, Verify}
use Rattle.lot_args.specs.declared.action.Keeping.{Keeping}
use Rattle.lot_args.specs.declared.action.Keeping.TheVariants.{AllOrNone, Each}
use Rattle.lot_command.specs.declared.key.Key.{Key}
use Rattle.lot_rounding.specs.declared.asked.Asked.{Asked}
use Rattle.lot_rounding.specs.declared.rounding.Rounding.{Rounding}
use Rattle.lot_input.specs.Input.{Reading}
use Rattle.lot_io.specs.Writes.{WritesMade}
use Rattle.lot_store.specs.declared.run.RunEnd.{RunEnd}
use Rattle.lot_cli.specs.AllOrNone.{that_count}
use Rattle.lot_cli.specs.Reopen.{IsOpenedAgain}
use Rattle.lot_cli.specs.Runs.{RunsBy, RunsOn}
use Rattle.lot_cli.specs.Says.{Told}
use Rattle.lot_cli.specs.Serve.{Call, Serves}
use Rattle.lot_cli.specs.Sessions.{Sent}

-- ---- what a call sends

-- nothing, where it is a report, or where its input has a fault
abbrev pub nothing_sent : Sent
nothing_sent = record { keeping = Each; commands = []; replied = [] }

module _ (old new : State) (before written : Option (List ℕ)) (calls : WritesMade) (rounding : Option Rounding) where
  -- The commands that a run judged, each that was handed in or the one in its place, and the verdicts that it replied to. Of
  -- commands that are kept all or none these are the verdicts that count.
  abbrev pub sent_in : (keeping : Keeping) (numbers : List ℕ) (asked : List (Key × Asked)) (end : RunEnd)
      → RunsBy keeping rounding numbers asked old new before written calls end → Sent
  sent_in Each numbers asked end runs = record { keeping = Each; commands = runs.turned; replied = runs.session.verdicts }
  sent_in AllOrNone numbers asked end runs = record {
    keeping = AllOrNone;
    commands = runs.runs.applies.0;
    replied = that_count runs.runs.ended runs.runs.verdicts;
  }

  -- the same of a run on the book that is there, which may not be taken up
  abbrev pub sent_on : (keeping : Keeping) (numbers : List ℕ) (asked : List (Key × Asked)) (told : Told)
      → RunsOn rounding keeping numbers asked old new before written calls told → Sent
  sent_on keeping numbers asked told (inl runs) = sent_in keeping numbers asked runs.end runs.runs
  sent_on keeping numbers asked told (inr left) = nothing_sent

  -- the same of an input, which gives no commands or those that are run
  abbrev pub sent_of : (IsFaulty : Type 0) (Gives : List ℕ × List (Key × Asked) → Type 0) (keeping : Keeping) (told : Told)
      → IsFaulty ⊎ ((given : List ℕ × List (Key × Asked)) × Gives given
      × RunsOn rounding keeping given.0 given.1 old new before written calls told) → Sent
  sent_of IsFaulty Gives keeping told (inl faulty) = nothing_sent
  sent_of IsFaulty Gives keeping told (inr given) = sent_on keeping given.0.0 given.0.1 told given.2

-- what a call of the program sends
abbrev pub sent_by : (action : Action) (call : Call) → Serves action call → Sent
sent_by (Check rounding) call serves = nothing_sent
sent_by (Init book) call serves = nothing_sent
sent_by (Migrate book) call serves = nothing_sent
sent_by (Post asked) call serves =
    sent_of call.old call.new call.before call.written call.calls asked.rounding _ _ asked.keeping call.told serves
sent_by (PostRow book batch reference rounding) call (inl unfit) = nothing_sent
sent_by (PostRow book batch reference rounding) call (inr runs) =
    sent_of call.old call.new call.before call.written call.calls rounding _ _ Each call.told runs
sent_by (Import asked) call serves =
    sent_of call.old call.new call.before call.written call.calls asked.rounding _ _ asked.keeping call.told serves
sent_by (ImportBy asked) call serves =
    sent_of call.old call.new call.before call.written call.calls asked.rounding _ _ asked.keeping call.told serves
sent_by (Report book report) call serves = nothing_sent
sent_by (Reconcile asked) call serves = nothing_sent
sent_by (Restore asked) call serves = nothing_sent
sent_by (Verify book saying) call serves = nothing_sent

-- ---- a call

-- an action is on the book of a file; a check is on none
abbrev pub IsOnBook : Action → Type 0
IsOnBook (Check rounding) = ⊥
IsOnBook (Init book) = ⊤
IsOnBook (Migrate book) = ⊤
IsOnBook (Post asked) = ⊤
IsOnBook (PostRow book batch reference rounding) = ⊤
IsOnBook (Import asked) = ⊤
IsOnBook (ImportBy asked) = ⊤
IsOnBook (Report book report) = ⊤
IsOnBook (Reconcile asked) = ⊤
IsOnBook (Restore asked) = ⊤
IsOnBook (Verify book saying) = ⊤

module _ {D : Type 0} {g : Ghosts D} where
  -- the disk returned what was written, and a stop would leave the last commit alone
  pub record IsSettled (c : Held (FileStore D g)) : Type 0 where
    pub clean : HasCleanDisk (file_state c)
    pub safe : (trees : Trees) → (file_state c).may_leave trees → trees ≡ (file_state c).committed.trees

  -- a connection as a call of the program finds it: it was opened, and no limit is set on the steps of its statements
  pub record IsFound (c : Held (FileStore D g)) : Type 0 where
    pub settled : IsSettled c
    pub opened : IsOpened c
    pub unlimited : (file_state c).step_limit ≡ None

  -- A call of the program: `serve` does an action on the book that the first connection shows, and leaves the second. There the
  -- call ends or is stopped, before, within or behind any write.
  pub record IsCall (opened stopped : Held (FileStore D g)) (sent : Sent) : Type 0 where
    pub action : Action
    pub on_book : IsOnBook action
    pub input : Reading
    pub before : Option (List ℕ)
    pub written : Option (List ℕ)
    pub calls : WritesMade
    pub told : Told
    pub serves : Serves action (record {
      input = input;
      old = file_state opened;
      new = file_state stopped;
      before = before;
      written = written;
      calls = calls;
      told = told;
    })
    pub clean : HasCleanDisk (file_state stopped)
    pub sends : sent ≡ sent_by action (record {
      input = input;
      old = file_state opened;
      new = file_state stopped;
      before = before;
      written = written;
      calls = calls;
      told = told;
    }) serves

  -- The files are opened again, and are found as the stop may have left them. An opening that failed may have been tried again: what
  -- the files hold is still what the stop may leave.
  pub record IsReopened (stopped opened : Held (FileStore D g)) : Type 0 where
    pub files : Files D
    pub again : IsOpenedAgain stopped files opened
    pub found : IsFound opened

  -- Calls follow one another, each on what is found of the one before it. The last connection is opened behind them.
  abbrev pub CallsFollow : Held (FileStore D g) → List Sent → Held (FileStore D g) → Type 0
  CallsFollow opened [] last = last ≡ opened
  CallsFollow opened (sent ∷ more) last =
      (stopped next : Held (FileStore D g)) × IsCall opened stopped sent × IsReopened stopped next
      × CallsFollow next more last
