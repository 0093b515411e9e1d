-- What a comparison of a new book with an old one comes to, and what a book that can't be taken up comes to.
use Rattle.std.specs.Prelude.{◌≡◌, ◌≢◌, ◌⊎◌, ℕ, Bool, List, Option, Result, Ok, Err, IsTrue, None, Some}
use Rattle.sqlite.specs.Held.{Held, state}
use Rattle.sqlite.specs.State.{HasCleanDisk, State, Survives}
use Rattle.sqlite.specs.Store.{Ghosts}
use Rattle.lot_call.specs.Looks.{IsLookedAt}
use Rattle.lot_cli.specs.Differ.{TellsDifferences}
use Rattle.lot_cli.specs.Says.{Halts, told}
use Rattle.lot_cli.specs.declared.halt.Halt.TheVariants as halt
use Rattle.lot_io.specs.Writes.{WriteCalls}
use Rattle.lot_store.specs.Create.{TellsOf}
use Rattle.lot_store.specs.Step.{LeavesTables}
use Rattle.lot_store.specs.declared.book.Book.{Book}
use Rattle.lot_store.specs.declared.fault.AdoptFault.{AdoptFault}
use Rattle.lot_store.specs.declared.fault.AdoptFault.TheVariants.{NotABook}
use Rattle.lot_stream.specs.Status.{code_of}
use Rattle.lot_stream.specs.declared.status.Status.{Status}
use Rattle.lotbook.specs.Answered.{IsHandedOn, writes_from_none}

-- why a book isn't taken up is reported, with that status; the writer then holds that, where all was handed on
pub record Reports (fault : AdoptFault) (before written : Option (List ℕ)) (all : Bool) (status : ℕ) : Type 0 where
  pub line : Option (List ℕ)
  pub wrote : WriteCalls
  pub says : Halts (halt.Adopt fault) before line (writes_from_none wrote) (told status (Some (halt.Adopt fault)))
  pub handed_on : IsTrue all → written ≡ line

-- the same to some writer: standard output
pub record IsReported (fault : AdoptFault) (status : ℕ) : Type 0 where
  pub before : Option (List ℕ)
  pub written : Option (List ℕ)
  pub all : Bool
  pub reports : Reports fault before written all status

-- a new book isn't taken up for that reason: nothing is told where none was made, else it is reported
abbrev pub IsNoneTold : AdoptFault → ℕ → ℕ → Type 0
IsNoneTold fault served status = ((fault ≡ NotABook) × (status ≡ served)) ⊎ ((fault ≢ NotABook) × IsReported fault status)

-- a connection whose statements may take any number of steps
abbrev pub unlimited : {S : Type 0} → Held S → Held S
unlimited conn = record conn { step_limit = None }

-- A book is only read: while the connection is open it shows what it showed, and the last commit stays. A crash leaves no more than
-- before.
pub record IsOnlyRead (old new : State) : Type 0 where
  pub left : HasCleanDisk new → LeavesTables old new
  pub crash : Survives old new (λ _. ⊥)

module _ {S : Type 0} (g : Ghosts S) where
  -- a database is looked at, and the book that it holds is then only read, where it holds one
  pub record IsReadBeside (opened left : Held S) : Type 0 where
    pub taken : Held S
    pub looked : IsLookedAt (state g (unlimited opened)) (state g taken)
    pub read : IsOnlyRead (state g taken) (state g left)

  -- it is read beside another book, or it isn't touched
  abbrev pub MayBeRead : Held S → Held S → Type 0
  MayBeRead opened left = IsReadBeside opened left ⊎ (left ≡ opened)

  -- whether the database of a connection is a book, which leaves it so
  abbrev pub Adopts : Held S → Held S → Result (Unit {0}) AdoptFault → Type 0
  Adopts opened left result = HasCleanDisk (state g left) → TellsOf (state g opened) (state g left) result

  -- a connection shows no book for that reason: one that is in a transaction shows none
  abbrev pub ShowsNone : Held S → Held S → AdoptFault → Type 0
  ShowsNone opened left fault = (IsTrue opened.in_transaction × (fault ≡ NotABook)) ⊎ Adopts (unlimited opened) left (Err fault)

  -- the book in a database is taken up
  abbrev pub IsTakenUp : Held S → Held S → Type 0
  IsTakenUp opened left = Adopts opened left (Ok tt)

  -- it isn't, and why is reported
  pub record IsRefused (opened : Held S) (status : ℕ) : Type 0 where
    pub fault : AdoptFault
    pub left : Held S
    pub none : ShowsNone opened left fault
    pub reported : IsReported fault status

  -- the new one isn't, though there is a book, and why is reported
  pub record IsNewRefused (opened : Held S) (status : ℕ) : Type 0 where
    pub fault : AdoptFault
    pub left : Held S
    pub none : ShowsNone opened left fault
    pub other : fault ≢ NotABook
    pub reported : IsReported fault status

  -- no new book was made, so that nothing is compared
  pub record IsNotMade (opened : Held S) (served status : ℕ) : Type 0 where
    pub left : Held S
    pub none : ShowsNone opened left NotABook
    pub same : status ≡ served

module _ {S T : Type 0} (g : Ghosts S) (h : Ghosts T) where
  -- How two books differ is told, behind what ended with a status. The writer then holds that, or the program is stopped.
  pub record WritesBeside (new : Book S g) (old : Book T h) (before written : Option (List ℕ)) (served status : ℕ) : Type 0 where
    pub new_left : Book S g
    pub old_left : Book T h
    pub end : Status
    pub ended : code_of end ≡ served
    pub told : Option (List ℕ)
    pub wrote : WriteCalls
    pub code : ℕ
    pub differ : TellsDifferences g h new new_left old old_left end before told (writes_from_none wrote) code
    pub handed_on : IsHandedOn code told status written

  -- the same to some writer: standard output
  pub record TellsBeside (new : Book S g) (old : Book T h) (served status : ℕ) : Type 0 where
    pub before : Option (List ℕ)
    pub written : Option (List ℕ)
    pub tells : WritesBeside new old before written served status

  -- the old book is taken up, and how they differ is told
  pub record IsBeside (new : Book S g) (opened : Held T) (served status : ℕ) : Type 0 where
    pub old : Book T h
    pub adopts : IsTakenUp h (unlimited opened) old.conn
    pub tells : TellsBeside new old served status

  -- a new book is told beside what holds the old one, or that isn't taken up
  abbrev pub IsToldBeside : Book S g → Held T → ℕ → ℕ → Type 0
  IsToldBeside new opened served status = IsBeside new opened served status ⊎ IsRefused h opened status

  -- the new book is taken up, and is told beside the old one
  pub record IsMade (opened : Held S) (old : Held T) (served status : ℕ) : Type 0 where
    pub new : Book S g
    pub adopts : IsTakenUp g (unlimited opened) new.conn
    pub beside : IsToldBeside new old served status

  -- What a comparison comes to. Nothing is compared where no new book was made.
  pub record IsCompared (opened : Held S) (old : Held T) (served status : ℕ) : Type 0 where
    pub comes_to : IsMade opened old served status ⊎ IsNotMade g opened served status ⊎ IsNewRefused g opened status
