-- What becomes of an action: on which database it is done, and with which status the program ends (docs/RULES.md, The program).
use Rattle.std.specs.Prelude.{◌≡◌, ◌⊎◌, ◌≤◌, ◌<◌, ℕ, Bool, List, Option, None, Some, false, true, option_map, ⊤}
use Rattle.lot_args.specs.declared.action.Action.{Action}
use Rattle.lot_args.specs.declared.request.Effect.{Effect}
use Rattle.lot_files.specs.Path.{library_path}
use Rattle.lot_files.specs.declared.cause.Cause.{Cause}
use Rattle.lot_files.specs.declared.opened.Access.{Access}
use Rattle.lot_files.specs.declared.opened.Access.TheVariants.{Read}
use Rattle.lot_files.specs.declared.opened.Opened.{Opened}
use Rattle.lot_files.specs.declared.opened.Opened.TheVariants.{Copy, File}
use Rattle.lot_host.specs.Access.{access_of, makes_file, old_of, path_of}
use Rattle.lot_host.specs.Answers.{stopped}
use Rattle.lot_files.specs.Opened.{IsFor}
use Rattle.lot_host.specs.declared.host.Host.{Ghosts}

module _ {H : Type 0} {D O : Type 0} (g : Ghosts H D O) where
  -- the database is the one that is opened for that, in a file or a copy
  pub record IsOpenedBy (access : Access) (path : List ℕ) (database : D) : Type 0 where
    pub opened : Opened D
    pub opens : g.opens access path opened
    pub its : (opened ≡ File database) ⊎ (opened ≡ Copy database)

  -- The database of a path is opened as it is asked for, where there is a file or one is to be made. Else it is an empty one.
  abbrev IsOpenedAs : Bool → Access → List ℕ → D → Type 0
  IsOpenedAs makes access path database =
      (((makes ≡ true) ⊎ g.shows_missing path false) × IsFor g.is_in g.copies access path database × IsOpenedBy access path database)
      ⊎ ((makes ≡ false) × g.shows_missing path true × g.is_empty database)

  -- it is opened for an action
  abbrev IsOfPath : Action → Effect → List ℕ → D → Type 0
  IsOfPath action effect path database = IsOpenedAs (makes_file action) (access_of action effect) path database

  -- it is opened to be read
  abbrev pub IsReadOf : List ℕ → D → Type 0
  IsReadOf path database = IsOpenedAs false Read path database

  -- The database on which an action is done: that of the path which it names. A check names none, and is done on an empty one.
  abbrev IsItsOwn : Option (List ℕ) → Action → Effect → D → Type 0
  IsItsOwn None action effect database = g.is_empty database
  IsItsOwn (Some path) action effect database = IsOfPath action effect (library_path path) database

  -- the old book is the one in the file of that path
  pub record IsOldOf (path : List ℕ) (old : O) : Type 0 where
    pub database : D
    pub of_path : IsReadOf (library_path path) database
    pub its : g.is_old database old

  -- it is the one that the action names, where it names one
  abbrev pub IsItsOld : Option (List ℕ) → Option O → Type 0
  IsItsOld None None = ⊤
  IsItsOld None (Some old) = ⊥
  IsItsOld (Some path) None = ⊥
  IsItsOld (Some path) (Some old) = IsOldOf path old

  -- The status once an old book was compared with the new one, which wasn't made where a fault was met, and the database of the new
  -- one then.
  abbrev pub EndsWith : Option O → ℕ → D → ℕ → D → Type 0
  EndsWith None served left status last = (status ≡ served) × (last ≡ left)
  EndsWith (Some old) served left status last =
      ((served ≤ 1) × g.compares served left old status last) ⊎ ((1 < served) × (status ≡ served) × (last ≡ left))

  -- What an action comes to on a database, beside an old book where there is one: it is done there, that is told of what is left
  -- which the effect asks for, and the status is what that comes to.
  pub record ComesTo (action : Action) (effect : Effect) (old : Option O) (database : D) (status : ℕ) (last : D) : Type 0 where
    pub left : D
    pub served : ℕ
    pub serves : g.serves action effect database served left
    pub ends : EndsWith old served left status last

  -- the same with some database in the end
  abbrev pub Ends : Action → Effect → Option O → D → ℕ → Type 0
  Ends action effect old database status = (last : D) × ComesTo action effect old database status last

  -- an action comes to that on an empty database
  pub record ComesToOfNothing (action : Action) (effect : Effect) (old : Option O) (status : ℕ) : Type 0 where
    pub database : D
    pub empty : g.is_empty database
    pub comes_to : Ends action effect old database status

  -- an action comes to that on the database of a path
  pub record ComesToOfPath (action : Action) (effect : Effect) (path : List ℕ) (old : Option O) (status : ℕ) : Type 0 where
    pub database : D
    pub of_path : IsOfPath action effect path database
    pub comes_to : Ends action effect old database status

  -- the action is done on its own database, beside its old book
  pub record IsServed (action : Action) (effect : Effect) (status : ℕ) : Type 0 where
    pub database : D
    pub old : Option O
    pub its_own : IsItsOwn (path_of action) action effect database
    pub its_old : IsItsOld (old_of action) old
    pub comes_to : Ends action effect old database status

  -- the database of a path can't be opened, or no empty one, and that cause is told
  pub record IsNotOpened (named : Option (List ℕ)) (status : ℕ) : Type 0 where
    pub path : Option (List ℕ)
    pub cause : Cause
    pub its_own : (path ≡ None) ⊎ (path ≡ option_map library_path named)
    pub refused : g.refuses path cause
    pub told : g.tells_unopened cause status
    pub stops : status ≡ stopped

  -- the database of a path is opened, and no book can be taken up there
  pub record IsNotTakenUp (path : List ℕ) (status : ℕ) : Type 0 where
    pub database : D
    pub of_path : IsReadOf (library_path path) database
    pub refused : g.refuses_old database status

  -- there is no old book to be read in the file of that path
  abbrev pub HasNoOld : List ℕ → ℕ → Type 0
  HasNoOld path status = IsNotOpened (Some path) status ⊎ IsNotTakenUp path status

  -- the old book that an action names can't be read
  pub record LacksOld (action : Action) (status : ℕ) : Type 0 where
    pub path : List ℕ
    pub named : old_of action ≡ Some path
    pub lacks : HasNoOld path status

  -- what becomes of an action
  abbrev pub IsDone : Action → Effect → ℕ → Type 0
  IsDone action effect status =
      IsNotOpened (path_of action) status ⊎ LacksOld action status ⊎ IsServed action effect status
