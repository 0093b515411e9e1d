-- The tables of a book are made, one statement after another.
use Rattle.std.specs.Prelude.{◌≡◌, ◌≤◌, ℕ, Bool, List, [], ◌∷◌, ◌++◌, Ok, Err}
use Rattle.std.specs.List.{list_any}
use Rattle.lot_table.specs.Fault.{fault_of}
use Rattle.lot_table.specs.declared.make.MakeFault.TheVariants.{Failed, Taken}
use Rattle.lot_table.specs.declared.make.MakeFault.{MakeFault}
use Rattle.sqlite.specs.Held.{Held, state}
use Rattle.sqlite.specs.Schema.{Schema}
use Rattle.sqlite.specs.State.{Executes, ExecutesInside, State}
use Rattle.sqlite.specs.Store.{Ghosts}
use Rattle.sqlite.specs.declared.error.Error.TheVariants.{SqlInputError}
use Rattle.sqlite.specs.declared.error.Error.{Error}
use Rattle.sqlite_catalog.specs.Change.{is_used}
use Rattle.sqlite_resolve.specs.declared.error.CompileError.TheVariants.{Exists}

-- the fault of a CREATE TABLE that the database refused
abbrev pub make_fault_of : Error → MakeFault
make_fault_of (SqlInputError Exists) = Taken
make_fault_of error = Failed (fault_of error)

-- the database refused the text, in a transaction, and that is the fault
abbrev pub RefusedMaking : List ℕ → State → State → MakeFault → Type 0
RefusedMaking text old new fault = (error : Error) × (fault ≡ make_fault_of error) × ExecutesInside 0 text [] old new (Err error)

-- a table, an index or a view of the database has one of these names, without regard to the case of ASCII letters
abbrev pub is_taken : List (List ℕ) → Schema → Bool
is_taken names schema = list_any (is_used schema) names

module _ {S : Type 0} (g : Ghosts S) where
  -- the texts ran in their order
  abbrev pub RanEach : List (List ℕ) → Held S → Held S → Type 0
  RanEach [] old new = old ≡ new
  RanEach (text ∷ more) old new = (mid : Held S) × (changed : ℕ) × Executes text [] (state g old) (state g mid) (Ok changed) × RanEach more mid new

  -- the first of the texts ran, and the next was refused
  pub record HaltedIn (texts : List (List ℕ)) (old new : Held S) (fault : MakeFault) : Type 0 where
    pub done : List (List ℕ)
    pub text : List ℕ
    pub left : List (List ℕ)
    pub order : texts ≡ done ++ text ∷ left
    pub mid : Held S
    pub ran : RanEach done old mid
    -- no fault of the disk is forgotten
    pub counts : (state g old).faults ≤ (state g mid).faults
    pub refused : RefusedMaking text (state g mid) (state g new) fault
