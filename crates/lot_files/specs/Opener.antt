-- Which of a file and a copy is opened, by what the book is opened for.
use Rattle.std.specs.Prelude.{◌≡◌, ◌⊎◌, Bool, false, true, List, ℕ, Result, Ok, Err}
use Rattle.lot_files.specs.declared.cause.Cause.{Cause}
use Rattle.lot_files.specs.declared.cause.Cause.TheVariants.{InUse, NoPermission, ReadOnly}
use Rattle.lot_files.specs.declared.opened.Access.{Access}
use Rattle.lot_files.specs.declared.opened.Access.TheVariants.{Copy as ToTry, Read, Write}
use Rattle.lot_files.specs.declared.opened.Opened.{Opened}
use Rattle.lot_files.specs.declared.opened.Opened.TheVariants.{Copy, File}
use Rattle.lot_files.specs.declared.opener.Opener.{Ghosts}

-- a book that can't be opened for that cause can be copied
abbrev pub is_for_copy : Cause → Bool
is_for_copy NoPermission = true
is_for_copy ReadOnly = true
is_for_copy InUse = true
is_for_copy _ = false

module _ {D : Type 0} where
  -- whether a file that is opened so is copied, to be read
  abbrev pub wants_copy : Result D Cause → Bool
  wants_copy (Ok database) = false
  wants_copy (Err cause) = is_for_copy cause

  abbrev pub as_file : Result D Cause → Result (Opened D) Cause
  as_file (Ok database) = Ok (File database)
  as_file (Err cause) = Err cause

  abbrev pub as_copy : Result D Cause → Result (Opened D) Cause
  as_copy (Ok database) = Ok (Copy database)
  as_copy (Err cause) = Err cause

module _ {O D : Type 0} (g : Ghosts O D) where
  -- a copy is opened
  pub record OpensCopy (opener : O) (path : List ℕ) (result : Result (Opened D) Cause) : Type 0 where
    pub copied : Result D Cause
    pub copies : g.copies opener path copied
    pub told : result ≡ as_copy copied

  -- the file is opened
  pub record OpensFile (opener : O) (path : List ℕ) (result : Result (Opened D) Cause) : Type 0 where
    pub opened : Result D Cause
    pub opens : g.opens opener path opened
    pub told : result ≡ as_file opened

  -- one that isn't empty is opened, or copied behind that where it can't be opened to be written
  pub record OpensFull (opener : O) (path : List ℕ) (result : Result (Opened D) Cause) : Type 0 where
    pub opened : Result D Cause
    pub opens : g.opens opener path opened
    pub behind : O
    pub told :
        ((wants_copy opened ≡ true) × OpensCopy behind path result)
        ⊎ ((wants_copy opened ≡ false) × (result ≡ as_file opened))

  -- to be read, an empty file is copied, so that nothing is written to it
  pub record OpensToRead (opener : O) (path : List ℕ) (result : Result (Opened D) Cause) : Type 0 where
    pub empty : Bool
    pub shows : g.shows_empty opener path empty
    pub told :
        ((empty ≡ true) × OpensCopy opener path result)
        ⊎ ((empty ≡ false) × OpensFull opener path result)

  -- to be written the file, to be tried on a copy
  abbrev pub OpensFor : O → Access → List ℕ → Result (Opened D) Cause → Type 0
  OpensFor opener Write path result = OpensFile opener path result
  OpensFor opener ToTry path result = OpensCopy opener path result
  OpensFor opener Read path result = OpensToRead opener path result
