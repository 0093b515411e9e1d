-- A database that is opened for something, in a file or a copy.
use Rattle.std.specs.Prelude.{◌≡◌, ◌⊎◌, ℕ, List}
use Rattle.std.proofs.Common.{inl, inr, subst}
use Rattle.lot_files.specs.Opened.{IsFor, IsOpenedFor}
use Rattle.lot_files.specs.declared.opened.Access.{Access}
use Rattle.lot_files.specs.declared.opened.Access.TheVariants.{Copy as ToTry, Read, Write}
use Rattle.lot_files.specs.declared.opened.Opened.{Opened}
use Rattle.lot_files.specs.declared.opened.Opened.TheVariants.{Copy, File}

module _ {D : Type 0} (is_in copies : List ℕ → D → Type 0) (path : List ℕ) (opened : Opened D) (database : D) where
  pub file_for : (access : Access) → opened ≡ File database → IsOpenedFor is_in copies access path opened
      → IsFor is_in copies access path database
  file_for Write is for = subst (IsOpenedFor is_in copies Write path) is for
  file_for ToTry is for = absurd (subst (IsOpenedFor is_in copies ToTry path) is for)
  file_for Read is for = inl (subst (IsOpenedFor is_in copies Read path) is for)

  pub copy_for : (access : Access) → opened ≡ Copy database → IsOpenedFor is_in copies access path opened
      → IsFor is_in copies access path database
  copy_for Write is for = absurd (subst (IsOpenedFor is_in copies Write path) is for)
  copy_for ToTry is for = subst (IsOpenedFor is_in copies ToTry path) is for
  copy_for Read is for = inr (subst (IsOpenedFor is_in copies Read path) is for)

  pub either_for : (access : Access) → (opened ≡ File database) ⊎ (opened ≡ Copy database)
      → IsOpenedFor is_in copies access path opened → IsFor is_in copies access path database
  either_for access (inl is) for = file_for access is for
  either_for access (inr is) for = copy_for access is for
