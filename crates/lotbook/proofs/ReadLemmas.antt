-- What taking up a book leaves of a database, and what comparing two books leaves of each.
use Rattle.std.specs.Prelude.{◌≡◌, IfErr, IfOk, Result, Ok, Err}
use Rattle.std.proofs.Common.{refl, subst, sym}
use Rattle.sqlite.specs.Held.{state}
use Rattle.sqlite.specs.State.{HasCleanDisk, IsUnchanged, State, Survives}
use Rattle.sqlite.specs.Store.{Ghosts}
use Rattle.lot_rows.proofs.StateLemmas.{survives_same}
use Rattle.lot_table.specs.Book.{IsUndone}
use Rattle.lot_walk.proofs.StepLemmas.{unchanged_left, undone_by}
use Rattle.lot_call.specs.Looks.{IsLookedAt}
use Rattle.lot_book_report.specs.Show.{ReadsBook}
use Rattle.lot_book_report.specs.declared.fault.ShowFault.{ShowFault}
use Rattle.lot_compare.specs.Books.{ReadsNew, ReadsOld}
use Rattle.lot_compare.specs.declared.fault.CompareFault.{CompareFault}
use Rattle.lot_compare.specs.declared.fault.CompareFault.TheVariants.{Lines, New, Old}
use Rattle.lot_store.specs.declared.book.Book.{Book}
use Rattle.lotbook.specs.Compared.{IsOnlyRead}

-- what is taken up, or handed back, was looked at
module _ {A E : Type 0} (opened : State) where
  pub looked_ok : (of : A → State) (result : Result A E) → IfOk result (λ taken. HasCleanDisk (of taken) → IsUnchanged opened (of taken))
      → IfOk result (λ taken. Survives opened (of taken) (λ _. ⊥)) → IfOk result (λ taken. IsLookedAt opened (of taken))
  looked_ok of (Ok taken) same crash = record { left = λ clean. unchanged_left opened (of taken) (same clean); crash = crash }
  looked_ok of (Err left) same crash = tt

  pub looked_err : (of : E → State) (result : Result A E) → IfErr result (λ left. HasCleanDisk (of left) → IsUndone opened (of left))
      → IfErr result (λ left. Survives opened (of left) (λ _. ⊥)) → IfErr result (λ left. IsLookedAt opened (of left))
  looked_err of (Ok taken) undone crash = tt
  looked_err of (Err left) undone crash = record { left = λ clean. undone_by opened (of left) (undone clean); crash = crash }

-- a book that isn't read
pub unread : (s : State) → IsOnlyRead s s
unread s = record { left = λ clean opened. (refl, refl); crash = survives_same s _ }

module _ {S : Type 0} (g : Ghosts S) (before after : Book S g) where
  only_read : {A : Type 0} (result : Result A ShowFault) → ReadsBook g before after result → IsOnlyRead (state g before.conn) (state g after.conn)
  only_read result reads = record { left = reads.left; crash = reads.crash }

  pub read_new : (compared : Result (Unit {0}) CompareFault) → ReadsNew g before after compared → IsOnlyRead (state g before.conn) (state g after.conn)
  read_new (Ok done) reads = only_read {A = Unit {0}} (Ok tt) reads
  read_new (Err (New fault)) reads = only_read {A = Unit {0}} (Err fault) reads
  read_new (Err (Old fault)) reads = only_read {A = Unit {0}} (Ok tt) reads
  read_new (Err (Lines fault)) reads = only_read {A = Unit {0}} (Ok tt) reads

  pub read_old : (compared : Result (Unit {0}) CompareFault) → ReadsOld g before after compared → IsOnlyRead (state g before.conn) (state g after.conn)
  read_old (Ok done) reads = only_read {A = Unit {0}} (Ok tt) reads
  read_old (Err (New fault)) same = subst (λ book. IsOnlyRead (state g before.conn) (state g book.conn)) (sym same) (unread _)
  read_old (Err (Old fault)) reads = only_read {A = Unit {0}} (Err fault) reads
  read_old (Err (Lines fault)) reads = only_read {A = Unit {0}} (Ok tt) reads
