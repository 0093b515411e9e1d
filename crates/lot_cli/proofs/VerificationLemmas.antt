-- A book that is verified, or not, and what is read of it then.
use Rattle.std.proofs.Common.{inl, inr, ◌≡◌, ◌≢◌, ℕ, List, None, Option}
use Rattle.sqlite.specs.State.{HasCleanDisk, State, Survives}
use Rattle.lot_args.specs.declared.action.Saying.{Saying}
use Rattle.lot_args.specs.declared.action.Saying.TheVariants.{Digest, Verified}
use Rattle.lot_book.specs.Facts.{Entry}
use Rattle.lot_page.specs.Cursor.{Stays}
use Rattle.lot_rows.proofs.StateLemmas.{early}
use Rattle.lot_rows.specs.Tables.{Has, Tables}
use Rattle.lot_stored.specs.StandFor.{Stands}
use Rattle.lot_io.specs.Writes.{WritesMade}
use Rattle.lot_cli.proofs.ReportLemmas.{shows_after}
use Rattle.lot_cli.specs.Reports.{ShowsBook, digest_writing, verified_line}
use Rattle.lot_cli.specs.Says.{Halts, Succeeds, Told}
use Rattle.lot_cli.specs.Serve.{SaysVerified}
use Rattle.lot_cli.specs.declared.halt.Halt.TheVariants as halt
use Rattle.lot_store.specs.Create.{IsHandedBack, IsTaken}
use Rattle.lot_verify.specs.Verify.{NotVerified}
use Rattle.lot_verify.specs.declared.fault.VerifyFault.{VerifyFault}
use Rattle.lot_verify.specs.declared.fault.VerifyFault.TheVariants as verify

module _ (old new : State) (before written : Option (List ℕ)) (calls : WritesMade) (told : Told) where
  pub verifies : (HasCleanDisk new → (tables : Tables) → Has old tables → (entries : List Entry) × Stands old entries)
      → (HasCleanDisk new → IsTaken old) → (HasCleanDisk new → Stays old new) → Survives old new (λ _. ⊥)
      → Succeeds verified_line before written calls told → SaysVerified Verified old new before written calls told
  verifies stands taken same crash said = inl (record { stands = stands; taken = taken; same = same; crash = crash }, said)

  pub verifies_not : (saying : Saying) (fault : VerifyFault)
      → (HasCleanDisk new → fault ≢ verify.Device → fault ≢ verify.Memory → (entries : List Entry) → ¬ Stands old entries)
      → (HasCleanDisk new → NotVerified old new fault) → (HasCleanDisk new → IsHandedBack old new)
      → Survives old new (λ _. ⊥) → Halts (halt.Verify fault) before written calls told
      → SaysVerified saying old new before written calls told
  verifies_not saying fault refused tells back crash said =
      inr (fault, record { refused = refused; tells = tells; handed_back = back; crash = crash }, said)

-- the digest of a book that was verified before
pub verifies_digest : (old mid new : State) (before written : Option (List ℕ)) (calls : WritesMade) (told : Told)
    → (HasCleanDisk mid → (tables : Tables) → Has old tables → (entries : List Entry) × Stands old entries)
    → (HasCleanDisk mid → IsTaken old) → (HasCleanDisk mid → Stays old mid) → Survives old mid (λ _. ⊥)
    → ShowsBook digest_writing mid new before written calls told.status → told.halt ≡ None
    → SaysVerified Digest old new before written calls told
verifies_digest old mid new before written calls told stands taken same crash shows none =
    let calm : HasCleanDisk new → HasCleanDisk mid = early mid new shows.read.crash in
    inl (
      record { stands = λ clean. stands (calm clean); taken = λ clean. taken (calm clean) },
      shows_after digest_writing old mid new before written calls told.status same crash shows,
      none,
    )
