-- Questions in a transaction, one after another, and none of them changes what it shows.
use Rattle.std.proofs.Common.{◌≡◌, ◌∙◌, inl, inr, Err, Result, ap, refl, sym, subst, arith}
use Rattle.sqlite.specs.Effect.{Database}
use Rattle.sqlite.specs.State.{HasCleanDisk, IsUnchanged, KeepsCommit, State, Survives}
use Rattle.lot_table.proofs.MakeLemmas.{keeps_then}
use Rattle.lot_table.specs.Book.{Holds}
use Rattle.lot_table.specs.Statement.{DiskFailed}
use Rattle.lot_table.specs.declared.fault.Fault.{Fault}
use Rattle.lot_table.specs.declared.fault.Fault.TheVariants.{Damaged, Device}
use Rattle.lot_rows.proofs.StateLemmas.{early, survives_both}
use Rattle.lot_rows.specs.Tables.{Has, Tables, layout}
use Rattle.lot_page.specs.Cursor.{Stays}
use Rattle.lot_migrate.specs.Read.{Reads}

pub stays_none : (s : State) → Stays s s
stays_none s = record { now = refl; committed = refl; mode = refl; is_open = refl }

pub stays_then : (a b c : State) → Stays a b → Stays b c → Stays a c
stays_then a b c one two = record {
  now = two.now ∙ one.now;
  committed = two.committed ∙ one.committed;
  mode = two.mode ∙ one.mode;
  is_open = two.is_open ∙ one.is_open;
}

pub stays_same : (a b : State) → IsUnchanged a b → Stays a b
stays_same a b same = record {
  now = same.0.now_is;
  committed = same.0.committed_is;
  mode = same.0.mode;
  is_open = same.0.is_open ∙ sym same.0.was_open;
}

pub has_on : (a b : State) (tables : Tables) → Stays a b → Has a tables → Has b tables
has_on a b tables same has =
    subst (λ (db : Database). (db.schema ≡ layout.schema) × Holds layout db.trees tables) (sym same.now) has

pub kept_on : (a b : State) → Stays a b → KeepsCommit a b
kept_on a b same = record { was_open = λ live. sym same.is_open ∙ live; committed = λ _. same.committed }

pub failed_on : (a b c : State) → Stays a b → Survives a b (λ _. ⊥) → DiskFailed b c → DiskFailed a c
failed_on a b c same one (inl more) = inl (omega (arith, one.counts, more))
failed_on a b c same one (inr shut) = inr (sym same.is_open ∙ shut)

pub same_fault : {A B : Type 0} {a b : Fault} → ◌≡◌ {A = Result A Fault} (Err a) (Err b) → ◌≡◌ {A = Result B Fault} (Err a) (Err b)
same_fault {A} {B} {a} {b} is = let one : a ≡ b = cc in ap Err one

module _ {R Q : Type 0} (Says : R → Tables → Type 0) (Then : Q → Tables → Type 0) (Can May : Tables → Type 0) (old mid : State)
    (first : Survives old mid (λ _. ⊥)) (same : HasCleanDisk mid → Stays old mid) where
  -- a question fails behind others
  pub reads_fails : (new : State) (fault : Fault) → ((tables : Tables) → Can tables → May tables) → Reads Then May mid new (Err fault)
      → Reads Says Can old new (Err fault)
  reads_fails new fault so r = record {
    says = λ clean. tt;
    same = λ clean. tt;
    damaged = λ clean is unlimited tables has can.
        r.damaged clean (same_fault is) (first.limit ∙ unlimited) tables
        (has_on old mid tables (same (early mid new r.crash clean)) has) (so tables can);
    device = λ clean is.
        failed_on old mid new (same (early mid new r.crash clean)) first (r.device clean (same_fault is));
    kept = λ clean. keeps_then old mid new (kept_on old mid (same (early mid new r.crash clean))) (r.kept clean);
    crash = survives_both old mid new first r.crash;
  }

-- what is read is none of such tables, or there is no memory for it
pub reads_stops : {R : Type 0} (Says : R → Tables → Type 0) (Can : Tables → Type 0) (old mid : State) (fault : Fault)
    → Survives old mid (λ _. ⊥) → (HasCleanDisk mid → Stays old mid)
    → (HasCleanDisk mid → ◌≡◌ {A = Result R Fault} (Err fault) (Err Damaged) → (tables : Tables) → Has old tables → ¬ Can tables)
    → ¬ (◌≡◌ {A = Result R Fault} (Err fault) (Err Device))
    → Reads Says Can old mid (Err fault)
reads_stops Says Can old mid fault first same damaged device = record {
  says = λ clean. tt;
  same = λ clean. tt;
  damaged = λ clean is unlimited tables has. damaged clean is tables has;
  device = λ clean is. absurd (device is);
  kept = λ clean. kept_on old mid (same clean);
  crash = first;
}
