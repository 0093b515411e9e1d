-- States after one call and then another, of which the first changed nothing, or neither did.
use Rattle.std.proofs.Common.{◌≡◌, ◌∙◌, inl, inr, refl, sym, subst, arith}
use Rattle.std.proofs.lemmas.Bool.{true≢false}
use Rattle.sqlite.proofs.StateLemmas.{survives_then}
use Rattle.sqlite.specs.Effect.{Database}
use Rattle.sqlite.specs.State.{HasCleanDisk, IsUnchanged, State, Survives}
use Rattle.sqlite.specs.Tree.{Trees}
use Rattle.lot_rows.specs.Tables.{Has, Tables, layout}
use Rattle.lot_table.specs.Book.{Holds, IsUndone}
use Rattle.lot_table.specs.Statement.{DiskFailed}

-- ---- what a crash may leave

-- where nothing is called, no more than before
pub survives_same : (s : State) (P : Trees → Type 0) → Survives s s P
survives_same s P = record {
  clean = omega arith;
  shield = λ h. h;
  counts = omega arith;
  limit = refl;
  closes = λ clean opened. inl opened;
  crash = λ clean db may. inl may;
}

pub survives_both : (old mid new : State) → Survives old mid (λ _. ⊥) → Survives mid new (λ _. ⊥) → Survives old new (λ _. ⊥)
survives_both old mid new one two = survives_then old mid new (λ _. ⊥) (λ _. ⊥) (λ _. ⊥) (λ _ db none. none) (λ _ db none. none) one two

-- the disk was clean before a call after which it is
pub early : (old new : State) → Survives old new (λ _. ⊥) → HasCleanDisk new → HasCleanDisk old
early old new s clean = omega (arith, s.clean)

-- ---- after a call that changed nothing

pub has_still : (old mid : State) (tables : Tables) → IsUnchanged old mid → Has old tables → Has mid tables
has_still old mid tables same has = subst (λ (db : Database). (db.schema ≡ layout.schema) × Holds layout db.trees tables) (sym same.0.now_is) has

pub same_then : (old mid new : State) → IsUnchanged old mid → IsUnchanged mid new → IsUnchanged old new
same_then old mid new one two = (
  record {
    was_open = one.0.was_open;
    is_open = two.0.is_open;
    now_is = two.0.now_is ∙ one.0.now_is;
    committed_is = two.0.committed_is ∙ one.0.committed_is;
    mode = two.0.mode ∙ one.0.mode;
  },
  record { changes = two.1.changes ∙ one.1.changes; last_rowid = two.1.last_rowid ∙ one.1.last_rowid },
  two.2 ∙ one.2,
)

pub undone_then : (old mid new : State) → IsUnchanged old mid → IsUndone mid new → IsUndone old new
undone_then old mid new one (inl same) = inl (same_then old mid new one same)
undone_then old mid new one (inr rolled) = inr (record {
  was_open = λ h. one.0.was_open;
  undone = λ h. ((rolled.undone h).0 ∙ one.0.committed_is, (rolled.undone h).1 ∙ one.0.committed_is);
  autocommit = rolled.autocommit;
  unmarked = rolled.unmarked;
  counts = record { changes = rolled.counts.changes ∙ one.1.changes; last_rowid = rolled.counts.last_rowid ∙ one.1.last_rowid };
})

pub failed_then : (old mid new : State) → IsUnchanged old mid → Survives old mid (λ _. ⊥) → DiskFailed mid new → DiskFailed old new
failed_then old mid new same one (inl more) = inl (omega (arith, one.counts, more))
failed_then old mid new same one (inr shut) = absurd (true≢false (sym same.0.is_open ∙ shut))
