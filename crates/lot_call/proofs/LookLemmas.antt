-- A book that is looked at, any number of times.
use Rattle.std.specs.Prelude.{OnErr, OnOk, Result, Ok, Err, refl}
use Rattle.std.proofs.Common.{inl, inr, ◌∙◌, arith}
use Rattle.sqlite.proofs.StateLemmas.{survives_then}
use Rattle.sqlite.specs.State.{HasCleanDisk, IsUnchanged, State, Survives}
use Rattle.lot_rows.proofs.StateLemmas.{survives_same}
use Rattle.lot_table.specs.Book.{IsUndone}
use Rattle.lot_walk.proofs.StepLemmas.{unchanged_left, undone_by}
use Rattle.lot_walk.specs.Step.{StaysOrGoesBack}
use Rattle.lot_call.specs.Looks.{IsLookedAt, Looks}

-- no look at it
pub unlooked : (s : State) → IsLookedAt s s
unlooked s = record {
  left = λ _. record { mode = λ out. out; was_open = λ opened. opened; now = λ _. inl refl; committed = λ _. refl };
  crash = survives_same s _;
}

-- one question, which is answered or not
asked_left : {A B : Type 0} (old new : State) (result : Result A B) → OnOk result (IsUnchanged old new) → OnErr result (IsUndone old new)
    → StaysOrGoesBack old new
asked_left old new (Ok found) same undone = unchanged_left old new same
asked_left old new (Err fault) same undone = undone_by old new undone

pub asked : {A B : Type 0} (old new : State) (result : Result A B) → (HasCleanDisk new → OnOk result (IsUnchanged old new))
    → (HasCleanDisk new → OnErr result (IsUndone old new)) → Survives old new (λ _. ⊥) → IsLookedAt old new
asked old new result same undone crash = record {
  left = λ clean. asked_left old new result (same clean) (undone clean);
  crash = crash;
}

pub looked : {A B : Type 0} (old new : State) (result : Result A B) → Looks old new result → IsLookedAt old new
looked old new result looks = asked old new result looks.same looks.undone looks.crash

-- one look after another
goes_on : (a b c : State) → StaysOrGoesBack a b → StaysOrGoesBack b c → StaysOrGoesBack a c
goes_on a b c first next = record {
  mode = λ out. next.mode (first.mode out);
  was_open = λ opened. first.was_open (next.was_open opened);
  now = λ opened. elim (next.now opened) [
    | inl same ↦ elim (first.now (next.was_open opened)) [ inl now ↦ inl (same ∙ now) | inr back ↦ inr (same ∙ back) ]
    | inr back ↦ inr (back ∙ first.committed (next.was_open opened))
  ];
  committed = λ opened. next.committed opened ∙ first.committed (next.was_open opened);
}

pub looked_then : (a b c : State) → IsLookedAt a b → IsLookedAt b c → IsLookedAt a c
looked_then a b c first next = record {
  left = λ clean. goes_on a b c (first.left (omega (arith, clean, next.crash.clean))) (next.left clean);
  crash = survives_then a b c (λ _. ⊥) (λ _. ⊥) (λ _. ⊥) (λ _ db none. none) (λ _ db none. none) first.crash next.crash;
}
