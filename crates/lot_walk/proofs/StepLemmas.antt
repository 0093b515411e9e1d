-- What a step leaves, whichever row it reads.
use Rattle.std.proofs.Common.{◌≡◌, ◌⊎◌, inl, inr, ◌∙◌, sym}
use Rattle.sqlite.specs.State.{IsRolledBack, IsUnchanged, State}
use Rattle.lot_table.specs.Book.{IsUndone}
use Rattle.lot_page.specs.Cursor.{Stays}
use Rattle.lot_walk.specs.Step.{StaysOrGoesBack}

pub stays_left : (old new : State) → Stays old new → StaysOrGoesBack old new
stays_left old new same = record {
  mode = λ off. same.mode ∙ off;
  was_open = λ opened. sym same.is_open ∙ opened;
  now = λ opened. inl same.now;
  committed = λ opened. same.committed;
}

pub undone_left : (old new : State) → Stays old new ⊎ IsRolledBack old new → StaysOrGoesBack old new
undone_left old new (inl same) = stays_left old new same
undone_left old new (inr back) = record {
  mode = λ off. back.autocommit;
  was_open = back.was_open;
  now = λ opened. inr (back.undone opened).0;
  committed = λ opened. (back.undone opened).1;
}

-- a step after one that changed nothing
pub left_then : (old mid new : State) → Stays old mid → StaysOrGoesBack mid new → StaysOrGoesBack old new
left_then old mid new same left = record {
  mode = λ off. left.mode (same.mode ∙ off);
  was_open = λ opened. sym same.is_open ∙ left.was_open opened;
  now = λ opened. from (left.now opened);
  committed = λ opened. left.committed opened ∙ same.committed;
}
  where
    from : (new.now ≡ mid.now) ⊎ (new.now ≡ mid.committed) → (new.now ≡ old.now) ⊎ (new.now ≡ old.committed)
    from (inl is) = inl (is ∙ same.now)
    from (inr is) = inr (is ∙ same.committed)

pub unchanged_left : (old new : State) → IsUnchanged old new → StaysOrGoesBack old new
unchanged_left old new same = record {
  mode = λ off. same.0.mode ∙ off;
  was_open = λ opened. same.0.was_open;
  now = λ opened. inl same.0.now_is;
  committed = λ opened. same.0.committed_is;
}

pub undone_by : (old new : State) → IsUndone old new → StaysOrGoesBack old new
undone_by old new (inl same) = unchanged_left old new same
undone_by old new (inr back) = undone_left old new (inr back)
