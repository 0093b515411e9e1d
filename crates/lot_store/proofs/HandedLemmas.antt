-- What a connection that is handed back shows.
use Rattle.std.proofs.Common.{◌≡◌, ◌∙◌, inl, inr, false, IsTrue, sym}
use Rattle.sqlite.specs.State.{State}
use Rattle.lot_table.specs.Book.{IsUndone}
use Rattle.lot_store.specs.Create.{IsHandedBack}

module _ (old new : State) (was : IsTrue old.is_open → old.now ≡ old.committed) where
  pub undone_back : old.in_transaction ≡ false → IsUndone old new → IsHandedBack old new
  undone_back outside (inl same) = record { outside = same.0.mode ∙ outside; was_open = λ _. same.0.was_open; rows = λ _. (same.0.now_is, same.0.committed_is) }
  undone_back outside (inr back) = record {
    outside = back.autocommit;
    was_open = back.was_open;
    rows = λ opened. ((back.undone opened).0 ∙ sym (was (back.was_open opened)), (back.undone opened).1);
  }
