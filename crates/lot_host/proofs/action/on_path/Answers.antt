-- The database on which the action is done is the one that was opened for it.
use Rattle.std.proofs.Common.{inl, inr, rules}
use Rattle.lot_host.proofs.OpenedLemmas.{copy_for, file_for}
use Rattle.lot_host.proofs.action.on_path.Goals as goal
use Rattle.lot_host.proofs.action.on_path.Goals.{else-not-makes_file-via-then-not-makes_file+else-is_missing, else-not-makes_file-via-else-not-makes_file}

pub returns-in-File-clause-served : goal.returns-in-File-clause-served
returns-in-File-clause-served g c = record {
  database = c.in-File.file;
  of_path = inl (
    elim c.else-not-makes_file.branch [
      | else-not-makes_file-via-then-not-makes_file+else-is_missing w ↦ inr (search rules)
      | else-not-makes_file-via-else-not-makes_file w ↦ inl (search rules)
    ],
    file_for g.H.Host.is_in g.H.Host.copies _ _ _ _ c.in-File.is (rw c.access_of.ensures at c.in_ok-file.ensures.opened),
    record {
      opened = c.in_ok-file.field-0;
      opens = rw c.access_of.ensures at c.in_ok-file.ensures.opens;
      its = inl c.in-File.is;
    },
  );
  comes_to = c.on_file.ensures.comes_to;
}

pub returns-in-Copy-clause-served : goal.returns-in-Copy-clause-served
returns-in-Copy-clause-served g c = record {
  database = c.in-Copy.copy;
  of_path = inl (
    elim c.else-not-makes_file.branch [
      | else-not-makes_file-via-then-not-makes_file+else-is_missing w ↦ inr (search rules)
      | else-not-makes_file-via-else-not-makes_file w ↦ inl (search rules)
    ],
    copy_for g.H.Host.is_in g.H.Host.copies _ _ _ _ c.in-Copy.is (rw c.access_of.ensures at c.in_ok-file.ensures.opened),
    record {
      opened = c.in_ok-file.field-0;
      opens = rw c.access_of.ensures at c.in_ok-file.ensures.opens;
      its = inr c.in-Copy.is;
    },
  );
  comes_to = c.on_copy.ensures.comes_to;
}
