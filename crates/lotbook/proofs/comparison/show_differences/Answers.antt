use Rattle.std.proofs.Common.{inl, inr, refl, subst}
use Rattle.lot_call.proofs.LookLemmas.{looked_then}
use Rattle.lotbook.specs.Compared.{ShowsNone}
use Rattle.lotbook.proofs.ReadLemmas.{unread}
use Rattle.lotbook.proofs.comparison.show_differences.Goals as goal

pub returns-in-Ok-clause-told : goal.returns-in-Ok-clause-told
returns-in-Ok-clause-told g c = record { comes_to = inl (record { new = _; adopts = c.in-Ok.ensures.taken; beside = c.show_beside-status.ensures.told }) }

pub returns-in-Err-clause-told : goal.returns-in-Err-clause-told
returns-in-Err-clause-told g c =
    elim c.show_none-status.ensures.told [
      | inl none ↦ record {
        comes_to = inr (inl (record {
          left = c.in-Err.left.conn;
          none = subst (λ fault. ShowsNone g.S.Store c.args.conn c.in-Err.left.conn fault) none.0 c.in-Err.ensures.none;
          same = none.1;
        }));
      }
      | inr told ↦ record {
        comes_to = inr (inr (record { fault = c.in-Err.left.fault; left = c.in-Err.left.conn; none = c.in-Err.ensures.none; other = told.0; reported = told.1 }));
      }
    ]

pub returns-in-Ok-clause-left : goal.returns-in-Ok-clause-left
returns-in-Ok-clause-left g c = record {
  taken = c.in-Ok.new.conn;
  looked = c.in-Ok.ensures.looked;
  read = rw c.into_connection.ensures.same c.show_beside-status.ensures.new_left;
}

pub returns-in-Err-clause-left : goal.returns-in-Err-clause-left
returns-in-Err-clause-left g c = record {
  taken = c.show_none-status.result.1;
  looked = looked_then _ _ _ c.in-Err.ensures.handed_back c.show_none-status.ensures.looked;
  read = unread _;
}

pub returns-in-Ok-clause-old_left : goal.returns-in-Ok-clause-old_left
returns-in-Ok-clause-old_left g c = inl c.show_beside-status.ensures.old_left

pub returns-in-Err-clause-old_left : goal.returns-in-Err-clause-old_left
returns-in-Err-clause-old_left g c = inr refl
