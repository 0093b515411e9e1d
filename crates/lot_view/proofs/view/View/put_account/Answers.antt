-- The account stands as put, and every other as before.
use Rattle.std.proofs.Common.{refl}
use Rattle.lot_view.proofs.ViewLemmas.{sets-inserted, sets-seen}
use Rattle.lot_view.proofs.view.View.put_account.Goals as goal
use Rattle.lot_book.proofs.FactLemmas.{same_facts}

pub returns-clause-ok : goal.returns-clause-ok
returns-clause-ok c =
    let old = c.args.self.now.standings in
    let account = c.args.account.now in
    let sets = sets-inserted old old c.insert.new.self account c.in_ok-copy.field-0 c.args.standing c.in_ok-copy.ensures refl
    c.in_ok-insert.ensures.updates.0 in
    same_facts _ _ refl refl (sets-seen old c.insert.new.self c.args.account.now c.args.standing sets) (λ commodity. refl)
    (λ account commodity. refl) (λ account. refl)
