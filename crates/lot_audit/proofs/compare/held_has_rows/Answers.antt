use Rattle.std.specs.List.{AllByRecursion}
use Rattle.sqlite.specs.Held.{state}
use Rattle.lot_rows.specs.Tables.{Tables}
use Rattle.lot_audit.specs.Checks.{always}
use Rattle.lot_audit.specs.Told.{HeldHasRows, HoldingHasRows}
use Rattle.lot_audit.proofs.HoldingsLemmas.{listed_held}
use Rattle.lot_audit.proofs.SeenLemmas.{chain_last, seen_none}
use Rattle.lot_audit.proofs.compare.held_has_rows.Goals as goal

pub returns : goal.returns
returns g c =
    let old = state g.S.Store c.args.conn.now in
    let rows = c.in_ok-holdings.holdings.items in
    record {
      checks = chain_last always (λ (tables : Tables). AllByRecursion (HoldingHasRows tables) rows) (HeldHasRows c.args.view.now) old old
          (state g.S.Store c.have_rows.new.conn) (seen_none always old) c.have_rows.result
          (rw c.deref.ensures.value at c.have_rows.ensures.checks)
          (λ tables so all. (listed_held c.args.view.now tables rows c.in_ok-holdings.ensures).0 all)
          (λ tables held. (listed_held c.args.view.now tables rows c.in_ok-holdings.ensures).1 held);
    }
