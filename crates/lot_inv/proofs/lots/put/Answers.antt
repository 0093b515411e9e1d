-- A lot that isn't held yet is inserted.
use Rattle.std.proofs.Common.{◌≡◌, Some, false, ap, sym, ◌∙◌, pos, rules}
use Rattle.std.specs.BTreeMap.{is_at}
use Rattle.std.specs.Map.{set_value}
use Rattle.std.specs.Option.{option_copied_mut}
use Rattle.std.specs.Ordering.{int_eq}
use Rattle.lot_cost.specs.LotKey.{lot_cmp}
use Rattle.lot_inv.specs.declared.lots.OpenLot.{OpenLot}
use Rattle.lot_inv.proofs.CountLemmas.{counts_changed, counts_inserted, counts_removed}
use Rattle.lot_inv.proofs.SetLemmas.{lot_inserted}
use Rattle.lot_inv.proofs.lots.put.Goals as goal

pub returns-in_ok-insert-in-None-clause-each : goal.returns-in_ok-insert-in-None-clause-each
returns-in_ok-insert-in-None-clause-each c =
    let some : int_eq c.args.units (pos 0) ≡ false = search rules in
    lot_inserted c.args.lots.now.entries c.get_mut.follows.lender-at-none.entries c.insert.new.self.entries c.args.key.now c.in_ok-copy-in-None.field-0 c.args.units c.args.opening
    c.in_ok-copy-in-None.ensures (ap (λ m. m.entries) c.get_mut.follows.holds-at-none) some c.in_ok-insert-in-None.ensures.updates.0

pub returns-then-mantissa-eq0-clause-counts : goal.returns-then-mantissa-eq0-clause-counts
returns-then-mantissa-eq0-clause-counts c =
    counts_removed c.args.key.now c.args.units c.args.opening c.args.lots.now.entries c.remove.new.self.entries c.remove.result
    c.remove.ensures.entries c.remove.ensures.value (search rules)

pub returns-in-Some-clause-counts : goal.returns-in-Some-clause-counts
returns-in-Some-clause-counts c =
    let lot : OpenLot = record { units = c.args.units; opening = c.args.opening } in
    let writes = (c.get_mut.follows.holds c.replace.new.dest).0 in
    counts_changed c.args.key.now c.args.units c.args.opening c.args.lots.now.entries (c.get_mut.follows.lender c.replace.new.dest).entries c.replace.result
    (writes ∙ ap (set_value (is_at (lot_cmp c.args.key.now)) c.args.lots.now.entries) c.replace.ensures.after)
    (sym c.get_mut.ensures.value ∙ ap option_copied_mut c.in-Some.is ∙ ap Some (sym c.replace.ensures.value))
    (search rules)

pub returns-in_ok-insert-in-None-clause-counts : goal.returns-in_ok-insert-in-None-clause-counts
returns-in_ok-insert-in-None-clause-counts c =
    counts_inserted c.args.key.now c.args.units c.args.opening c.args.lots.now.entries c.get_mut.follows.lender-at-none.entries c.insert.new.self.entries c.in_ok-copy-in-None.field-0
    (ap (λ m. m.entries) c.get_mut.follows.holds-at-none) c.in_ok-copy-in-None.ensures c.in_ok-insert-in-None.ensures.entries
    (sym c.get_mut.ensures.value ∙ ap option_copied_mut c.in-None.is) (search rules)
