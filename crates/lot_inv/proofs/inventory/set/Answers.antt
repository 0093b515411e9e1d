-- The holding of the commodity is the only one that changes.
use Rattle.std.proofs.Common.{◌≡◌, Some, None, sym, ap, ◌∙◌, option_copied}
use Rattle.std.proofs.Common.{rules}
use Rattle.std.specs.BTreeMap.{is_at}
use Rattle.std.specs.Map.{lookup}
use Rattle.std.specs.Prelude.{cond}
use Rattle.std.specs.Option.{option_copied_mut, option_cmp}
use Rattle.std.specs.Ordering.{is_eq}
use Rattle.lot_base.specs.Text.{text_cmp}
use Rattle.lot_inv.specs.Holding.{kept_at}
use Rattle.lot_cost.specs.LotKey.{lot_cmp}
use Rattle.lot_inv.proofs.SetLemmas.{on_err, found_changed, found_alike, changes_inserted, none_empty, nothing_kept, set_nothing, something_set}
use Rattle.lot_inv.proofs.inventory.set.Goals as goal

pub returns-in_err-set-in-Some-clause-err : goal.returns-in_err-set-in-Some-clause-err
returns-in_err-set-in-Some-clause-err c =
    let old = c.args.held.now.entries in
    let new = (c.get_mut.follows.lender c.set.new.self).entries in
    let at = sym (ap option_copied_mut c.in-Some.is) ∙ c.get_mut.ensures.value in
    let writes = (c.get_mut.follows.holds c.set.new.self).3 cc in
    on_err c.from_residual.result (found_alike old new c.args.commodity.now c.set.new.self (Some c.in-Some.holding.now) at c.in_err-set-in-Some.ensures.err writes.0)

pub returns-in_ok-set-in-Some-clause-ok : goal.returns-in_ok-set-in-Some-clause-ok
returns-in_ok-set-in-Some-clause-ok c =
    let old = c.args.held.now.entries in
    let new = (c.get_mut.follows.lender c.set.new.self).entries in
    let at = sym (ap option_copied_mut c.in-Some.is) ∙ c.get_mut.ensures.value in
    let writes = (c.get_mut.follows.holds c.set.new.self).3 cc in
    λ position. c.forget_if_empty.ensures.alike position
    ∙ found_changed old new c.args.commodity.now (option_copied c.args.key) (kept_at (option_copied c.args.key) c.args.units c.args.opening) c.set.new.self (Some c.in-Some.holding.now) at c.in_ok-set-in-Some.ensures.ok writes.0 position

pub returns-then-mantissa-eq0-clause-ok : goal.returns-then-mantissa-eq0-clause-ok
returns-then-mantissa-eq0-clause-ok c =
    let at : None ≡ lookup (is_at (text_cmp c.args.commodity.now)) c.args.held.now.entries = search rules in
    set_nothing c.args.held.now.entries c.get_mut.follows.lender-at-none.entries c.args.commodity.now (option_copied c.args.key)
    (kept_at (option_copied c.args.key) c.args.units c.args.opening) at
    (ap (λ m. m.entries) c.get_mut.follows.holds-at-none) (nothing_kept (option_copied c.args.key) c.args.units c.args.opening (search rules))

pub returns-in_ok-insert-in-None-2-clause-ok : goal.returns-in_ok-insert-in-None-2-clause-ok
returns-in_ok-insert-in-None-2-clause-ok c =
    let old = c.args.held.now.entries in
    let mid = c.get_mut.follows.lender-at-none.entries in
    let new = c.insert.new.self.entries in
    let key = option_copied c.args.key in
    let at : None ≡ lookup (is_at (text_cmp c.args.commodity.now)) c.args.held.now.entries = search rules in
    let changes = changes_inserted old mid new c.args.commodity.now c.in_ok-copy-in-None-2.field-0 c.set-in-None-2.new.self c.in_ok-copy-in-None-2.ensures (ap (λ m. m.entries) c.get_mut.follows.holds-at-none) c.in_ok-insert-in-None-2.ensures.updates.0 in
    found_changed old new c.args.commodity.now key (kept_at key c.args.units c.args.opening) c.set-in-None-2.new.self None at
    (λ other. c.in_ok-set-in-None-2.ensures.ok other ∙ ap (cond (is_eq (option_cmp lot_cmp key other)) (kept_at key c.args.units c.args.opening)) (c.new-holding.ensures.nothing other))
    changes

pub returns-in_ok-insert-in-None-2-clause-none_empty : goal.returns-in_ok-insert-in-None-2-clause-none_empty
returns-in_ok-insert-in-None-2-clause-none_empty c =
    let old = c.args.held.now.entries in
    let mid = c.get_mut.follows.lender-at-none.entries in
    let new = c.insert.new.self.entries in
    let key = option_copied c.args.key in
    let changes = changes_inserted old mid new c.args.commodity.now c.in_ok-copy-in-None-2.field-0 c.set-in-None-2.new.self c.in_ok-copy-in-None-2.ensures (ap (λ m. m.entries) c.get_mut.follows.holds-at-none) c.in_ok-insert-in-None-2.ensures.updates.0 in
    none_empty old new c.args.commodity.now (Some c.set-in-None-2.new.self) (λ other e. c.requires.none_empty other) changes
    (something_set c.set-in-None-2.new.self key c.args.units c.args.opening None (c.in_ok-set-in-None-2.ensures.ok key ∙ ap (cond (is_eq (option_cmp lot_cmp key key)) (kept_at key c.args.units c.args.opening)) (c.new-holding.ensures.nothing key)) (search rules))
