-- Lots are lent until a day is past, or none is left.
use Rattle.std.proofs.Common.{◌≡◌, ◌≤◌, ◌∷◌, ◌++◌, List, map, unsigned_abs, sym, ap, subst, ◌∙◌, arith, rules}
use Rattle.lot_inv.specs.declared.lot.Lot.{Lot}
use Rattle.lot_inv.specs.Foremost.{gone_through, is_past}
use Rattle.lot_inv.specs.Holding.{listed, takeable_lots}
use Rattle.lot_inv.specs.Inventory.{held_in, with_number}
use Rattle.lot_inv.specs.Lot.{key_and_units}
use Rattle.lot_inv.proofs.LentLemmas.{AreByRank, by_rank-from_sorted, by_rank_but, lent_all, lent_before, misfits_lent, same_sign_lent, taken-turned}
use Rattle.lot_inv.proofs.lots.Lots.by_day.Goals.{else-is_other_sign-via-then-is_other_sign+else-fits_at, else-is_other_sign-via-else-is_other_sign}
use Rattle.lot_inv.proofs.lots.Lots.by_day.Goals as goal

pub loop-key-init : goal.loop-key-init
loop-key-init c =
    let spec = with_number c.args.number.now c.args.spec.now in
    let foremost = c.args.foremost in
    let rest = c.iter-entries.ensures.rest in
    let none = c.new-lots.ensures.items in
    let behind = listed (gone_through foremost c.iter-entries.result) in
    record {
      all = ap (λ (ls : List Lot). ls ++ takeable_lots c.args.units spec behind) none
          ∙ ap (λ es. takeable_lots c.args.units spec (listed (gone_through foremost es))) rest;
      by_rank = subst (λ (ls : List Lot). AreByRank foremost (ls ++ behind)) (sym none)
          (subst (λ es. AreByRank foremost (listed (gone_through foremost es))) (sym rest)
          (by_rank-from_sorted foremost c.args.self.now c.requires.days c.requires.together c.requires.sorted));
      held = search rules;
    }

pub loop-key-preserved : goal.loop-key-preserved
loop-key-preserved c =
    let spec = with_number c.args.number.now c.args.spec.now in
    let units = c.args.units in
    let lots = c.loop-key.lots.items in
    let lot : Lot = record { key = c.in-Some.key.now; units = c.in-Some.lot.now.units; opening = c.in-Some.lot.now.opening } in
    let rest = listed (gone_through c.args.foremost c.next.new.lots) in
    let steps : listed (gone_through c.args.foremost c.loop-key.entries) ≡ lot ∷ rest = ap listed c.in-Some.ensures.some in
    let passed : takeable_lots units spec (lot ∷ rest) ≡ takeable_lots units spec rest = elim c.else-is_other_sign.branch [
      | else-is_other_sign-via-then-is_other_sign+else-fits_at w ↦ misfits_lent units spec lot rest (sym w.fits_at.ensures ∙ w.if-fits_at.false)
      | else-is_other_sign-via-else-is_other_sign w ↦ same_sign_lent units spec lot rest (sym c.is_other_sign.ensures ∙ w.if-is_other_sign.false)
    ] in
    let so_far = c.loop-key.invariant in
    record {
      all = ap (λ ls. lots ++ ls) (sym (ap (takeable_lots units spec) steps ∙ passed)) ∙ so_far.all;
      by_rank = by_rank_but c.args.foremost lots rest lot (subst (λ ls. AreByRank c.args.foremost (lots ++ ls)) steps so_far.by_rank);
      held = so_far.held;
    }

pub returns-then-is_past : goal.returns-then-is_past
returns-then-is_past c =
    let spec = with_number c.args.number.now c.args.spec.now in
    let units = c.args.units in
    let lots = c.loop-key.lots.items in
    let lot : Lot = record { key = c.in-Some.key.now; units = c.in-Some.lot.now.units; opening = c.in-Some.lot.now.opening } in
    let rest = listed (gone_through c.args.foremost c.next.new.lots) in
    let steps : listed (gone_through c.args.foremost c.loop-key.entries) ≡ lot ∷ rest = ap listed c.in-Some.ensures.some in
    let so_far = c.loop-key.invariant in
    let none = c.if-left-eq0.true in
    let held = so_far.held in
    let enough : unsigned_abs units ≤ held_in (map key_and_units lots) = omega (arith, none, held) in
    let entries = c.args.self.now in
    lent_before units spec c.args.foremost (unsigned_abs units) (listed (gone_through c.args.foremost entries)) (takeable_lots units spec (listed entries)) lots
    (taken-turned units spec c.args.foremost entries) lot rest
    (ap (λ ls. lots ++ takeable_lots units spec ls) (sym steps) ∙ so_far.all)
    (subst (λ ls. AreByRank c.args.foremost (lots ++ ls)) steps so_far.by_rank)
    ((λ i. is_past c.args.foremost (sym c.deref.ensures.value i) (sym c.lend.ensures i)) ∙ sym c.is_past.ensures ∙ c.if-is_past.true)
    enough

pub returns : goal.returns
returns c =
    let spec = with_number c.args.number.now c.args.spec.now in
    let units = c.args.units in
    let lots = c.loop-key.lots.items in
    let entries = c.args.self.now in
    lent_all units spec c.args.foremost (unsigned_abs units) (listed (gone_through c.args.foremost entries)) (takeable_lots units spec (listed entries)) lots
    (taken-turned units spec c.args.foremost entries)
    (ap (λ es. lots ++ takeable_lots units spec (listed es)) (sym c.in_default.ensures.none) ∙ c.loop-key.invariant.all)
