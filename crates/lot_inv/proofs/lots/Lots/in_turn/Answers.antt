-- Lots are lent until a rank is past, or none is left.
use Rattle.std.proofs.Common.{◌≡◌, ◌≤◌, ◌∷◌, ◌++◌, List, map, unsigned_abs, sym, ap, subst, ◌∙◌, arith, rules}
use Rattle.lot_inv.specs.declared.lot.Lot.{Lot}
use Rattle.lot_inv.specs.Foremost.{is_past, opened}
use Rattle.lot_inv.specs.Holding.{listed, takeable_lots}
use Rattle.lot_inv.specs.Index.{in_order}
use Rattle.lot_inv.specs.Inventory.{held_in, with_number}
use Rattle.lot_inv.specs.Lot.{key_and_units}
use Rattle.lot_inv.proofs.LentLemmas.{AreByRank, by_rank_but, lent_all, lent_before, misfits_lent, same_sign_lent, without_openings}
use Rattle.lot_inv.proofs.IndexLemmas.{by_rank, same_taken}
use Rattle.lot_inv.proofs.lots.Lots.in_turn.Goals.{else-is_other_sign-via-then-is_other_sign+else-fits_at, else-is_other_sign-via-else-is_other_sign}
use Rattle.lot_inv.proofs.lots.Lots.in_turn.Goals as goal

pub loop-at-init : goal.loop-at-init
loop-at-init c =
    let spec = with_number c.args.number.now c.args.spec.now in
    let foremost = c.args.foremost in
    let gives = c.into_iter-at-iterator.ensures.into_iter_gives in
    let index = c.in-Some.index.now.entries in
    let none = c.new-lots.ensures.items in
    let behind = listed (in_order c.into_iter-at-iterator.result) in
    record {
      all = ap (λ (ls : List Lot). ls ++ takeable_lots c.args.units spec behind) none;
      by_rank = subst (λ (ls : List Lot). AreByRank foremost (ls ++ behind)) (sym none)
          (subst (λ es. AreByRank foremost (listed (in_order es))) (sym gives.0)
          (without_openings foremost (listed (in_order index))
          (by_rank (opened foremost) index c.args.self.now c.in-Some.ensures gives.5 gives.6)));
      held = search rules;
    }

pub loop-at-preserved : goal.loop-at-preserved
loop-at-preserved c =
    let spec = with_number c.args.number.now c.args.spec.now in
    let units = c.args.units in
    let lots = c.loop-at.lots.items in
    let lot : Lot = record { key = c.in-Some-2.at.now.1; units = c.in-Some-2.lot.now.units; opening = c.in-Some-2.lot.now.opening } in
    let rest = listed (in_order c.next.new.self) in
    let steps : listed (in_order c.loop-at.at-iterator) ≡ lot ∷ rest = ap (λ es. listed (in_order es)) c.in-Some-2.ensures.steps in
    let passed : takeable_lots units spec (lot ∷ rest) ≡ takeable_lots units spec rest = elim c.else-is_other_sign.branch [
      | else-is_other_sign-via-then-is_other_sign+else-fits_at w ↦ misfits_lent units spec lot rest (sym w.fits_at.ensures ∙ w.if-fits_at.false)
      | else-is_other_sign-via-else-is_other_sign w ↦ same_sign_lent units spec lot rest (sym c.is_other_sign.ensures ∙ w.if-is_other_sign.false)
    ] in
    let so_far = c.loop-at.invariant in
    record {
      all = ap (λ ls. lots ++ ls) (sym (ap (takeable_lots units spec) steps ∙ passed)) ∙ so_far.all;
      by_rank = by_rank_but c.args.foremost lots rest lot (subst (λ ls. AreByRank c.args.foremost (lots ++ ls)) steps so_far.by_rank);
      held = so_far.held;
    }

pub returns-then-is_past : goal.returns-then-is_past
returns-then-is_past c =
    let spec = with_number c.args.number.now c.args.spec.now in
    let units = c.args.units in
    let foremost = c.args.foremost in
    let gives = c.into_iter-at-iterator.ensures.into_iter_gives in
    let index = c.in-Some.index.now.entries in
    let lots = c.loop-at.lots.items in
    let lot : Lot = record { key = c.in-Some-2.at.now.1; units = c.in-Some-2.lot.now.units; opening = c.in-Some-2.lot.now.opening } in
    let rest = listed (in_order c.next.new.self) in
    let steps : listed (in_order c.loop-at.at-iterator) ≡ lot ∷ rest = ap (λ es. listed (in_order es)) c.in-Some-2.ensures.steps in
    let so_far = c.loop-at.invariant in
    let none = c.if-left-eq0.true in
    let held = so_far.held in
    let enough : unsigned_abs units ≤ held_in (map key_and_units lots) = omega (arith, none, held) in
    lent_before units spec foremost (unsigned_abs units) (listed (in_order index)) (takeable_lots units spec (listed c.args.self.now)) lots
    (same_taken (opened foremost) units spec index c.args.self.now c.in-Some.ensures gives.5 c.requires.sorted) lot rest
    (ap (λ ls. lots ++ takeable_lots units spec ls) (sym steps) ∙ so_far.all ∙ ap (λ es. takeable_lots units spec (listed (in_order es))) gives.0)
    (subst (λ ls. AreByRank foremost (lots ++ ls)) steps so_far.by_rank)
    ((λ i. is_past foremost (sym c.deref.ensures.value i) (sym c.lend.ensures i)) ∙ sym c.is_past.ensures ∙ c.if-is_past.true)
    enough

pub returns : goal.returns
returns c =
    let spec = with_number c.args.number.now c.args.spec.now in
    let units = c.args.units in
    let foremost = c.args.foremost in
    let gives = c.into_iter-at-iterator.ensures.into_iter_gives in
    let index = c.in-Some.index.now.entries in
    let lots = c.loop-at.lots.items in
    lent_all units spec foremost (unsigned_abs units) (listed (in_order index)) (takeable_lots units spec (listed c.args.self.now)) lots
    (same_taken (opened foremost) units spec index c.args.self.now c.in-Some.ensures gives.5 c.requires.sorted)
    (ap (λ es. lots ++ takeable_lots units spec (listed (in_order es))) (sym c.in-None.ensures.steps.0) ∙ c.loop-at.invariant.all
    ∙ ap (λ es. takeable_lots units spec (listed (in_order es))) gives.0)
