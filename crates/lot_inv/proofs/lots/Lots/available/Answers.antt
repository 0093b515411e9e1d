-- A lot that units may take counts, and what it holds; any other is passed over.
use Rattle.std.proofs.Common.{◌≡◌, ◌∷◌, List, length, unsigned_abs, sym, ap, subst, ◌∙◌, arith}
use Rattle.std.proofs.lemmas.Int.{ints, to_z-of_z}
use Rattle.lot_inv.specs.declared.lot.Lot.{Lot}
use Rattle.lot_inv.specs.Foremost.{Counts}
use Rattle.lot_inv.specs.Holding.{listed, takeable_lots}
use Rattle.lot_inv.specs.Inventory.{with_number}
use Rattle.lot_inv.proofs.AvailableLemmas.{Counted, counts_all, counts_several, first_counted, next_counted, takes_lot}
use Rattle.lot_inv.proofs.LentLemmas.{misfits_lent, same_sign_lent}
use Rattle.lot_inv.proofs.ListedLemmas.{takeable-listed}
use Rattle.lot_inv.proofs.lots.Lots.available.Goals.{then-available-eq0, else-available-eq0, else-is_other_sign-via-then-is_other_sign+else-fits_at, else-is_other_sign-via-else-is_other_sign}
use Rattle.lot_inv.proofs.lots.Lots.available.Goals as goal

pub loop-key-preserved-then-fits_at : goal.loop-key-preserved-then-fits_at
loop-key-preserved-then-fits_at c =
    let spec = with_number c.args.number.now c.args.spec.now in
    let units = c.args.units in
    let all = takeable_lots units spec (listed c.args.self.now) in
    let lot : Lot = record { key = c.in-Some.key.now; units = c.in-Some.lot.now.units; opening = c.in-Some.lot.now.opening } in
    let rest = takeable_lots units spec (listed c.next.new.self) in
    let available = c.loop-key.available in
    let steps = c.in-Some.ensures.steps in
    let taken = ap (λ lots. takeable_lots units spec (listed lots)) steps
    ∙ takes_lot units spec lot (listed c.next.new.self) (sym c.is_other_sign.ensures ∙ c.if-is_other_sign.true) (sym c.fits_at.ensures ∙ c.if-fits_at.true) in
    let so_far = c.loop-key.invariant in
    let counted = subst (λ (ls : List Lot). Counted all ls available.lots available.held available.only) taken so_far.counted in
    let left = ap length steps in
    let holds : c.from.result ≡ unsigned_abs lot.units = grind (arith, ints, to_z-of_z) in
    record {
      counted = rw holds (elim c.if-available-eq0.branch [
        | then-available-eq0 w ↦ rw w.available-is (rw w.lend.ensures
            (first_counted all rest lot available.lots available.held available.only counted w.if-available-eq0.true))
        | else-available-eq0 w ↦ rw w.available-is
            (next_counted all rest lot available.lots available.held available.only counted w.if-available-eq0.false)
      ]);
      few = omega (arith, left, so_far.few);
      room = omega (arith, left, holds, so_far.room, c.mantissa.ensures.in_range);
    }

pub loop-key-preserved : goal.loop-key-preserved
loop-key-preserved c =
    let spec = with_number c.args.number.now c.args.spec.now in
    let units = c.args.units in
    let all = takeable_lots units spec (listed c.args.self.now) in
    let lot : Lot = record { key = c.in-Some.key.now; units = c.in-Some.lot.now.units; opening = c.in-Some.lot.now.opening } in
    let rest = listed c.next.new.self in
    let available = c.loop-key.available in
    let steps = c.in-Some.ensures.steps in
    let passed : takeable_lots units spec (lot ∷ rest) ≡ takeable_lots units spec rest = elim c.else-is_other_sign.branch [
      | else-is_other_sign-via-then-is_other_sign+else-fits_at w ↦ misfits_lent units spec lot rest (sym w.fits_at.ensures ∙ w.if-fits_at.false)
      | else-is_other_sign-via-else-is_other_sign w ↦ same_sign_lent units spec lot rest (sym c.is_other_sign.ensures ∙ w.if-is_other_sign.false)
    ] in
    let same = ap (λ lots. takeable_lots units spec (listed lots)) steps ∙ passed in
    let left = ap length steps in
    let so_far = c.loop-key.invariant in
    record {
      counted = subst (λ (ls : List Lot). Counted all ls available.lots available.held available.only) same so_far.counted;
      few = omega (arith, left, so_far.few);
      room = omega (arith, left, so_far.room);
    }

pub returns-then-wanted-available : goal.returns-then-wanted-available
returns-then-wanted-available c =
    let spec = with_number c.args.number.now c.args.spec.now in
    let units = c.args.units in
    let entries = c.args.self.now in
    let available = c.loop-key.available in
    let amount = unsigned_abs units in
    let wanted : c.from-wanted.result ≡ amount = grind (arith, ints, to_z-of_z) in
    let counts = counts_several (takeable_lots units spec (listed entries)) available.lots available.held available.only amount
    (takeable_lots units spec (listed c.loop-key.key-iterator)) c.loop-key.invariant.counted (omega (arith, c.if-available-gt1.true))
    (omega (arith, wanted, c.if-wanted-available.true)) in
    record {
      counted = subst (Counts amount available.lots available.held) (takeable-listed units spec entries) counts.0;
      only = counts.1;
    }

pub returns : goal.returns
returns c =
    let spec = with_number c.args.number.now c.args.spec.now in
    let units = c.args.units in
    let entries = c.args.self.now in
    let available = c.loop-key.available in
    let all = takeable_lots units spec (listed entries) in
    let amount = unsigned_abs units in
    let counted = subst (λ ls. Counted all (takeable_lots units spec (listed ls)) available.lots available.held available.only)
    c.in-None.ensures.steps.0 c.loop-key.invariant.counted in
    let counts = counts_all all available.lots available.held available.only amount counted in
    record {
      counted = subst (Counts amount available.lots available.held) (takeable-listed units spec entries) counts.0;
      only = counts.1;
    }
