-- A lot of the highest number counts against the units, one of a higher number begins anew, and any other is passed over.
use Rattle.std.proofs.Common.{◌≡◌, ◌∷◌, ◌<◌, ◌-◌, ℕ, sym, ap, subst, ◌∙◌, unsigned_abs, arith, rules}
use Rattle.lot_inv.specs.declared.lot.Lot.{Lot}
use Rattle.lot_inv.specs.Holding.{listed}
use Rattle.lot_inv.proofs.HighestLemmas.{Passed, passed_lower, passed_one, passed_over, passed_up}
use Rattle.lot_inv.proofs.LentLemmas.{misfits_lent, same_sign_lent}
use Rattle.lot_inv.proofs.lots.Lots.highest.Goals.{then-highest-number-2, else-highest-number-2, else-highest-number-via-then-highest-number+then-is_other_sign+else-fits, else-highest-number-via-then-highest-number+else-is_other_sign, else-highest-number-via-else-highest-number}
use Rattle.lot_inv.proofs.lots.Lots.highest.Goals as goal

pub loop-key-preserved-then-fits : goal.loop-key-preserved-then-fits
loop-key-preserved-then-fits c =
    let units = c.args.units in
    let spec = c.args.spec.now in
    let amount = unsigned_abs units in
    let all = listed c.args.self.now in
    let lot : Lot = record { key = c.in-Some.key.now; units = c.in-Some.lot.now.units; opening = c.in-Some.lot.now.opening } in
    let rest = listed c.next.new.self in
    let left = c.if-highest-number-2.left in
    let passed = subst (Passed units spec amount c.loop-key.highest c.loop-key.left all) (ap listed c.in-Some.ensures.steps) c.loop-key.invariant in
    let number : c.mantissa-number.result ≡ lot.key.number = c.mantissa-number.ensures.value in
    let wanted : c.unsigned_abs-wanted.result ≡ amount = search rules in
    let here : (c.if-highest-number-2.highest ≡ lot.key.number) × Passed units spec amount lot.key.number left all (lot ∷ rest) =
    elim c.if-highest-number-2.branch [
      | then-highest-number-2 w ↦
          let up : c.loop-key.highest < lot.key.number = omega (arith, number, w.if-highest-number-2.true) in (
            w.highest-is ∙ number,
            subst (λ (n : ℕ). Passed units spec amount lot.key.number n all (lot ∷ rest)) (sym (w.left-is ∙ wanted))
                (passed_up units spec amount c.loop-key.highest c.loop-key.left lot.key.number all (lot ∷ rest) up passed),
          )
      | else-highest-number-2 w ↦
          let same : c.loop-key.highest ≡ lot.key.number = omega (arith, number, c.if-highest-number.true, w.if-highest-number-2.false) in (
            w.highest-is ∙ same,
            subst (λ (n : ℕ). Passed units spec amount lot.key.number n all (lot ∷ rest)) (sym w.left-is)
                (subst (λ (n : ℕ). Passed units spec amount n c.loop-key.left all (lot ∷ rest)) same passed),
          )
    ] in
    let less : c.saturating_sub-left.result ≡ left - unsigned_abs lot.units = search rules in
    rw (here.0, less)
    (passed_one units spec amount left all rest lot (sym c.fits.ensures ∙ c.if-fits.true) (sym c.is_other_sign.ensures ∙ c.if-is_other_sign.true) here.1)

pub loop-key-preserved : goal.loop-key-preserved
loop-key-preserved c =
    let units = c.args.units in
    let spec = c.args.spec.now in
    let amount = unsigned_abs units in
    let all = listed c.args.self.now in
    let lot : Lot = record { key = c.in-Some.key.now; units = c.in-Some.lot.now.units; opening = c.in-Some.lot.now.opening } in
    let rest = listed c.next.new.self in
    let passed = subst (Passed units spec amount c.loop-key.highest c.loop-key.left all) (ap listed c.in-Some.ensures.steps) c.loop-key.invariant in
    elim c.else-highest-number.branch [
      | else-highest-number-via-then-highest-number+then-is_other_sign+else-fits w ↦
          passed_over units spec amount c.loop-key.highest c.loop-key.left all rest lot
          (misfits_lent units spec lot rest (sym w.fits.ensures ∙ w.if-fits.false)) passed
      | else-highest-number-via-then-highest-number+else-is_other_sign w ↦
          passed_over units spec amount c.loop-key.highest c.loop-key.left all rest lot
          (same_sign_lent units spec lot rest (sym w.is_other_sign.ensures ∙ w.if-is_other_sign.false)) passed
      | else-highest-number-via-else-highest-number w ↦
          passed_lower units spec amount c.loop-key.highest c.loop-key.left all rest lot
          (omega (arith, c.mantissa-number.ensures.value, w.if-highest-number.false)) passed
    ]
