-- Sums of a row with one more leg.
use Rattle.std.specs.Prelude.{◌≡◌, ℤ, ◌+ℤ◌, List, [], ◌∷◌, ◌++◌, map}
use Rattle.std.proofs.Common.{sym, ap, ◌∙◌}
use Rattle.std.proofs.Math.IntN.{+ℤ_assoc, +ℤ_idl, +ℤ_idr}
use Rattle.lot_num.specs.Sum.{sum_of}
use Rattle.lot_legs.specs.declared.leg.DatedLeg.{DatedLeg}
use Rattle.lot_activity.specs.Rows.{flow_of, in_of, out_of, with_units}

sum_push : {X : Type 0} (number : X → ℤ) (xs : List X) (x : X) → sum_of (map number (xs ++ x ∷ [])) ≡ sum_of (map number xs) +ℤ number x
sum_push number [] x = +ℤ_idr (number x) ∙ sym (+ℤ_idl (number x))
sum_push number (y ∷ xs) x =
    ap (λ z. number y +ℤ z) (sum_push number xs x) ∙ sym (+ℤ_assoc (number y) (sum_of (map number xs)) (number x))

pub flow_push : (legs : List DatedLeg) (leg : DatedLeg) → flow_of (legs ++ leg ∷ []) ≡ with_units (flow_of legs) leg.units
flow_push legs leg =
    λ i. record {
      incoming = sum_push (λ (l : DatedLeg). in_of l.units) legs leg i;
      outgoing = sum_push (λ (l : DatedLeg). out_of l.units) legs leg i;
    }
