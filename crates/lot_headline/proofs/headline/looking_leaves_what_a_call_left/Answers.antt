-- What may be left behind the look is what the call may leave.
use Rattle.std.proofs.Common.{inl, inr}
use Rattle.lot_headline.proofs.headline.looking_leaves_what_a_call_left.Goals as goal

pub returns : goal.returns
returns c start served left before sent clean survives leaves =
    λ trees may. elim (survives.crash clean trees may) [
      | inl was ↦ leaves trees was
      | inr none ↦ absurd none
    ]
