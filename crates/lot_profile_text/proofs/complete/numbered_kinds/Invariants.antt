use Rattle.std.proofs.Common.{◌≡◌, suc, drop}
use Rattle.lot_profile_text.specs.Complete.{numbered_kinds}
use Rattle.lot_profile_text.proofs.complete.numbered_kinds.Given as goal

-- the kinds that are left decide
abbrev pub invariant-loop-index : goal.invariant-loop-index
invariant-loop-index l =
    numbered_kinds l.place 1 l.kinds ≡ numbered_kinds l.place (suc l.index) (drop l.index l.kinds)
