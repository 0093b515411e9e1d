use Rattle.std.proofs.Common.{◌≡◌, take}
use Rattle.lot_rounding.specs.Asked.{with_units_at}
use Rattle.lot_completion.proofs.form.with_units_at.Given as goal

-- the postings so far have other units at the place
abbrev pub invariant-loop-index : goal.invariant-loop-index
invariant-loop-index l = l.changed ≡ with_units_at l.place l.units (take l.index l.postings)
