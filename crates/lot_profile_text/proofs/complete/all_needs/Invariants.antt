use Rattle.std.proofs.Common.{◌≡◌, drop}
use Rattle.lot_profile_text.specs.Complete.{all_needs_of}
use Rattle.lot_profile_text.proofs.complete.all_needs.Given as goal

-- the kinds that are left decide
abbrev pub invariant-loop-rule : goal.invariant-loop-rule
invariant-loop-rule l =
    all_needs_of l.place l.profile l.table l.table.kinds ≡ all_needs_of l.place l.profile l.table (drop l.rule-index l.table.kinds)
