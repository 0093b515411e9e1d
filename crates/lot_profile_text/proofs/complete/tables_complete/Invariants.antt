use Rattle.std.proofs.Common.{◌≡◌, suc, drop}
use Rattle.lot_profile_text.specs.Complete.{tables_complete}
use Rattle.lot_profile_text.proofs.complete.tables_complete.Given as goal

-- the tables that are left decide
abbrev pub invariant-loop-index : goal.invariant-loop-index
invariant-loop-index l =
    tables_complete l.shape l.profile 1 l.profile.tables ≡ tables_complete l.shape l.profile (suc l.index) (drop l.index l.profile.tables)
