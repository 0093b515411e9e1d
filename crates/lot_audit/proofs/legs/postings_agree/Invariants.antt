use Rattle.std.proofs.Common.{ℕ, ◌+◌, ◌<◌}
use Rattle.lot_audit.specs.Legs.{AreAlike}
use Rattle.lot_audit.proofs.legs.postings_agree.Given as goal

-- those of the first postings are
abbrev pub invariant-postings : goal.invariant-postings
invariant-postings l = (k : ℕ) → k < l.index → AreAlike (k + 1) l.rows l.legs
