use Rattle.sqlite.specs.Held.{state}
use Rattle.lot_audit.specs.Checks.{always}
use Rattle.lot_audit.proofs.SeenLemmas.{Seen}
use Rattle.lot_audit.proofs.WithinLemmas.{AreWithin}
use Rattle.lot_audit.proofs.compare.legs_are_within.Given as goal

-- the rows so far are of these entries
abbrev pub invariant-legs : goal.invariant-legs
invariant-legs g l = Seen always (AreWithin l.entries l.legs) (state g.S.Store l.fn.conn) (state g.S.Store l.conn)
