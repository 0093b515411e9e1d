use Rattle.sqlite.specs.Held.{state}
use Rattle.lot_audit.specs.Pass.{HasJudged, SaysPlace}
use Rattle.lot_audit.proofs.SeenLemmas.{Seen}
use Rattle.lot_audit.proofs.pass.judge_all.Given as goal

-- the entries so far are judged
abbrev pub invariant-entries : goal.invariant-entries
invariant-entries g l = Seen (SaysPlace l.place) (HasJudged l.pass) (state g.S.Store l.fn.conn) (state g.S.Store l.conn)
