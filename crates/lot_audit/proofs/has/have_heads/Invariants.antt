use Rattle.std.proofs.Common.{take}
use Rattle.sqlite.specs.Held.{state}
use Rattle.lot_audit.specs.Checks.{always}
use Rattle.lot_audit.specs.Entries.{HaveHeads}
use Rattle.lot_audit.proofs.SeenLemmas.{Seen}
use Rattle.lot_audit.proofs.has.have_heads.Given as goal

-- the postings so far have their latest days
abbrev pub invariant-postings : goal.invariant-postings
invariant-postings g l =
    Seen always (λ tables. HaveHeads (take l.posting-index l.postings) tables) (state g.S.Store l.fn.conn) (state g.S.Store l.conn)
