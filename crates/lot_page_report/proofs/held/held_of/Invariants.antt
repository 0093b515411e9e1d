use Rattle.lot_page_report.proofs.HeldLemmas.{HeldSoFar}
use Rattle.lot_page_report.proofs.held.held_of.Given as goal

-- those so far are valued and added up
abbrev pub invariant-loop-holding : goal.invariant-loop-holding
invariant-loop-holding l = HeldSoFar l.prices l.fn.holdings.items l.holding-iterator.rest.items l.rows.items l.totals
