use Rattle.lot_page.proofs.lot.+behind.Given as goal

abbrev pub decreases-behind : goal.decreases-behind
decreases-behind g l = l.same
