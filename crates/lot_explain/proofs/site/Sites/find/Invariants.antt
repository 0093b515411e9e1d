-- What is found behind the lines so far is what is found behind those at the beginning.
use Rattle.std.proofs.Common.{◌≡◌, length}
use Rattle.lot_explain.specs.Site.{first_at}
use Rattle.lot_explain.proofs.site.Sites.find.Given as goal

abbrev pub invariant-loop-line : goal.invariant-loop-line
invariant-loop-line l =
    first_at l.command l.posting l.self.passed l.self.lines
    ≡ first_at l.command l.posting l.initial.self.passed l.initial.self.lines

abbrev pub decreases-loop-line : goal.decreases-loop-line
decreases-loop-line l = length l.self.lines
