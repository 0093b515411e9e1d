-- Those before the first are within the bound, and it isn't.
use Rattle.std.proofs.Common.{◌∙◌, drop, sym, take, ◌+◌, rules}
use Rattle.std.proofs.lemmas.Bool.{true≢false}
use Rattle.lot_completion.proofs.RateLemmas.{cut_at, next_taken}
use Rattle.lot_completion.proofs.TurnLemmas.{within_more}
use Rattle.lot_completion.proofs.turn.first_beyond.Goals as goal

pub returns-then-not-allows-clause-beyond : goal.returns-then-not-allows-clause-beyond
returns-then-not-allows-clause-beyond c = record {
  before = take c.loop-crumb.crumb-index c.args.crumbs.now;
  after = drop (c.loop-crumb.crumb-index + 1) c.args.crumbs.now;
  all = cut_at c.args.crumbs.now c.loop-crumb.crumb-index c.crumb-item.result (search rules) c.crumb-item.is;
  within = c.loop-crumb.invariant;
  is_beyond = λ within. true≢false (sym (c.allows.ensures.1 within) ∙ c.if-not-allows.true);
}

pub loop-crumb-preserved : goal.loop-crumb-preserved
loop-crumb-preserved c =
    rw (next_taken c.args.crumbs.now c.loop-crumb.crumb-index c.crumb-item.result (search rules) c.crumb-item.is)
    (within_more c.args.bound (take c.loop-crumb.crumb-index c.args.crumbs.now) c.crumb-item.result c.loop-crumb.invariant
    (c.allows.ensures.0 c.if-not-allows.false))
