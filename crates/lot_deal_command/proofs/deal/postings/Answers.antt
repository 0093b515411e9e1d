-- Terms have postings where there is no memory for them.
use Rattle.std.proofs.Common.{subst, sym}
use Rattle.lot_deal_command.specs.Deal.{HasPostings}
use Rattle.lot_deal_command.proofs.DealLemmas.{cancellation_posted, exchange_posted, income_posted, incoming_posted, movement_posted, purchase_posted, sale_posted}
use Rattle.lot_deal_command.proofs.deal.postings.Goals as goal

pub returns-in-Buy-clause-memory : goal.returns-in-Buy-clause-memory
returns-in-Buy-clause-memory c = λ e. purchase_posted c.args.terms.now c.in-Buy.trade c.in-Buy.is

pub returns-in-Sell-clause-memory : goal.returns-in-Sell-clause-memory
returns-in-Sell-clause-memory c = λ e. sale_posted c.args.terms.now c.in-Sell.sold c.in-Sell.is

pub returns-in-CancelBuy-clause-memory : goal.returns-in-CancelBuy-clause-memory
returns-in-CancelBuy-clause-memory c = λ e. cancellation_posted c.args.terms.now c.in-CancelBuy.back c.in-CancelBuy.is

pub returns-in-Exchange-clause-memory : goal.returns-in-Exchange-clause-memory
returns-in-Exchange-clause-memory c =
    λ e. subst HasPostings (sym c.in-Exchange.is) (exchange_posted c.in-Exchange.exchanged (c.exchange.ensures.memory e))

pub returns-in-Tax-clause-memory : goal.returns-in-Tax-clause-memory
returns-in-Tax-clause-memory c = λ e. movement_posted c.args.terms.now c.in-Tax.moves c.in-Tax.is

pub returns-in-Dividend-clause-memory : goal.returns-in-Dividend-clause-memory
returns-in-Dividend-clause-memory c = λ e. income_posted c.args.terms.now c.in-Dividend.came c.in-Dividend.is (c.income.ensures.memory e)

pub returns-in-Reward-clause-memory : goal.returns-in-Reward-clause-memory
returns-in-Reward-clause-memory c = λ e. incoming_posted c.args.terms.now c.in-Reward.units c.in-Reward.is
