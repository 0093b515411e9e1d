-- The action is served, and what is asked for is told behind it.
use Rattle.lot_cli.specs.Preview.{outcome}
use Rattle.lot_cli.specs.Says.{told}
use Rattle.lot_cli.proofs.PreviewLemmas.{ends_told}
use Rattle.lot_cli.proofs.preview.serve_with_preview.Goals as goal

pub returns-in-Nothing-clause-serves : goal.returns-in-Nothing-clause-serves
returns-in-Nothing-clause-serves g c = rw c.in-Nothing.is c.serve.ensures.serves

pub returns-in-Gains-clause-serves : goal.returns-in-Gains-clause-serves
returns-in-Gains-clause-serves g c = rw c.in-Gains.is c.serve_with_gains.ensures.serves

pub returns-in-Holdings-clause-serves : goal.returns-in-Holdings-clause-serves
returns-in-Holdings-clause-serves g c =
    let served = c.serve-served.result in
    rw c.in-Holdings.is (
      outcome served.conn (g.W.CountedWrite.contents c.serve-served.new.writer) (g.W.CountedWrite.calls c.serve-served.new.writer)
          (told served.status served.halt),
      c.serve-served.ensures.serves,
      c.tell_holdings.ensures.tells,
    )

pub returns-in-GainsAndHoldings-clause-serves : goal.returns-in-GainsAndHoldings-clause-serves
returns-in-GainsAndHoldings-clause-serves g c =
    let served = c.serve_with_gains-served.result in
    rw c.in-GainsAndHoldings.is (
      outcome served.conn (g.W.CountedWrite.contents c.serve_with_gains-served.new.writer)
          (g.W.CountedWrite.calls c.serve_with_gains-served.new.writer) (told served.status served.halt),
      c.serve_with_gains-served.ensures.serves,
      c.tell_holdings-in-GainsAndHoldings.ensures.tells,
    )

pub returns-in-Holdings-clause-status : goal.returns-in-Holdings-clause-status
returns-in-Holdings-clause-status g c =
    ends_told c.args.action.now c.serve-served.result.status c.tell_holdings.result.status c.serve-served.ensures.status c.tell_holdings.ensures.status

pub returns-in-GainsAndHoldings-clause-status : goal.returns-in-GainsAndHoldings-clause-status
returns-in-GainsAndHoldings-clause-status g c =
    ends_told c.args.action.now c.serve_with_gains-served.result.status c.tell_holdings-in-GainsAndHoldings.result.status
    c.serve_with_gains-served.ensures.status c.tell_holdings-in-GainsAndHoldings.ensures.status
