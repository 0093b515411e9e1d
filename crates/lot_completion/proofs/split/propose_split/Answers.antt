-- Where the key is new, the lots that are held decide.
use Rattle.std.proofs.Common.{◌≡◌, ◌∙◌, None, Some, Result, Ok, Err, IfOk, ap, sym}
use Rattle.std.specs.Option.{option_copied}
use Rattle.lot_book.specs.Openings.{ties_on}
use Rattle.lot_view.specs.View.{known, known_with_openings}
use Rattle.lot_completion.specs.Proposal.{IsSplitProposal, SplitsOrNot}
use Rattle.lot_completion.specs.declared.split.SplitProposal.{SplitProposal}
use Rattle.lot_completion.proofs.SplitLemmas.{by_lots}
use Rattle.lot_split.specs.Held.{split_of}
use Rattle.lot_completion.proofs.split.propose_split.Goals as goal

pub returns : goal.returns
returns c = by c.anew.result c.anew.ensures
  where
    by : {E : Type 0} (result : Result SplitProposal E)
        → IfOk result (SplitsOrNot (ties_on (known_with_openings c.args.view.now)) (known c.args.view.now) c.in-Some.split)
        → IfOk result (IsSplitProposal (ties_on (known_with_openings c.args.view.now)) (known c.args.view.now) c.args.rounding.now c.args.change c.args.command.now)
    by (Ok found) is =
        let asks : split_of c.args.rounding.now.account c.args.change c.args.command.now ≡ Some c.in-Some.split = sym c.in_ok-split.ensures ∙ c.in-Some.is in
        let new : (known c.args.view.now).text ≡ None = sym c.text.ensures ∙ ap option_copied c.in-None.is in
        by_lots (ties_on (known_with_openings c.args.view.now)) (known c.args.view.now) c.args.rounding.now c.args.change c.args.command.now c.in-Some.split asks new
        (λ t fault is fails. c.there_is_one_split_on.ensures.no_fault (ties_on (known_with_openings c.args.view.now)) (known c.args.view.now) c.in-Some.split t fault is fails)
        found is
    by (Err error) is = tt
