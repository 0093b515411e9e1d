use Rattle.std.proofs.Common.{rules, ◌≡◌, sym, ◌∙◌}
use Rattle.std.proofs.lemmas.Iterator.{YieldsList-from_slice}
use Rattle.std.proofs.lemmas.Iterator.Search.{position_from_yields_List}
use borrow.Author.Tests.{tests}
use Rattle.lot_base.specs.Day.{is_separator}
use Rattle.lot_base.proofs.SplitLemmas.{first_place, slice_split-none, slice_split-some}
use Rattle.lot_base.proofs.day.cut.Goals as goal

pub returns-in_err-at : goal.returns-in_err-at
returns-in_err-at c =
    let place : c.position.result ≡ first_place is_separator c.args.text.now =
    position_from_yields_List is_separator _ _ c.position.result c.position.ensures.ran
    (YieldsList-from_slice c.args.text.now cc) (λ x b q k. search (rules, tests)) in
    rw c.from_residual.ensures (slice_split-none is_separator c.args.text.now 0 (sym c.in_err-at.was ∙ place))

pub returns : goal.returns
returns c =
    let place : c.position.result ≡ first_place is_separator c.args.text.now =
    position_from_yields_List is_separator _ _ c.position.result c.position.ensures.ran
    (YieldsList-from_slice c.args.text.now cc) (λ x b q k. search (rules, tests)) in
    slice_split-some is_separator c.args.text.now 0 c.in_ok-at.at (sym c.in_ok-at.was ∙ place)
