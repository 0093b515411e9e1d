-- Each leg has the number of the elided posting.
use Rattle.std.proofs.Common.{◌≡◌, ℕ, suc, List, arith, ap, subst, sym}
use Rattle.lot_book.specs.OpeningNumber.{HasNumber}
use Rattle.lot_posting.specs.Tally.{HaveNumbers}
use Rattle.lot_view.specs.View.{known}
use Rattle.lot_ledger.proofs.FillLemmas.{filled-numbered, numbered-front}
use Rattle.lot_ledger.proofs.fill.legs_of_fills.Goals as goal

pub returns-clause-numbers : goal.returns-clause-numbers
returns-clause-numbers c =
    let entry = suc (known c.args.view.now).entries in
    let posting = c.elided.inside.posting in
    let same : posting ≡ c.args.elided.now.0 = ap (λ (elided : ℕ × List ℕ). elided.0) c.elided.view_is in
    let numbered : HasNumber entry posting = record { from_one = omega arith; fits = omega arith } in
    numbered-front c.loop-place.legs.items _
    (subst HaveNumbers (sym c.loop-place.invariant)
    (filled-numbered entry posting c.elided.inside.account.now 0 c.args.fills.items numbered))
