use Rattle.std.proofs.Common.{◌≡◌, ◌++◌, suc}
use Rattle.lot_ledger.specs.Decide.{filled}
use Rattle.lot_view.specs.View.{known}
use Rattle.lot_ledger.proofs.fill.legs_of_fills.Given as goal

-- the legs so far and those of the fills that are left are all
abbrev pub invariant-loop-place : goal.invariant-loop-place
invariant-loop-place l =
    let entry = suc (known l.view).entries in
    let account = l.elided-inside.account.now in
    let left = l.place-iterator.iter.rest.items in
    l.legs.items ++ filled entry l.elided-inside.posting account l.place-iterator.count left
    ≡ filled entry l.elided-inside.posting account 0 l.fn.fills.items
