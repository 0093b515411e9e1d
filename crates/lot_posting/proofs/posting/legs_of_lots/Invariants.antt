use Rattle.std.proofs.Common.{◌≡◌, ◌++◌, drop}
use Rattle.lot_book.specs.Leg.{legs_at_lots}
use Rattle.lot_posting.proofs.posting.legs_of_lots.Given as goal

-- the legs so far and those at the lots that are left are all
abbrev pub invariant-loop-place : goal.invariant-loop-place
invariant-loop-place l =
    let account = l.site.account.now in
    let commodity = l.site.amount.now.commodity in
    l.legs.items ++ legs_at_lots l.site.entry l.site.posting account commodity l.place (drop l.place l.lots)
    ≡ legs_at_lots l.site.entry l.site.posting account commodity 0 l.lots
