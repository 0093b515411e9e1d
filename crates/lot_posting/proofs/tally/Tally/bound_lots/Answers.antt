-- No more lots are added than there are rows.
use Rattle.std.proofs.Common.{◌≡◌, ◌≤◌, ◌+◌, ℕ, List, length, sym, ap, ◌∙◌, rules, arith}
use Rattle.std.specs.List.Sorted.{IsStrictlySortedBy}
use Rattle.std.specs.Map.{keys_of}
use Rattle.std.specs.FinMap.{empty}
use Rattle.lot_inv.proofs.LotLemmas.{lots_of-empty}
use Rattle.lot_inv.specs.Inventory.{Held, lots_of}
use Rattle.lot_book.specs.Leg.{position_cmp}
use Rattle.lot_view.specs.View.{known}
use Rattle.lot_posting.proofs.TallyCount.{lots_at_most}
use Rattle.lot_posting.proofs.tally.Tally.bound_lots.Goals as goal
use Rattle.lot_posting.proofs.tally.Tally.bound_lots.Goals.{in-Some, in-None}

no_lots : (held : Held) (commodity : List ℕ) → held ≡ empty → 0 ≡ length (lots_of held commodity)
no_lots held commodity is = sym (ap (λ (h : Held). length (lots_of h commodity)) is ∙ ap (λ lots. length lots) (lots_of-empty commodity))

in_sum : (after had rows before len : ℕ) → after ≤ had + rows → before ≡ had → len ≡ rows → after ≤ before + len
in_sum after had rows before len most is lists = omega arith

pub returns : goal.returns
returns c =
    let account = c.args.account.now in
    let commodity = c.args.commodity.now in
    let facts = known c.args.view.now in
    let held = facts.held account in
    let rows = c.args.self.now.positions.entries in
    let sorted : IsStrictlySortedBy position_cmp (keys_of rows) = search rules in
    let len : c.len.result ≡ length rows = search rules in
    let before : c.match-held.before ≡ length (lots_of held commodity) = elim c.match-held.branch [
      | in-Some w ↦ w.before-is ∙ w.from-before.ensures ∙ w.lots.ensures ∙ ap (λ (h : Held). length (lots_of h commodity)) w.in-Some.ensures.value
      | in-None w ↦ w.before-is ∙ no_lots held commodity w.in-None.ensures.value
    ] in
    in_sum _ (length (lots_of held commodity)) (length rows) c.match-held.before c.len.result
    (lots_at_most facts c.args.self.now.legs rows account commodity c.held.ensures.no_zeros c.requires.sums sorted) before len
