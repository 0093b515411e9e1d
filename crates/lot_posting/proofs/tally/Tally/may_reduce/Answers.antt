-- No lot had the other sign before the legs, and none that they list has it.
use Rattle.std.proofs.Common.{◌≡◌, false, sym, ap, ◌∙◌}
use Rattle.std.specs.List.{list_any}
use Rattle.std.specs.Map.{values_of}
use Rattle.lot_inv.specs.Inventory.{Held, other_sign, reduces}
use Rattle.lot_inv.proofs.LotLemmas.{lots_of-empty}
use Rattle.lot_view.specs.View.{known}
use Rattle.lot_posting.proofs.TallyReducing.{none_against}
use Rattle.lot_posting.proofs.tally.Tally.may_reduce.Goals as goal
use Rattle.lot_posting.proofs.tally.Tally.may_reduce.Goals.{in-Some, in-None}

pub returns-else-reduced : goal.returns-else-reduced
returns-else-reduced c =
    let account = c.args.account.now in
    let commodity = c.args.commodity.now in
    let units = c.args.units in
    let facts = known c.args.view.now in
    let before : reduces (facts.held account) commodity units ≡ false = elim c.match-held.branch [
      | in-Some w ↦
          ap (λ (h : Held). reduces h commodity units) (sym w.in-Some.ensures.value)
          ∙ sym w.reduces-reduced.ensures ∙ sym w.reduced-is ∙ c.if-reduced.false
      | in-None w ↦
          ap (λ (h : Held). reduces h commodity units) w.in-None.ensures.value
          ∙ ap (λ lots. list_any (λ sum. other_sign sum units) (values_of lots)) (lots_of-empty commodity)
    ] in
    record {
      never = λ none.
          none_against account commodity units facts c.args.self.now.legs c.args.self.now.positions.entries c.held.ensures.no_zeros
          c.requires.sums before (sym c.lists_lot_against.ensures ∙ none);
    }
