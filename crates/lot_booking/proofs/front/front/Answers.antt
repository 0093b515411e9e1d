-- Those that lead the others come first, and where they hold too little all do, once the others are sorted.
use Rattle.std.proofs.Common.{rules, arith, ◌≡◌, ◌∙◌, ◌≤◌, ◌++◌, map, List, sym, ap, subst}
use Rattle.std.specs.List.Sorted.{IsSortedBy}
use Rattle.std.proofs.lemmas.List.Sorted.{IsPermutation-map, answers_always}
use Rattle.lot_inv.specs.declared.lot.Lot.{Lot}
use Rattle.lot_inv.specs.Inventory.{held_in}
use Rattle.lot_inv.specs.Lot.{key_and_units}
use Rattle.lot_booking.specs.Front.{IsFrontOf, is_earlier}
use Rattle.lot_booking.proofs.ChoiceLemmas.{held_in-permuted}
use Rattle.lot_booking.proofs.FrontLemmas.{all_in_front, front_of_all, front_of_some}
use Rattle.lot_booking.proofs.TakeLemmas.{orders_lots}
use Rattle.lot_booking.proofs.front.front.Goals as goal
use Rattle.lot_booking.proofs.front.front.Goals.{then-held_in-from+in_ok-add_copies, else-held_in-from}

pub returns-clause-front : goal.returns-clause-front
returns-clause-front g c =
    let before = g.O.LotOrder.before in
    let earlier = is_earlier before in
    let weak = orders_lots before g.met.O.LotOrder.is_weak_order in
    let lots = c.args.lots.items in
    let front = c.in_ok-front.front.items in
    let others = c.few_first.new.lots.items in
    let same = c.in_ok-front.ensures.same in
    let lead = c.in_ok-front.ensures.lead in
    elim c.if-held_in-from.branch [
      | then-held_in-from+in_ok-add_copies w ↦
          let sorted = w.sort_unstable_by.new.self.items in
          let by_order : IsSortedBy earlier sorted =
          w.sort_unstable_by.ensures.sorted earlier weak (answers_always _ _ _ (λ f a r f' called. search rules)) in
          let is : c.if-held_in-from.front.items ≡ front ++ sorted =
          ap (λ lots. lots.items) w.front-is ∙ w.in_ok-add_copies.ensures ∙ ap (λ (others : List Lot). front ++ others) w.deref-then-held_in-from.ensures.value in
          subst (IsFrontOf earlier lots) (sym is)
          (front_of_all earlier weak lots front others sorted same lead w.sort_unstable_by.ensures.permutation by_order)
      | else-held_in-from w ↦
          subst (IsFrontOf earlier lots) (sym (ap (λ lots. lots.items) w.front-is)) (front_of_some earlier weak lots front others same lead)
    ]

pub returns-clause-enough : goal.returns-clause-enough
returns-clause-enough g c =
    let before = g.O.LotOrder.before in
    let weak = orders_lots before g.met.O.LotOrder.is_weak_order in
    let lots = c.args.lots.items in
    let front = c.in_ok-front.front.items in
    let others = c.few_first.new.lots.items in
    let HoldEnough = λ (front : List Lot). c.args.wanted ≤ held_in (map key_and_units front) in
    elim c.if-held_in-from.branch [
      | then-held_in-from+in_ok-add_copies w ↦
          let sorted = w.sort_unstable_by.new.self.items in
          let listed = front ++ sorted in
          let moved = all_in_front (is_earlier before) weak lots front others sorted c.in_ok-front.ensures.same w.sort_unstable_by.ensures.permutation in
          let same = held_in-permuted (map key_and_units lots) (map key_and_units listed) (IsPermutation-map key_and_units lots listed moved) in
          let is : c.if-held_in-from.front.items ≡ listed =
          ap (λ lots. lots.items) w.front-is ∙ w.in_ok-add_copies.ensures ∙ ap (λ (others : List Lot). front ++ others) w.deref-then-held_in-from.ensures.value in
          subst HoldEnough (sym is) (omega (arith, same, c.requires))
      | else-held_in-from w ↦
          let held : c.held_in.result ≡ held_in (map key_and_units front) =
          c.held_in.ensures ∙ ap (λ lots. held_in (map key_and_units lots)) c.deref.ensures.value in
          subst HoldEnough (sym (ap (λ lots. lots.items) w.front-is)) (omega (arith, held, w.if-held_in-from.false, c.from.ensures))
    ]
