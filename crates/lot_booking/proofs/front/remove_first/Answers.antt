-- The lot that comes first is moved out, and none that is left is earlier.
use Rattle.std.proofs.Common.{rules, ◌≡◌, ◌∷◌, ◌<◌, false, length, List, IsPermutation, sym, subst}
use Rattle.std.specs.List.{IsFirstBest}
use Rattle.std.proofs.lemmas.List.Elements.{recursion_from_All}
use Rattle.std.proofs.lemmas.List.Sorted.{All-permutation, IsPermutation-swap_remove}
use Rattle.lot_inv.specs.declared.lot.Lot.{Lot}
use Rattle.lot_booking.specs.Front.{is_earlier}
use Rattle.lot_booking.proofs.FrontLemmas.{first_of-all}
use Rattle.lot_booking.proofs.front.remove_first.Goals as goal

pub returns-clause-same : goal.returns-clause-same
returns-clause-same g c =
    let lots = c.args.lots.now.items in
    let lot : Lot = c.swap_remove.result in
    let place = c.place_of_first-place.result in
    let among : place < length lots = search rules in
    subst (λ (rest : List Lot). IsPermutation lots (lot ∷ rest)) (sym c.swap_remove.ensures.items)
    (IsPermutation-swap_remove lots place lot among c.swap_remove.ensures.value)

pub returns-clause-first : goal.returns-clause-first
returns-clause-first g c =
    let lots = c.args.lots.now.items in
    let lot : Lot = c.swap_remove.result in
    let rest = c.swap_remove.new.self.items in
    let place = c.place_of_first-place.result in
    let NotEarlier : Lot → Type 0 = λ other. is_earlier g.O.LotOrder.before other lot ≡ false in
    let among : place < length lots = search rules in
    let same : IsPermutation lots (lot ∷ rest) =
    subst (λ (rest : List Lot). IsPermutation lots (lot ∷ rest)) (sym c.swap_remove.ensures.items)
    (IsPermutation-swap_remove lots place lot among c.swap_remove.ensures.value) in
    let first : IsFirstBest (is_earlier g.O.LotOrder.before) lots (length lots) place =
    subst (λ (xs : List Lot). IsFirstBest (is_earlier g.O.LotOrder.before) xs (length xs) place) c.deref.ensures.value
    c.place_of_first-place.ensures in
    let none = first_of-all (is_earlier g.O.LotOrder.before) lots lot place first c.swap_remove.ensures.value in
    (recursion_from_All NotEarlier (lot ∷ rest) (All-permutation NotEarlier lots (lot ∷ rest) same none)).1
