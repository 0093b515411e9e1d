-- There is one split of what an account holds, and no fault beside it but that memory runs out.
use Rattle.std.proofs.Common.{◌≡◌, ◌∙◌, ℕ, List, [], ◌∷◌, None, Some, ℤ, refl, sym, ap, subst₂}
use Rattle.std.specs.Prelude.{map}
use Rattle.std.specs.declared.cmp.Ordering.TheVariants.{Less}
use Rattle.std.specs.Cmp.{IsTotalOrder}
use Rattle.std.specs.List.{AllByRecursion}
use Rattle.std.specs.List.Sorted.{IsStrictlySortedBy}
use Rattle.std.proofs.lemmas.Cmp.{nat_cmp_total, on_total, then_total}
use Rattle.std.proofs.lemmas.List.Sorted.{Contains-permutation, IsPermutation-sym}
use Rattle.lot_cost.specs.declared.lot_key.LotKey.{LotKey}
use Rattle.lot_cost.specs.declared.method.Method.{Method}
use Rattle.lot_cost.proofs.OrderLemmas.{lots_total}
use Rattle.lot_command.specs.declared.transaction.Transaction.{Transaction}
use Rattle.lot_inv.specs.Inventory.{Held, lots_of}
use Rattle.lot_booking.specs.Method.{Ties, ByKey, ByOpening}
use Rattle.lot_book.specs.Booking.{TieRule}
use Rattle.lot_book.specs.Facts.{Facts}
use Rattle.lot_book.specs.declared.standing.Standing.{Standing}
use Rattle.lot_split.specs.Held.{AreHeld, FailsOn, HasFaultOn, Holds, IsSplitOn, key_and_units, key_of, opened_cmp}
use Rattle.lot_split.specs.Split.{HasFault, IsSplit}
use Rattle.lot_split.specs.declared.fault.SplitFault.{SplitFault}
use Rattle.lot_split.specs.declared.fault.SplitFault.TheVariants as fault
use Rattle.lot_split.specs.declared.lot.HeldLot.{HeldLot}
use Rattle.lot_split.specs.declared.transaction.Split.{Split}
use Rattle.lot_split.proofs.OneOrder.{one_list}
use Rattle.lot_split.proofs.SplitLemmas.{no_fault, one_split}

-- ---- the lots that are held, in one order

opened_total : (ties : Ties) → IsTotalOrder (opened_cmp ties)
opened_total ByKey = lots_total
opened_total (ByOpening opening) = then_total (on_total opening nat_cmp_total) lots_total

module _ (ties : Ties) where
  all_above : (key : LotKey) (lots : List HeldLot) → AllByRecursion (λ (k : LotKey). opened_cmp ties key k ≡ Less) (map key_of lots)
      → AllByRecursion (λ (l : LotKey × ℤ). opened_cmp ties key l.0 ≡ Less) (map key_and_units lots)
  all_above key [] above = tt
  all_above key (l ∷ ls) above = (above.0, all_above key ls above.1)

  lots_rise : (lots : List HeldLot) → IsStrictlySortedBy (opened_cmp ties) (map key_of lots)
      → IsStrictlySortedBy (λ (a b : LotKey × ℤ). opened_cmp ties a.0 b.0) (map key_and_units lots)
  unfolding IsStrictlySortedBy
  lots_rise [] up = tt
  lots_rise (l ∷ ls) up = (all_above l.key ls up.0, lots_rise ls up.1)

abbrev lot_of : LotKey × ℤ → HeldLot
lot_of lot = record { key = lot.0; units = lot.1 }

lots_back : (lots : List HeldLot) → map lot_of (map key_and_units lots) ≡ lots
lots_back [] = refl
lots_back (l ∷ ls) = ap (λ xs. l ∷ xs) (lots_back ls)

one_held : (ties : Ties) (held : Held) (commodity : List ℕ) (a b : List HeldLot) → AreHeld ties held commodity a → AreHeld ties held commodity b → a ≡ b
one_held ties held commodity a b first second =
    let all = lots_of held commodity in
    let xs = map key_and_units a in
    let ys = map key_and_units b in
    sym (lots_back a)
    ∙ ap (map lot_of)
    (one_list (on_total (λ (lot : LotKey × ℤ). lot.0) (opened_total ties)) xs ys
    (lots_rise ties a first.in_order) (lots_rise ties b second.in_order)
    (λ z within. Contains-permutation all ys z second.all (Contains-permutation xs all z (IsPermutation-sym all xs first.all) within))
    (λ z within. Contains-permutation all xs z first.all (Contains-permutation ys all z (IsPermutation-sym all ys second.all) within)))
    ∙ lots_back b

-- ---- the split of them

module _ (ties : TieRule) (facts : Facts) (asked : Split) where
  one_standing : (a b : Standing) (lots others : List HeldLot) → Holds ties facts asked a lots → Holds ties facts asked b others → a ≡ b
  one_standing a b lots others first second =
      let same : Some a ≡ Some b = sym first.opened ∙ second.opened in
      cc

  one_lots : (a b : Standing) (lots others : List HeldLot) → Holds ties facts asked a lots → Holds ties facts asked b others → lots ≡ others
  one_lots a b lots others first second =
      one_held (ties [] asked.account asked.commodity) (facts.held asked.account) asked.commodity lots others first.held second.held

  pub one_split_on : (t other : Transaction) → IsSplitOn ties facts asked t → IsSplitOn ties facts asked other → t ≡ other
  one_split_on t other first second =
      let method = ap (λ (s : Standing). s.method) (one_standing first.standing second.standing first.lots second.lots first.holds second.holds) in
      let lots = one_lots first.standing second.standing first.lots second.lots first.holds second.holds in
      one_split asked first.standing.method first.lots t other first.is
      (subst₂ (λ (m : Method) (ls : List HeldLot). IsSplit asked m ls other) (sym method) (sym lots) second.is)

  never_fails : (t : Transaction) (found : SplitFault) → IsSplitOn ties facts asked t → FailsOn ties facts asked found → found ≡ fault.Memory
  never_fails t found is has =
      let method = ap (λ (s : Standing). s.method) (one_standing is.standing has.standing is.lots has.lots is.holds has.holds) in
      let lots = one_lots is.standing has.standing is.lots has.lots is.holds has.holds in
      no_fault asked is.standing.method is.lots t found is.is
      (subst₂ (λ (m : Method) (ls : List HeldLot). HasFault asked m ls found) (sym method) (sym lots) has.fails)

  pub no_fault_on : (t : Transaction) (found : SplitFault) → IsSplitOn ties facts asked t → HasFaultOn ties facts asked found → found ≡ fault.Memory
  no_fault_on t fault.NotOpened is none =
      let contrary : Some is.standing ≡ None = sym is.holds.opened ∙ none in
      cc
  no_fault_on t fault.Memory is has = refl
  no_fault_on t found is has = never_fails t found is has
