-- There is at most one choice of an amount, under STRICT and in each order.
use Rattle.std.specs.Prelude.{◌≡◌, ◌⊎◌, ℕ, ◌≤◌, ◌<◌, Bool, true, List, [], ◌∷◌, length, ℤ, unsigned_abs}
use Rattle.std.specs.Cmp.{Equal-is, tied_itself}
use Rattle.std.specs.List.{AllByRecursion, Contains}
use Rattle.std.specs.Ordering.{is_eq}
use Rattle.std.proofs.Common.{sym, ap, ◌∙◌, arith, inl, inr}
use Rattle.std.proofs.lemmas.Bool.{cases_Bool, cases_order, or_cases, true≢false}
use Rattle.lot_cost.specs.declared.lot_key.LotKey.{LotKey}
use Rattle.lot_cost.specs.LotKey.{lot_cmp}
use Rattle.lot_cost.proofs.OrderLemmas.{exact_lots, lots_total}
use Rattle.lot_booking.specs.Choice.{Choice, InTurn, IsChoice, IsWhole, OneOrWhole, given}
use Rattle.lot_booking.specs.Order.{IsOrder}
use Rattle.lot_booking.proofs.ListLemmas.{at_member, each_member, same_terms}

-- ---- STRICT

-- what a choice gives to one lot alone is all that it gives
alone : (lots : List (LotKey × ℤ)) (amount : ℕ) (one other : Choice) → length lots ≡ 1 → given one lots ≡ amount → given other lots ≡ amount
    → AllByRecursion (λ (lot : LotKey × ℤ). one lot.0 ≡ other lot.0) lots
alone [] amount one other single a b = tt
alone (lot ∷ []) amount one other single a b = (omega (arith, a, b), tt)
alone (lot ∷ second ∷ lots) amount one other single a b = absurd (omega (arith, single))

both_whole : (lots : List (LotKey × ℤ)) (one other : Choice) → AllByRecursion (IsWhole one) lots → AllByRecursion (IsWhole other) lots
    → AllByRecursion (λ (lot : LotKey × ℤ). one lot.0 ≡ other lot.0) lots
both_whole [] one other a b = tt
both_whole (lot ∷ lots) one other a b = (a.0 ∙ sym b.0, both_whole lots one other a.1 b.1)

pub one_strict : (lots : List (LotKey × ℤ)) (amount : ℕ) (one other : Choice) → IsChoice OneOrWhole lots amount one → IsChoice OneOrWhole lots amount other
    → AllByRecursion (λ (lot : LotKey × ℤ). one lot.0 ≡ other lot.0) lots
one_strict lots amount one other a b =
    elim a.allowed [
      | inl single ↦ alone lots amount one other single a.sum b.sum
      | inr whole ↦ elim b.allowed [
        | inl single ↦ alone lots amount one other single a.sum b.sum
        | inr too ↦ both_whole lots one other whole too
      ]
    ]

-- ---- in turn

-- two keys are one, or one of them is before the other
keys_in_order : (before : LotKey → LotKey → Bool) → IsOrder before → (a b : LotKey) → (a ≡ b) ⊎ ((before a b ≡ true) ⊎ (before b a ≡ true))
keys_in_order before order a b =
    elim (cases_Bool (is_eq (lot_cmp a b))) [
      | inl same ↦ inl (exact_lots a b ((Equal-is (lot_cmp a b)).0 same))
      | inr differ ↦ inr (or_cases (before a b) (before b a) (order.total a b
          (λ same. true≢false (sym (ap is_eq (tied_itself lots_total a)) ∙ ap (λ k. is_eq (lot_cmp a k)) same ∙ differ))))
    ]

module _ (before : LotKey → LotKey → Bool) (order : IsOrder before) (lots : List (LotKey × ℤ)) (amount : ℕ) where
  within_lot : (choice : Choice) → IsChoice (InTurn before) lots amount choice → (lot : LotKey × ℤ) → Contains lots lot → choice lot.0 ≤ unsigned_abs lot.1
  within_lot choice is lot member = at_member (λ (lot : LotKey × ℤ). choice lot.0 ≤ unsigned_abs lot.1) lots lot is.within member

  whole_before : (choice : Choice) → IsChoice (InTurn before) lots amount choice → (lot : LotKey × ℤ) → Contains lots lot → (earlier : LotKey × ℤ) → Contains lots earlier
      → before earlier.0 lot.0 ≡ true → 1 ≤ choice lot.0 → choice earlier.0 ≡ unsigned_abs earlier.1
  whole_before choice is lot member earlier member' =
      at_member (λ (earlier : LotKey × ℤ). before earlier.0 lot.0 ≡ true → 1 ≤ choice lot.0 → IsWhole choice earlier) lots earlier
      (at_member (λ (lot : LotKey × ℤ). AllByRecursion (λ (earlier : LotKey × ℤ). before earlier.0 lot.0 ≡ true → 1 ≤ choice lot.0 → IsWhole choice earlier) lots) lots lot is.allowed member)
      member'

  -- where a choice gives less to a lot than the other does, it gives no lot more
  nowhere_more : (one other : Choice) → IsChoice (InTurn before) lots amount one → IsChoice (InTurn before) lots amount other
      → (lot : LotKey × ℤ) → Contains lots lot → one lot.0 < other lot.0 → (another : LotKey × ℤ) → Contains lots another → one another.0 ≤ other another.0
  nowhere_more one other a b lot member less another member' =
      elim (keys_in_order before order another.0 lot.0) [
        | inl same ↦ rw same (omega (arith, less))
        | inr (inl earlier) ↦
            let whole = whole_before other b lot member another member' earlier (omega (arith, less)) in
            omega (arith, whole, within_lot one a another member')
        | inr (inr later) ↦ elim (cases_order (one another.0) 0) [
          | inl none ↦ omega (arith, none)
          | inr (inl below) ↦ absurd (omega (arith, below))
          | inr (inr some) ↦
              let whole = whole_before one a another member' lot member later (omega (arith, some)) in
              absurd (omega (arith, whole, within_lot other b lot member, less))
        ]
      ]

  nowhere_less : (one other : Choice) → IsChoice (InTurn before) lots amount one → IsChoice (InTurn before) lots amount other
      → (lot : LotKey × ℤ) → Contains lots lot → one lot.0 < other lot.0 → ⊥
  nowhere_less one other a b lot member less =
      let no_more = each_member (λ (another : LotKey × ℤ). one another.0 ≤ other another.0) lots (nowhere_more one other a b lot member less) in
      let same = at_member (λ (another : LotKey × ℤ). one another.0 ≡ other another.0) lots lot
      (same_terms (λ (another : LotKey × ℤ). one another.0) (λ (another : LotKey × ℤ). other another.0) lots no_more (a.sum ∙ sym b.sum)) member in
      omega (arith, same, less)

  pub one_in_turn : (one other : Choice) → IsChoice (InTurn before) lots amount one → IsChoice (InTurn before) lots amount other
      → AllByRecursion (λ (lot : LotKey × ℤ). one lot.0 ≡ other lot.0) lots
  one_in_turn one other a b = each_member (λ (lot : LotKey × ℤ). one lot.0 ≡ other lot.0) lots
      (λ lot member. elim (cases_order (one lot.0) (other lot.0)) [
        | inl same ↦ same
        | inr (inl less) ↦ absurd (nowhere_less one other a b lot member less)
        | inr (inr more) ↦ absurd (nowhere_less other one b a lot member more)
      ])
