-- What units take of the lots that a specification names, and when they take none.
use Rattle.std.specs.Prelude.{◌≡◌, ◌≢◌, ℕ, ◌≤◌, Bool, true, List, [], ◌∷◌, length, filter, ℤ, unsigned_abs}
use Rattle.std.specs.List.{AllByRecursion}
use Rattle.std.proofs.Common.{inl, inr, refl, sym, ◌∙◌, arith}
use Rattle.std.proofs.lemmas.List.Elements.{filter_passes, recursion_from_All}
use Rattle.lot_cost.specs.declared.lot_key.LotKey.{LotKey}
use Rattle.lot_inv.specs.Inventory.{held_in}
use Rattle.lot_booking.specs.Choice.{Choice, HasNoChoice, InTurn, IsChoice, OneOrWhole, Takes}
use Rattle.lot_booking.specs.Order.{oldest_first}
use Rattle.lot_booking.proofs.ChoiceLemmas.{given-from_whole, whole-from_given}

-- ---- what STRICT takes

-- several lots that don't hold the amount have no choice
pub none_of_several : (lots : List (LotKey × ℤ)) (amount : ℕ) → 2 ≤ length lots → held_in lots ≢ amount → HasNoChoice OneOrWhole lots amount
none_of_several lots amount several differ choice is = elim is.allowed [
  | inl one ↦ absurd (omega arith)
  | inr all ↦ differ (sym (given-from_whole choice lots all) ∙ is.sum)
]

one_or_whole : (lots : List (LotKey × ℤ)) (amount : ℕ) (choice : Choice) → (2 ≤ length lots → held_in lots ≡ amount)
    → IsChoice (InTurn oldest_first) lots amount choice → OneOrWhole lots choice
one_or_whole [] amount choice exact is = inr tt
one_or_whole (lot ∷ []) amount choice exact is = inl refl
one_or_whole (lot ∷ next ∷ lots) amount choice exact is =
    inr (whole-from_given choice (lot ∷ next ∷ lots) is.within (is.sum ∙ sym (exact (omega arith))))

-- a choice in turn is one under STRICT where there is one lot, or where the lots hold exactly the amount
pub taken_strictly : (lots : List (LotKey × ℤ)) (units : ℤ) (legs : List (LotKey × ℤ)) → (2 ≤ length lots → held_in lots ≡ unsigned_abs units)
    → Takes (InTurn oldest_first) oldest_first lots units legs → Takes OneOrWhole oldest_first lots units legs
taken_strictly lots units legs exact takes = record {
  choice = takes.choice;
  is = record { within = takes.is.within; sum = takes.is.sum; allowed = one_or_whole lots (unsigned_abs units) takes.choice exact takes.is };
  listed = takes.listed;
  same = takes.same;
  order = takes.order;
  chosen = takes.chosen;
}

-- ---- the lots that may be taken

pub each_passes : (test : LotKey × ℤ → Bool) (lots : List (LotKey × ℤ)) → AllByRecursion (λ (lot : LotKey × ℤ). test lot ≡ true) (filter test lots)
each_passes test lots = recursion_from_All _ (filter test lots) (filter_passes test lots)
