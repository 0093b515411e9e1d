-- The lots that come first in an order, for the contracts of private functions.
use Rattle.std.specs.Prelude.{◌≡◌, Bool, false, List, [], ◌∷◌, ◌++◌, IsPermutation, ⊤}
use Rattle.std.specs.List.{AllByRecursion}
use Rattle.lot_inv.specs.declared.lot.Lot.{Lot}
use Rattle.lot_booking.specs.OpeningOrder.{OpenedLot}

-- an order of lots as a sort asks it
abbrev pub is_earlier : (OpenedLot → OpenedLot → Bool) → Lot → Lot → Bool
is_earlier before a b = before (a.key, a.opening) (b.key, b.opening)

-- no lot is earlier than one that stands before it
abbrev pub AreAscending : (Lot → Lot → Bool) → List Lot → Type 0
AreAscending earlier [] = ⊤
AreAscending earlier (lot ∷ lots) = AllByRecursion (λ (later : Lot). earlier later lot ≡ false) lots × AreAscending earlier lots

-- the others, once they are sorted, go on where these end
abbrev pub Lead : (Lot → Lot → Bool) → List Lot → List Lot → Type 0
Lead earlier front others =
    (sorted : List Lot) → IsPermutation others sorted → AreAscending earlier sorted → AreAscending earlier (front ++ sorted)

-- some lots come first of all: none of the others is earlier than one of them
pub record ComeFirstOf (earlier : Lot → Lot → Bool) (all lots : List Lot) : Type 0 where
  pub others : List Lot
  pub same : IsPermutation all (lots ++ others)
  pub first : AllByRecursion (λ (lot : Lot).
      AllByRecursion (λ (other : Lot). earlier other lot ≡ false) others) lots

-- the front begins a sorted list of all lots
pub record IsFrontOf (earlier : Lot → Lot → Bool) (lots front : List Lot) : Type 0 where
  pub others : List Lot
  pub same : IsPermutation lots (front ++ others)
  pub sorted : AreAscending earlier (front ++ others)
