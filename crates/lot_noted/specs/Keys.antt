-- The keys by which the legs of a register are put into their order, and read again.
use Rattle.std.specs.Prelude.{◌≡◌, ℕ, ℤ, List, filter, map}
use Rattle.std.specs.List.Sorted.{IsPermutation, IsSorted}
use Rattle.std.specs.Ordering.{int_cmp, nat_cmp, ordering_then}
use Rattle.std.specs.declared.cmp.Ordering.{Ordering}
use Rattle.lot_legs.specs.declared.leg.DatedLeg.{DatedLeg}
use Rattle.lot_register.specs.declared.leg.NotedLeg.{NotedLeg}
use Rattle.lot_noted.specs.Book.{Asked, asked_in, has}
use Rattle.lot_noted.specs.declared.key.LegKey.{LegKey}
use Rattle.lot_noted.specs.declared.keys.LegKeys.{LegKeys}

abbrev pub key_in : DatedLeg → LegKey
key_in leg = record { day = leg.day; entry = leg.entry; posting = leg.posting; place = leg.place }

abbrev pub key_of : NotedLeg → LegKey
key_of leg = record { day = leg.day; entry = leg.entry; posting = leg.posting; place = leg.place }

-- by day, entry, posting and place
abbrev pub key_cmp : LegKey → LegKey → Ordering
key_cmp a b =
    ordering_then (int_cmp a.day b.day)
    (ordering_then (nat_cmp a.entry b.entry) (ordering_then (nat_cmp a.posting b.posting) (nat_cmp a.place b.place)))

-- the keys of the legs that are asked for, in the order of the legs
abbrev pub asked_keys : Asked → List DatedLeg → List LegKey
asked_keys asked legs = map key_in (filter (λ (leg : DatedLeg). has asked leg.account leg.commodity leg.day) legs)

-- the same keys, put into their own order
pub record AreInOrder (asked : Asked) (legs : List DatedLeg) (keys : List LegKey) : Type 0 where
  pub same : IsPermutation (asked_keys asked legs) keys
  pub sorted : IsSorted key_cmp keys

-- these legs were taken, and no other
abbrev pub HasTaken : Asked → List DatedLeg → LegKeys → Type 0
HasTaken asked legs keys = (asked_in keys.scope.now ≡ asked) × (keys.keys.items ≡ asked_keys asked legs)
