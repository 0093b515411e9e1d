-- One part of a line that is outside its rule.
use Rattle.std.specs.Prelude.{◌≡◌}
use Rattle.lot_read.specs.declared.fault.ValueFault.{ValueFault}
use Rattle.lot_read.specs.Meaning.{Item, IsInside, fault_of}

-- nothing is meant by the part, and that is its fault
pub record IsOutside (item : Item) (fault : ValueFault) : Type 0 where
  pub outside : IsInside item → ⊥
  pub which : fault ≡ fault_of item
