-- Orders by several parts: where two values tie, their parts do.
use Rattle.std.specs.Prelude.{◌≡◌, None, Some}
use Rattle.std.specs.declared.cmp.Ordering.{Ordering}
use Rattle.std.specs.declared.cmp.Ordering.TheVariants.{Less, Equal, Greater}
use Rattle.std.specs.Option.{option_cmp}
use Rattle.std.specs.Ordering.{ordering_then}
use Rattle.std.proofs.Common.{refl, ap}
use Rattle.std.proofs.lemmas.Map.Lookups.{CmpEqualImpliesEq}

pub equal_parts : (a b : Ordering) → ordering_then a b ≡ Equal → (a ≡ Equal) × (b ≡ Equal)
equal_parts Less b e = cc
equal_parts Equal b e = (refl, e)
equal_parts Greater b e = cc

-- an order in which only equal values tie has only equal options tie
pub exact_options : {K : Type 0} (order : K → K → Ordering) → CmpEqualImpliesEq order → CmpEqualImpliesEq (option_cmp order)
exact_options order exact None None e = refl
exact_options order exact None (Some b) e = cc
exact_options order exact (Some a) None e = cc
exact_options order exact (Some a) (Some b) e = ap Some (exact a b e)
