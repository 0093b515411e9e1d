use Rattle.std.specs.List.Sorted.{IsPermutation}
use Rattle.std.proofs.Common.{subst}
use Rattle.lot_noted.proofs.keys.LegKeys.into_sorted.Goals as goal

pub returns : goal.returns
returns c asked legs taken = record {
  same = subst (λ keys. IsPermutation keys c.sort_unstable.new.self.items) taken.1 c.sort_unstable.ensures.permutation;
  sorted = c.sort_unstable.ensures.sorted;
}
