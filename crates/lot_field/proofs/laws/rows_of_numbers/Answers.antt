-- By their digits.
use Rattle.std.proofs.Common.{◌≡◌, refl, lit<, lit≤, arith}
use Rattle.lot_field.proofs.laws.rows_of_numbers.Goals as goal

pub returns-clause-groups : goal.returns-clause-groups
returns-clause-groups c = record {
  mantissa = 123450000000;
  is_magnitude = refl;
  reads = record { nearest = record { near = lit≤ tt; even = λ half. refl }; exactly = refl };
  in_range = lit< tt;
  units = refl;
}

pub returns-clause-parentheses : goal.returns-clause-parentheses
returns-clause-parentheses c = record {
  mantissa = 520000000;
  is_magnitude = refl;
  reads = record { nearest = record { near = lit≤ tt; even = λ half. refl }; exactly = refl };
  in_range = lit< tt;
  units = refl;
}

pub returns-clause-longest : goal.returns-clause-longest
returns-clause-longest c = record {
  mantissa = 500000000;
  is_magnitude = refl;
  reads = record { nearest = record { near = lit≤ tt; even = λ half. refl }; exactly = refl };
  in_range = lit< tt;
  units = refl;
}

pub returns-clause-rounded : goal.returns-clause-rounded
returns-clause-rounded c = record {
  mantissa = 2;
  is_magnitude = refl;
  reads = record { nearest = record { near = lit≤ tt; even = λ half. refl }; exactly = λ same. let no : 1500000000 ≡ 2000000000 = same in absurd (omega arith) };
  in_range = lit< tt;
  units = refl;
}
