-- Sums of what two books gained and hold, and where they differ.
use Rattle.std.specs.Prelude.{◌≡◌, Bool, if◌then◌else◌, List, [], ◌++◌, map, filter, not, None, Some, ℤ, pos, ◌+ℤ◌}
use Rattle.std.specs.declared.cmp.Ordering.{Ordering}
use Rattle.std.specs.List.Sorted.{IsStrictlySortedBy}
use Rattle.std.specs.Map.{keys_of, lookup}
use Rattle.std.specs.Option.{unwrap_or}
use Rattle.std.specs.Ordering.{int_eq, is_eq, ordering_then}
use Rattle.lot_num.specs.Sum.{sum_of}
use Rattle.lot_base.specs.Text.{text_cmp}
use Rattle.lot_compare.specs.declared.subject.Subject.{Subject}
use Rattle.lot_compare.specs.declared.sums.Side.{Side}
use Rattle.lot_compare.specs.declared.sums.Side.TheVariants.{New, Old}
use Rattle.lot_compare.specs.declared.sums.Sides.{Sides}

-- the order of subjects: by the bytes of the year or the account, then by those of the commodity
abbrev pub subject_cmp : Subject → Subject → Ordering
subject_cmp s t = ordering_then (text_cmp s.what t.what) (text_cmp s.commodity t.commodity)

abbrev pub same_subject : Subject → Subject → Bool
same_subject s t = is_eq (subject_cmp s t)

-- ---- the amounts of two books

-- an amount beside what it is of
abbrev pub Amount : Type 0
Amount = Subject × ℤ

-- what the amounts of a subject sum to
abbrev pub sum_at : List Amount → Subject → ℤ
sum_at amounts subject = sum_of (map (λ (amount : Amount). amount.1) (filter (λ (amount : Amount). same_subject subject amount.0) amounts))

-- the amounts of two books
pub record Amounts : Type 0 where
  pub new : List Amount
  pub old : List Amount

abbrev pub no_amounts : Amounts
no_amounts = record { new = []; old = [] }

-- the same with further amounts of one book
abbrev pub with_more : Side → Amounts → List Amount → Amounts
with_more New amounts more = record { new = amounts.new ++ more; old = amounts.old }
with_more Old amounts more = record { new = amounts.new; old = amounts.old ++ more }

-- ---- their sums

-- what both come to in a subject; where a book has no amount, that is zero
abbrev pub sides_at : Amounts → Subject → Sides
sides_at amounts subject = record { new = sum_at amounts.new subject; old = sum_at amounts.old subject }

abbrev pub sum_on : Side → Sides → ℤ
sum_on New sides = sides.new
sum_on Old sides = sides.old

abbrev pub plus : Side → Sides → ℤ → Sides
plus New sides amount = record { new = sides.new +ℤ amount; old = sides.old }
plus Old sides amount = record { new = sides.new; old = sides.old +ℤ amount }

-- what is kept of a subject
abbrev pub sides_in : List (Subject × Sides) → Subject → Sides
sides_in sums subject = unwrap_or (lookup (same_subject subject) sums) (record { new = pos 0; old = pos 0 })

-- the sums of amounts, each subject once, in the order of subjects
pub record AreSums (amounts : Amounts) (sums : List (Subject × Sides)) : Type 0 where
  pub in_order : IsStrictlySortedBy subject_cmp (keys_of sums)
  pub each : (subject : Subject) → sides_in sums subject ≡ sides_at amounts subject

-- further amounts of one book are in the sums
abbrev pub AddsAmounts : Side → List Amount → List (Subject × Sides) → List (Subject × Sides) → Type 0
AddsAmounts side more before after = (amounts : Amounts) → AreSums amounts before → AreSums (with_more side amounts more) after

-- ---- where they differ

-- whether both come to the same
abbrev pub are_same : Sides → Bool
are_same sides = int_eq sides.new sides.old

-- These are the subjects in which two books differ, each once with both sums, in the order of subjects, and no other.
pub record AreDifferences (amounts : Amounts) (found : List (Subject × Sides)) : Type 0 where
  pub in_order : IsStrictlySortedBy subject_cmp (keys_of found)
  pub each : (subject : Subject) → lookup (same_subject subject) found
      ≡ (if are_same (sides_at amounts subject) then None else Some (sides_at amounts subject))

-- those of some sums
abbrev pub differing : List (Subject × Sides) → List (Subject × Sides)
differing sums = filter (λ (sum : Subject × Sides). not (are_same sum.1)) sums
