-- Rows of legs, and their columns.
use Rattle.std.proofs.Common.{◌≡◌, ◌∙◌, ◌-◌, ℕ, suc, arith, ◌++◌, All, List, [], ◌∷◌, None, Option, Some, length, map, slice_get, refl, sym, ap, ap₂, subst}
use Rattle.std.proofs.lemmas.List.Elements.{All-from_recursion, recursion_from_All}
use Rattle.std.proofs.lemmas.List.{map-append}
use Rattle.std.specs.List.{AllByRecursion}
use Rattle.sqlite.specs.Order.{Row}
use Rattle.sqlite_keyed.proofs.ListLemmas.{all-append}
use Rattle.lot_book.specs.OpeningNumber.{IsNumbered}
use Rattle.lot_rows.specs.Leg.{IsLegRow, leg_cells}
use Rattle.lot_cost.specs.declared.lot_key.LotKey.{LotKey}
use Rattle.lot_rows.specs.LotKey.{IsLotOrPlain, cost_currency, cost_day, cost_label, cost_number}
use Rattle.lot_table.specs.Cell.{label_text}
use Rattle.lot_stored.proofs.KeyLemmas.{one_label}
use Rattle.lot_rows.specs.declared.leg.LegRow.{LegRow}
use Rattle.lot_migrate.specs.Read.{AreLegs}
use Rattle.lot_migrate.specs.Rows.{leg_of}

-- ---- columns tell the row

one_lot : (a b : Option LotKey) → IsLotOrPlain a → IsLotOrPlain b → cost_number a ≡ cost_number b → cost_currency a ≡ cost_currency b
    → cost_day a ≡ cost_day b → cost_label a ≡ cost_label b → a ≡ b
one_lot None None p q n c d t = refl
one_lot None (Some lot) p q n c d t = absurd cc
one_lot (Some lot) None p q n c d t = absurd cc
one_lot (Some lot) (Some other) p q n c d t =
    let number : lot.number ≡ other.number = cc in
    let currency : lot.currency ≡ other.currency = cc in
    let day : lot.day ≡ other.day = cc in
    let text : label_text lot.label ≡ label_text other.label = cc in
    let label = one_label lot.label other.label p.label q.label text in
    λ i. Some (record { day = day i; currency = currency i; number = number i; label = label i })

pub one_leg : (a b : LegRow) → IsLegRow a → IsLegRow b → leg_cells a ≡ leg_cells b → a ≡ b
one_leg a b p q same =
    let entry : a.entry ≡ b.entry = cc in
    let posting : a.posting ≡ b.posting = cc in
    let place : a.place ≡ b.place = cc in
    let account : a.account ≡ b.account = cc in
    let commodity : a.commodity ≡ b.commodity = cc in
    let units : a.units ≡ b.units = cc in
    let number : cost_number a.lot ≡ cost_number b.lot = cc in
    let currency : cost_currency a.lot ≡ cost_currency b.lot = cc in
    let day : cost_day a.lot ≡ cost_day b.lot = cc in
    let label : cost_label a.lot ≡ cost_label b.lot = cc in
    let lot = one_lot a.lot b.lot p.lot q.lot number currency day label in
    λ i. record {
      entry = entry i;
      posting = posting i;
      place = place i;
      account = account i;
      commodity = commodity i;
      units = units i;
      lot = lot i;
    }

same_rows : (xs ys : List LegRow) → AllByRecursion IsLegRow xs → AllByRecursion IsLegRow ys → map leg_cells xs ≡ map leg_cells ys → xs ≡ ys
same_rows [] [] p q same = refl
same_rows [] (y ∷ ys) p q same = absurd cc
same_rows (x ∷ xs) [] p q same = absurd cc
same_rows (x ∷ xs) (y ∷ ys) p q same =
    let head : leg_cells x ≡ leg_cells y = cc in
    let tail : map leg_cells xs ≡ map leg_cells ys = cc in
    ap₂ (λ a l. a ∷ l) (one_leg x y p.0 q.0 head) (same_rows xs ys p.1 q.1 tail)

pub same_legs : (xs ys : List LegRow) → AreLegs xs → AreLegs ys → map leg_cells xs ≡ map leg_cells ys → xs ≡ ys
same_legs xs ys p q = same_rows xs ys (recursion_from_All IsLegRow xs p.good) (recursion_from_All IsLegRow ys q.good)

-- ---- legs of a book, and more of them

pub no_legs : AreLegs []
no_legs = record { good = All-from_recursion IsLegRow [] tt; numbered = All-from_recursion IsNumbered [] tt }

pub legs_both : (xs ys : List LegRow) → AreLegs xs → AreLegs ys → AreLegs (xs ++ ys)
legs_both xs ys p q = record {
  good =
      All-from_recursion IsLegRow (xs ++ ys)
      (all-append IsLegRow xs ys (recursion_from_All IsLegRow xs p.good) (recursion_from_All IsLegRow ys q.good));
  numbered =
      All-from_recursion IsNumbered (map leg_of (xs ++ ys))
      (subst (AllByRecursion IsNumbered) (sym (map-append leg_of xs ys))
      (all-append IsNumbered (map leg_of xs) (map leg_of ys) (recursion_from_All IsNumbered (map leg_of xs) p.numbered)
      (recursion_from_All IsNumbered (map leg_of ys) q.numbered)));
}

pub one_of : (leg : LegRow) → IsLegRow leg → IsNumbered (leg_of leg) → AreLegs (leg ∷ [])
one_of leg good numbered = record {
  good = All-from_recursion IsLegRow (leg ∷ []) (good, tt);
  numbered = All-from_recursion IsNumbered (leg_of leg ∷ []) (numbered, tt);
}

all_first : {X : Type 0} (P : X → Type 0) (xs ys : List X) → AllByRecursion P (xs ++ ys) → AllByRecursion P xs
all_first P [] ys all = tt
all_first P (x ∷ xs) ys all = (all.0, all_first P xs ys all.1)

all_last : {X : Type 0} (P : X → Type 0) (xs ys : List X) → AllByRecursion P (xs ++ ys) → AllByRecursion P ys
all_last P [] ys all = all
all_last P (x ∷ xs) ys all = all_last P xs ys all.1

mapped_parts : (xs ys : List LegRow) → AreLegs (xs ++ ys) → AllByRecursion IsNumbered (map leg_of xs ++ map leg_of ys)
mapped_parts xs ys p =
    subst (AllByRecursion IsNumbered) (map-append leg_of xs ys) (recursion_from_All IsNumbered (map leg_of (xs ++ ys)) p.numbered)

pub first_legs : (xs ys : List LegRow) → AreLegs (xs ++ ys) → AreLegs xs
first_legs xs ys p = record {
  good = All-from_recursion IsLegRow xs (all_first IsLegRow xs ys (recursion_from_All IsLegRow (xs ++ ys) p.good));
  numbered = All-from_recursion IsNumbered (map leg_of xs) (all_first IsNumbered (map leg_of xs) (map leg_of ys) (mapped_parts xs ys p));
}

pub last_legs : (xs ys : List LegRow) → AreLegs (xs ++ ys) → AreLegs ys
last_legs xs ys p = record {
  good = All-from_recursion IsLegRow ys (all_last IsLegRow xs ys (recursion_from_All IsLegRow (xs ++ ys) p.good));
  numbered = All-from_recursion IsNumbered (map leg_of ys) (all_last IsNumbered (map leg_of xs) (map leg_of ys) (mapped_parts xs ys p));
}

-- ---- columns of some rows, and of those behind them

pub record Parts (given others : List Row) (rows : List LegRow) : Type 0 where
  pub first : List LegRow
  pub rest : List LegRow
  pub split : rows ≡ first ++ rest
  pub of_given : given ≡ map leg_cells first
  pub of_others : others ≡ map leg_cells rest

pub parts_of : (given others : List Row) (rows : List LegRow) → given ++ others ≡ map leg_cells rows → Parts given others rows
parts_of [] others rows is = record { first = []; rest = rows; split = refl; of_given = refl; of_others = is }
parts_of (g ∷ given) others [] is = absurd cc
parts_of (g ∷ given) others (row ∷ rows) is =
    let head : g ≡ leg_cells row = cc in
    let tail : given ++ others ≡ map leg_cells rows = cc in
    let p = parts_of given others rows tail in
    record {
      first = row ∷ p.first;
      rest = p.rest;
      split = ap (λ l. row ∷ l) p.split;
      of_given = ap₂ (λ x l. x ∷ l) head p.of_given;
      of_others = p.of_others;
    }

-- ---- the last of rows

less : (n : ℕ) → suc n - 1 ≡ n
less n = omega arith

pub last_parts : (page : List Row) (row : Row) → Some row ≡ slice_get page (length page - 1) → (before : List Row) × (page ≡ before ++ row ∷ [])
last_parts [] row is = absurd cc
last_parts (x ∷ []) row is = ([], let same : row ≡ x = cc in ap (λ r. r ∷ []) (sym same))
last_parts (x ∷ y ∷ page) row is =
    let step : Some row ≡ slice_get (y ∷ page) (length page) =
    is ∙ ap (slice_get (x ∷ y ∷ page)) (less (suc (length page))) in
    let more = last_parts (y ∷ page) row (step ∙ ap (slice_get (y ∷ page)) (sym (less (length page)))) in (x ∷ more.0, ap (λ l. x ∷ l) more.1)

-- which is that of one of the rows
pub last_good : (before : List Row) (row : Row) (rows : List LegRow) → All IsLegRow rows → before ++ row ∷ [] ≡ map leg_cells rows
    → (leg : LegRow) × IsLegRow leg × (row ≡ leg_cells leg)
last_good before row rows good is =
    let p = parts_of before (row ∷ []) rows is in
    by p.first p.rest p.of_others (subst (AllByRecursion IsLegRow) p.split (recursion_from_All IsLegRow rows good))
  where
    by : (first rest : List LegRow) → row ∷ [] ≡ map leg_cells rest → AllByRecursion IsLegRow (first ++ rest)
        → (leg : LegRow) × IsLegRow leg × (row ≡ leg_cells leg)
    by first [] other all = absurd cc
    by first (leg ∷ rest) other all =
        let head : row ≡ leg_cells leg = cc in (leg, (all_last IsLegRow first (leg ∷ rest) all).0, head)
