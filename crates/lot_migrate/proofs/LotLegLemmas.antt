-- What is said of lots by the legs at lots alone: sums, opening numbers, and their rows.
use Rattle.std.specs.Prelude.{◌≡◌, ℕ, suc, ◌&&◌, Bool, true, false, cond, List, [], ◌∷◌, ◌++◌, filter, map, take, Option, None, Some, is_some, IsSome, ℤ, pos}
use Rattle.std.specs.Option.{option_map, option_or}
use Rattle.std.specs.Ordering.{int_eq}
use Rattle.std.proofs.Common.{refl, sym, ap, ap₂, ◌∙◌}
use Rattle.std.proofs.lemmas.List.{append-nil}
use Rattle.std.proofs.lemmas.List.Elements.{All-weaker, filter-append}
use Rattle.sqlite_keyed.proofs.ListLemmas.{filter-filter}
use Rattle.lot_num.specs.Sum.{sum_of}
use Rattle.lot_book.specs.Leg.{same_position, sum_at}
use Rattle.lot_book.specs.OpeningNumber.{HasOpeningNumber, does_open, last_to_open, opening_number, posting_number}
use Rattle.lot_book.specs.declared.leg.Leg.{Leg}
use Rattle.lot_book.specs.declared.leg.Position.{Position}
use Rattle.lot_book.proofs.CaseLemmas.{by_bool}
use Rattle.lot_book.proofs.OrderLemmas.{one_position}
use Rattle.lot_laws.proofs.OpeningLemmas.{number_has, number_is}
use Rattle.lot_migrate.specs.LotOpenings.{ListsOpenings, lot_of}
use Rattle.lot_migrate.specs.declared.opening_numbers.LotOpening.{LotOpening}
use Rattle.lot_migrate.specs.Rows.{at_lots, is_at_lot}

-- ---- one lot

module _ (lot : Position) (is_lot : IsSome lot.lot) where
  at_one : (leg : Leg) → same_position lot leg.position ≡ true → is_at_lot leg ≡ true
  at_one leg same = ap (λ (p : Position). is_some p.lot) (sym (one_position lot leg.position same)) ∙ is_lot

  pub sum_at_lots : (legs : List Leg) → sum_at (at_lots legs) lot ≡ sum_at legs lot
  sum_at_lots legs =
      ap (λ (ls : List Leg). sum_of (map (λ (l : Leg). l.units) ls))
      (filter-filter (λ (l : Leg). same_position lot l.position) is_at_lot at_one legs)

  plain_opens_not : (before : List Leg) (leg : Leg) → is_at_lot leg ≡ false → does_open lot before leg ≡ false
  plain_opens_not before leg plain =
      by_bool (same_position lot leg.position)
      (λ same. let no : true ≡ false = sym (at_one leg same) ∙ plain in absurd cc)
      (λ apart. ap (λ b. b && int_eq (sum_at before lot) (pos 0)) apart)

  -- the last leg to open it, and the leg where it opens it
  abbrev or_own : Option Leg → Bool → Leg → Option Leg
  or_own last opens leg = option_or last (cond opens (Some leg) None)

  last_at_lots : (before legs : List Leg) → last_to_open lot (at_lots before) (at_lots legs) ≡ last_to_open lot before legs
  last_at_lots before [] = refl
  last_at_lots before (leg ∷ legs) = by (is_at_lot leg) refl (last_at_lots (before ++ leg ∷ []) legs)
    where
      more : (b : Bool) → is_at_lot leg ≡ b → at_lots (before ++ leg ∷ []) ≡ at_lots before ++ cond b (leg ∷ []) []
      more b is = filter-append is_at_lot before (leg ∷ []) ∙ ap (λ c. at_lots before ++ cond c (leg ∷ []) []) is

      by : (b : Bool) → is_at_lot leg ≡ b
          → last_to_open lot (at_lots (before ++ leg ∷ [])) (at_lots legs) ≡ last_to_open lot (before ++ leg ∷ []) legs
          → last_to_open lot (at_lots before) (cond b (leg ∷ at_lots legs) (at_lots legs)) ≡ last_to_open lot before (leg ∷ legs)
      by true is rest =
          ap₂ (λ (o : Option Leg) (c : Bool). or_own o c leg)
          (ap (λ (ls : List Leg). last_to_open lot ls (at_lots legs)) (sym (more true is)) ∙ rest)
          (ap (λ (z : ℤ). same_position lot leg.position && int_eq z (pos 0)) (sum_at_lots before))
      by false plain rest =
          ap (λ (ls : List Leg). last_to_open lot ls (at_lots legs)) (sym (append-nil (at_lots before)) ∙ sym (more false plain))
          ∙ rest
          ∙ none_more (last_to_open lot (before ++ leg ∷ []) legs)
          ∙ ap (λ c. or_own (last_to_open lot (before ++ leg ∷ []) legs) c leg) (sym (plain_opens_not before leg plain))
        where
          none_more : (o : Option Leg) → o ≡ option_or o None
          none_more None = refl
          none_more (Some x) = refl

  -- what is left of a sum and the last opening
  abbrev numbered_by : ℤ → Option Leg → Option ℕ
  numbered_by sum last = cond (int_eq sum (pos 0)) None (option_map posting_number last)

  pub number_at_lots : (legs : List Leg) → opening_number (at_lots legs) lot ≡ opening_number legs lot
  number_at_lots legs = ap₂ numbered_by (sum_at_lots legs) (last_at_lots [] legs)

-- ---- rows

-- legs that are the same at lots have the same openings
pub same_openings : (legs others : List Leg) (rows : List LotOpening) → at_lots legs ≡ at_lots others → ListsOpenings legs rows
    → ListsOpenings others rows
same_openings legs others rows same lists = record {
  numbers =
      All-weaker (λ (row : LotOpening). HasOpeningNumber legs (lot_of row) row.opening)
      (λ (row : LotOpening). HasOpeningNumber others (lot_of row) row.opening)
      (λ row has. number_has others (lot_of row) row.opening
      (sym (number_at_lots (lot_of row) refl others)
      ∙ ap (λ (ls : List Leg). opening_number ls (lot_of row)) (sym same)
      ∙ number_at_lots (lot_of row) refl legs
      ∙ number_is legs (lot_of row) row.opening has)) rows lists.numbers;
  every_lot = λ lot is_lot some. lists.every_lot lot is_lot (λ none. some
      (sym (sum_at_lots lot is_lot others)
      ∙ ap (λ (ls : List Leg). sum_at ls lot) (sym same)
      ∙ sum_at_lots lot is_lot legs
      ∙ none));
  in_order = lists.in_order;
}

-- ---- the first of them

abbrev pub AreFirstPassing : {X : Type 0} → (X → Bool) → List X → List X → Type 0
AreFirstPassing p all xs = (count : ℕ) × (filter p (take count all) ≡ xs)

-- the first elements that pass a test are those of some first elements
pub first_passing : {X : Type 0} (p : X → Bool) (all xs ys : List X) → filter p all ≡ xs ++ ys → AreFirstPassing p all xs
first_passing p all [] ys is = (0, refl)
first_passing p [] (x ∷ xs) ys is = absurd cc
first_passing {X} p (a ∷ all) (x ∷ xs) ys is =
    by (p a) refl is (first_passing p all xs ys) (first_passing p all (x ∷ xs) ys)
  where
    by : (b : Bool) → p a ≡ b → cond b (a ∷ filter p all) (filter p all) ≡ x ∷ xs ++ ys
        → (filter p all ≡ xs ++ ys → AreFirstPassing p all xs) → (filter p all ≡ x ∷ xs ++ ys → AreFirstPassing p all (x ∷ xs))
        → AreFirstPassing p (a ∷ all) (x ∷ xs)
    by true passes e with_it without =
        let first : a ≡ x = cc in
        let rest : filter p all ≡ xs ++ ys = cc in
        let more = with_it rest in (
          suc more.0,
          ap (λ b. cond b (a ∷ filter p (take more.0 all)) (filter p (take more.0 all))) passes
              ∙ (λ i. first i ∷ more.1 i),
        )
    by false fails e with_it without =
        let more = without e in (
          suc more.0,
          ap (λ b. cond b (a ∷ filter p (take more.0 all)) (filter p (take more.0 all))) fails ∙ more.1,
        )
