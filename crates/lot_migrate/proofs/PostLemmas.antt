-- The legs of a page are posted, one after another.
use Rattle.std.proofs.Common.{◌≡◌, ◌∙◌, ◌++◌, List, [], ◌∷◌, map, refl, sym, ap, subst}
use Rattle.std.proofs.lemmas.List.{append_assoc, map-append}
use Rattle.sqlite.specs.Order.{Row}
use Rattle.lot_book.specs.OpeningNumber.{IsNumbered}
use Rattle.lot_book.specs.declared.leg.Leg.{Leg}
use Rattle.lot_migrate.specs.LotOpenings.{Keeps, LeavesRange}
use Rattle.lot_migrate.specs.declared.opening_numbers.OpenLots.{OpenLots}
use Rattle.lot_rows.specs.Leg.{IsLegRow, leg_cells}
use Rattle.lot_rows.specs.declared.leg.LegRow.{LegRow}
use Rattle.std.proofs.lemmas.List.Elements.{recursion_from_All}
use Rattle.lot_migrate.specs.Read.{AreLegs, LotsStayInRange}
use Rattle.lot_migrate.specs.Rows.{leg_of}
use Rattle.lot_migrate.proofs.FoldLemmas.{Posts}
use Rattle.lot_migrate.proofs.RowLemmas.{first_legs, last_legs, legs_both, no_legs, one_of, parts_of, same_legs}

-- the leg of a row is posted
abbrev pub PostsOne : Row → OpenLots → OpenLots → Type 0
PostsOne row lots after =
    (leg : LegRow) × (row ≡ leg_cells leg) × IsLegRow leg × IsNumbered (leg_of leg)
    × ((before : List Leg) → Keeps before lots → Keeps (before ++ leg_of leg ∷ []) after)

pub posts_none : (lots : OpenLots) → Posts [] lots lots
posts_none lots = (
  [],
  refl,
  no_legs,
  λ before keeps. subst (λ (l : List Leg). Keeps l lots) (sym (nil before)) keeps,
)
  where
    nil : {X : Type 0} (xs : List X) → xs ++ [] ≡ xs
    nil [] = refl
    nil (x ∷ xs) = ap (λ l. x ∷ l) (nil xs)

pub posts_more : (done : List Row) (row : Row) (lots mid after : OpenLots) → Posts done lots mid → PostsOne row mid after
    → Posts (done ++ row ∷ []) lots after
posts_more done row lots mid after first one = (
  first.0 ++ one.0 ∷ [],
  ap (λ l. l ++ row ∷ []) first.1 ∙ ap (λ r. map leg_cells first.0 ++ r ∷ []) one.1 ∙ sym (map-append leg_cells first.0 (one.0 ∷ [])),
  legs_both first.0 (one.0 ∷ []) first.2 (one_of one.0 one.2 one.3),
  λ before keeps.
      subst (λ (l : List Leg). Keeps l after)
      (append_assoc before (map leg_of first.0) (leg_of one.0 ∷ [])
      ∙ ap (λ l. before ++ l) (sym (map-append leg_of first.0 (one.0 ∷ []))))
      (one.4 (before ++ map leg_of first.0) (first.3 before keeps)),
)

-- a leg leaves the range of its lot, so not all stay in range
pub posts_damaged : (done others : List Row) (row : Row) (lots mid : OpenLots) → Posts done lots mid
    → ((before : List Leg) → Keeps before mid → (leg : LegRow) → IsLegRow leg → IsNumbered (leg_of leg) → row ≡ leg_cells leg
    → LeavesRange before (leg_of leg))
    → (before : List Leg) → Keeps before lots → (rows : List LegRow) → AreLegs rows → done ++ row ∷ others ≡ map leg_cells rows
    → ¬ LotsStayInRange (before ++ map leg_of rows)
posts_damaged done others row lots mid first damaged before keeps rows legs is in_range =
    let p = parts_of done (row ∷ others) rows is in by p.first p.rest p.split p.of_given p.of_others
  where
    by : (f rest : List LegRow) → rows ≡ f ++ rest → done ≡ map leg_cells f → row ∷ others ≡ map leg_cells rest → ⊥
    by f [] split given other = absurd cc
    by f (leg ∷ rest) split given other =
        let all = subst AreLegs split legs in
        let same : first.0 ≡ f = same_legs first.0 f first.2 (first_legs f (leg ∷ rest) all) (sym first.1 ∙ given) in
        let these = last_legs f (leg ∷ rest) all in
        let head : row ≡ leg_cells leg = cc in
        let so_far = before ++ map leg_of first.0 in
        let leaves =
        damaged so_far (first.3 before keeps) leg (recursion_from_All IsLegRow (leg ∷ rest) these.good).0
        (recursion_from_All IsNumbered (map leg_of (leg ∷ rest)) these.numbered).0 head in
        let whole : before ++ map leg_of rows ≡ (so_far ++ leg_of leg ∷ []) ++ map leg_of rest =
        ap (λ l. before ++ map leg_of l) (split ∙ ap (λ l. l ++ leg ∷ rest) (sym same))
        ∙ ap (λ l. before ++ l) (map-append leg_of first.0 (leg ∷ rest))
        ∙ sym (append_assoc before (map leg_of first.0) (leg_of leg ∷ map leg_of rest))
        ∙ sym (append_assoc so_far (leg_of leg ∷ []) (map leg_of rest)) in
        leaves.1 (in_range (so_far ++ leg_of leg ∷ []) (map leg_of rest) whole (leg_of leg).position leaves.0)
