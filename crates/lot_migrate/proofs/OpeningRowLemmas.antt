-- The rows of what is kept of lots.
use Rattle.std.specs.Prelude.{◌≡◌, ◌≢◌, ℕ, true, cond, List, get_or, [], ◌∷◌, map, All, Contains, Option, None, Some, is_some, IsSome, pos}
use Rattle.std.specs.declared.cmp.Ordering.TheVariants.{Less}
use Rattle.std.specs.BTreeMap.{BTreeMap, IsOrdered, get}
use Rattle.std.specs.List.{AllByRecursion, cons_option, filter_map}
use Rattle.std.specs.List.Sorted.{IsStrictlySortedBy}
use Rattle.std.specs.Map.{keys_of, lookup}
use Rattle.std.specs.Option.{option_map}
use Rattle.std.proofs.Common.{refl, sym, ap, subst, ◌∙◌}
use Rattle.std.proofs.lemmas.Bool.{true≢false}
use Rattle.std.proofs.lemmas.List.Elements.{All-cons, All-head, All-nil, All-tail, Contains-append_left, Contains-append_right, Contains-push}
use Rattle.std.proofs.lemmas.Map.Views.{All-found}
use Rattle.lot_cost.specs.declared.lot_key.LotKey.{LotKey}
use Rattle.lot_book.specs.declared.leg.Leg.{Leg}
use Rattle.lot_book.specs.declared.leg.Position.{Position}
use Rattle.lot_book.specs.Leg.{position_cmp, same_position, sum_at}
use Rattle.lot_book.specs.OpeningNumber.{HasOpeningNumber}
use Rattle.lot_book.proofs.CaseLemmas.{by_bool}
use Rattle.lot_book.proofs.OrderLemmas.{one_position, positions_total}
use Rattle.lot_migrate.specs.declared.opening_numbers.LotOpening.{LotOpening}
use Rattle.lot_migrate.specs.declared.opening_numbers.OpenLot.{OpenLot}
use Rattle.lot_migrate.specs.LotOpenings.{IsKept, KeepsLots, ListsOpenings, lot_of, row_of}

-- ---- One row.

-- what a row says of what is kept
record IsRowOf (kept : Position × OpenLot) (row : LotOpening) : Type 0 where
  there : lot_of row ≡ kept.0
  number : row.opening ≡ kept.1.opening

-- the row of a lot, by its key
abbrev keyed : Position × OpenLot → LotKey → LotOpening
keyed kept lot = record { account = kept.0.account; commodity = kept.0.commodity; lot = lot; opening = kept.1.opening }

row_is : (kept : Position × OpenLot) (row : LotOpening) → row_of kept ≡ Some row → IsRowOf kept row
row_is kept row = by kept.0.lot refl
  where
    by : (o : Option LotKey) → kept.0.lot ≡ o → option_map (keyed kept) o ≡ Some row → IsRowOf kept row
    by None key e = absurd cc
    by (Some lot) key e =
        let same : keyed kept lot ≡ row = cc in
        record {
          there = ap lot_of (sym same) ∙ (λ i. record { account = kept.0.account; commodity = kept.0.commodity; lot = sym key i });
          number = ap (λ (r : LotOpening). r.opening) (sym same);
        }

-- a lot has a row
row_some : (kept : Position × OpenLot) → IsSome kept.0.lot → IsSome (row_of kept)
row_some kept = by kept.0.lot
  where
    by : (o : Option LotKey) → is_some o ≡ true → is_some (option_map (keyed kept) o) ≡ true
    by None e = e
    by (Some lot) e = refl

-- ---- All rows.

abbrev rows_in : List (Position × OpenLot) → List LotOpening
rows_in entries = filter_map row_of entries

abbrev lots_in : List (Position × OpenLot) → List Position
lots_in entries = map lot_of (rows_in entries)

abbrev IsBelow : Position → List Position → Type 0
IsBelow position others = AllByRecursion (λ (other : Position). position_cmp position other ≡ Less) others

below_rows : (position : Position) (entries : List (Position × OpenLot)) → IsBelow position (keys_of entries)
    → IsBelow position (lots_in entries)
below_rows position [] h = tt
below_rows position (kept ∷ entries) h = by (row_of kept) refl (below_rows position entries h.1)
  where
    by : (o : Option LotOpening) → row_of kept ≡ o → IsBelow position (lots_in entries)
        → IsBelow position (map lot_of (cons_option o (rows_in entries)))
    by None e rest = rest
    by (Some row) e rest = (ap (position_cmp position) (row_is kept row e).there ∙ h.0, rest)

sorted_rows : (entries : List (Position × OpenLot)) → IsStrictlySortedBy position_cmp (keys_of entries)
    → IsStrictlySortedBy position_cmp (lots_in entries)
unfolding IsStrictlySortedBy
sorted_rows [] h = tt
sorted_rows (kept ∷ entries) h = by (row_of kept) refl (sorted_rows entries h.1)
  where
    by : (o : Option LotOpening) → row_of kept ≡ o → IsStrictlySortedBy position_cmp (lots_in entries)
        → IsStrictlySortedBy position_cmp (map lot_of (cons_option o (rows_in entries)))
    by None e rest = rest
    by (Some row) e rest = (
      subst (λ (p : Position). IsBelow p (lots_in entries)) (sym (row_is kept row e).there) (below_rows kept.0 entries h.0),
      rest,
    )

-- what is kept of a position, which may be no lot
abbrev IsKeptEntry : List Leg → Position × OpenLot → Type 0
IsKeptEntry legs kept = IsSome kept.0.lot → IsKept legs kept.0 (Some kept.1)

abbrev IsNumber : List Leg → LotOpening → Type 0
IsNumber legs row = HasOpeningNumber legs (lot_of row) row.opening

number_in_row : (legs : List Leg) (kept : Position × OpenLot) (row : LotOpening) → IsRowOf kept row → IsKeptEntry legs kept
    → IsNumber legs row
number_in_row legs kept row is h =
    let is_lot : IsSome kept.0.lot = ap (λ (p : Position). is_some p.lot) (sym is.there) in
    let number : HasOpeningNumber legs kept.0 kept.1.opening = (h is_lot).2 in
    subst (λ (n : ℕ). HasOpeningNumber legs (lot_of row) n) (sym is.number)
    (subst (λ (p : Position). HasOpeningNumber legs p kept.1.opening) (sym is.there) number)

numbers_in : (legs : List Leg) (entries : List (Position × OpenLot)) → All (IsKeptEntry legs) entries
    → All (IsNumber legs) (rows_in entries)
numbers_in legs [] h = All-nil (IsNumber legs)
numbers_in legs (kept ∷ entries) h =
    by (row_of kept) refl (numbers_in legs entries (All-tail (IsKeptEntry legs) kept entries h))
  where
    by : (o : Option LotOpening) → row_of kept ≡ o → All (IsNumber legs) (rows_in entries)
        → All (IsNumber legs) (cons_option o (rows_in entries))
    by None e rest = rest
    by (Some row) e rest =
        All-cons (IsNumber legs) row (rows_in entries)
        (number_in_row legs kept row (row_is kept row e) (All-head (IsKeptEntry legs) kept entries h)) rest

found_first : (entries : List (Position × OpenLot)) (first : Position × OpenLot) (lot : Position)
    → same_position lot first.0 ≡ true → IsSome lot.lot
    → Contains (map lot_of (cons_option (row_of first) (rows_in entries))) lot
found_first entries first lot here is_lot = by (row_of first) refl
  where
    there : lot ≡ first.0
    there = one_position lot first.0 here

    by : (o : Option LotOpening) → row_of first ≡ o → Contains (map lot_of (cons_option o (rows_in entries))) lot
    by None e =
        absurd (true≢false (sym (row_some first (ap (λ (p : Position). is_some p.lot) (sym there) ∙ is_lot)) ∙ ap is_some e))
    by (Some row) e =
        let same : lot_of row ≡ lot = (row_is first row e).there ∙ sym there in
        Contains-append_left (lot_of row ∷ []) (lots_in entries) lot
        (subst (λ (p : Position). Contains (p ∷ []) lot) (sym same) (Contains-push [] lot))

-- a lot that is kept is that of a row
lot_found : (entries : List (Position × OpenLot)) (lot : Position) (kept : OpenLot)
    → lookup (same_position lot) entries ≡ Some kept → IsSome lot.lot
    → Contains (lots_in entries) lot
lot_found [] lot kept found is_lot = absurd cc
lot_found (first ∷ entries) lot kept found is_lot =
    by_bool (same_position lot first.0)
    (λ here. found_first entries first lot here is_lot)
    (λ apart.
    let later = lot_found entries lot kept
    (sym (ap (λ b. cond b (Some first.1) (lookup (same_position lot) entries)) apart) ∙ found) is_lot in
    by (row_of first) later)
  where
    by : (o : Option LotOpening) → Contains (lots_in entries) lot
        → Contains (map lot_of (cons_option o (rows_in entries))) lot
    by None later = later
    by (Some row) later = Contains-append_right (lot_of row ∷ []) (lots_in entries) lot later

-- ---- What they list.

-- a lot in which legs leave some units is kept
some_kept : (legs : List Leg) (lot : Position) (kept : Option OpenLot) → IsKept legs lot kept → sum_at legs lot ≢ pos 0
    → (open_lot : OpenLot) × (kept ≡ Some open_lot)
some_kept legs lot None h some = absurd (some h)
some_kept legs lot (Some open_lot) h some = (open_lot, refl)

pub lists-rows : (legs : List Leg) (lots : BTreeMap Position OpenLot) → IsOrdered position_cmp lots → KeepsLots legs lots
    → ListsOpenings legs (filter_map row_of lots.entries)
lists-rows legs lots sorted keeps = record {
  numbers = numbers_in legs lots.entries (λ k d within is_lot.
      let entry : Position × OpenLot = get_or lots.entries k d in
      subst (IsKept legs entry.0) (All-found positions_total lots sorted k d within) (keeps entry.0 is_lot));
  every_lot = λ lot is_lot some.
      let found = some_kept legs lot (get position_cmp lots lot) (keeps lot is_lot) some in
      lot_found lots.entries lot found.0 found.1 is_lot;
  in_order = sorted_rows lots.entries sorted;
}
