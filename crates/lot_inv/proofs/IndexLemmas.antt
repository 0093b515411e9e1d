-- An index goes with the lots, has each of them, and has them by rank.
use Rattle.std.specs.Prelude.{◌≡◌, ℕ, ◌++◌, ◌&&◌, map, IsPermutation, Bool, true, false, cond, Option, None, Some, List, [], ◌∷◌, ℤ, Result, Ok, Err, IfOk, IfSome, OnOk}
use Rattle.std.specs.declared.cmp.Ordering.{Ordering}
use Rattle.std.specs.declared.cmp.Ordering.TheVariants.{Less, Equal, Greater}
use Rattle.std.specs.BTreeMap.{is_at}
use Rattle.std.specs.Cmp.{IsTotalOrder, eq_by_cmp_equiv}
use Rattle.std.specs.List.{All, AllByRecursion, IsDistinct}
use Rattle.std.specs.List.Sorted.{IsStrictlySortedBy}
use Rattle.std.specs.Map.{keys_of, lookup}
use Rattle.std.specs.Option.{option_or}
use Rattle.std.specs.Ordering.{eq_by_cmp, is_eq, is_lt, ordering_reverse, ordering_then}
use Rattle.std.specs.Result.{result_ok}
use Rattle.std.proofs.Common.{refl, sym, ap, subst, ◌∙◌}
use Rattle.std.proofs.lemmas.Cmp.{then_total, on_total}
use Rattle.std.proofs.lemmas.List.Elements.{recursion_from_All}
use Rattle.std.proofs.lemmas.Map.Keys.{IsDistinct-from_sorted}
use Rattle.std.proofs.lemmas.Map.Lookups.{CmpEqualImpliesEq}
use Rattle.lot_base.proofs.MapLemmas.{none_below}
use Rattle.lot_base.proofs.OrderLemmas.{equal_parts}
use Rattle.lot_cost.specs.declared.lot_key.LotKey.{LotKey}
use Rattle.lot_cost.specs.LotKey.{lot_cmp}
use Rattle.lot_cost.specs.declared.cost_spec.CostSpec.{CostSpec}
use Rattle.lot_cost.proofs.ListLemmas.{all_weaker}
use Rattle.lot_cost.proofs.OrderLemmas.{eq_then, exact_lots, is_equal, lots_total}
use Rattle.lot_inv.specs.declared.lots.OpenLot.{OpenLot}
use Rattle.lot_inv.specs.declared.foremost.Foremost.{Foremost}
use Rattle.lot_inv.specs.declared.lot.Lot.{Lot}
use Rattle.lot_inv.specs.Index.{IsIndex, IsSet, Place, has_rank, in_order, in_place, is_own, place, place_cmp, with_own}
use Rattle.lot_inv.specs.Foremost.{is_later, rank, rank_cmp}
use Rattle.lot_inv.specs.Holding.{listed, takeable_lots}
use Rattle.lot_inv.specs.Lots.{lot_at}
use Rattle.lot_inv.proofs.LentLemmas.{AreByRank, taken-append}
use Rattle.lot_inv.proofs.RankLemmas.{exact_ranks, ranks_total}
use Rattle.lot_inv.proofs.SameLemmas.{gather, gathered_alike}

abbrev pub Entry : Type 0
Entry = LotKey × OpenLot

abbrev Placed : Type 0
Placed = Place × OpenLot

pub places_total : IsTotalOrder place_cmp
places_total = then_total (on_total (λ (p : Place). p.0) ranks_total) (on_total (λ (p : Place). p.1) lots_total)

pub exact_places : CmpEqualImpliesEq place_cmp
exact_places p q e =
    let parts = equal_parts (rank_cmp p.0 q.0) (lot_cmp p.1 q.1) e in
    λ i. (exact_ranks p.0 q.0 parts.0 i, exact_lots p.1 q.1 parts.1 i)

-- ---- results as options

pub ok_is : {X Y : Type 0} (P : X → Type 0) (r : Result X Y) (x : X) → Some x ≡ result_ok r → IfOk r P → P x
ok_is P (Ok y) x is holds = let same : y ≡ x = cc is in subst P same holds
ok_is P (Err e) x is holds = cc is

pub ok_on : {X Y : Type 0} {P : Type 0} (r : Result X Y) (x : X) → Some x ≡ result_ok r → OnOk r P → P
ok_on (Ok y) x is holds = holds
ok_on (Err e) x is holds = cc is

pub some_weaker : {X : Type 0} (P Q : X → Type 0) (o : Option X) → ((x : X) → P x → Q x) → IfSome o P → IfSome o Q
some_weaker P Q None f holds = tt
some_weaker P Q (Some x) f holds = f x holds

module _ (foremost : Foremost) where
  -- ---- the place of a key

  -- a place is that of a lot where its key is that of the lot, and its rank too
  pub at_place : (key : LotKey) (lot : OpenLot) (at : Place)
      → is_eq (place_cmp (place foremost key lot.opening) at) ≡ cond (is_eq (lot_cmp key at.1)) (has_rank foremost at lot) false
  at_place key lot at =
      let by_key = λ (k : LotKey). is_eq (rank_cmp (rank foremost k lot.opening) at.0) in
      eq_then (rank_cmp (rank foremost key lot.opening) at.0) (lot_cmp key at.1)
      ∙ elim (is_eq (lot_cmp key at.1)) as (λ b. is_eq (lot_cmp key at.1) ≡ b → (by_key key && b) ≡ cond b (has_rank foremost at lot) false) [
        | true ↦ λ same. true_right (by_key key) ∙ ap by_key (exact_lots key at.1 (is_equal (lot_cmp key at.1) same))
        | false ↦ λ other. false_right (by_key key)
      ] refl
    where
      true_right : (b : Bool) → (b && true) ≡ b
      true_right true = refl
      true_right false = refl

      false_right : (b : Bool) → (b && false) ≡ false
      false_right true = refl
      false_right false = refl

  -- the same of what is kept under a key, where it is known whether the key of the place is that one
  abbrev its : Option OpenLot → Place → Bool → Bool
  its None at here = false
  its (Some lot) at here = cond here (has_rank foremost at lot) false

  own : (key : LotKey) (o : Option OpenLot) (at : Place) → is_own foremost key o at ≡ its o at (is_eq (lot_cmp key at.1))
  own key None at = refl
  own key (Some lot) at = at_place key lot at

  none_elsewhere : (o : Option OpenLot) (at : Place) → its o at false ≡ false
  none_elsewhere None at = refl
  none_elsewhere (Some lot) at = refl

  -- what was there goes, and what is kept now comes
  gone : (before : Option OpenLot) (at : Place) → cond (its before at true) None (in_place foremost at before) ≡ None
  gone None at = refl
  gone (Some lot) at =
      elim (has_rank foremost at lot) as (λ b. cond b None (cond b (Some lot) None) ≡ None) [
        | true ↦ refl
        | false ↦ refl
      ]

  come : (after : Option OpenLot) (at : Place) → cond (its after at true) after None ≡ in_place foremost at after
  come None at = refl
  come (Some lot) at = refl

  -- where a lot takes the place of what was kept, it need not go first
  pub stays : (key : LotKey) (held lot : OpenLot) (after found : Option OpenLot) (at : Place) → held.opening ≡ lot.opening → after ≡ Some lot
      → with_own foremost key after at found ≡ with_own foremost key after at (cond (is_own foremost key (Some held) at) None found)
  stays key held lot after found at same is =
      let its_own = λ (opening : ℕ). is_eq (place_cmp (place foremost key opening) at) in
      (λ i. with_own foremost key (is i) at found)
      ∙ elim (its_own lot.opening) as (λ b. cond b (Some lot) found ≡ cond b (Some lot) (cond b None found)) [ true ↦ refl | false ↦ refl ]
      ∙ (λ i. with_own foremost key (sym is i) at (cond (its_own (sym same i)) None found))

  -- an index goes with the lots
  pub index_set : (key : LotKey) (before after : Option OpenLot) (index without new : List Placed) (lots now : List Entry)
      → IsIndex foremost index lots → IsSet key before after lots now
      → ((at : Place) → with_own foremost key after at (lookup (is_at (place_cmp at)) without)
      ≡ with_own foremost key after at (cond (is_own foremost key before at) None (lookup (is_at (place_cmp at)) index)))
      → ((at : Place) → lookup (is_at (place_cmp at)) new ≡ with_own foremost key after at (lookup (is_at (place_cmp at)) without))
      → IsIndex foremost new now
  index_set key before after index without new lots now indexed set out sets at =
      let here = is_eq (lot_cmp key at.1) in
      let held = lot_at lots at.1 in
      sets at ∙ out at
      ∙ (λ i. cond (own key after at i) after (cond (own key before at i) None (indexed at i)))
      ∙ elim here as (λ b. here ≡ b
      → cond (its after at b) after (cond (its before at b) None (in_place foremost at held)) ≡ in_place foremost at (cond b after held)) [
        | true ↦ λ same.
            let was : held ≡ before = ap (lot_at lots) (sym (exact_lots key at.1 (is_equal (lot_cmp key at.1) same))) ∙ set.was in
            ap (λ o. cond (its after at true) after (cond (its before at true) None (in_place foremost at o))) was
            ∙ ap (λ o. cond (its after at true) after o) (gone before at) ∙ come after at
        | false ↦ λ other.
            (λ i. cond (none_elsewhere after at i) after (cond (none_elsewhere before at i) None (in_place foremost at held)))
      ] refl
      ∙ ap (in_place foremost at) (sym (set.sets at.1))

  -- ---- an index that is made

  pub none_made : (lots : List Entry) (index : List Placed) → index ≡ [] → (at : Place)
      → option_or (in_place foremost at (lot_at lots at.1)) (lookup (is_at (place_cmp at)) index) ≡ in_place foremost at (lot_at lots at.1)
  none_made lots index empty at =
      let lot = in_place foremost at (lot_at lots at.1) in
      ap (λ es. option_or lot (lookup (is_at (place_cmp at)) es)) empty
      ∙ elim lot as (λ o. option_or o None ≡ o) [ None ↦ refl | Some found ↦ refl ]

  -- a lot that is put into the index is no longer left
  pub one_made : (lot : Entry) (rest all : List Entry) (index new : List Placed) → IsStrictlySortedBy lot_cmp (keys_of (lot ∷ rest))
      → ((at : Place) → option_or (in_place foremost at (lot_at (lot ∷ rest) at.1)) (lookup (is_at (place_cmp at)) index) ≡ in_place foremost at (lot_at all at.1))
      → ((at : Place) → lookup (is_at (place_cmp at)) new ≡ cond (is_eq (place_cmp (place foremost lot.0 lot.1.opening) at)) (Some lot.1) (lookup (is_at (place_cmp at)) index))
      → (at : Place) → option_or (in_place foremost at (lot_at rest at.1)) (lookup (is_at (place_cmp at)) new) ≡ in_place foremost at (lot_at all at.1)
  unfolding IsStrictlySortedBy
  one_made lot rest all index new sorted before put at =
      let found = lookup (is_at (place_cmp at)) index in
      let its_rank = has_rank foremost at lot.1 in
      let left = lot_at rest at.1 in
      ap (option_or (in_place foremost at left)) (put at ∙ ap (λ b. cond b (Some lot.1) found) (at_place lot.0 lot.1 at))
      ∙ ap (λ b. option_or (in_place foremost at left) (cond (cond b its_rank false) (Some lot.1) found)) ((eq_by_cmp_equiv lots_total).symm lot.0 at.1)
      ∙ elim (is_eq (lot_cmp at.1 lot.0)) as (λ b. is_eq (lot_cmp at.1 lot.0) ≡ b
      → option_or (in_place foremost at left) (cond (cond b its_rank false) (Some lot.1) found)
      ≡ option_or (in_place foremost at (cond b (Some lot.1) left)) found) [
        | true ↦ λ same.
            let none : left ≡ None = ap (lot_at rest) (exact_lots at.1 lot.0 (is_equal (lot_cmp at.1 lot.0) same)) ∙ none_below lot_cmp lot.0 rest sorted.0 in
            ap (λ o. option_or (in_place foremost at o) (cond its_rank (Some lot.1) found)) none
            ∙ elim its_rank as (λ b. cond b (Some lot.1) found ≡ option_or (cond b (Some lot.1) None) found) [ true ↦ refl | false ↦ refl ]
        | false ↦ λ other. refl
      ] refl
      ∙ before at

  -- ---- the lots of an index

  -- a lot at its place, and back
  abbrev placed : Entry → Placed
  placed lot = (place foremost lot.0 lot.1.opening, lot.1)

  abbrev back : Placed → Entry
  back entry = (entry.0.1, entry.1)

  placed_found : (lots : List Entry) → IsStrictlySortedBy lot_cmp (keys_of lots) → (at : Place)
      → lookup (is_at (place_cmp at)) (map placed lots) ≡ in_place foremost at (lot_at lots at.1)
  unfolding IsStrictlySortedBy
  placed_found [] sorted at = refl
  placed_found (lot ∷ lots) sorted at =
      let its_rank = has_rank foremost at lot.1 in
      let left = lot_at lots at.1 in
      (λ i. cond (((eq_by_cmp_equiv places_total).symm at (place foremost lot.0 lot.1.opening) ∙ at_place lot.0 lot.1 at) i) (Some lot.1) (placed_found lots sorted.1 at i))
      ∙ ap (λ b. cond (cond b its_rank false) (Some lot.1) (in_place foremost at left)) ((eq_by_cmp_equiv lots_total).symm lot.0 at.1)
      ∙ elim (is_eq (lot_cmp at.1 lot.0)) as (λ b. is_eq (lot_cmp at.1 lot.0) ≡ b
      → cond (cond b its_rank false) (Some lot.1) (in_place foremost at left) ≡ in_place foremost at (cond b (Some lot.1) left)) [
        | true ↦ λ same.
            ap (λ o. cond its_rank (Some lot.1) (in_place foremost at o))
            (ap (lot_at lots) (exact_lots at.1 lot.0 (is_equal (lot_cmp at.1 lot.0) same)) ∙ none_below lot_cmp lot.0 lots sorted.0)
        | false ↦ λ other. refl
      ] refl

  placed_distinct : (lots : List Entry) → IsStrictlySortedBy lot_cmp (keys_of lots) → IsDistinct (eq_by_cmp place_cmp) (keys_of (map placed lots))
  unfolding IsStrictlySortedBy IsDistinct
  placed_distinct [] sorted = tt
  placed_distinct (lot ∷ lots) sorted = (apart lots sorted.0, placed_distinct lots sorted.1)
    where
      apart : (others : List Entry) → AllByRecursion (λ (key : LotKey). lot_cmp lot.0 key ≡ Less) (keys_of others)
          → AllByRecursion (λ (at : Place). eq_by_cmp place_cmp (place foremost lot.0 lot.1.opening) at ≡ false) (keys_of (map placed others))
      apart [] less = tt
      apart (next ∷ others) less = (
        at_place lot.0 lot.1 (place foremost next.0 next.1.opening)
            ∙ ap (λ o. cond (is_eq o) (has_rank foremost (place foremost next.0 next.1.opening) lot.1) false) less.0,
        apart others less.1,
      )

  -- each entry of an index has the rank of its lot
  abbrev AtPlace : Placed → Type 0
  AtPlace entry = has_rank foremost entry.0 entry.1 ≡ true

  here : (at : Place) (o : Option OpenLot) (lot : OpenLot) → in_place foremost at o ≡ Some lot → has_rank foremost at lot ≡ true
  here at None lot is = cc
  here at (Some found) lot is =
      elim (has_rank foremost at found) as (λ b. has_rank foremost at found ≡ b → cond b (Some found) None ≡ Some lot → has_rank foremost at lot ≡ true) [
        | true ↦ λ its e.
            let same : found ≡ lot = cc e in
            subst (λ (l : OpenLot). has_rank foremost at l ≡ true) same its
        | false ↦ λ other e. cc e
      ] refl is

  at_places : (index : List Placed) (lots : List Entry) → IsIndex foremost index lots
      → All (λ (entry : Placed). lookup (is_at (place_cmp entry.0)) index ≡ Some entry.1) index → AllByRecursion AtPlace index
  at_places index lots indexed found =
      all_weaker (λ (entry : Placed). lookup (is_at (place_cmp entry.0)) index ≡ Some entry.1) AtPlace
      (λ entry is. here entry.0 (lot_at lots entry.0.1) entry.1 (sym (indexed entry.0) ∙ is))
      index (recursion_from_All (λ (entry : Placed). lookup (is_at (place_cmp entry.0)) index ≡ Some entry.1) index found)

  abbrev as_lot : Entry → Lot
  as_lot lot = record { key = lot.0; units = lot.1.units; opening = lot.1.opening }

  turned : (o rest : Ordering) → ordering_then o rest ≡ Less → is_lt (ordering_reverse o) ≡ false
  turned Less rest less = refl
  turned Equal rest less = refl
  turned Greater rest less = cc

  -- where a place is before another, the lot of the first doesn't come later
  not_later : (entry next : Placed) → AtPlace entry → AtPlace next → place_cmp entry.0 next.0 ≡ Less
      → is_later foremost (as_lot (back entry)) (as_lot (back next)) ≡ false
  not_later entry next its other less =
      let first = exact_ranks (rank foremost entry.0.1 entry.1.opening) entry.0.0 (is_equal (rank_cmp (rank foremost entry.0.1 entry.1.opening) entry.0.0) its) in
      let second = exact_ranks (rank foremost next.0.1 next.1.opening) next.0.0 (is_equal (rank_cmp (rank foremost next.0.1 next.1.opening) next.0.0) other) in
      (λ i. is_lt (rank_cmp (second i) (first i)))
      ∙ ap is_lt (ranks_total.antisymm next.0.0 entry.0.0)
      ∙ turned (rank_cmp entry.0.0 next.0.0) (lot_cmp entry.0.1 next.0.1) less

  none_later : (entry : Placed) (entries : List Placed) → AllByRecursion (λ (at : Place). place_cmp entry.0 at ≡ Less) (keys_of entries)
      → AtPlace entry → AllByRecursion AtPlace entries
      → AllByRecursion (λ (lot : Lot). is_later foremost (as_lot (back entry)) lot ≡ false) (listed (in_order entries))
  none_later entry [] less its each = tt
  none_later entry (next ∷ entries) less its each = (
    not_later entry next its each.0 less.0,
    none_later entry entries less.1 its each.1,
  )

  rising : (index : List Placed) → IsStrictlySortedBy place_cmp (keys_of index) → AllByRecursion AtPlace index → AreByRank foremost (listed (in_order index))
  unfolding IsStrictlySortedBy
  rising [] sorted each = tt
  rising (entry ∷ index) sorted each = (none_later entry index sorted.0 each.0 each.1, rising index sorted.1 each.1)

  pub by_rank : (index : List Placed) (lots : List Entry) → IsIndex foremost index lots → IsStrictlySortedBy place_cmp (keys_of index)
      → All (λ (entry : Placed). lookup (is_at (place_cmp entry.0)) index ≡ Some entry.1) index → AreByRank foremost (listed (in_order index))
  by_rank index lots indexed sorted found = rising index sorted (at_places index lots indexed found)

  -- ---- those that units may take

  module _ (units : ℤ) (spec : CostSpec) where
    abbrev taken_of : Placed → List Lot
    taken_of entry = takeable_lots units spec (listed (back entry ∷ []))

    gathered-index : (index : List Placed) → gather taken_of index ≡ takeable_lots units spec (listed (in_order index))
    gathered-index [] = refl
    gathered-index (entry ∷ index) =
        ap (λ ls. taken_of entry ++ ls) (gathered-index index) ∙ sym (taken-append units spec (listed (back entry ∷ [])) (listed (in_order index)))

    gathered-lots : (lots : List Entry) → gather taken_of (map placed lots) ≡ takeable_lots units spec (listed lots)
    gathered-lots [] = refl
    gathered-lots (lot ∷ lots) =
        ap (λ ls. taken_of (placed lot) ++ ls) (gathered-lots lots) ∙ sym (taken-append units spec (listed (lot ∷ [])) (listed lots))

    -- they are the same in an index
    pub same_taken : (index : List Placed) (lots : List Entry) → IsIndex foremost index lots → IsStrictlySortedBy place_cmp (keys_of index)
        → IsStrictlySortedBy lot_cmp (keys_of lots) → IsPermutation (takeable_lots units spec (listed lots)) (takeable_lots units spec (listed (in_order index)))
    same_taken index lots indexed sorted ordered =
        let alike = gathered_alike place_cmp places_total exact_places taken_of (map placed lots) index (placed_distinct lots ordered)
        (IsDistinct-from_sorted place_cmp (keys_of index) sorted) (λ at. placed_found lots ordered at ∙ sym (indexed at)) in
        subst (λ (ls : List Lot). IsPermutation ls (takeable_lots units spec (listed (in_order index)))) (gathered-lots lots)
        (subst (λ (ls : List Lot). IsPermutation (gather taken_of (map placed lots)) ls) (gathered-index index) alike)

pub behind_sorted : (lot : Entry) (rest : List Entry) → IsStrictlySortedBy lot_cmp (keys_of (lot ∷ rest)) → IsStrictlySortedBy lot_cmp (keys_of rest)
unfolding IsStrictlySortedBy
behind_sorted lot rest sorted = sorted.1
