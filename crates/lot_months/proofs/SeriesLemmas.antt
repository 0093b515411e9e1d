-- The points of each currency are the sums over its commodities.
use Rattle.std.specs.Prelude.{◌≡◌, ◌≢◌, ◌<◌, ◌+◌, ◌&&◌, ◌||◌, ℕ, zero, suc, Bool, true, false, cond, List, [], ◌∷◌, ◌++◌, filter, length, map, Option, None, Some}
use Rattle.std.specs.BTreeMap.{BTreeMap, IsOrdered, get, is_at as is_found}
use Rattle.std.specs.List.{AllByRecursion, fold, list_any, range_with_len}
use Rattle.std.specs.List.Sorted.{IsStrictlySortedBy}
use Rattle.std.specs.Map.{keys_of, lookup}
use Rattle.std.specs.Ordering.{is_eq, ordering_then}
use Rattle.std.specs.declared.alloc.Global.{Global}
use Rattle.std.specs.declared.cmp.Ordering.{Ordering}
use Rattle.std.specs.declared.cmp.Ordering.TheVariants.{Less, Equal, Greater}
use Rattle.std.specs.declared.vec.Vec.{Vec}
use Rattle.std.proofs.Common.{◌⊎◌, append_assoc, arith, inl, inr, refl, sym, ap, subst, ◌∙◌}
use Rattle.std.proofs.lemmas.Bool.{true≢false}
use Rattle.std.proofs.lemmas.Cmp.{nat_list_cmp_total, tied_itself}
use Rattle.std.proofs.lemmas.List.{append-nil, map-append}
use Rattle.std.proofs.lemmas.List.Elements.{filter-append, recursion_from_All}
use Rattle.std.proofs.lemmas.List.FromFn.{length-map-range_with_len}
use Rattle.std.proofs.lemmas.List.Sums.{fold_push}
use Rattle.std.proofs.lemmas.Map.Views.{All-found}
use Rattle.lot_base.specs.Text.{same_text, text_cmp}
use Rattle.lot_base.proofs.TextLemmas.{one_text, same_text-itself}
use Rattle.lot_book.proofs.CaseLemmas.{by_bool}
use Rattle.lot_legs.specs.declared.leg.DatedLeg.{DatedLeg}
use Rattle.lot_plot.specs.declared.lines.MonthPoint.{MonthPoint}
use Rattle.lot_rows.specs.declared.price.PriceRow.{PriceRow}
use Rattle.lot_months.specs.Ends.{IsPoint, Months, PairLeavesRange, PointLeavesRange, Points, PointsLeaveRange, Rates, SumsLeaveRange, after_pair, end_of, end_point, ends_of, is_ever_held, is_some_flow, items_of, no_point, no_points, plus_point, point_of, points_after, points_in, points_kept, points_with}
use Rattle.lot_months.specs.Lots.{HasFlows, IsFlow, Pair, flow_in, flow_kept, held_at, month_flow, moved_in, no_flow, pair_cmp}
use Rattle.lot_months.specs.Prices.{AreInDayOrder, HasPrices, price_at, price_in, rate_in, rate_kept}
use Rattle.lot_months.specs.Series.{AreBases, AreEach, AreOf, ArePoints, AreSeries, IsHeld, IsHeldIn, SeriesLeaveRange, part_at, point_at, shown}
use Rattle.lot_months.specs.declared.flows.MonthFlows.{MonthFlows}
use Rattle.lot_months.specs.declared.prices.MonthPrices.{MonthPrices}
use Rattle.lot_months.specs.declared.range.MonthRange.{MonthRange}
use Rattle.lot_months.specs.declared.series.CurrencyMonths.{CurrencyMonths}
use Rattle.lot_months.specs.declared.series.MonthEnd.{MonthEnd}
use Rattle.lot_months.proofs.EndLemmas.{any_of, end_at, end_is, one_leaves, some_of, with_ends}
use Rattle.lot_months.proofs.FlowLemmas.{held_none}
use Rattle.lot_months.proofs.PairLemmas.{and_false, both, one_pair, pairs_total, text_tells}
use Rattle.lot_months.proofs.SumLemmas.{all_weaker}

abbrev pub Entry : Type 0
Entry = Pair × Months

-- ---- loops

pub none_zipped : (points : List MonthPoint) (ends : List MonthEnd) → (points ≡ []) ⊎ (ends ≡ []) → points_with points ends ≡ []
none_zipped points ends (inl none) = ap (λ ps. points_with ps ends) none
none_zipped [] ends (inr none) = refl
none_zipped (p ∷ points) ends (inr none) = ap (points_with (p ∷ points)) none

pub one_sum_more : (sums new : List MonthPoint) (points points_left : List MonthPoint) (ends ends_left : List MonthEnd) (all : List MonthPoint)
    (point sum : MonthPoint) (end : MonthEnd)
    → sums ++ points_with points ends ≡ all → points ≡ point ∷ points_left → ends ≡ end ∷ ends_left → sum ≡ plus_point point (end_point end)
    → new ≡ sums ++ sum ∷ [] → new ++ points_with points_left ends_left ≡ all
one_sum_more sums new points points_left ends ends_left all point sum end so_far first second own more =
    ap (λ ps. ps ++ points_with points_left ends_left) (more ∙ ap (λ p. sums ++ p ∷ []) own)
    ∙ append_assoc sums (plus_point point (end_point end) ∷ []) (points_with points_left ends_left)
    ∙ (λ i. sums ++ points_with (sym first i) (sym second i))
    ∙ so_far

-- of what is left, the first one or another leaves its range
pub one_out : (points points_left all : List MonthPoint) (ends ends_left all_ends : List MonthEnd) (point : MonthPoint) (end : MonthEnd)
    → points ≡ point ∷ points_left → ends ≡ end ∷ ends_left → (PointsLeaveRange points ends → PointsLeaveRange all all_ends)
    → PointLeavesRange point (end_point end) ⊎ PointsLeaveRange points_left ends_left → PointsLeaveRange all all_ends
one_out points points_left all ends ends_left all_ends point end first second whole leaves =
    whole (subst (λ (es : List MonthEnd). PointsLeaveRange points es) (sym second) (subst (λ (ps : List MonthPoint). PointsLeaveRange ps (end ∷ ends_left)) (sym first) leaves))

pub leave_same : (count : ℕ) (found was : Option (List MonthPoint)) (ends all : List MonthEnd) → found ≡ was → ends ≡ all
    → SumsLeaveRange count found ends → SumsLeaveRange count was all
leave_same count found was ends all first second leave =
    subst (λ (es : List MonthEnd). SumsLeaveRange count was es) second (subst (λ (f : Option (List MonthPoint)). SumsLeaveRange count f ends) first leave)

-- the points of a map, as they are shown
abbrev pub kept_shown : List (List ℕ × Vec MonthPoint Global) → List (List ℕ × List MonthPoint)
kept_shown es = map (λ (e : List ℕ × Vec MonthPoint Global). (e.0, e.1.items)) es

pub one_more_listed : (all new : List CurrencyMonths) (left rest : List (List ℕ × Vec MonthPoint Global)) (whole : List (List ℕ × List MonthPoint))
    (currency : List ℕ) (points : Vec MonthPoint Global) (months : CurrencyMonths)
    → map shown all ++ kept_shown left ≡ whole → left ≡ (currency, points) ∷ rest → shown months ≡ (currency, points.items) → new ≡ all ++ months ∷ []
    → map shown new ++ kept_shown rest ≡ whole
one_more_listed all new left rest whole currency points months so_far is own more =
    ap (λ ms. map shown ms ++ kept_shown rest) more
    ∙ ap (λ ms. ms ++ kept_shown rest) (map-append shown all (months ∷ []))
    ∙ append_assoc (map shown all) (shown months ∷ []) (kept_shown rest)
    ∙ ap (λ m. map shown all ++ m ∷ kept_shown rest) own
    ∙ ap (λ l. map shown all ++ kept_shown l) (sym is)
    ∙ so_far

first_ones : {X : Type 0} (P : X → Type 0) (xs ys : List X) → AllByRecursion P (xs ++ ys) → AllByRecursion P xs
first_ones P [] ys all = tt
first_ones P (x ∷ xs) ys all = (all.0, first_ones P xs ys all.1)

last_ones : {X : Type 0} (P : X → Type 0) (xs ys : List X) → AllByRecursion P (xs ++ ys) → AllByRecursion P ys
last_ones P [] ys all = all
last_ones P (x ∷ xs) ys all = last_ones P xs ys all.1

-- ---- one pair more

-- a pair that is never held adds nothing
pub never_held : (count : ℕ) (pair : Pair) (ends : List MonthEnd) (points : Points) → is_ever_held ends ≡ false
    → (currency : List ℕ) → points_in points currency ≡ after_pair count pair ends currency (points_in points currency)
never_held count pair ends points never currency =
    ap (λ b. cond b (Some (points_after count (points_in points currency) ends)) (points_in points currency))
    (sym (and_false (is_eq (text_cmp pair.1 currency))) ∙ ap (λ b. is_eq (text_cmp pair.1 currency) && b) (sym never))

pub points_set : (count : ℕ) (pair : Pair) (ends : List MonthEnd) (old new : Points) (sums : Vec MonthPoint Global) (copied : List ℕ)
    → copied ≡ pair.1 → is_ever_held ends ≡ true → sums.items ≡ points_after count (points_in old pair.1) ends
    → ((currency : List ℕ) → get text_cmp new currency ≡ cond (is_eq (text_cmp copied currency)) (Some sums) (get text_cmp old currency))
    → (currency : List ℕ) → points_in new currency ≡ after_pair count pair ends currency (points_in old currency)
points_set count pair ends old new sums copied same held are sets currency =
    ap items_of (sets currency ∙ ap (λ k. cond (is_eq (text_cmp k currency)) (Some sums) (get text_cmp old currency)) same)
    ∙ by (is_eq (text_cmp pair.1 currency)) refl
    ∙ ap (λ b. cond (is_eq (text_cmp pair.1 currency) && b) (Some (points_after count (points_in old currency) ends)) (points_in old currency)) (sym held)
  where
    by : (b : Bool) → is_eq (text_cmp pair.1 currency) ≡ b
        → items_of (cond b (Some sums) (get text_cmp old currency))
        ≡ cond (b && true) (Some (points_after count (points_in old currency) ends)) (points_in old currency)
    by true is =
        ap Some
        (are ∙ ap (λ k. points_after count (points_in old k) ends) (one_text pair.1 currency (sym (text_tells pair.1 currency) ∙ is)))
    by false is = refl

pub pair_same : (count was : ℕ) (pair : Pair) (months : Months) (rates other : Option Rates) (points : Points) → count ≡ was → rates ≡ other
    → PairLeavesRange count pair months rates points → PairLeavesRange was pair months other points
pair_same count was pair months rates other points first second leave =
    subst (λ (r : Option Rates). PairLeavesRange was pair months r points) second
    (subst (λ (n : ℕ). PairLeavesRange n pair months rates points) first leave)

fold_filter : {A X : Type 0} (f : A → X → A) (p : X → Bool) (a : A) (xs : List X)
    → fold (λ (b : A) (x : X). cond (p x) (f b x) b) a xs ≡ fold f a (filter p xs)
fold_filter f p a [] = refl
fold_filter {A} {X} f p a (x ∷ xs) = by (p x) (λ b. fold_filter f p b xs)
  where
    by : (b : Bool) → ((c : A) → fold (λ (d : A) (y : X). cond (p y) (f d y) d) c xs ≡ fold f c (filter p xs))
        → fold (λ (c : A) (y : X). cond (p y) (f c y) c) (cond b (f a x) a) xs ≡ fold f a (cond b (x ∷ filter p xs) (filter p xs))
    by true rest = rest (f a x)
    by false rest = rest a

module _ (count : ℕ) (rates_of : Pair → Option Rates) where
  abbrev pub ends_in : Entry → List MonthEnd
  ends_in entry = ends_of entry.1 (rates_of entry.0) count

  -- the points of a currency, one pair after another
  abbrev pub step : List ℕ → Option (List MonthPoint) → Entry → Option (List MonthPoint)
  step currency before entry = after_pair count entry.0 (ends_in entry) currency before

  -- what is kept of some first pairs, and the others are left
  abbrev pub KeptSoFar : List Entry → List Entry → Points → Type 0
  KeptSoFar entries left points =
      (done : List Entry) × (done ++ left ≡ entries) × ((currency : List ℕ) → points_in points currency ≡ fold (step currency) None done)

  pub none_so_far : (entries left : List Entry) (points : Points) → left ≡ entries → points.entries ≡ [] → KeptSoFar entries left points
  none_so_far entries left points all empty =
      ([], all, λ currency. ap (λ es. items_of (lookup (is_found (text_cmp currency)) es)) empty)

  push_moved : (done : List Entry) (entry : Entry) (left : List Entry) → (done ++ entry ∷ []) ++ left ≡ done ++ entry ∷ left
  push_moved [] entry left = refl
  push_moved (first ∷ done) entry left = ap (λ (l : List Entry). first ∷ l) (push_moved done entry left)

  pub one_more_kept : (entries left rest : List Entry) (entry : Entry) (old new : Points) → left ≡ entry ∷ rest
      → ((currency : List ℕ) → points_in new currency ≡ after_pair count entry.0 (ends_in entry) currency (points_in old currency))
      → KeptSoFar entries left old → KeptSoFar entries rest new
  one_more_kept entries left rest entry old new is adds (done, split, kept) = (
    done ++ entry ∷ [],
    push_moved done entry rest ∙ ap (λ (l : List Entry). done ++ l) (sym is) ∙ split,
    λ currency. adds currency ∙ ap (after_pair count entry.0 (ends_in entry) currency) (kept currency) ∙ sym (fold_push (step currency) None done entry),
  )

  -- ---- the pairs of a currency

  abbrev pub is_part : List ℕ → Entry → Bool
  is_part currency entry = is_eq (text_cmp entry.0.1 currency) && is_ever_held (ends_in entry)

  abbrev pub parts_in : List ℕ → List Entry → List Entry
  parts_in currency entries = filter (is_part currency) entries

  abbrev adds : Option (List MonthPoint) → Entry → Option (List MonthPoint)
  adds before entry = Some (points_after count before (ends_in entry))

  -- the sum of parts at the end of a month
  abbrev pub sum_at : MonthPoint → List Entry → ℕ → MonthPoint
  sum_at first parts at = fold plus_point first (map (λ (e : Entry). end_point (end_of e.1 (rates_of e.0) at)) parts)

  sums_are : (parts : List Entry) (first : ℕ → MonthPoint)
      → fold adds (Some (map first (range_with_len 0 count))) parts ≡ Some (map (λ (at : ℕ). sum_at (first at) parts at) (range_with_len 0 count))
  sums_are [] first = refl
  sums_are (entry ∷ parts) first =
      ap (λ (ps : List MonthPoint). fold adds (Some ps) parts) (with_ends first (end_of entry.1 (rates_of entry.0)) (range_with_len 0 count))
      ∙ sums_are parts (λ at. plus_point (first at) (end_point (end_of entry.1 (rates_of entry.0) at)))

  abbrev pub points_of : List Entry → List MonthPoint
  points_of parts = map (λ (at : ℕ). sum_at no_point parts at) (range_with_len 0 count)

  -- a currency without a part has no points
  abbrev pub Listed : List Entry → Option (List MonthPoint) → Type 0
  Listed [] found = found ≡ None
  Listed (entry ∷ parts) found = found ≡ Some (points_of (entry ∷ parts))

  listed_parts : (parts : List Entry) → Listed parts (fold adds None parts)
  listed_parts [] = refl
  listed_parts (entry ∷ parts) = sums_are (entry ∷ parts) (λ at. no_point)

  pub listed_in : (entries : List Entry) (currency : List ℕ) (found : Option (List MonthPoint)) → found ≡ fold (step currency) None entries
      → Listed (parts_in currency entries) found
  listed_in entries currency found is =
      subst (Listed (parts_in currency entries)) (sym (is ∙ fold_filter adds (is_part currency) None entries)) (listed_parts (parts_in currency entries))

  -- where points so far leave their range, those of the parts so far do
  leave_listed : (parts : List Entry) (found : Option (List MonthPoint)) (ends : List MonthEnd) → Listed parts found
      → SumsLeaveRange count found ends → PointsLeaveRange (points_of parts) ends
  leave_listed [] found ends listed leave = subst (λ (f : Option (List MonthPoint)). SumsLeaveRange count f ends) listed leave
  leave_listed (entry ∷ parts) found ends listed leave = subst (λ (f : Option (List MonthPoint)). SumsLeaveRange count f ends) listed leave

  pub leave_in : (entries : List Entry) (currency : List ℕ) (found : Option (List MonthPoint)) (ends : List MonthEnd)
      → found ≡ fold (step currency) None entries → SumsLeaveRange count found ends → PointsLeaveRange (points_of (parts_in currency entries)) ends
  leave_in entries currency found ends is leave =
      leave_listed (parts_in currency entries) found ends (listed_in entries currency found is) leave

  -- the parts of a list, one of which is a part
  pub parts_split : (currency : List ℕ) (done : List Entry) (entry : Entry) (left : List Entry) → is_part currency entry ≡ true
      → parts_in currency (done ++ entry ∷ left) ≡ parts_in currency done ++ entry ∷ parts_in currency left
  parts_split currency done entry left is =
      filter-append (is_part currency) done (entry ∷ left)
      ∙ ap (λ (b : Bool). parts_in currency done ++ cond b (entry ∷ parts_in currency left) (parts_in currency left)) is

  -- ---- commodities

  abbrev pub bases_of : List Entry → List (List ℕ)
  bases_of parts = map (λ (e : Entry). e.0.0) parts

  then_less : (o : Ordering) → ordering_then o Equal ≡ Less → o ≡ Less
  then_less Less is = refl
  then_less Equal is = cc
  then_less Greater is = cc

  less_in : (currency : List ℕ) (a b : Pair) → a.1 ≡ currency → b.1 ≡ currency → pair_cmp a b ≡ Less → text_cmp a.0 b.0 ≡ Less
  less_in currency a b own other is =
      then_less (text_cmp a.0 b.0)
      (ap (ordering_then (text_cmp a.0 b.0)) (sym (tied_itself nat_list_cmp_total currency) ∙ (λ i. text_cmp (sym own i) (sym other i))) ∙ is)

  part_currency : (currency : List ℕ) (entry : Entry) → is_part currency entry ≡ true → entry.0.1 ≡ currency
  part_currency currency entry is =
      one_text entry.0.1 currency (sym (text_tells entry.0.1 currency) ∙ (both (is_eq (text_cmp entry.0.1 currency)) (is_ever_held (ends_in entry)) is).0)

  all_above : (currency : List ℕ) (entry : Entry) (entries : List Entry) → entry.0.1 ≡ currency
      → AllByRecursion (λ (k : Pair). pair_cmp entry.0 k ≡ Less) (keys_of entries)
      → AllByRecursion (λ (b : List ℕ). text_cmp entry.0.0 b ≡ Less) (bases_of (parts_in currency entries))
  all_above currency entry [] own all = tt
  all_above currency entry (next ∷ entries) own all =
      by (is_part currency next) refl (all_above currency entry entries own all.1)
    where
      by : (b : Bool) → is_part currency next ≡ b
          → AllByRecursion (λ (c : List ℕ). text_cmp entry.0.0 c ≡ Less) (bases_of (parts_in currency entries))
          → AllByRecursion (λ (c : List ℕ). text_cmp entry.0.0 c ≡ Less) (bases_of (cond b (next ∷ parts_in currency entries) (parts_in currency entries)))
      by true is rest = (less_in currency entry.0 next.0 own (part_currency currency next is) all.0, rest)
      by false is rest = rest

  base_first : (currency : List ℕ) (entry : Entry) (entries : List Entry) (b : Bool) → is_part currency entry ≡ b
      → AllByRecursion (λ (k : Pair). pair_cmp entry.0 k ≡ Less) (keys_of entries)
      → IsStrictlySortedBy text_cmp (bases_of (parts_in currency entries))
      → IsStrictlySortedBy text_cmp (bases_of (cond b (entry ∷ parts_in currency entries) (parts_in currency entries)))
  unfolding IsStrictlySortedBy
  base_first currency entry entries true is all rest = (all_above currency entry entries (part_currency currency entry is) all, rest)
  base_first currency entry entries false is all rest = rest

  pub bases_in_order : (currency : List ℕ) (entries : List Entry) → IsStrictlySortedBy pair_cmp (keys_of entries)
      → IsStrictlySortedBy text_cmp (bases_of (parts_in currency entries))
  unfolding IsStrictlySortedBy
  bases_in_order currency [] sorted = tt
  bases_in_order currency (entry ∷ entries) sorted =
      base_first currency entry entries (is_part currency entry) refl sorted.0 (bases_in_order currency entries sorted.1)

  or_more : (a b : Bool) → b ≡ true → (a || b) ≡ true
  or_more true b is = refl
  or_more false b is = is

  -- a pair that is ever held is a part
  pub among_bases : (base currency : List ℕ) (entries : List Entry) (months : Months) → lookup (is_found (pair_cmp (base, currency))) entries ≡ Some months
      → is_ever_held (ends_in ((base, currency), months)) ≡ true
      → list_any (same_text base) (bases_of (parts_in currency entries)) ≡ true
  among_bases base currency [] months found held = absurd cc
  among_bases base currency (entry ∷ entries) months found held =
      by (is_eq (pair_cmp (base, currency) entry.0)) refl (λ later. among_bases base currency entries months later held)
    where
      rest : (b : Bool) → list_any (same_text base) (bases_of (parts_in currency entries)) ≡ true
          → list_any (same_text base) (bases_of (cond b (entry ∷ parts_in currency entries) (parts_in currency entries))) ≡ true
      rest true later = or_more (same_text base entry.0.0) _ later
      rest false later = later

      here : (base, currency) ≡ entry.0 → entry.1 ≡ months
          → list_any (same_text base) (bases_of (cond (is_part currency entry) (entry ∷ parts_in currency entries) (parts_in currency entries))) ≡ true
      here own same =
          let part : is_part currency entry ≡ true =
          (λ i. is_eq (text_cmp (sym own i).1 currency) && is_ever_held (ends_in (sym own i, same i)))
          ∙ ap (λ b. b && is_ever_held (ends_in ((base, currency), months))) (ap is_eq (tied_itself nat_list_cmp_total currency))
          ∙ held in
          ap (λ b. list_any (same_text base) (bases_of (cond b (entry ∷ parts_in currency entries) (parts_in currency entries)))) part
          ∙ ap (λ b. b || list_any (same_text base) (bases_of (parts_in currency entries))) (ap (λ (p : Pair). same_text base p.0) (sym own) ∙ same_text-itself base)

      by : (b : Bool) → is_eq (pair_cmp (base, currency) entry.0) ≡ b
          → (lookup (is_found (pair_cmp (base, currency))) entries ≡ Some months → list_any (same_text base) (bases_of (parts_in currency entries)) ≡ true)
          → list_any (same_text base) (bases_of (cond (is_part currency entry) (entry ∷ parts_in currency entries) (parts_in currency entries))) ≡ true
      by true is later =
          let same : Some entry.1 ≡ Some months =
          ap (λ b. cond b (Some entry.1) (lookup (is_found (pair_cmp (base, currency))) entries)) (sym is) ∙ found in
          let own : entry.1 ≡ months = cc in
          here (one_pair (base, currency) entry.0 is) own
      by false is later =
          rest (is_part currency entry)
          (later (ap (λ b. cond b (Some entry.1) (lookup (is_found (pair_cmp (base, currency))) entries)) (sym is) ∙ found))

-- ---- what is kept stands for the legs and the prices

module _ (range : MonthRange) (legs : List DatedLeg) (quotes : List PriceRow) (flows : MonthFlows) (prices : MonthPrices) where
  abbrev rates_of : Pair → Option Rates
  rates_of pair = get pair_cmp prices.pairs pair

  abbrev entries : List Entry
  entries = flows.pairs.entries

  -- an entry is what the map has at its key
  abbrev IsFound : Entry → Type 0
  IsFound entry = get pair_cmp flows.pairs entry.0 ≡ Some entry.1

  module _ (has : HasFlows range legs flows) (has_prices : HasPrices range quotes prices) (order : AreInDayOrder quotes) where
    entry_end : (entry : Entry) → IsFound entry → (at : ℕ) → end_of entry.1 (rates_of entry.0) at ≡ end_at range legs quotes entry.0 at
    entry_end entry found at =
        end_is range legs quotes entry.0 entry.1 (rates_of entry.0) order
        (λ a. ap (λ o. flow_in o a) (sym found) ∙ has.each entry.0 a)
        (has_prices.each entry.0) at

    entry_point : (currency : List ℕ) (entry : Entry) → IsFound entry → entry.0.1 ≡ currency → (at : ℕ)
        → end_point (end_of entry.1 (rates_of entry.0) at) ≡ part_at range legs quotes currency at entry.0.0
    entry_point currency entry found own at =
        ap end_point (entry_end entry found at) ∙ ap (λ c. part_at range legs quotes c at entry.0.0) own

    parts_are : (currency : List ℕ) (es : List Entry) → AllByRecursion IsFound es → (at : ℕ)
        → map (λ (e : Entry). end_point (end_of e.1 (rates_of e.0) at)) (parts_in range.count rates_of currency es)
        ≡ map (part_at range legs quotes currency at) (bases_of range.count rates_of (parts_in range.count rates_of currency es))
    parts_are currency [] all at = refl
    parts_are currency (e ∷ es) all at = by (is_part range.count rates_of currency e) refl (parts_are currency es all.1 at)
      where
        left : List Entry
        left = parts_in range.count rates_of currency es

        by : (b : Bool) → is_part range.count rates_of currency e ≡ b
            → map (λ (x : Entry). end_point (end_of x.1 (rates_of x.0) at)) left ≡ map (part_at range legs quotes currency at) (bases_of range.count rates_of left)
            → map (λ (x : Entry). end_point (end_of x.1 (rates_of x.0) at)) (cond b (e ∷ left) left)
            ≡ map (part_at range legs quotes currency at) (bases_of range.count rates_of (cond b (e ∷ left) left))
        by true is rest = λ i. entry_point currency e all.0 (part_currency range.count rates_of currency e is) at i ∷ rest i
        by false is rest = rest

    points_are : (currency : List ℕ) (bases : List (List ℕ)) (of : ℕ → MonthPoint) → ((at : ℕ) → of at ≡ point_at range legs quotes bases currency at)
        → (first count : ℕ) → ArePoints range legs quotes bases currency first (map of (range_with_len first count))
    points_are currency bases of same first zero = tt
    points_are currency bases of same first (suc count) = (same first, points_are currency bases of same (first + 1) count)

    -- what is ever held is found, and what is found with something is held
    is_held : (entry : Entry) → IsFound entry → is_ever_held (ends_in range.count rates_of entry) ≡ true → IsHeld range legs entry.0.1 entry.0.0
    is_held entry found held =
        let some = some_of (λ (end : MonthEnd). is_some_flow end.held) (end_of entry.1 (rates_of entry.0)) 0 range.count held in
        (some.0, omega (arith, some.2), ap (λ (e : MonthEnd). is_some_flow e.held) (sym (entry_end entry found some.0)) ∙ some.3)

    ever_held : (base currency : List ℕ) (months : Months) → get pair_cmp flows.pairs (base, currency) ≡ Some months → IsHeld range legs currency base
        → is_ever_held (ends_in range.count rates_of ((base, currency), months)) ≡ true
    ever_held base currency months found held =
        any_of (λ (end : MonthEnd). is_some_flow end.held) (end_of months (rates_of (base, currency))) held.0 0 range.count (omega arith)
        (omega (arith, held.1))
        (ap (λ (e : MonthEnd). is_some_flow e.held) (entry_end ((base, currency), months) found held.0) ∙ held.2)

    base_found : (base currency : List ℕ) → IsHeld range legs currency base
        → list_any (same_text base) (bases_of range.count rates_of (parts_in range.count rates_of currency entries)) ≡ true
    base_found base currency held = by (get pair_cmp flows.pairs (base, currency)) refl
      where
        by : (found : Option Months) → get pair_cmp flows.pairs (base, currency) ≡ found
            → list_any (same_text base) (bases_of range.count rates_of (parts_in range.count rates_of currency entries)) ≡ true
        by (Some months) is = among_bases range.count rates_of base currency entries months is (ever_held base currency months is held)
        by None is =
            let none : (at : ℕ) → moved_in range legs (base, currency) at ≡ no_flow =
            λ at. sym (has.each (base, currency) at) ∙ ap (λ o. flow_in o at) is in
            absurd (true≢false (sym held.2 ∙ ap is_some_flow (held_none range legs (base, currency) none held.0)))

    module _ (sorted : IsOrdered pair_cmp flows.pairs) where
      all_found : AllByRecursion IsFound entries
      all_found = recursion_from_All IsFound entries (All-found pairs_total flows.pairs sorted)

      first_held : (currency : List ℕ) (es : List Entry) → AllByRecursion IsFound es → (e : Entry) (rest : List Entry)
          → parts_in range.count rates_of currency es ≡ e ∷ rest → IsHeldIn range legs currency
      first_held currency [] all e rest is = absurd cc
      first_held currency (next ∷ es) all e rest is =
          by (is_part range.count rates_of currency next) refl is (first_held currency es all.1 e rest)
        where
          by : (b : Bool) → is_part range.count rates_of currency next ≡ b
              → cond b (next ∷ parts_in range.count rates_of currency es) (parts_in range.count rates_of currency es) ≡ e ∷ rest
              → (parts_in range.count rates_of currency es ≡ e ∷ rest → IsHeldIn range legs currency)
              → IsHeldIn range legs currency
          by true own same later =
              let held = (both (is_eq (text_cmp next.0.1 currency)) (is_ever_held (ends_in range.count rates_of next)) own).1 in
              (next.0.0, subst (λ c. IsHeld range legs c next.0.0) (part_currency range.count rates_of currency next own) (is_held next all.0 held))
          by false own same later = later same

      are_bases : (currency : List ℕ) → AreBases range legs currency (bases_of range.count rates_of (parts_in range.count rates_of currency entries))
      are_bases currency = record {
        in_order = bases_in_order range.count rates_of currency entries sorted;
        all = λ base held. base_found base currency held;
      }

      -- the points that are kept of a currency
      points_hold : (currency : List ℕ) (parts : List Entry) → parts_in range.count rates_of currency entries ≡ parts
          → (found : Option (List MonthPoint)) (points : List MonthPoint) → Listed range.count rates_of parts found → found ≡ Some points
          → AreOf range legs quotes currency points
      points_hold currency [] are found points listed is = let no : None ≡ Some points = sym listed ∙ is in absurd cc
      points_hold currency (e ∷ rest) are found points listed is =
          let own : Some points ≡ Some (points_of range.count rates_of (e ∷ rest)) = sym is ∙ listed in
          let same : points ≡ points_of range.count rates_of (parts_in range.count rates_of currency entries) =
          (let own_points : points ≡ points_of range.count rates_of (e ∷ rest) = cc in
          own_points ∙ ap (points_of range.count rates_of) (sym are)) in
          let bases = bases_of range.count rates_of (parts_in range.count rates_of currency entries) in
          let sums = λ (at : ℕ). sum_at range.count rates_of no_point (parts_in range.count rates_of currency entries) at in
          record {
            held = first_held currency entries all_found e rest are;
            as_many = ap length same ∙ length-map-range_with_len sums 0 range.count;
            bases = bases;
            are_bases = are_bases currency;
            points_are = subst (ArePoints range legs quotes bases currency 0) (sym same)
                (points_are currency bases sums (λ at. ap (fold plus_point no_point) (parts_are currency entries all_found at)) 0 range.count);
          }

      abbrev Whole : Points → Type 0
      Whole points = (currency : List ℕ) → points_in points currency ≡ fold (step range.count rates_of currency) None entries

      each_holds : (points : Points) → Whole points → (es : List (List ℕ × Vec MonthPoint Global))
          → AllByRecursion (λ (e : List ℕ × Vec MonthPoint Global). get text_cmp points e.0 ≡ Some e.1) es
          → AreEach range legs quotes (map (λ (e : List ℕ × Vec MonthPoint Global). (e.0, e.1.items)) es)
      each_holds points whole [] all = tt
      each_holds points whole (e ∷ es) all = (
        points_hold e.0 (parts_in range.count rates_of e.0 entries) refl (points_in points e.0) e.1.items
            (listed_in range.count rates_of entries e.0 (points_in points e.0) (whole e.0))
            (ap items_of all.0),
        each_holds points whole es all.1,
      )

      keys_shown : (es : List (List ℕ × Vec MonthPoint Global)) → keys_of es ≡ keys_of (map (λ (e : List ℕ × Vec MonthPoint Global). (e.0, e.1.items)) es)
      keys_shown [] = refl
      keys_shown (e ∷ es) = ap (λ (ks : List (List ℕ)). e.0 ∷ ks) (keys_shown es)

      shown_found : (currency : List ℕ) (es : List (List ℕ × Vec MonthPoint Global))
          → lookup (same_text currency) (map (λ (e : List ℕ × Vec MonthPoint Global). (e.0, e.1.items)) es)
          ≡ items_of (lookup (is_found (text_cmp currency)) es)
      shown_found currency [] = refl
      shown_found currency (e ∷ es) =
          (λ i. cond (sym (text_tells currency e.0) i) (Some e.1.items) (shown_found currency es i)) ∙ by (is_eq (text_cmp currency e.0))
        where
          by : (b : Bool) → cond b (Some e.1.items) (items_of (lookup (is_found (text_cmp currency)) es))
              ≡ items_of (cond b (Some e.1) (lookup (is_found (text_cmp currency)) es))
          by true = refl
          by false = refl

      none_missing : (parts : List Entry) (base : List ℕ) (found : Option (List MonthPoint)) → Listed range.count rates_of parts found
          → list_any (same_text base) (bases_of range.count rates_of parts) ≡ true → found ≢ None
      none_missing [] base found listed is = absurd (true≢false (sym is))
      none_missing (e ∷ rest) base found listed is = λ none. let no : None ≡ Some (points_of range.count rates_of (e ∷ rest)) = sym none ∙ listed in cc

      pub series_hold : (points : Points) → IsOrdered text_cmp points → KeptSoFar range.count rates_of entries [] points
          → AreSeries range legs quotes (points_kept points)
      series_hold points ordered (done, split, kept) =
          let all : done ≡ entries = sym (append-nil done) ∙ split in
          let whole : Whole points = λ currency. kept currency ∙ ap (fold (step range.count rates_of currency) None) all in
          record {
            in_order = subst (IsStrictlySortedBy text_cmp) (keys_shown points.entries) ordered;
            each = each_holds points whole points.entries
                (recursion_from_All (λ (e : List ℕ × Vec MonthPoint Global). get text_cmp points e.0 ≡ Some e.1) points.entries
                (All-found nat_list_cmp_total points ordered));
            all = λ currency held.
                subst (λ o. o ≢ None) (sym (shown_found currency points.entries))
                (none_missing (parts_in range.count rates_of currency entries) held.0 (points_in points currency)
                (listed_in range.count rates_of entries currency (points_in points currency) (whole currency))
                (base_found held.0 currency held.1));
          }

      -- ---- sums that leave their range

      -- what the parts of some first entries come to
      first_parts : (currency : List ℕ) (done : List Entry) → AllByRecursion IsFound done → (at : ℕ)
          → sum_at range.count rates_of no_point (parts_in range.count rates_of currency done) at
          ≡ point_at range legs quotes (bases_of range.count rates_of (parts_in range.count rates_of currency done)) currency at
      first_parts currency done all at = ap (fold plus_point no_point) (parts_are currency done all at)

      -- what they and one more do
      more_parts : (currency : List ℕ) (bases : List (List ℕ)) (base : List ℕ) (at : ℕ)
          → point_at range legs quotes (bases ++ base ∷ []) currency at
          ≡ plus_point (point_at range legs quotes bases currency at) (part_at range legs quotes currency at base)
      more_parts currency bases base at =
          ap (fold plus_point no_point) (map-append (part_at range legs quotes currency at) bases (base ∷ []))
          ∙ fold_push plus_point no_point (map (part_at range legs quotes currency at) bases) (part_at range legs quotes currency at base)

      abbrev Out : (currency : List ℕ) (before : List (List ℕ)) (base : List ℕ) → ℕ → Type 0
      Out currency before base at =
          (¬ IsPoint (part_at range legs quotes currency at base)) ⊎ (¬ IsPoint (point_at range legs quotes (before ++ base ∷ []) currency at))

      is_out : (entry : Entry) → IsFound entry → (done : List Entry) → AllByRecursion IsFound done → (at : ℕ)
          → PointLeavesRange (sum_at range.count rates_of no_point (parts_in range.count rates_of entry.0.1 done) at)
          (end_point (end_of entry.1 (rates_of entry.0) at))
          → Out entry.0.1 (bases_of range.count rates_of (parts_in range.count rates_of entry.0.1 done)) entry.0.0 at
      is_out entry found done all at (inl own) = inl (subst (λ (p : MonthPoint). ¬ IsPoint p) (entry_point entry.0.1 entry found refl at) own)
      is_out entry found done all at (inr sum) =
          inr
          (subst (λ (p : MonthPoint). ¬ IsPoint p)
          ((λ i. plus_point (first_parts entry.0.1 done all at i) (entry_point entry.0.1 entry found refl at i))
          ∙ sym (more_parts entry.0.1 (bases_of range.count rates_of (parts_in range.count rates_of entry.0.1 done)) entry.0.0 at))
          sum)

      own_part : (entry : Entry) → is_ever_held (ends_in range.count rates_of entry) ≡ true → is_part range.count rates_of entry.0.1 entry ≡ true
      own_part entry held =
          ap (λ (b : Bool). b && is_ever_held (ends_in range.count rates_of entry)) (ap is_eq (tied_itself nat_list_cmp_total entry.0.1)) ∙ held

      leave_at : (entry : Entry) (left : List Entry) (points : Points) (done : List Entry) → done ++ entry ∷ left ≡ entries
          → ((currency : List ℕ) → points_in points currency ≡ fold (step range.count rates_of currency) None done)
          → IsFound entry → AllByRecursion IsFound done → PairLeavesRange range.count entry.0 entry.1 (rates_of entry.0) points
          → SeriesLeaveRange range legs quotes
      leave_at entry left points done split kept found first (inl held) =
          inl (entry.0, held.0, held.1, subst (λ (e : MonthEnd). ¬ IsFlow e.held) (entry_end entry found held.0) held.2)
      leave_at entry left points done split kept found first (inr sums) =
          let currency = entry.0.1 in
          let parts = parts_in range.count rates_of currency done in
          let one = one_leaves (λ (at : ℕ). sum_at range.count rates_of no_point parts at) (end_of entry.1 (rates_of entry.0)) 0 range.count
          (leave_in range.count rates_of done currency (points_in points currency) (ends_in range.count rates_of entry) (kept currency) sums.1) in
          let whole = ap (parts_in range.count rates_of currency) (sym split)
          ∙ parts_split range.count rates_of currency done entry left (own_part entry sums.0) in
          inr
          (record {
            currency = currency;
            bases = bases_of range.count rates_of (parts_in range.count rates_of currency entries);
            are_bases = are_bases currency;
            before = bases_of range.count rates_of parts;
            base = entry.0.0;
            behind = bases_of range.count rates_of (parts_in range.count rates_of currency left);
            split = ap (bases_of range.count rates_of) whole
                ∙ map-append (λ (e : Entry). e.0.0) parts (entry ∷ parts_in range.count rates_of currency left);
            at = one.0;
            is_month = omega (arith, one.1);
            out = is_out entry found done first one.0 one.2;
          })

      pub series_leave : (entry : Entry) (left : List Entry) (points : Points) → KeptSoFar range.count rates_of entries (entry ∷ left) points
          → PairLeavesRange range.count entry.0 entry.1 (rates_of entry.0) points → SeriesLeaveRange range legs quotes
      series_leave entry left points (done, split, kept) leaves =
          let all : AllByRecursion IsFound (done ++ entry ∷ left) = subst (AllByRecursion IsFound) (sym split) all_found in
          leave_at entry left points done split kept (last_ones IsFound done (entry ∷ left) all).0 (first_ones IsFound done (entry ∷ left) all) leaves
