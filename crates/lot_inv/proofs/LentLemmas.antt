-- The lots that are lent: none of those that are left comes before one of them.
use Rattle.std.specs.Prelude.{◌≡◌, ◌≢◌, ℕ, ◌-◌, ◌≤◌, suc, length, slice_get, true, false, cond, Some, List, [], ◌∷◌, ◌++◌, filter, map, reverse, ℤ, unsigned_abs, IsPermutation, ⊤}
use Rattle.std.specs.declared.cmp.Ordering.{Ordering}
use Rattle.std.specs.declared.cmp.Ordering.TheVariants.{Less}
use Rattle.std.specs.List.{AllByRecursion}
use Rattle.std.specs.List.Sorted.{IsStrictlySortedBy}
use Rattle.std.specs.Map.{keys_of}
use Rattle.std.specs.Option.{option_cmp, unwrap_or}
use Rattle.std.specs.Ordering.{nat_cmp, ordering_then}
use Rattle.std.proofs.Common.{append-nil, arith, refl, sym, ap, subst, ◌∙◌}
use Rattle.std.proofs.lemmas.List.{map-append}
use mathlib.Core.List.{reverse-cons}
use Rattle.std.proofs.lemmas.List.Elements.{All-filter, All-from_recursion, filter-append, recursion_from_All}
use Rattle.std.proofs.lemmas.List.Sorted.{All-permutation, IsPermutation-append_comm, IsPermutation-append_left, IsPermutation-map, IsPermutation-refl, IsPermutation-reverse, IsPermutation-trans, sum_by-IsPermutation}
use Rattle.lot_base.specs.Text.{text_cmp}
use Rattle.lot_cost.specs.declared.cost_spec.CostSpec.{CostSpec}
use Rattle.lot_cost.specs.declared.lot_key.LotKey.{LotKey}
use Rattle.lot_cost.specs.CostSpec.{fits}
use Rattle.lot_cost.specs.LotKey.{lot_cmp}
use Rattle.lot_cost.proofs.ListLemmas.{all_weaker}
use Rattle.lot_inv.specs.declared.foremost.Foremost.{Foremost}
use Rattle.lot_inv.specs.declared.foremost.Foremost.TheVariants.{Oldest, Newest, Highest, OldestOpened, NewestOpened, HighestOpened}
use Rattle.lot_inv.specs.declared.lots.OpenLot.{OpenLot}
use Rattle.lot_inv.specs.declared.lot.Lot.{Lot}
use Rattle.lot_inv.specs.Foremost.{AreLentOf, gone_through, is_later, is_past, numbered, opened, together}
use Rattle.lot_inv.specs.Holding.{listed, takeable_lots}
use Rattle.lot_inv.specs.Inventory.{held_in, other_sign}
use Rattle.lot_inv.specs.Lot.{AreNumberedBy, key_and_units}
use Rattle.lot_inv.proofs.RankLemmas.{later_back, later_on, later_together, not_above, not_above_negated, not_opened_later}

-- ---- which comes later

-- the last of lots
pub past_last : (foremost : Foremost) (lots : List Lot) (last lot : Lot) → slice_get lots (length lots - 1) ≡ Some last
    → is_past foremost lots lot ≡ is_later foremost lot last
past_last foremost [] last lot is = cc
past_last foremost (first ∷ []) last lot is = ap (λ found. is_later foremost lot (unwrap_or found first)) is
past_last foremost (first ∷ next ∷ lots) last lot is =
    let shorter : length (first ∷ next ∷ lots) - 1 ≡ suc (length (next ∷ lots) - 1) = omega arith in
    past_last foremost (next ∷ lots) last lot (sym (ap (slice_get (first ∷ next ∷ lots)) shorter) ∙ is)

module _ (foremost : Foremost) where
  abbrev pub Follow : Lot → List Lot → Type 0
  Follow lot lots = AllByRecursion (λ (next : Lot). is_later foremost lot next ≡ false) lots

  -- none comes later than one that stands behind it
  abbrev pub AreByRank : List Lot → Type 0
  AreByRank [] = ⊤
  AreByRank (lot ∷ lots) = Follow lot lots × AreByRank lots

  abbrev pub AreLater : List Lot → Lot → Type 0
  AreLater others lot = AllByRecursion (λ (other : Lot). is_later foremost other lot ≡ true) others

  all_but : (P : Lot → Type 0) (lots rest : List Lot) (lot : Lot) → AllByRecursion P (lots ++ lot ∷ rest) → AllByRecursion P (lots ++ rest)
  all_but P [] rest lot all = all.1
  all_but P (first ∷ lots) rest lot all = (all.0, all_but P lots rest lot all.1)

  -- without one of them they are by rank as they were
  pub by_rank_but : (lots rest : List Lot) (lot : Lot) → AreByRank (lots ++ lot ∷ rest) → AreByRank (lots ++ rest)
  by_rank_but [] rest lot all = all.1
  by_rank_but (first ∷ lots) rest lot all = (
    all_but (λ (next : Lot). is_later foremost first next ≡ false) lots rest lot all.0,
    by_rank_but lots rest lot all.1,
  )

  -- where the next lot comes later than the last of lots, so do it and those behind it than each of them
  pub apart : (lots rest : List Lot) (next : Lot) → AreByRank (lots ++ next ∷ rest) → is_past foremost lots next ≡ true
      → AllByRecursion (AreLater (next ∷ rest)) lots
  apart [] rest next by_rank past = tt
  apart (lot ∷ []) rest next by_rank past = (
    (
      past,
      all_weaker (λ (other : Lot). is_later foremost next other ≡ false) (λ (other : Lot). is_later foremost other lot ≡ true)
          (λ other follows. later_on foremost lot next other past follows) rest by_rank.1.0,
    ),
    tt,
  )
  apart (lot ∷ second ∷ lots) rest next by_rank past =
      let others = apart (second ∷ lots) rest next by_rank.1 past in (
        all_weaker (λ (other : Lot). is_later foremost other second ≡ true) (λ (other : Lot). is_later foremost other lot ≡ true)
            (λ other later. later_back foremost lot second other by_rank.0.0 later) (next ∷ rest) others.0,
        others,
      )

  pub follows_more : (lots : List Lot) (lot : Lot) → AreByRank lots → AllByRecursion (λ (first : Lot). is_later foremost first lot ≡ false) lots
      → AreByRank (lots ++ lot ∷ [])
  follows_more [] lot by_rank all = (tt, tt)
  follows_more (first ∷ lots) lot by_rank all = (behind first lots by_rank.0 all.0, follows_more lots lot by_rank.1 all.1)
    where
      behind : (first : Lot) (lots : List Lot) → Follow first lots → is_later foremost first lot ≡ false → Follow first (lots ++ lot ∷ [])
      behind first [] follow last = (last, tt)
      behind first (next ∷ lots) follow last = (follow.0, behind first lots follow.1 last)

-- lots that stand by their opening numbers stand so without
pub without_openings : (foremost : Foremost) (lots : List Lot) → AreByRank (opened foremost) lots → AreByRank foremost lots
without_openings foremost [] by_rank = tt
without_openings foremost (lot ∷ lots) by_rank = (
  all_weaker (λ (next : Lot). is_later (opened foremost) lot next ≡ false) (λ (next : Lot). is_later foremost lot next ≡ false)
      (λ next. not_opened_later foremost lot next) lots by_rank.0,
  without_openings foremost lots by_rank.1,
)

-- ---- lots in the order of their keys

abbrev Entry : Type 0
Entry = LotKey × OpenLot

abbrev as_lot : Entry → Lot
as_lot entry = record { key = entry.0; units = entry.1.units; opening = entry.1.opening }

-- what is behind a key but for its day
abbrev rest_of : LotKey → LotKey → Ordering
rest_of key other = ordering_then (text_cmp key.currency other.currency) (ordering_then (nat_cmp key.number other.number) (option_cmp text_cmp key.label other.label))

none_later : (lot other : Lot) → lot_cmp lot.key other.key ≡ Less → is_later Oldest lot other ≡ false
none_later lot other less = not_above lot.key.day other.key.day (rest_of lot.key other.key) less

none_earlier : (lot other : Lot) → lot_cmp lot.key other.key ≡ Less → is_later Newest other lot ≡ false
none_earlier lot other less = not_above_negated lot.key.day other.key.day (rest_of lot.key other.key) less

all_listed : (P : LotKey → Type 0) (entries : List Entry) → AllByRecursion P (keys_of entries) → AllByRecursion (λ (lot : Lot). P lot.key) (listed entries)
all_listed P [] all = tt
all_listed P (entry ∷ entries) all = (all.0, all_listed P entries all.1)

pub by_rank-from_sorted : (foremost : Foremost) (entries : List Entry) → foremost ≢ Highest → together foremost ≡ foremost
    → IsStrictlySortedBy lot_cmp (keys_of entries) → AreByRank foremost (listed (gone_through foremost entries))
unfolding IsStrictlySortedBy
by_rank-from_sorted Highest entries days together sorted = absurd (days refl)
by_rank-from_sorted OldestOpened entries days together sorted = cc
by_rank-from_sorted NewestOpened entries days together sorted = cc
by_rank-from_sorted HighestOpened entries days together sorted = cc
by_rank-from_sorted Oldest [] days together sorted = tt
by_rank-from_sorted Oldest (entry ∷ entries) days together sorted = (
  all_weaker (λ (lot : Lot). lot_cmp entry.0 lot.key ≡ Less) (λ (lot : Lot). is_later Oldest (as_lot entry) lot ≡ false)
      (none_later (as_lot entry)) (listed entries) (all_listed (λ (key : LotKey). lot_cmp entry.0 key ≡ Less) entries sorted.0),
  by_rank-from_sorted Oldest entries days together sorted.1,
)
by_rank-from_sorted Newest [] days together sorted = tt
by_rank-from_sorted Newest (entry ∷ entries) days together sorted =
    let Before = λ (lot : Lot). is_later Newest lot (as_lot entry) ≡ false in
    let ahead = all_weaker (λ (lot : Lot). lot_cmp entry.0 lot.key ≡ Less) Before (none_earlier (as_lot entry)) (listed entries)
    (all_listed (λ (key : LotKey). lot_cmp entry.0 key ≡ Less) entries sorted.0) in
    let moved = IsPermutation-map as_lot entries (reverse entries) (IsPermutation-reverse entries) in
    let all = recursion_from_All Before (listed (reverse entries))
    (All-permutation Before (listed entries) (listed (reverse entries)) moved (All-from_recursion Before (listed entries) ahead)) in
    subst (AreByRank Newest) (sym (ap listed (reverse-cons entry entries) ∙ map-append as_lot (reverse entries) (entry ∷ [])))
    (follows_more Newest (listed (reverse entries)) (as_lot entry) (by_rank-from_sorted Newest entries days together sorted.1) all)

-- ---- the lots that units may take

module _ (units : ℤ) (spec : CostSpec) where
  abbrev Taken : List Lot → List Lot
  Taken lots = takeable_lots units spec lots

  pub taken-append : (lots others : List Lot) → Taken (lots ++ others) ≡ Taken lots ++ Taken others
  taken-append lots others =
      let fit = λ (lot : Lot). fits spec lot.key in
      let test = λ (lot : Lot). other_sign lot.units units in
      ap (filter test) (filter-append fit lots others) ∙ filter-append test (filter fit lots) (filter fit others)

  pub misfits_lent : (lot : Lot) (lots : List Lot) → fits spec lot.key ≡ false → Taken (lot ∷ lots) ≡ Taken lots
  misfits_lent lot lots misfit = rw misfit refl

  pub same_sign_lent : (lot : Lot) (lots : List Lot) → other_sign lot.units units ≡ false → Taken (lot ∷ lots) ≡ Taken lots
  same_sign_lent lot lots same =
      let fitting = filter (λ (lot : Lot). fits spec lot.key) lots in
      elim (fits spec lot.key) as (λ b. filter (λ (lot : Lot). other_sign lot.units units) (cond b (lot ∷ fitting) fitting) ≡ Taken lots) [
        | true ↦ rw same refl
        | false ↦ refl
      ]

  -- they are the same from either end
  taken-reversed : (entries : List Entry) → IsPermutation (Taken (listed entries)) (Taken (listed (reverse entries)))
  taken-reversed [] = IsPermutation-refl _
  taken-reversed (entry ∷ entries) =
      let one = as_lot entry ∷ [] in
      let ahead = Taken (listed entries) in
      let behind = Taken (listed (reverse entries)) in
      let turned : Taken (listed (reverse (entry ∷ entries))) ≡ behind ++ Taken one =
      ap (λ es. Taken (listed es)) (reverse-cons entry entries) ∙ ap Taken (map-append as_lot (reverse entries) (entry ∷ []))
      ∙ taken-append (listed (reverse entries)) one in
      subst (IsPermutation (Taken (listed (entry ∷ entries)))) (sym turned)
      (subst (λ ls. IsPermutation ls (behind ++ Taken one)) (sym (taken-append one (listed entries)))
      (IsPermutation-trans (Taken one ++ ahead) (ahead ++ Taken one) (behind ++ Taken one) (IsPermutation-append_comm (Taken one) ahead)
      (IsPermutation-append_left (Taken one) ahead behind (taken-reversed entries))))

  pub taken-turned : (foremost : Foremost) (entries : List Entry) → IsPermutation (Taken (listed entries)) (Taken (listed (gone_through foremost entries)))
  taken-turned Oldest entries = IsPermutation-refl _
  taken-turned Newest entries = taken-reversed entries
  taken-turned Highest entries = IsPermutation-refl _
  taken-turned OldestOpened entries = IsPermutation-refl _
  taken-turned NewestOpened entries = taken-reversed entries
  taken-turned HighestOpened entries = IsPermutation-refl _

  all_taken : (P : Lot → Type 0) (lots : List Lot) → AllByRecursion P lots → AllByRecursion P (Taken lots)
  all_taken P lots all =
      recursion_from_All P (Taken lots)
      (All-filter (λ (lot : Lot). other_sign lot.units units) P (filter (λ (lot : Lot). fits spec lot.key) lots)
      (All-filter (λ (lot : Lot). fits spec lot.key) P lots (All-from_recursion P lots all)))

  -- lots that are gone through stand by rank, and are all that there are
  module _ (foremost : Foremost) (amount : ℕ) (through all_lots lots : List Lot) (turned : IsPermutation all_lots (Taken through)) where
    -- once all are gone through
    pub lent_all : lots ++ [] ≡ Taken through → AreLentOf foremost amount all_lots lots
    lent_all is =
        let moved = subst (IsPermutation all_lots) (sym is) turned in
        let same = subst (IsPermutation all_lots) (append-nil lots) moved in
        record {
          others = [];
          same = moved;
          later = none_left lots;
          enough = λ enough. subst (λ n. amount ≤ n)
              (sym (sum_by-IsPermutation (λ (lot : LotKey × ℤ). unsigned_abs lot.1) (map key_and_units all_lots) (map key_and_units lots)
              (IsPermutation-map key_and_units all_lots lots same))) enough;
        }
      where
        none_left : (lots : List Lot) → AllByRecursion (AreLater foremost []) lots
        none_left [] = tt
        none_left (lot ∷ lots) = (tt, none_left lots)

    -- once a rank is past, and they hold enough
    pub lent_before : (next : Lot) (rest : List Lot) → lots ++ Taken (next ∷ rest) ≡ Taken through
        → AreByRank foremost (lots ++ next ∷ rest) → is_past foremost lots next ≡ true → amount ≤ held_in (map key_and_units lots)
        → AreLentOf foremost amount all_lots lots
    lent_before next rest is by_rank past enough = record {
      others = Taken (next ∷ rest);
      same = subst (IsPermutation all_lots) (sym is) turned;
      later = all_weaker (AreLater foremost (next ∷ rest)) (AreLater foremost (Taken (next ∷ rest)))
          (λ lot. all_taken (λ (other : Lot). is_later foremost other lot ≡ true) (next ∷ rest)) lots
          (apart foremost lots rest next by_rank past);
      enough = λ all. enough;
    }

-- lots that are lent by days or by numbers are lent so by their opening numbers too
pub lent_together : (foremost given : Foremost) (amount : ℕ) (all lots : List Lot) → given ≡ together foremost
    → AreLentOf given amount all lots → AreLentOf foremost amount all lots
lent_together foremost given amount all lots is lent =
    let whole = subst (λ (f : Foremost). AreLentOf f amount all lots) is lent in
    record {
      others = whole.others;
      same = whole.same;
      later = all_weaker (AreLater (together foremost) whole.others) (AreLater foremost whole.others)
          (λ lot. all_weaker (λ (other : Lot). is_later (together foremost) other lot ≡ true) (λ (other : Lot). is_later foremost other lot ≡ true)
          (λ other. later_together foremost other lot) whole.others) lots whole.later;
      enough = whole.enough;
    }

-- ---- opening numbers

-- numbered lots are those of their keys and units
pub are_numbered : (opening : LotKey → ℕ) (lots : List Lot) → AreNumberedBy opening lots → lots ≡ numbered opening (map key_and_units lots)
are_numbered opening [] all = refl
are_numbered opening (lot ∷ lots) all = λ i. record { key = lot.key; units = lot.units; opening = all.0 i } ∷ are_numbered opening lots all.1 i
