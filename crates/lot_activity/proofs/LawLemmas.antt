-- What the rows of an account and a commodity come to is what the legs leave there.
use Rattle.std.specs.Prelude.{◌≡◌, ℕ, zero, suc, ℤ, pos, negsuc, ◌+ℤ◌, ◌-ℤ◌, ◌*ℤ◌, ◌*◌, neg_ℤ, Bool, true, false, not, is_none, cond, ◌||◌, ◌&&◌, if◌then◌else◌, List, [], ◌∷◌, map, filter, Option, None, Some}
use Rattle.std.specs.Cmp.{Equal-is}
use Rattle.std.specs.List.{AllByRecursion, list_any}
use Rattle.std.specs.Map.{keys_of, lookup}
use Rattle.std.specs.Option.{unwrap_or}
use Rattle.std.specs.Ordering.{is_eq, ordering_then}
use Rattle.std.specs.declared.cmp.Ordering.{Ordering}
use Rattle.std.specs.declared.cmp.Ordering.TheVariants.{Less, Equal, Greater}
use Rattle.std.proofs.Common.{refl, sym, ap, subst, ◌∙◌, arith}
use Rattle.std.proofs.Math.IntN.{+ℤ_idl, +ℤ_idr, *ℤ_comm, *ℤ-zero, suc_ℤ-*ℤ, pos-*ℤ-pos, negsuc-*ℤ-pos}
use Rattle.std.proofs.lemmas.Bool.{true≢false}
use Rattle.std.proofs.lemmas.Cmp.{tied_itself}
use Rattle.std.proofs.lemmas.Int.{ints}
use Rattle.std.proofs.lemmas.Map.Keys.{sorted_head, sorted_tail}
use Rattle.lot_num.specs.Amount.{one}
use Rattle.lot_num.specs.Sum.{sum_of}
use Rattle.lot_base.specs.Text.{text_cmp}
use Rattle.lot_cost.specs.declared.lot_key.LotKey.{LotKey}
use Rattle.lot_book.specs.Change.{pair_cmp}
use Rattle.lot_book.specs.Leg.{same_position, sum_at}
use Rattle.lot_book.specs.declared.change.Pair.{Pair}
use Rattle.lot_book.specs.declared.leg.Leg.{Leg}
use Rattle.lot_book.proofs.SumLemmas.{sum_where, sum_where-cons}
use Rattle.lot_period.specs.declared.period.PeriodLength.{PeriodLength}
use Rattle.lot_legs.specs.Legs.{is_by, leg_in, legs_by}
use Rattle.lot_legs.specs.declared.leg.DatedLeg.{DatedLeg}
use Rattle.lot_tally.proofs.LawLemmas.{any_other, both_parts, none_other, same_others}
use Rattle.lot_tally.proofs.SumLemmas.{first_so}
use Rattle.lot_activity.specs.Rows.{AreRows, RowKey, counted_legs, flow_of, in_of, is_counted, is_in_row, legs_in_row, out_of, pair_of, row_cmp, row_of}
use Rattle.lot_activity.specs.Scope.{Asked, all_up_to, has}
use Rattle.lot_activity.specs.Table.{net_in_rows, plain_at}
use Rattle.lot_activity.specs.declared.flow.Flow.{Flow}
use Rattle.lot_activity.proofs.RowLemmas.{exact_row, rows_total}

abbrev is_row_of : Pair → RowKey × Flow → Bool
is_row_of pair row = is_eq (pair_cmp pair row.0.1)

abbrev is_leg_of : Pair → DatedLeg → Bool
is_leg_of pair leg = is_eq (pair_cmp pair (pair_of leg))

-- ---- rows and legs

own_row : (row : RowKey) → is_eq (row_cmp row row) ≡ true
own_row row = ap is_eq (tied_itself rows_total row)

module _ (length : PeriodLength) where
  abbrev in_row : RowKey → DatedLeg → Bool
  in_row row leg = is_in_row length row leg

  abbrev of_row : RowKey → List DatedLeg → List DatedLeg
  of_row row legs = legs_in_row length row legs

  abbrev apart_from : RowKey → List DatedLeg → List DatedLeg
  apart_from row legs = filter (λ (leg : DatedLeg). not (in_row row leg)) legs

  here_is : (row : RowKey) (leg : DatedLeg) → in_row row leg ≡ true → row ≡ row_of length leg
  here_is row leg here = exact_row row (row_of length leg) ((Equal-is (row_cmp row (row_of length leg))).0 here)

  not_among : (row : RowKey) (rows : List (RowKey × Flow)) → AllByRecursion (λ y. row_cmp row y ≡ Less) (keys_of rows)
      → lookup (λ other. is_eq (row_cmp row other)) rows ≡ None
  not_among row [] all = refl
  not_among row (r ∷ rows) all =
      ap (λ o. cond (is_eq o) (Some r.1) (lookup (λ other. is_eq (row_cmp row other)) rows)) all.0 ∙ not_among row rows all.1

  abbrev found : RowKey → List DatedLeg → Option Flow
  found row legs = if list_any (in_row row) legs then Some (flow_of (of_row row legs)) else None

  -- without the legs of the first row, the other rows are those of the legs
  rows_behind : (legs : List DatedLeg) (row : RowKey × Flow) (rows : List (RowKey × Flow)) → AreRows length legs (row ∷ rows)
      → AreRows length (apart_from row.0 legs) rows
  rows_behind legs row rows are = record {
    in_order = sorted_tail row_cmp row.0 (keys_of rows) are.in_order;
    each = λ key. by key (is_eq (row_cmp key row.0)) refl;
  }
    where
      by : (key : RowKey) (b : Bool) → is_eq (row_cmp key row.0) ≡ b
          → lookup (λ other. is_eq (row_cmp key other)) rows ≡ found key (apart_from row.0 legs)
      by key true e =
          let one : key ≡ row.0 = exact_row key row.0 ((Equal-is (row_cmp key row.0)).0 e) in
          subst (λ k. lookup (λ other. is_eq (row_cmp k other)) rows ≡ found k (apart_from row.0 legs)) (sym one)
          (not_among row.0 rows (sorted_head row_cmp row.0 (keys_of rows) are.in_order)
          ∙ ap (λ b. if b then Some (flow_of (of_row row.0 (apart_from row.0 legs))) else None) (sym (none_other (in_row row.0) legs)))
      by key false e =
          let apart : (leg : DatedLeg) → in_row row.0 leg ≡ true → in_row key leg ≡ false = λ leg here.
          elim (in_row key leg) as (λ b. in_row key leg ≡ b → b ≡ false) [
            | true ↦ λ own. absurd (true≢false (sym (own_row key) ∙ ap (λ r. is_eq (row_cmp key r)) (here_is key leg own ∙ sym (here_is row.0 leg here)) ∙ e))
            | false ↦ λ own. refl
          ] refl in
          ap (λ b. cond b (Some row.1) (lookup (λ other. is_eq (row_cmp key other)) rows)) (sym e)
          ∙ are.each key
          ∙ (λ i. if sym (any_other (in_row row.0) (in_row key) apart legs) i
          then Some (flow_of (sym (same_others (in_row row.0) (in_row key) apart legs) i)) else None)

  -- the first row has the sums over its legs
  first_flow : (legs : List DatedLeg) (row : RowKey × Flow) (rows : List (RowKey × Flow)) → AreRows length legs (row ∷ rows)
      → row.1 ≡ flow_of (of_row row.0 legs)
  first_flow legs row rows are =
      by (list_any (in_row row.0) legs)
      (ap (λ b. cond b (Some row.1) (lookup (λ other. is_eq (row_cmp row.0 other)) rows)) (sym (own_row row.0)) ∙ are.each row.0)
    where
      by : (b : Bool) → Some row.1 ≡ (if b then Some (flow_of (of_row row.0 legs)) else None) → row.1 ≡ flow_of (of_row row.0 legs)
      by true e = ap (λ o. unwrap_or o row.1) e
      by false e = cc

  no_legs : (legs : List DatedLeg) → AreRows length legs [] → legs ≡ []
  no_legs [] are = refl
  no_legs (leg ∷ legs) are =
      let row = row_of length leg in
      let some : list_any (in_row row) (leg ∷ legs) ≡ true = ap (λ b. b || list_any (in_row row) legs) (own_row row) in
      let never : None ≡ Some (flow_of (of_row row (leg ∷ legs))) =
      are.each row ∙ ap (λ b. if b then Some (flow_of (of_row row (leg ∷ legs))) else None) some in
      cc never

  -- ---- one of the sums

  module _ (value : Flow → ℤ) (f : DatedLeg → ℤ) (is_sum : (legs : List DatedLeg) → value (flow_of legs) ≡ sum_of (map f legs)) (pair : Pair) where
    abbrev in_rows : List (RowKey × Flow) → ℤ
    in_rows rows = sum_where (is_row_of pair) (λ (row : RowKey × Flow). value row.1) rows

    abbrev in_legs : List DatedLeg → ℤ
    in_legs legs = sum_where (is_leg_of pair) f legs

    -- the legs of a row are all of its pair
    of_one_row : (row : RowKey) (legs : List DatedLeg) → in_legs (of_row row legs) ≡ cond (is_eq (pair_cmp pair row.1)) (sum_of (map f (of_row row legs))) (pos 0)
    of_one_row row [] = nothing (is_eq (pair_cmp pair row.1))
      where
        nothing : (b : Bool) → pos 0 ≡ cond b (pos 0) (pos 0)
        nothing true = refl
        nothing false = refl
    of_one_row row (leg ∷ legs) =
        elim (in_row row leg) as (λ b. in_row row leg ≡ b
        → in_legs (cond b (leg ∷ of_row row legs) (of_row row legs))
        ≡ cond (is_eq (pair_cmp pair row.1)) (sum_of (map f (cond b (leg ∷ of_row row legs) (of_row row legs)))) (pos 0)) [
          | true ↦ λ e. sum_where-cons (is_leg_of pair) f leg (of_row row legs)
              ∙ ap (λ (r : RowKey). cond (is_eq (pair_cmp pair r.1)) (f leg +ℤ in_legs (of_row row legs)) (in_legs (of_row row legs))) (sym (here_is row leg e))
              ∙ ap (λ z. cond (is_eq (pair_cmp pair row.1)) (f leg +ℤ z) z) (of_one_row row legs)
              ∙ once (is_eq (pair_cmp pair row.1)) (f leg) (sum_of (map f (of_row row legs)))
          | false ↦ λ e. of_one_row row legs
        ] refl
      where
        once : (b : Bool) (z s : ℤ) → cond b (z +ℤ cond b s (pos 0)) (cond b s (pos 0)) ≡ cond b (z +ℤ s) (pos 0)
        once true z s = refl
        once false z s = refl

    rows_add_up : (legs : List DatedLeg) (rows : List (RowKey × Flow)) → AreRows length legs rows → in_rows rows ≡ in_legs legs
    rows_add_up legs [] are = ap in_legs (sym (no_legs legs are))
    rows_add_up legs (row ∷ rows) are =
        let left = apart_from row.0 legs in
        let own = sum_of (map f (of_row row.0 legs)) in
        let first : value row.1 ≡ own = ap value (first_flow legs row rows are) ∙ is_sum (of_row row.0 legs) in
        let behind : in_rows rows ≡ in_legs left = rows_add_up left rows (rows_behind legs row rows are) in
        sum_where-cons (is_row_of pair) (λ (r : RowKey × Flow). value r.1) row rows
        ∙ (λ i. cond (is_row_of pair row) (first i +ℤ behind i) (behind i))
        ∙ apart (is_row_of pair row) own (in_legs left)
        ∙ ap (λ z. z +ℤ in_legs left) (sym (of_one_row row.0 legs))
        ∙ sym (both_parts (in_row row.0) (is_leg_of pair) f legs)
      where
        apart : (b : Bool) (z s : ℤ) → cond b (z +ℤ s) s ≡ cond b z (pos 0) +ℤ s
        apart true z s = refl
        apart false z s = sym (+ℤ_idl s)

-- ---- what came in, less what went out

times_more : (z : ℤ) (n : ℕ) → z *ℤ pos (suc n) ≡ z *ℤ pos n +ℤ z
times_more z n = *ℤ_comm z (pos (suc n)) ∙ suc_ℤ-*ℤ (pos n) z ∙ ap (λ product. product +ℤ z) (*ℤ_comm (pos n) z)

both_times : (a b : ℤ) (n : ℕ) → (a +ℤ b) *ℤ pos n ≡ a *ℤ pos n +ℤ b *ℤ pos n
both_times a b zero = *ℤ-zero (a +ℤ b) ∙ (λ i. sym (*ℤ-zero a) i +ℤ sym (*ℤ-zero b) i)
both_times a b (suc n) =
    times_more (a +ℤ b) n
    ∙ ap (λ z. z +ℤ (a +ℤ b)) (both_times a b n)
    ∙ regroup (a *ℤ pos n) (b *ℤ pos n) a b
    ∙ (λ i. sym (times_more a n) i +ℤ sym (times_more b n) i)
  where
    regroup : (x y u v : ℤ) → (x +ℤ y) +ℤ (u +ℤ v) ≡ (x +ℤ u) +ℤ (y +ℤ v)
    regroup x y u v = omega (arith, ints)

one_net : (z : ℤ) → in_of z -ℤ out_of z ≡ z *ℤ pos one
one_net (pos n) = +ℤ_idr (pos n *ℤ pos one)
one_net (negsuc n) =
    ap (λ x. pos 0 -ℤ x) (pos-*ℤ-pos (suc n) one) ∙ +ℤ_idl (neg_ℤ (pos (suc n * one))) ∙ sym (negsuc-*ℤ-pos n one)

module _ (p : DatedLeg → Bool) where
  abbrev sum_on : (ℤ → ℤ) → List DatedLeg → ℤ
  sum_on number legs = sum_where p (λ (leg : DatedLeg). number leg.units) legs

  net_of : (legs : List DatedLeg) → sum_on in_of legs -ℤ sum_on out_of legs ≡ sum_on (λ z. z) legs *ℤ pos one
  net_of [] = refl
  net_of (leg ∷ legs) =
      (λ i. sum_where-cons p (λ (l : DatedLeg). in_of l.units) leg legs i -ℤ sum_where-cons p (λ (l : DatedLeg). out_of l.units) leg legs i)
      ∙ by (p leg) (net_of legs)
      ∙ ap (λ z. z *ℤ pos one) (sym (sum_where-cons p (λ (l : DatedLeg). l.units) leg legs))
    where
      regroup : (x y u v w t : ℤ) → x -ℤ y ≡ w → u -ℤ v ≡ t → (x +ℤ u) -ℤ (y +ℤ v) ≡ w +ℤ t
      regroup x y u v w t own rest = omega (arith, ints, own, rest)

      by : (b : Bool) → sum_on in_of legs -ℤ sum_on out_of legs ≡ sum_on (λ z. z) legs *ℤ pos one
          → cond b (in_of leg.units +ℤ sum_on in_of legs) (sum_on in_of legs) -ℤ cond b (out_of leg.units +ℤ sum_on out_of legs) (sum_on out_of legs)
          ≡ cond b (leg.units +ℤ sum_on (λ z. z) legs) (sum_on (λ z. z) legs) *ℤ pos one
      by true rest =
          regroup (in_of leg.units) (out_of leg.units) (sum_on in_of legs) (sum_on out_of legs) (leg.units *ℤ pos one) (sum_on (λ z. z) legs *ℤ pos one)
          (one_net leg.units) rest
          ∙ sym (both_times leg.units (sum_on (λ z. z) legs) one)
      by false rest = rest

-- ---- the position of plain units

then_equal : (o : Ordering) → ordering_then o Equal ≡ o
then_equal Less = refl
then_equal Equal = refl
then_equal Greater = refl

plain_is : (pair : Pair) (leg : DatedLeg) (lot : Option LotKey) → is_none lot ≡ true
    → same_position (plain_at pair) (record { account = leg.account; commodity = leg.commodity; lot = lot }) ≡ is_leg_of pair leg
plain_is pair leg None plain =
    ap (λ o. is_eq (ordering_then (text_cmp pair.account leg.account) o)) (then_equal (text_cmp pair.commodity leg.commodity))
plain_is pair leg (Some lot) plain = absurd (true≢false (sym plain))

module _ (asked : Asked) (pair : Pair) where
  at_plain : (legs : List DatedLeg)
      → sum_at (map leg_in (counted_legs asked legs)) (plain_at pair) ≡ sum_on (is_leg_of pair) (λ z. z) (counted_legs asked legs)
  at_plain [] = refl
  at_plain (leg ∷ legs) = by (is_counted asked leg) refl (at_plain legs)
    where
      by : (b : Bool) → is_counted asked leg ≡ b
          → sum_at (map leg_in (counted_legs asked legs)) (plain_at pair) ≡ sum_on (is_leg_of pair) (λ z. z) (counted_legs asked legs)
          → sum_at (map leg_in (cond b (leg ∷ counted_legs asked legs) (counted_legs asked legs))) (plain_at pair) ≡ sum_on (is_leg_of pair) (λ z. z) (cond b (leg ∷ counted_legs asked legs) (counted_legs asked legs))
      by true here rest =
          sum_where-cons (λ (l : Leg). same_position (plain_at pair) l.position) (λ (l : Leg). l.units) (leg_in leg) (map leg_in (counted_legs asked legs))
          ∙ (λ i. cond (plain_is pair leg leg.lot (first_so (is_none leg.lot) (has asked leg) here) i) (leg.units +ℤ rest i) (rest i))
          ∙ sym (sum_where-cons (is_leg_of pair) (λ (l : DatedLeg). l.units) leg (counted_legs asked legs))
      by false apart rest = rest

pub net_of_rows : (length : PeriodLength) (asked : Asked) (legs : List DatedLeg) (rows : List (RowKey × Flow)) (pair : Pair)
    → AreRows length (counted_legs asked legs) rows
    → net_in_rows pair rows ≡ sum_at (map leg_in (counted_legs asked legs)) (plain_at pair) *ℤ pos one
net_of_rows length asked legs rows pair are =
    let counted = counted_legs asked legs in
    let came_in = rows_add_up length (λ (f : Flow). f.incoming) (λ (leg : DatedLeg). in_of leg.units) (λ ls. refl) pair counted rows are in
    let went_out = rows_add_up length (λ (f : Flow). f.outgoing) (λ (leg : DatedLeg). out_of leg.units) (λ ls. refl) pair counted rows are in
    (λ i. came_in i -ℤ went_out i)
    ∙ net_of (is_leg_of pair) counted
    ∙ ap (λ z. z *ℤ pos one) (sym (at_plain asked pair legs))

-- ---- the whole book up to a day

none_in_lot : (a b : Ordering) → is_eq (ordering_then a (ordering_then b Less)) ≡ false
none_in_lot Less b = refl
none_in_lot Equal Less = refl
none_in_lot Equal Equal = refl
none_in_lot Equal Greater = refl
none_in_lot Greater b = refl

abbrev at_lot : DatedLeg → Option LotKey → DatedLeg
at_lot leg lot = record {
  entry = leg.entry;
  day = leg.day;
  posting = leg.posting;
  place = leg.place;
  account = leg.account;
  commodity = leg.commodity;
  units = leg.units;
  lot = lot;
}

module _ (last : ℤ) (pair : Pair) where
  abbrev sum_here : List Leg → ℤ
  sum_here legs = sum_at legs (plain_at pair)

  abbrev is_here : Leg → Bool
  is_here leg = same_position (plain_at pair) leg.position

  -- legs at lots leave nothing in the position of plain units
  pub plain_up_to : (legs : List DatedLeg) → sum_here (map leg_in (counted_legs (all_up_to last) legs)) ≡ sum_here (map leg_in (legs_by last legs))
  plain_up_to [] = refl
  plain_up_to (leg ∷ legs) = by leg.lot (is_by last leg.day) (plain_up_to legs)
    where
      by : (lot : Option LotKey) (b : Bool)
          → sum_here (map leg_in (counted_legs (all_up_to last) legs)) ≡ sum_here (map leg_in (legs_by last legs))
          → sum_here (map leg_in (cond (is_none lot && (b && true)) (at_lot leg lot ∷ counted_legs (all_up_to last) legs) (counted_legs (all_up_to last) legs)))
          ≡ sum_here (map leg_in (cond b (at_lot leg lot ∷ legs_by last legs) (legs_by last legs)))
      by None true same =
          sum_where-cons is_here (λ (l : Leg). l.units) (leg_in (at_lot leg None)) (map leg_in (counted_legs (all_up_to last) legs))
          ∙ ap (λ z. cond (is_here (leg_in (at_lot leg None))) (leg.units +ℤ z) z) same
          ∙ sym (sum_where-cons is_here (λ (l : Leg). l.units) (leg_in (at_lot leg None)) (map leg_in (legs_by last legs)))
      by None false same = same
      by (Some lot) false same = same
      by (Some lot) true same =
          let rest = sum_here (map leg_in (legs_by last legs)) in
          same
          ∙ ap (λ b. cond b (leg.units +ℤ rest) rest) (sym (none_in_lot (text_cmp pair.account leg.account) (text_cmp pair.commodity leg.commodity)))
          ∙ sym (sum_where-cons is_here (λ (l : Leg). l.units) (leg_in (at_lot leg (Some lot))) (map leg_in (legs_by last legs)))
