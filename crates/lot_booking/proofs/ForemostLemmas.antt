-- Lots that are lent come first of all, in an order that puts none first that comes later.
use Rattle.std.specs.Prelude.{◌≡◌, ℕ, ◌==◌, Bool, true, false, cond, List, [], ◌∷◌, map, nat_lt, ℤ, pos, neg_ℤ, int_lt, unsigned_abs}
use Rattle.std.specs.declared.cmp.Ordering.{Ordering}
use Rattle.std.specs.declared.cmp.Ordering.TheVariants.{Less, Equal, Greater}
use Rattle.std.specs.List.{AllByRecursion}
use Rattle.std.specs.Option.{option_cmp}
use Rattle.std.specs.Ordering.{int_cmp, is_lt, nat_cmp, ordering_reverse, ordering_then}
use Rattle.std.proofs.Common.{arith, refl, ap, subst, sym, ◌∙◌}
use Rattle.std.proofs.lemmas.Bool.Decides.{nat_tests}
use Rattle.std.proofs.lemmas.Cmp.{int_cmp_total, nat_cmp_total}
use Rattle.std.proofs.lemmas.Int.{ints}
use Rattle.lot_base.specs.Text.{text_cmp}
use Rattle.lot_cost.specs.LotKey.{lot_cmp}
use Rattle.lot_cost.specs.declared.lot_key.LotKey.{LotKey}
use Rattle.lot_cost.proofs.ListLemmas.{all_weaker}
use Rattle.lot_inv.specs.declared.foremost.Foremost.{Foremost}
use Rattle.lot_inv.specs.declared.foremost.Foremost.TheVariants.{Oldest, Newest, Highest, OldestOpened, NewestOpened, HighestOpened}
use Rattle.lot_inv.specs.declared.lot.Lot.{Lot}
use Rattle.lot_inv.specs.Foremost.{AreLentOf, is_later, numbered}
use Rattle.lot_inv.specs.Lot.{AreNumberedBy, key_and_units}
use Rattle.lot_inv.proofs.RankLemmas.{negated}
use Rattle.lot_booking.specs.Choice.{HaveDistinctKeys, InTurn, Takes}
use Rattle.lot_booking.specs.Front.{ComeFirstOf, is_earlier}
use Rattle.lot_booking.specs.OpeningOrder.{OpenedLot, by_key, by_numbers, highest_opened_first, newest_opened_first, oldest_opened_first}
use Rattle.lot_booking.specs.Order.{highest_first, label_cmp, newest_first, oldest_first}

-- ---- orders that begin with the rank

-- an order doesn't put a lot first that comes later
abbrev pub GoesBy : Foremost → (OpenedLot → OpenedLot → Bool) → Type 0
GoesBy foremost before = (other lot : Lot) → is_later foremost other lot ≡ true → is_earlier before other lot ≡ false

not_first : (o rest : Ordering) → is_lt (ordering_then (ordering_reverse o) Equal) ≡ true → is_lt (ordering_then o rest) ≡ false
not_first Less rest later = cc
not_first Equal rest later = cc
not_first Greater rest later = refl

not_opened_first : (o p rest : Ordering) → is_lt (ordering_then (ordering_reverse o) (ordering_reverse p)) ≡ true
    → is_lt (ordering_then o (ordering_then p rest)) ≡ false
not_opened_first Less p rest later = cc
not_opened_first Equal Less rest later = cc
not_opened_first Equal Equal rest later = cc
not_opened_first Equal Greater rest later = refl
not_opened_first Greater p rest later = refl

-- by the first part of a rank
by_part : (a b : ℤ) (o rest : Ordering) → int_cmp a b ≡ o → is_lt (ordering_then (int_cmp b a) Equal) ≡ true
    → is_lt (ordering_then o rest) ≡ false
by_part a b o rest is later =
    not_first o rest (ap (λ x. is_lt (ordering_then x Equal)) (sym (int_cmp_total.antisymm b a ∙ ap ordering_reverse is)) ∙ later)

-- by both parts
by_parts : (a b : ℤ) (n m : ℕ) (o rest : Ordering) → int_cmp a b ≡ o → is_lt (ordering_then (int_cmp b a) (nat_cmp m n)) ≡ true
    → is_lt (ordering_then o (ordering_then (nat_cmp n m) rest)) ≡ false
by_parts a b n m o rest is later =
    not_opened_first o (nat_cmp n m) rest
    ((λ i. is_lt (ordering_then (sym (int_cmp_total.antisymm b a ∙ ap ordering_reverse is) i) (sym (nat_cmp_total.antisymm m n) i))) ∙ later)

of_numbers : (n m : ℕ) → int_cmp (neg_ℤ (pos n)) (neg_ℤ (pos m)) ≡ nat_cmp m n
of_numbers n m =
    let less : int_lt (neg_ℤ (pos n)) (neg_ℤ (pos m)) ≡ nat_lt m n = grind (arith, ints, nat_tests) in
    let more : int_lt (neg_ℤ (pos m)) (neg_ℤ (pos n)) ≡ nat_lt n m = grind (arith, ints, nat_tests) in
    (λ i. cond (less i) Less (cond (more i) Greater Equal)) ∙ same_tests
  where
    not_above : (m == n) ≡ true → nat_lt n m ≡ false
    not_above same = grind (arith, nat_tests)

    above : nat_lt m n ≡ false → (m == n) ≡ false → nat_lt n m ≡ true
    above not_less other = grind (arith, nat_tests)

    same_tests : cond (nat_lt m n) Less (cond (nat_lt n m) Greater Equal) ≡ nat_cmp m n
    same_tests =
        elim (nat_lt m n) as (λ b. nat_lt m n ≡ b → cond b Less (cond (nat_lt n m) Greater Equal) ≡ cond b Less (cond (m == n) Equal Greater)) [
          | true ↦ λ less. refl
          | false ↦ λ not_less.
              elim (m == n) as (λ b. (m == n) ≡ b → cond (nat_lt n m) Greater Equal ≡ cond b Equal Greater) [
                | true ↦ λ same. ap (λ x. cond x Greater Equal) (not_above same)
                | false ↦ λ other. ap (λ x. cond x Greater Equal) (above not_less other)
              ] refl
        ] refl

pub oldest_by_day : GoesBy Oldest (by_key oldest_first)
oldest_by_day other lot later =
    let a = other.key in
    let b = lot.key in
    by_part a.day b.day (int_cmp a.day b.day)
    (ordering_then (text_cmp a.currency b.currency) (ordering_then (nat_cmp a.number b.number) (option_cmp text_cmp a.label b.label))) refl later

pub oldest_opened_by_rank : GoesBy OldestOpened oldest_opened_first
oldest_opened_by_rank other lot later =
    by_parts other.key.day lot.key.day other.opening lot.opening (int_cmp other.key.day lot.key.day) (lot_cmp other.key lot.key) refl later

pub newest_by_day : GoesBy Newest (by_key newest_first)
newest_by_day other lot later =
    let a = other.key in
    let b = lot.key in
    by_part (neg_ℤ a.day) (neg_ℤ b.day) (int_cmp b.day a.day)
    (ordering_then (text_cmp a.currency b.currency) (ordering_then (nat_cmp a.number b.number) (label_cmp a.label b.label))) (negated a.day b.day) later

pub newest_opened_by_rank : GoesBy NewestOpened newest_opened_first
newest_opened_by_rank other lot later =
    by_parts (neg_ℤ other.key.day) (neg_ℤ lot.key.day) other.opening lot.opening (int_cmp lot.key.day other.key.day) (lot_cmp other.key lot.key)
    (negated other.key.day lot.key.day) later

pub highest_by_number : GoesBy Highest (by_key highest_first)
highest_by_number other lot later =
    let a = other.key in
    let b = lot.key in
    by_part (neg_ℤ (pos a.number)) (neg_ℤ (pos b.number)) (nat_cmp b.number a.number)
    (ordering_then (int_cmp a.day b.day) (ordering_then (text_cmp a.currency b.currency) (label_cmp a.label b.label))) (of_numbers a.number b.number) later

pub highest_opened_by_rank : GoesBy HighestOpened highest_opened_first
highest_opened_by_rank other lot later =
    by_parts (neg_ℤ (pos other.key.number)) (neg_ℤ (pos lot.key.number)) other.opening lot.opening (nat_cmp lot.key.number other.key.number)
    (lot_cmp other.key lot.key) (of_numbers other.key.number lot.key.number) later

-- ---- numbered lots

pub keys_numbered : (opening : LotKey → ℕ) (lots : List (LotKey × ℤ)) → map key_and_units (numbered opening lots) ≡ lots
keys_numbered opening [] = refl
keys_numbered opening (lot ∷ lots) = ap (λ ls. lot ∷ ls) (keys_numbered opening lots)

all_numbered : (opening : LotKey → ℕ) (lots : List (LotKey × ℤ)) → AreNumberedBy opening (numbered opening lots)
all_numbered opening [] = tt
all_numbered opening (lot ∷ lots) = (refl, all_numbered opening lots)

-- ---- lots that are lent

module _ (foremost : Foremost) (before : OpenedLot → OpenedLot → Bool) (goes : GoesBy foremost before) where
  come_first : (amount : ℕ) (all lots : List Lot) → AreLentOf foremost amount all lots → ComeFirstOf (is_earlier before) all lots
  come_first amount all lots lent = record {
    others = lent.others;
    same = lent.same;
    first = all_weaker (λ (lot : Lot). AllByRecursion (λ (other : Lot). is_later foremost other lot ≡ true) lent.others)
        (λ (lot : Lot). AllByRecursion (λ (other : Lot). is_earlier before other lot ≡ false) lent.others)
        (λ lot. all_weaker (λ (other : Lot). is_later foremost other lot ≡ true) (λ (other : Lot). is_earlier before other lot ≡ false)
        (λ other. goes other lot) lent.others) lots lent.later;
  }

  -- what is taken of lots that come first is taken of all of which they are lent
  pub takes_of_all : (opening : LotKey → ℕ) (all : List (LotKey × ℤ)) (lots : List Lot) (units : ℤ) (legs : List (LotKey × ℤ))
      → ((opening : LotKey → ℕ) (all : List Lot) → HaveDistinctKeys (map key_and_units all) → AreNumberedBy opening all
      → ComeFirstOf (is_earlier before) all lots
      → Takes (InTurn (by_numbers before opening)) (by_numbers before opening) (map key_and_units all) units legs)
      → HaveDistinctKeys all → AreLentOf foremost (unsigned_abs units) (numbered opening all) lots
      → Takes (InTurn (by_numbers before opening)) (by_numbers before opening) all units legs
  takes_of_all opening all lots units legs taken distinct lent =
      let same = keys_numbered opening all in
      subst (λ (ls : List (LotKey × ℤ)). Takes (InTurn (by_numbers before opening)) (by_numbers before opening) ls units legs) same
      (taken opening (numbered opening all) (subst HaveDistinctKeys (sym same) distinct) (all_numbered opening all)
      (come_first (unsigned_abs units) (numbered opening all) lots lent))
