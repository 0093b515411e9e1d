-- The order of ranks, and which lots come later by it.
use Rattle.std.specs.Prelude.{◌≡◌, ℕ, true, false, cond, ℤ, pos, neg_ℤ, int_lt, nat_lt}
use Rattle.std.specs.declared.cmp.Ordering.{Ordering}
use Rattle.std.specs.declared.cmp.Ordering.TheVariants.{Less, Equal, Greater}
use Rattle.std.specs.Cmp.{IsTotalOrder}
use Rattle.std.specs.Ordering.{int_cmp, is_lt, nat_cmp, ordering_reverse, ordering_then}
use Rattle.std.proofs.Common.{arith, refl, sym, ap, ◌∙◌}
use Rattle.std.proofs.lemmas.Bool.Decides.{nat_tests}
use Rattle.std.proofs.lemmas.Cmp.{alike_right, int_cmp_total, nat_cmp_total, on_total, then_total}
use Rattle.std.proofs.lemmas.Int.{ints}
use Rattle.std.proofs.lemmas.Map.Lookups.{CmpEqualImpliesEq, exact_signed, exact_unsigned}
use Rattle.lot_base.proofs.OrderLemmas.{equal_parts}
use Rattle.lot_inv.specs.declared.foremost.Foremost.{Foremost}
use Rattle.lot_inv.specs.declared.foremost.Foremost.TheVariants.{Oldest, Newest, Highest, OldestOpened, NewestOpened, HighestOpened}
use Rattle.lot_inv.specs.declared.lot.Lot.{Lot}
use Rattle.lot_inv.specs.Foremost.{Rank, is_later, opened, rank, rank_cmp, together}

pub ranks_total : IsTotalOrder rank_cmp
ranks_total = then_total (on_total (λ (r : Rank). r.0) int_cmp_total) (on_total (λ (r : Rank). r.1) nat_cmp_total)

pub exact_ranks : CmpEqualImpliesEq rank_cmp
exact_ranks p q e =
    let parts = equal_parts (int_cmp p.0 q.0) (nat_cmp p.1 q.1) e in
    λ i. (exact_signed p.0 q.0 parts.0 i, exact_unsigned p.1 q.1 parts.1 i)

-- ---- what comes later than another

is_less : (o : Ordering) → is_lt o ≡ true → o ≡ Less
is_less Less less = refl
is_less Equal less = cc
is_less Greater less = cc

above_next : (a b c : Rank) (o : Ordering) → rank_cmp c b ≡ o → is_lt (rank_cmp a b) ≡ true → is_lt o ≡ false → is_lt (rank_cmp a c) ≡ true
above_next a b c Less is less follows = cc
above_next a b c Equal is less follows = ap is_lt (alike_right ranks_total c b a is) ∙ less
above_next a b c Greater is less follows =
    ap is_lt (ranks_total.trans a b c (is_less (rank_cmp a b) less) (ranks_total.antisymm b c ∙ ap ordering_reverse is))

above_last : (a b c : Rank) (o : Ordering) → rank_cmp b a ≡ o → is_lt o ≡ false → is_lt (rank_cmp b c) ≡ true → is_lt (rank_cmp a c) ≡ true
above_last a b c Less is follows less = cc
above_last a b c Equal is follows less = ap is_lt (sym (ranks_total.congr b a c is)) ∙ less
above_last a b c Greater is follows less =
    ap is_lt (ranks_total.trans a b c (ranks_total.antisymm a b ∙ ap ordering_reverse is) (is_less (rank_cmp b c) less))

module _ (foremost : Foremost) where
  abbrev rank_of : Lot → Rank
  rank_of lot = rank foremost lot.key lot.opening

  -- what isn't before a lot that comes later comes later
  pub later_on : (lot next other : Lot) → is_later foremost next lot ≡ true → is_later foremost next other ≡ false → is_later foremost other lot ≡ true
  later_on lot next other later follows =
      above_next (rank_of lot) (rank_of next) (rank_of other) (rank_cmp (rank_of other) (rank_of next)) refl later follows

  -- what comes later than a lot does so than one that the lot isn't before
  pub later_back : (lot next other : Lot) → is_later foremost lot next ≡ false → is_later foremost other next ≡ true → is_later foremost other lot ≡ true
  later_back lot next other follows later =
      above_last (rank_of lot) (rank_of next) (rank_of other) (rank_cmp (rank_of next) (rank_of lot)) refl follows later

-- ---- with opening numbers and without

first_less : (o r : Ordering) → is_lt (ordering_then o Equal) ≡ true → is_lt (ordering_then o r) ≡ true
first_less Less r less = refl
first_less Equal r less = cc
first_less Greater r less = cc

first_not : (o r : Ordering) → is_lt (ordering_then o r) ≡ false → is_lt (ordering_then o Equal) ≡ false
first_not Less r follows = cc
first_not Equal r follows = refl
first_not Greater r follows = refl

-- what comes later where those of one day or of one number are together comes later
pub later_together : (foremost : Foremost) (lot other : Lot) → is_later (together foremost) lot other ≡ true → is_later foremost lot other ≡ true
later_together Oldest lot other later = later
later_together Newest lot other later = later
later_together Highest lot other later = later
later_together OldestOpened lot other later =
    first_less (int_cmp (rank Oldest other.key 0).0 (rank Oldest lot.key 0).0) (nat_cmp other.opening lot.opening) later
later_together NewestOpened lot other later =
    first_less (int_cmp (rank Newest other.key 0).0 (rank Newest lot.key 0).0) (nat_cmp other.opening lot.opening) later
later_together HighestOpened lot other later =
    first_less (int_cmp (rank Highest other.key 0).0 (rank Highest lot.key 0).0) (nat_cmp other.opening lot.opening) later

-- what doesn't come later by its opening number doesn't so without
pub not_opened_later : (foremost : Foremost) (lot other : Lot) → is_later (opened foremost) lot other ≡ false → is_later foremost lot other ≡ false
not_opened_later Oldest lot other follows =
    first_not (int_cmp (rank Oldest other.key 0).0 (rank Oldest lot.key 0).0) (nat_cmp other.opening lot.opening) follows
not_opened_later Newest lot other follows =
    first_not (int_cmp (rank Newest other.key 0).0 (rank Newest lot.key 0).0) (nat_cmp other.opening lot.opening) follows
not_opened_later Highest lot other follows =
    first_not (int_cmp (rank Highest other.key 0).0 (rank Highest lot.key 0).0) (nat_cmp other.opening lot.opening) follows
not_opened_later OldestOpened lot other follows = follows
not_opened_later NewestOpened lot other follows = follows
not_opened_later HighestOpened lot other follows = follows

-- ---- what comes first by one part

pub negated : (a b : ℤ) → int_cmp (neg_ℤ a) (neg_ℤ b) ≡ int_cmp b a
negated a b =
    let less : int_lt (neg_ℤ a) (neg_ℤ b) ≡ int_lt b a = grind (arith, ints) in
    let more : int_lt (neg_ℤ b) (neg_ℤ a) ≡ int_lt a b = grind (arith, ints) in
    λ i. cond (less i) Less (cond (more i) Greater Equal)

turned : (o rest : Ordering) → ordering_then o rest ≡ Less → is_lt (ordering_then (ordering_reverse o) Equal) ≡ false
turned Less rest less = refl
turned Equal rest less = refl
turned Greater rest less = cc

-- what is less by its first part isn't above by it
pub not_above : (a b : ℤ) (rest : Ordering) → ordering_then (int_cmp a b) rest ≡ Less → is_lt (ordering_then (int_cmp b a) Equal) ≡ false
not_above a b rest less =
    ap (λ o. is_lt (ordering_then o Equal)) (int_cmp_total.antisymm b a) ∙ turned (int_cmp a b) rest less

pub not_above_negated : (a b : ℤ) (rest : Ordering) → ordering_then (int_cmp a b) rest ≡ Less → is_lt (ordering_then (int_cmp (neg_ℤ a) (neg_ℤ b)) Equal) ≡ false
not_above_negated a b rest less = ap (λ o. is_lt (ordering_then o Equal)) (negated a b) ∙ not_above a b rest less

-- a lower number comes later
pub lower_later : (a b : ℕ) → nat_lt b a ≡ true → is_lt (ordering_then (int_cmp (neg_ℤ (pos a)) (neg_ℤ (pos b))) Equal) ≡ true
lower_later a b lower =
    let less : int_lt (neg_ℤ (pos a)) (neg_ℤ (pos b)) ≡ true = grind (arith, ints, nat_tests) in
    ap (λ x. is_lt (ordering_then (cond x Less (cond (int_lt (neg_ℤ (pos b)) (neg_ℤ (pos a))) Greater Equal)) Equal)) less
