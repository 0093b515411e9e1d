-- What is known whole: more of it, and what a command looks at beside it.
use Rattle.std.specs.Prelude.{◌≡◌, ℕ, true, cond, not, ◌||◌, List, [], ◌∷◌, filter, get_or}
use Rattle.std.specs.declared.cmp.Ordering.{Ordering}
use Rattle.std.specs.BTreeSet.{BTreeSet, InsertsAll, contains, difference}
use Rattle.std.specs.Cmp.{IsTotalOrder, eq_by_cmp_equiv}
use Rattle.std.specs.List.{AllByRecursion}
use Rattle.std.specs.Ordering.{eq_by_cmp}
use Rattle.std.specs.Set.{is_member}
use Rattle.std.proofs.Common.{sym, subst, ◌∙◌}
use Rattle.std.proofs.lemmas.Cmp.{nat_list_cmp_total}
use Rattle.std.proofs.lemmas.List.Elements.{recursion_from_All}
use Rattle.std.proofs.lemmas.Map.Lookups.{CmpEqualImpliesEq, exact_bytes}
use Rattle.std.proofs.lemmas.Map.Made.{All-is_member}
use Rattle.lot_base.specs.Text.{text_cmp}
use Rattle.lot_cost.proofs.OrderLemmas.{is_equal}
use Rattle.lot_book.specs.Change.{pair_cmp}
use Rattle.lot_book.specs.Facts.{Facts}
use Rattle.lot_book.specs.declared.change.Pair.{Pair}
use Rattle.lot_book.proofs.CaseLemmas.{by_bool}
use Rattle.lot_load.specs.Known.{KnowsDeclared, KnowsPair, KnowsPlain, KnowsStanding, KnowsTouched}
use Rattle.lot_load.proofs.LearnLemmas.{Stays, declared_stays, each_stays, pair_stays, plain_stays, standing_stays}
use Rattle.lot_view.proofs.TouchedLemmas.{exact_pairs, pairs_total}
use Rattle.lot_view.specs.declared.touched.Touched.{Touched}

module _ {K : Type 0} (cmp : K → K → Ordering) (total : IsTotalOrder cmp) (exact : CmpEqualImpliesEq cmp) (P : K → Type 0) where
  -- what is so of all keys is so of one among them
  among : (keys : List K) (key : K) → AllByRecursion P keys → is_member (eq_by_cmp cmp) keys key ≡ true → P key
  among [] key all e = cc
  among (x ∷ xs) key all e =
      by_bool (eq_by_cmp cmp key x)
      (λ tie. subst P (sym (exact key x (is_equal (cmp key x) tie))) all.0)
      (λ apart. among xs key all.1 (subst (λ b. (b || is_member (eq_by_cmp cmp) xs key) ≡ true) apart e))

  -- what is so of each among them is so of all
  all_of : (keys : List K) → ((key : K) → is_member (eq_by_cmp cmp) keys key ≡ true → P key) → AllByRecursion P keys
  all_of keys each =
      recursion_from_All P keys (λ i x inside. each (get_or keys i x) (All-is_member (eq_by_cmp_equiv total) keys i x inside))

  -- what is so of the keys of a set, and of those that are added, is so of all
  pub all_added : (before after : BTreeSet K) (more : List K) → InsertsAll cmp before more after → AllByRecursion P before.keys
      → AllByRecursion P more → AllByRecursion P after.keys
  all_added before after more inserts old new =
      all_of after.keys (λ key has.
      by_bool (is_member (eq_by_cmp cmp) before.keys key)
      (λ there. among before.keys key old there)
      (λ apart. among more key new
      (subst (λ b. (b || is_member (eq_by_cmp cmp) more key) ≡ true) apart (sym (inserts.0 key) ∙ has))))

  -- what is so of the keys of a set, and of those of others that it lacks, is so of these others
  pub all_lacking : (whole : BTreeSet K) (keys : List K) → AllByRecursion P whole.keys
      → AllByRecursion P (filter (λ key. not (contains cmp whole key)) keys) → AllByRecursion P keys
  all_lacking whole [] known rest = tt
  all_lacking whole (key ∷ keys) known rest =
      let others = filter (λ key. not (contains cmp whole key)) keys in
      by_bool (contains cmp whole key)
      (λ there. (
        among whole.keys key known there,
        all_lacking whole keys known (subst (λ b. AllByRecursion P (cond (not b) (key ∷ others) others)) there rest),
      ))
      (λ apart.
      let both = subst (λ b. AllByRecursion P (cond (not b) (key ∷ others) others)) apart rest in
      (both.0, all_lacking whole keys known both.1))

-- ---- what a command looks at

-- more is known whole
pub record Gains (before more after : Touched) : Type 0 where
  pub accounts : InsertsAll text_cmp before.accounts more.accounts.keys after.accounts
  pub declared : InsertsAll text_cmp before.declared more.declared.keys after.declared
  pub pairs : InsertsAll pair_cmp before.pairs more.pairs.keys after.pairs
  pub plain : InsertsAll text_cmp before.plain more.plain.keys after.plain

-- of this the others are not known whole
pub record Lacks (whole touched others : Touched) : Type 0 where
  pub accounts : others.accounts.keys ≡ difference text_cmp touched.accounts whole.accounts
  pub declared : others.declared.keys ≡ difference text_cmp touched.declared whole.declared
  pub pairs : others.pairs.keys ≡ difference pair_cmp touched.pairs whole.pairs
  pub plain : others.plain.keys ≡ difference text_cmp touched.plain whole.plain

pub touched_stays : (touched : Touched) → Stays (KnowsTouched touched)
touched_stays touched book before after fills knows = (
  each_stays KnowsStanding standing_stays touched.accounts.keys book before after fills knows.0,
  each_stays KnowsDeclared declared_stays touched.declared.keys book before after fills knows.1,
  each_stays KnowsPair pair_stays touched.pairs.keys book before after fills knows.2,
  each_stays KnowsPlain plain_stays touched.plain.keys book before after fills knows.3,
)

module _ (book known : Facts) where
  pub knows_added : (before more after : Touched) → Gains before more after → KnowsTouched before book known → KnowsTouched more book known
      → KnowsTouched after book known
  knows_added before more after gains old new = (
    all_added text_cmp nat_list_cmp_total exact_bytes (λ (account : List ℕ). KnowsStanding account book known)
        before.accounts after.accounts more.accounts.keys gains.accounts old.0 new.0,
    all_added text_cmp nat_list_cmp_total exact_bytes (λ (commodity : List ℕ). KnowsDeclared commodity book known)
        before.declared after.declared more.declared.keys gains.declared old.1 new.1,
    all_added pair_cmp pairs_total exact_pairs (λ (pair : Pair). KnowsPair pair book known)
        before.pairs after.pairs more.pairs.keys gains.pairs old.2 new.2,
    all_added text_cmp nat_list_cmp_total exact_bytes (λ (account : List ℕ). KnowsPlain account book known)
        before.plain after.plain more.plain.keys gains.plain old.3 new.3,
  )

  pub knows_touched : (whole touched others : Touched) → Lacks whole touched others → KnowsTouched whole book known
      → KnowsTouched others book known → KnowsTouched touched book known
  knows_touched whole touched others lacks old new =
      let standing : List ℕ → Type 0 = λ account. KnowsStanding account book known in
      let declared : List ℕ → Type 0 = λ commodity. KnowsDeclared commodity book known in
      let pair : Pair → Type 0 = λ pair. KnowsPair pair book known in
      let plain : List ℕ → Type 0 = λ account. KnowsPlain account book known in (
        all_lacking text_cmp nat_list_cmp_total exact_bytes standing whole.accounts touched.accounts.keys old.0
            (subst (AllByRecursion standing) lacks.accounts new.0),
        all_lacking text_cmp nat_list_cmp_total exact_bytes declared whole.declared touched.declared.keys old.1
            (subst (AllByRecursion declared) lacks.declared new.1),
        all_lacking pair_cmp pairs_total exact_pairs pair whole.pairs touched.pairs.keys old.2
            (subst (AllByRecursion pair) lacks.pairs new.2),
        all_lacking text_cmp nat_list_cmp_total exact_bytes plain whole.plain touched.plain.keys old.3
            (subst (AllByRecursion plain) lacks.plain new.3),
      )
