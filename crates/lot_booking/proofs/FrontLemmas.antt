-- Lots that are put into an order, and those that come first in it.
use Rattle.std.specs.Prelude.{◌≡◌, ℕ, ◌+◌, Bool, true, false, cond, List, [], ◌∷◌, ◌++◌, length, IsPermutation}
use Rattle.std.specs.Cmp.{IsStrictWeakOrder}
use Rattle.std.specs.List.{All, AllByRecursion, IsFirstBest}
use Rattle.std.specs.List.Sorted.{IsSortedBy}
use Rattle.std.proofs.Common.{append-nil, arith, refl, sym, ap, subst, ◌∙◌, add-one, append_assoc, get_or}
use Rattle.std.proofs.lemmas.List.{get_or_default}
use Rattle.std.proofs.lemmas.List.Elements.{recursion_from_All}
use Rattle.std.proofs.lemmas.List.Sorted.{IsPermutation-append, IsPermutation-append_right, IsPermutation-cons, IsPermutation-middle, IsPermutation-refl, IsPermutation-trans, sorted_far}
use Rattle.lot_inv.specs.declared.lot.Lot.{Lot}
use Rattle.lot_cost.proofs.ListLemmas.{all_weaker}
use Rattle.lot_booking.specs.Front.{AreAscending, ComeFirstOf, IsFrontOf, Lead}
use Rattle.lot_booking.proofs.ListLemmas.{all_permuted}

next_place : {X : Type 0} (x : X) (xs : List X) (k : ℕ) (d : X) → get_or (x ∷ xs) (k + 1) d ≡ get_or xs k d
next_place x xs k d = rw add-one refl

module _ (earlier : Lot → Lot → Bool) (weak : IsStrictWeakOrder earlier) where
  -- what a sort gives ascends
  pub ascending-from_sorted : (lots : List Lot) → IsSortedBy earlier lots → AreAscending earlier lots
  ascending-from_sorted [] sorted = tt
  ascending-from_sorted (lot ∷ lots) sorted =
      let tail : IsSortedBy earlier lots = λ k d low high.
      rw (next_place lot lots (k + 1) d, next_place lot lots k d) at (sorted (k + 1) d (omega arith) (omega arith)) in (
        recursion_from_All (λ (later : Lot). earlier later lot ≡ false) lots (λ k d short.
            rw (next_place lot lots k d) at (sorted_far earlier weak (lot ∷ lots) sorted 0 (k + 1) d (omega arith) (omega arith))),
        ascending-from_sorted lots tail,
      )

  -- ---- each list has an order that ascends

  abbrev put : Lot → List Lot → List Lot
  put lot [] = lot ∷ []
  put lot (next ∷ lots) = cond (earlier next lot) (next ∷ put lot lots) (lot ∷ next ∷ lots)

  swapped : (lot next : Lot) (lots : List Lot) → IsPermutation (lot ∷ next ∷ lots) (next ∷ lot ∷ lots)
  swapped lot next lots = IsPermutation-middle (lot ∷ []) next lots

  put-permutes : (lot : Lot) (lots : List Lot) → IsPermutation (lot ∷ lots) (put lot lots)
  put-permutes lot [] = IsPermutation-refl (lot ∷ [])
  put-permutes lot (next ∷ lots) = by_earlier (earlier next lot) (put-permutes lot lots)
    where
      by_earlier : (b : Bool) → IsPermutation (lot ∷ lots) (put lot lots)
          → IsPermutation (lot ∷ next ∷ lots) (cond b (next ∷ put lot lots) (lot ∷ next ∷ lots))
      by_earlier true behind =
          IsPermutation-trans (lot ∷ next ∷ lots) (next ∷ lot ∷ lots) (next ∷ put lot lots) (swapped lot next lots)
          (IsPermutation-cons next (lot ∷ lots) (put lot lots) behind)
      by_earlier false behind = IsPermutation-refl (lot ∷ next ∷ lots)

  abbrev Follow : Lot → List Lot → Type 0
  Follow lot lots = AllByRecursion (λ (later : Lot). earlier later lot ≡ false) lots

  put-ascends : (lot : Lot) (lots : List Lot) → AreAscending earlier lots → AreAscending earlier (put lot lots)
  put-ascends lot [] ascend = (tt, tt)
  put-ascends lot (next ∷ lots) ascend = by_earlier (earlier next lot) refl (put-ascends lot lots ascend.1)
    where
      by_earlier : (b : Bool) → earlier next lot ≡ b → AreAscending earlier (put lot lots)
          → AreAscending earlier (cond b (next ∷ put lot lots) (lot ∷ next ∷ lots))
      by_earlier true first behind = (
        all_permuted (λ (later : Lot). earlier later next ≡ false) (lot ∷ lots) (put lot lots) (put-permutes lot lots)
            (weak.one_way next lot first, ascend.0),
        behind,
      )
      by_earlier false not_first behind = (
        (
          not_first,
          all_weaker (λ (later : Lot). earlier later next ≡ false) (λ (later : Lot). earlier later lot ≡ false)
              (λ later follows. weak.chain later next lot follows not_first) lots ascend.0,
        ),
        ascend,
      )

  pub sorted_of : (lots : List Lot) → (sorted : List Lot) × IsPermutation lots sorted × AreAscending earlier sorted
  sorted_of [] = ([], IsPermutation-refl [], tt)
  sorted_of (lot ∷ lots) =
      let rest = sorted_of lots in (
        put lot rest.0,
        IsPermutation-trans (lot ∷ lots) (lot ∷ rest.0) (put lot rest.0) (IsPermutation-cons lot lots rest.0 rest.1) (put-permutes lot rest.0),
        put-ascends lot rest.0 rest.2,
      )

  -- ---- the lots that come first

  abbrev Permutes : List Lot → List Lot → Type 0
  Permutes lots listed = IsPermutation lots listed

  -- some that lead the others
  pub front_of_some : (lots front others : List Lot) → Permutes lots (front ++ others) → Lead earlier front others
      → IsFrontOf earlier lots front
  front_of_some lots front others same lead =
      let sorted = sorted_of others in
      record {
        others = sorted.0;
        same = IsPermutation-trans lots (front ++ others) (front ++ sorted.0) same (IsPermutation-append_right front others sorted.0 sorted.1);
        sorted = lead sorted.0 sorted.1 sorted.2;
      }

  -- all of them, once the others are sorted
  pub all_in_front : (lots front others sorted : List Lot) → Permutes lots (front ++ others) → Permutes others sorted
      → Permutes lots (front ++ sorted)
  all_in_front lots front others sorted same moved =
      IsPermutation-trans lots (front ++ others) (front ++ sorted) same (IsPermutation-append_right front others sorted moved)

  pub front_of_all : (lots front others sorted : List Lot) → Permutes lots (front ++ others) → Lead earlier front others
      → Permutes others sorted → IsSortedBy earlier sorted → IsFrontOf earlier lots (front ++ sorted)
  front_of_all lots front others sorted same lead moved by_order =
      let none : front ++ sorted ≡ (front ++ sorted) ++ [] = sym (append-nil (front ++ sorted)) in
      record {
        others = [];
        same = subst (Permutes lots) none (all_in_front lots front others sorted same moved);
        sorted = subst (AreAscending earlier) none (lead sorted moved (ascending-from_sorted sorted by_order));
      }

  -- all of them, as a sort puts them
  pub front_of_sorted : (lots sorted : List Lot) → Permutes lots sorted → IsSortedBy earlier sorted → IsFrontOf earlier lots sorted
  front_of_sorted lots sorted moved by_order =
      front_of_all lots [] lots sorted (IsPermutation-refl lots) (λ listed same ascend. ascend) moved by_order

  -- ---- what comes first of lots that come first

  all_appended : (P : Lot → Type 0) (lots others : List Lot) → AllByRecursion P lots → AllByRecursion P others → AllByRecursion P (lots ++ others)
  all_appended P [] others first rest = rest
  all_appended P (lot ∷ lots) others first rest = (first.0, all_appended P lots others first.1 rest)

  ascending-append : (lots others : List Lot) → AreAscending earlier lots → AreAscending earlier others
      → AllByRecursion (λ (lot : Lot). Follow lot others) lots → AreAscending earlier (lots ++ others)
  ascending-append [] others first rest follow = rest
  ascending-append (lot ∷ lots) others first rest follow = (
    all_appended (λ (later : Lot). earlier later lot ≡ false) lots others first.0 follow.0,
    ascending-append lots others first.1 rest follow.1,
  )

  pub front_of_first : (all lots front : List Lot) → IsFrontOf earlier lots front → ComeFirstOf earlier all lots → IsFrontOf earlier all front
  front_of_first all lots front leads come =
      let sorted = sorted_of come.others in
      let listed = front ++ leads.others in
      let follow = all_permuted (λ (lot : Lot). Follow lot sorted.0) lots listed leads.same
      (all_weaker (λ (lot : Lot). Follow lot come.others) (λ (lot : Lot). Follow lot sorted.0)
      (λ lot. all_permuted (λ (later : Lot). earlier later lot ≡ false) come.others sorted.0 sorted.1) lots come.first) in
      record {
        others = leads.others ++ sorted.0;
        same = subst (Permutes all) (append_assoc front leads.others sorted.0)
            (IsPermutation-trans all (lots ++ come.others) (listed ++ sorted.0) come.same
            (IsPermutation-append lots listed come.others sorted.0 leads.same sorted.1));
        sorted = subst (AreAscending earlier) (append_assoc front leads.others sorted.0)
            (ascending-append listed sorted.0 leads.sorted sorted.2 follow);
      }

-- none of a list is earlier than its first
pub first_of-all : (earlier : Lot → Lot → Bool) (lots : List Lot) (lot : Lot) (place : ℕ) → IsFirstBest earlier lots (length lots) place
    → lot ≡ get_or lots place lot → All (λ (other : Lot). earlier other lot ≡ false) lots
first_of-all earlier lots lot place first is = λ k d short.
    ap (earlier (get_or lots k d)) (is ∙ get_or_default lots place lot d first.0) ∙ first.1 k d short

-- one more lot leads, where none of the others is earlier
pub leads_more : (earlier : Lot → Lot → Bool) (front others rest : List Lot) (lot : Lot) → Lead earlier front others
    → IsPermutation others (lot ∷ rest) → AllByRecursion (λ (later : Lot). earlier later lot ≡ false) rest
    → Lead earlier (front ++ lot ∷ []) rest
leads_more earlier front others rest lot leads same first sorted moved ascend =
    subst (AreAscending earlier) (sym (append_assoc front (lot ∷ []) sorted))
    (leads (lot ∷ sorted)
    (IsPermutation-trans others (lot ∷ rest) (lot ∷ sorted) same (IsPermutation-cons lot rest sorted moved))
    (all_permuted (λ (later : Lot). earlier later lot ≡ false) rest sorted moved first, ascend))
