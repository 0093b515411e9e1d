-- What a completion leaves in a currency with a crumb is nothing, or what its fill takes up.
use Rattle.std.proofs.Common.{◌≡◌, ◌∙◌, ℕ, Bool, true, false, cond, not, List, [], ◌∷◌, Option, None, Some, ℤ, pos, ◌+ℤ◌, refl, sym, ap, subst, arith}
use Rattle.std.specs.Prelude.{filter, map, ◌||◌}
use Rattle.std.specs.List.{AllByRecursion, AllZip, list_any}
use Rattle.std.proofs.lemmas.Int.{ints}
use Rattle.lot_base.specs.Text.{same_text}
use Rattle.lot_base.proofs.TextLemmas.{same_text-itself, same_text-turned}
use Rattle.lot_booking.proofs.ListLemmas.{all_both}
use Rattle.lot_book.specs.Balance.{residuals}
use Rattle.lot_book.specs.Currencies.{first_appearances, sum_in}
use Rattle.lot_book.proofs.CaseLemmas.{by_bool}
use Rattle.lot_book.proofs.SumLemmas.{sum_in-none, sum_in_apart, sum_in_here}
use Rattle.lot_completion.specs.Completion.{IsCrumbOf, stated}
use Rattle.lot_completion.specs.Crumbs.{IsCrumb, IsTakenUp}
use Rattle.lot_completion.specs.Form.{AreApart}

-- ---- currencies that differ

abbrev Distinct : List (List ℕ) → Type 0
Distinct [] = Unit {0}
Distinct (n ∷ ns) = (list_any (same_text n) ns ≡ false) × Distinct ns

-- none of some is among fewer
pub none_fewer : {X : Type 0} (q p : X → Bool) (xs : List X) → list_any q xs ≡ false → list_any q (filter p xs) ≡ false
none_fewer q p [] none = refl
none_fewer q p (x ∷ xs) none =
    by_bool (q x)
    (λ e. let yes : true ≡ false = sym (ap (λ b. b || list_any q xs) e) ∙ none in absurd cc)
    (λ e.
    let rest = none_fewer q p xs (sym (ap (λ b. b || list_any q xs) e) ∙ none) in
    by_bool (p x)
    (λ kept. ap (λ b. list_any q (cond b (x ∷ filter p xs) (filter p xs))) kept ∙ ap (λ b. b || list_any q (filter p xs)) e ∙ rest)
    (λ gone. ap (λ b. list_any q (cond b (x ∷ filter p xs) (filter p xs))) gone ∙ rest))

distinct_fewer : (p : List ℕ → Bool) (ns : List (List ℕ)) → Distinct ns → Distinct (filter p ns)
distinct_fewer p [] all = tt
distinct_fewer p (n ∷ ns) all =
    let rest = distinct_fewer p ns all.1 in
    by_bool (p n)
    (λ kept. subst (λ b. Distinct (cond b (n ∷ filter p ns) (filter p ns))) (sym kept) (none_fewer (same_text n) p ns all.0, rest))
    (λ gone. subst (λ b. Distinct (cond b (n ∷ filter p ns) (filter p ns))) (sym gone) rest)

apart_fewer : (p : List ℕ × ℤ → Bool) (rs : List (List ℕ × ℤ)) → AreApart rs → AreApart (filter p rs)
apart_fewer p [] all = tt
apart_fewer p (r ∷ rs) all =
    let rest = apart_fewer p rs all.1 in
    by_bool (p r)
    (λ kept. subst (λ b. AreApart (cond b (r ∷ filter p rs) (filter p rs))) (sym kept) (none_fewer (λ (s : List ℕ × ℤ). same_text r.0 s.0) p rs all.0, rest))
    (λ gone. subst (λ b. AreApart (cond b (r ∷ filter p rs) (filter p rs))) (sym gone) rest)

none_same : (n : List ℕ) (ns : List (List ℕ)) → list_any (same_text n) (filter (λ other. not (same_text n other)) ns) ≡ false
none_same n [] = refl
none_same n (m ∷ ns) =
    let rest = none_same n ns in
    let left = filter (λ other. not (same_text n other)) ns in
    by_bool (same_text n m)
    (λ e. ap (λ b. list_any (same_text n) (cond (not b) (m ∷ left) left)) e ∙ rest)
    (λ e. ap (λ b. list_any (same_text n) (cond (not b) (m ∷ left) left)) e ∙ ap (λ b. b || list_any (same_text n) left) e ∙ rest)

distinct_first : (ns : List (List ℕ)) → Distinct (first_appearances ns)
distinct_first [] = tt
distinct_first (n ∷ ns) =
    (none_same n (first_appearances ns), distinct_fewer (λ other. not (same_text n other)) (first_appearances ns) (distinct_first ns))

pub any_beside : (n : List ℕ) (f : List ℕ → ℤ) (ns : List (List ℕ))
    → list_any (λ (s : List ℕ × ℤ). same_text n s.0) (map (λ (m : List ℕ). (m, f m)) ns) ≡ list_any (same_text n) ns
any_beside n f [] = refl
any_beside n f (m ∷ ns) = ap (λ b. same_text n m || b) (any_beside n f ns)

apart_beside : (f : List ℕ → ℤ) (ns : List (List ℕ)) → Distinct ns → AreApart (map (λ (m : List ℕ). (m, f m)) ns)
apart_beside f [] all = tt
apart_beside f (n ∷ ns) all = (any_beside n f ns ∙ all.0, apart_beside f ns all.1)

-- those of residuals do
pub apart_all : (weights : List (List ℕ × ℤ)) → AreApart (residuals weights)
apart_all weights =
    apart_beside (sum_in weights) (first_appearances (map (λ (w : List ℕ × ℤ). w.0) weights))
    (distinct_first (map (λ (w : List ℕ × ℤ). w.0) weights))

pub apart_residuals : (p : List ℕ × ℤ → Bool) (weights : List (List ℕ × ℤ)) → AreApart (filter p (residuals weights))
apart_residuals p weights = apart_fewer p (residuals weights) (apart_all weights)

-- ---- a crumb is all that crumbs come to in its currency

none_each : {X : Type 0} (q : X → Bool) (xs : List X) → list_any q xs ≡ false → AllByRecursion (λ x. q x ≡ false) xs
none_each q [] none = tt
none_each q (x ∷ xs) none =
    by_bool (q x)
    (λ e. let yes : true ≡ false = sym (ap (λ b. b || list_any q xs) e) ∙ none in absurd cc)
    (λ e. (e, none_each q xs (sym (ap (λ b. b || list_any q xs) e) ∙ none)))

pub own_sums : (cs : List (List ℕ × ℤ)) → AreApart cs → AllByRecursion (λ (c : List ℕ × ℤ). sum_in cs c.0 ≡ c.1) cs
own_sums [] all = tt
own_sums (c ∷ cs) all =
    let none : sum_in cs c.0 ≡ pos 0 = sum_in-none c.0 cs all.0 in
    let here = sum_in_here c cs c.0 (same_text-itself c.0) in (
      omega (arith, ints, here, none),
      all_both (λ (d : List ℕ × ℤ). same_text c.0 d.0 ≡ false) (λ (d : List ℕ × ℤ). sum_in cs d.0 ≡ d.1)
          (λ (d : List ℕ × ℤ). sum_in (c ∷ cs) d.0 ≡ d.1)
          (λ d apart own. sum_in_apart c cs d.0 (same_text-turned c.0 d.0 false apart) ∙ own) cs
          (none_each (λ (d : List ℕ × ℤ). same_text c.0 d.0) cs all.0) (own_sums cs all.1),
    )

same_names : (fill : Option ℕ) (left : List (List ℕ × ℤ)) (name : List ℕ) (rs cs : List (List ℕ × ℤ)) → AllZip (IsCrumbOf fill left) rs cs
    → list_any (λ (s : List ℕ × ℤ). same_text name s.0) cs ≡ list_any (λ (s : List ℕ × ℤ). same_text name s.0) rs
same_names fill left name [] [] are = refl
same_names fill left name [] (c ∷ cs) are = absurd are
same_names fill left name (r ∷ rs) [] are = absurd are
same_names fill left name (r ∷ rs) (c ∷ cs) are =
    ap (λ n. same_text name n || list_any (λ (s : List ℕ × ℤ). same_text name s.0) cs) are.0.currency
    ∙ ap (λ b. same_text name r.0 || b) (same_names fill left name rs cs are.1)

pub apart_crumbs : (fill : Option ℕ) (left rs cs : List (List ℕ × ℤ)) → AllZip (IsCrumbOf fill left) rs cs → AreApart rs → AreApart cs
apart_crumbs fill left [] [] are all = tt
apart_crumbs fill left [] (c ∷ cs) are all = absurd are
apart_crumbs fill left (r ∷ rs) [] are all = absurd are
apart_crumbs fill left (r ∷ rs) (c ∷ cs) are all = (
  ap (λ n. list_any (λ (s : List ℕ × ℤ). same_text n s.0) cs) are.0.currency ∙ same_names fill left r.0 rs cs are.1 ∙ all.0,
  apart_crumbs fill left rs cs are.1 all.1,
)

-- ---- what is left

one_taken_up : (fill : Option ℕ) (stated residual crumb sum : ℤ) → IsCrumb fill stated residual crumb → sum ≡ residual +ℤ crumb
    → IsTakenUp fill sum
one_taken_up None stated residual crumb sum is added = omega (arith, ints, is, added)
one_taken_up (Some decimals) stated residual crumb sum (rounded, is_rounded, is) added =
    let whole : sum ≡ rounded = omega (arith, ints, is, added) in (is_rounded.steps, whole ∙ is_rounded.is_steps)

zip_taken_up : (fill : Option ℕ) (left : List (List ℕ × ℤ)) (before after : List ℕ → ℤ) (all rs cs : List (List ℕ × ℤ))
    → AllZip (IsCrumbOf fill left) rs cs → AllByRecursion (λ (r : List ℕ × ℤ). before r.0 ≡ r.1) rs
    → AllByRecursion (λ (c : List ℕ × ℤ). sum_in all c.0 ≡ c.1) cs
    → ((name : List ℕ) → after name ≡ before name +ℤ sum_in all name)
    → AllByRecursion (λ (c : List ℕ × ℤ). IsTakenUp fill (after c.0)) cs
zip_taken_up fill left before after all [] [] are sums own adds = tt
zip_taken_up fill left before after all [] (c ∷ cs) are sums own adds = absurd are
zip_taken_up fill left before after all (r ∷ rs) [] are sums own adds = absurd are
zip_taken_up fill left before after all (r ∷ rs) (c ∷ cs) are sums own adds =
    let same : before c.0 ≡ r.1 = ap before are.0.currency ∙ sums.0 in
    let added : after c.0 ≡ r.1 +ℤ c.1 = adds c.0 ∙ ap (λ z. z +ℤ sum_in all c.0) same ∙ ap (λ z. r.1 +ℤ z) own.0 in (
      one_taken_up fill (stated left r) r.1 c.1 (after c.0) are.0.amount added,
      zip_taken_up fill left before after all rs cs are.1 sums.1 own.1 adds,
    )

pub fewer_all : {X : Type 0} (P : X → Type 0) (p : X → Bool) (xs : List X) → AllByRecursion P xs → AllByRecursion P (filter p xs)
fewer_all P p [] all = tt
fewer_all P p (x ∷ xs) all =
    let rest = fewer_all P p xs all.1 in
    by_bool (p x)
    (λ kept. subst (λ b. AllByRecursion P (cond b (x ∷ filter p xs) (filter p xs))) (sym kept) (all.0, rest))
    (λ gone. subst (λ b. AllByRecursion P (cond b (x ∷ filter p xs) (filter p xs))) (sym gone) rest)

beside_sums : (f : List ℕ → ℤ) (ns : List (List ℕ)) → AllByRecursion (λ (r : List ℕ × ℤ). f r.0 ≡ r.1) (map (λ (n : List ℕ). (n, f n)) ns)
beside_sums f [] = tt
beside_sums f (n ∷ ns) = (refl, beside_sums f ns)

-- in each currency with a crumb
pub crumbs_taken_up : (fill : Option ℕ) (left : List (List ℕ × ℤ)) (p : List ℕ × ℤ → Bool) (weights cs : List (List ℕ × ℤ)) (after : List ℕ → ℤ)
    → AllZip (IsCrumbOf fill left) (filter p (residuals weights)) cs
    → ((name : List ℕ) → after name ≡ sum_in weights name +ℤ sum_in cs name)
    → AllByRecursion (λ (c : List ℕ × ℤ). IsTakenUp fill (after c.0)) cs
crumbs_taken_up fill left p weights cs after are adds =
    let rs = filter p (residuals weights) in
    zip_taken_up fill left (sum_in weights) after cs rs cs are
    (fewer_all (λ (r : List ℕ × ℤ). sum_in weights r.0 ≡ r.1) p (residuals weights)
    (beside_sums (sum_in weights) (first_appearances (map (λ (w : List ℕ × ℤ). w.0) weights))))
    (own_sums cs (apart_crumbs fill left rs cs are (apart_residuals p weights))) adds
