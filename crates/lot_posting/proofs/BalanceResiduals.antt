-- One more leg: its weight is added to the residual of its currency.
use Rattle.std.proofs.Common.{◌≡◌, ℕ, suc, ◌+◌, ◌*◌, ◌≤◌, ◌<◌, ℤ, pos, ◌+ℤ◌, Option, true, false, cond, not, ◌||◌, List, [], ◌∷◌, ◌++◌, length, get_or, take, map, None, Some, refl, ap, ◌∙◌, sym, append_assoc, arith}
use Rattle.std.specs.Prelude.{⊤, unsigned_abs}
use Rattle.std.specs.List.{AllByRecursion, list_any}
use Rattle.std.specs.Map.{lookup}
use Rattle.std.specs.Option.{unwrap_or}
use Rattle.std.proofs.lemmas.Int.{ints}
use Rattle.std.proofs.lemmas.Grind.{flat_map-append}
use Rattle.std.proofs.lemmas.List.{append-nil, map-append, take_more}
use Rattle.std.proofs.lemmas.List.Sums.{sum_by_push, sum_by-take-le}
use Rattle.indexmap.specs.IndexMap.{insert_entry}
use Rattle.lot_book.specs.declared.leg.Leg.{Leg}
use Rattle.lot_base.specs.Text.{same_text}
use Rattle.lot_book.specs.Currencies.{sum_in, first_appearances}
use Rattle.lot_book.specs.Balance.{weight_of, currencies, residuals, residual_in, add_weight, AreWithin, weights_in, weights_of}
use Rattle.lot_book.specs.Booking.{Booked}
use Rattle.lot_book.specs.Leg.{units_moved}
use Rattle.lot_book.specs.Refusals.{most_postings}
use Rattle.lot_num.specs.Amount.{IsWide, rate_limit, units_limit}
use Rattle.std.proofs.Math.IntN.{+ℤ_idl}
use Rattle.lot_book.proofs.CaseLemmas.{by_bool}
use Rattle.lot_base.proofs.TextLemmas.{one_text, same_text-itself, same_text-turned}
use Rattle.lot_book.proofs.CurrencyLemmas.{without, beside}
use Rattle.lot_book.proofs.SumLemmas.{sum_in-unnamed, sum_in-push_here, sum_in-push_apart}

-- ---- Names.

-- a name at the end of a list of names, unless it stands there already
abbrev add_name : List (List ℕ) → List ℕ → List (List ℕ)
add_name [] n = n ∷ []
add_name (k ∷ ks) n = cond (same_text n k) (k ∷ ks) (k ∷ add_name ks n)

without-added_itself : (m n : List ℕ) (ks : List (List ℕ)) → same_text m n ≡ true → without m (add_name ks n) ≡ without m ks
without-added_itself m n [] e = rw e refl
without-added_itself m n (k ∷ ks) e = by_bool (same_text n k)
    (λ here. rw here refl)
    (λ there. rw there (ap (λ rest. cond (not (same_text m k)) (k ∷ rest) rest) (without-added_itself m n ks e)))

without-added : (m n : List ℕ) (ks : List (List ℕ)) → same_text m n ≡ false
    → without m (add_name ks n) ≡ add_name (without m ks) n
without-added m n [] e = rw e refl
without-added m n (k ∷ ks) e = by_bool (same_text n k)
    (λ here.
    let apart : same_text m k ≡ false = ap (same_text m) (sym (one_text n k here)) ∙ e in
    rw (here, apart) (rw here refl))
    (λ there. by_bool (same_text m k)
    (λ gone. rw (there, gone) (without-added m n ks e))
    (λ kept. rw (there, kept) (rw there (ap (λ rest. k ∷ rest) (without-added m n ks e)))))

first_appearances-push : (names : List (List ℕ)) (n : List ℕ)
    → first_appearances (names ++ n ∷ []) ≡ add_name (first_appearances names) n
first_appearances-push [] n = refl
first_appearances-push (m ∷ names) n =
    ap (λ ks. m ∷ without m ks) (first_appearances-push names n)
    ∙ by_bool (same_text n m)
    (λ here. rw here (ap (λ ks. m ∷ ks) (without-added_itself m n (first_appearances names) (same_text-turned n m true here))))
    (λ there. rw there (ap (λ ks. m ∷ ks) (without-added m n (first_appearances names) (same_text-turned n m false there))))

-- no name stands twice
abbrev AreApart : List (List ℕ) → Type 0
AreApart [] = ⊤
AreApart (k ∷ ks) = AllByRecursion (λ other. same_text k other ≡ false) ks × AreApart ks

others_without : (m k : List ℕ) (ks : List (List ℕ)) → AllByRecursion (λ other. same_text k other ≡ false) ks
    → AllByRecursion (λ other. same_text k other ≡ false) (without m ks)
others_without m k [] all = tt
others_without m k (other ∷ ks) all = by_bool (same_text m other)
    (λ gone. rw gone (others_without m k ks all.1))
    (λ kept. rw kept (all.0, others_without m k ks all.1))

without_it : (m : List ℕ) (ks : List (List ℕ)) → AllByRecursion (λ other. same_text m other ≡ false) (without m ks)
without_it m [] = tt
without_it m (k ∷ ks) = by_bool (same_text m k)
    (λ gone. rw gone (without_it m ks))
    (λ kept. rw kept (kept, without_it m ks))

AreApart-without : (m : List ℕ) (ks : List (List ℕ)) → AreApart ks → AreApart (without m ks)
AreApart-without m [] apart = tt
AreApart-without m (k ∷ ks) apart = by_bool (same_text m k)
    (λ gone. rw gone (AreApart-without m ks apart.1))
    (λ kept. rw kept (others_without m k ks apart.0, AreApart-without m ks apart.1))

AreApart-first_appearances : (names : List (List ℕ)) → AreApart (first_appearances names)
AreApart-first_appearances [] = tt
AreApart-first_appearances (m ∷ names) =
    (without_it m (first_appearances names), AreApart-without m (first_appearances names) (AreApart-first_appearances names))

-- a name that doesn't appear first doesn't appear
any_without : (m n : List ℕ) (ks : List (List ℕ)) → same_text n m ≡ false
    → list_any (same_text n) (without m ks) ≡ list_any (same_text n) ks
any_without m n [] e = refl
any_without m n (k ∷ ks) e = by_bool (same_text m k)
    (λ gone.
    let apart : same_text n k ≡ false = ap (same_text n) (sym (one_text m k gone)) ∙ e in
    rw (gone, apart) (any_without m n ks e))
    (λ kept. rw kept (ap (λ b. same_text n k || b) (any_without m n ks e)))

any_first_appearances : (n : List ℕ) (names : List (List ℕ))
    → list_any (same_text n) (first_appearances names) ≡ list_any (same_text n) names
any_first_appearances n [] = refl
any_first_appearances n (m ∷ names) = by_bool (same_text n m)
    (λ here. rw here refl)
    (λ there. rw there (any_without m n (first_appearances names) there ∙ any_first_appearances n names))

-- ---- Sums in a name.

abbrev name_of : List ℕ × ℤ → List ℕ
name_of w = w.0

-- ---- Names beside numbers.

-- two numbers of each name, the second with a weight in the name n
record Adds (f g : List ℕ → ℤ) (n : List ℕ) (weight : ℤ) : Type 0 where
  here : (k : List ℕ) → same_text k n ≡ true → g k ≡ f k +ℤ weight
  there : (k : List ℕ) → same_text k n ≡ false → g k ≡ f k

beside_others : (f g : List ℕ → ℤ) (n : List ℕ) (weight : ℤ) (ks : List (List ℕ)) → Adds f g n weight
    → AllByRecursion (λ other. same_text n other ≡ false) ks → beside g ks ≡ beside f ks
beside_others f g n weight [] adds all = refl
beside_others f g n weight (k ∷ ks) adds all =
    λ i. (k, adds.there k (same_text-turned n k false all.0) i) ∷ beside_others f g n weight ks adds all.1 i

beside-add_name : (f g : List ℕ → ℤ) (n : List ℕ) (weight : ℤ) (ks : List (List ℕ)) → Adds f g n weight → AreApart ks
    → (list_any (same_text n) ks ≡ false → g n ≡ weight) → beside g (add_name ks n) ≡ add_weight (beside f ks) (n, weight)
beside-add_name f g n weight [] adds apart new = ap (λ z. (n, z) ∷ []) (new refl)
beside-add_name f g n weight (k ∷ ks) adds apart new = by_bool (same_text n k)
    (λ here.
    let same : n ≡ k = one_text n k here in
    let all = rw (← same) at apart.0 in
    rw here (λ i. (k, adds.here k (same_text-turned n k true here) i) ∷ beside_others f g n weight ks adds all i))
    (λ there.
    let rest = beside-add_name f g n weight ks adds apart.1
    (λ none. new (ap (λ b. b || list_any (same_text n) ks) there ∙ none)) in
    rw there (λ i. (k, adds.there k (same_text-turned n k false there) i) ∷ rest i))

-- ---- One more weight, and one more leg.

abbrev sums_of : List (List ℕ × ℤ) → List (List ℕ × ℤ)
sums_of ws = beside (sum_in ws) (currencies ws)

sums_of-push : (ws : List (List ℕ × ℤ)) (w : List ℕ × ℤ) → sums_of (ws ++ w ∷ []) ≡ add_weight (sums_of ws) w
sums_of-push ws w =
    let more = ws ++ w ∷ [] in
    let adds : Adds (sum_in ws) (sum_in more) w.0 w.1 = record {
      here = λ k same. sum_in-push_here ws w k same;
      there = λ k other. sum_in-push_apart ws w k other;
    } in
    let new : list_any (same_text w.0) (currencies ws) ≡ false → sum_in more w.0 ≡ w.1 = λ none.
    adds.here w.0 (same_text-itself w.0)
    ∙ ap (λ z. z +ℤ w.1) (sum_in-unnamed w.0 ws (sym (any_first_appearances w.0 (map name_of ws)) ∙ none)) ∙ +ℤ_idl w.1 in
    ap (λ names. beside (sum_in more) (first_appearances names)) (map-append name_of ws (w ∷ []))
    ∙ ap (beside (sum_in more)) (first_appearances-push (map name_of ws) w.0)
    ∙ beside-add_name (sum_in ws) (sum_in more) w.0 w.1 (currencies ws) adds (AreApart-first_appearances (map name_of ws)) new

pub residuals-push : (ws : List (List ℕ × ℤ)) (w : List ℕ × ℤ) → residuals (ws ++ w ∷ []) ≡ add_weight (residuals ws) w
residuals-push ws w = sums_of-push ws w

-- a turn of the loop over legs
pub residuals-more : (weights : List (List ℕ × ℤ)) (legs : List Leg) (i : ℕ) (leg : Leg) (before after : List (List ℕ × ℤ))
    → (w : List ℕ × ℤ) → i < length legs → leg ≡ get_or legs i leg
    → before ≡ residuals (weights ++ map weight_of (take i legs)) → w ≡ weight_of leg
    → after ≡ add_weight before w → after ≡ residuals (weights ++ map weight_of (take (i + 1) legs))
residuals-more weights legs i leg before after w inside is so_far weighs now =
    let done = map weight_of (take i legs) in
    now
    ∙ (λ j. add_weight (so_far j) (weighs j))
    ∙ sym (residuals-push (weights ++ done) (weight_of leg))
    ∙ ap residuals (append_assoc weights done (weight_of leg ∷ []))
    ∙ ap (λ next. residuals (weights ++ (done ++ weight_of next ∷ []))) is
    ∙ ap (λ more. residuals (weights ++ more)) (sym (map-append weight_of (take i legs) (get_or legs i leg ∷ [])))
    ∙ ap (λ more. residuals (weights ++ map weight_of more)) (sym (take_more legs i leg inside))

-- one more posting that is booked
pub weights_in-push : (booked : List Booked) (next : Booked) → weights_in (booked ++ next ∷ []) ≡ weights_in booked ++ weights_of next
weights_in-push booked next =
    flat_map-append weights_of booked (next ∷ []) ∙ ap (λ more. weights_in booked ++ more) (append-nil (weights_of next))

-- ---- The map's entries.

pub insert_entry-adds : (rs : List (List ℕ × ℤ)) (currency : List ℕ) (sum weight : ℤ) → lookup (same_text currency) rs ≡ Some sum
    → insert_entry same_text rs currency (sum +ℤ weight) ≡ add_weight rs (currency, weight)
insert_entry-adds [] currency sum weight e = absurd cc
insert_entry-adds (r ∷ rs) currency sum weight e = by_bool (same_text currency r.0)
    (λ here.
    let same : Some r.1 ≡ Some sum = sym (ap (λ b. cond b (Some r.1) (lookup (same_text currency) rs)) here) ∙ e in
    let is : sum ≡ r.1 = cc in
    rw here (ap (λ z. (r.0, z +ℤ weight) ∷ rs) is))
    (λ there.
    let later = sym (ap (λ b. cond b (Some r.1) (lookup (same_text currency) rs)) there) ∙ e in
    rw there (ap (λ rest. r ∷ rest) (insert_entry-adds rs currency sum weight later)))

pub insert_entry-begins : (rs : List (List ℕ × ℤ)) (currency : List ℕ) (weight : ℤ) → lookup (same_text currency) rs ≡ None
    → insert_entry same_text rs currency weight ≡ add_weight rs (currency, weight)
insert_entry-begins [] currency weight e = refl
insert_entry-begins (r ∷ rs) currency weight e = by_bool (same_text currency r.0)
    (λ here.
    let some : Some r.1 ≡ None = sym (ap (λ b. cond b (Some r.1) (lookup (same_text currency) rs)) here) ∙ e in absurd cc)
    (λ there.
    let later = sym (ap (λ b. cond b (Some r.1) (lookup (same_text currency) rs)) there) ∙ e in
    rw there (ap (λ rest. r ∷ rest) (insert_entry-begins rs currency weight later)))

-- ---- Bounds.

-- each residual is at most what so many units weigh at the limit of rates
abbrev pub AreSmall : ℕ → List (List ℕ × ℤ) → Type 0
AreSmall moved rs = AllByRecursion (λ (r : List ℕ × ℤ). unsigned_abs r.1 ≤ moved * rate_limit) rs

lookup-small : (n : ℕ) (rs : List (List ℕ × ℤ)) (currency : List ℕ) (sum : ℤ) → AreSmall n rs
    → lookup (same_text currency) rs ≡ Some sum → unsigned_abs sum ≤ n * rate_limit
lookup-small n [] currency sum all e = absurd cc
lookup-small n (r ∷ rs) currency sum all e = by_bool (same_text currency r.0)
    (λ here.
    let same : Some r.1 ≡ Some sum = sym (ap (λ b. cond b (Some r.1) (lookup (same_text currency) rs)) here) ∙ e in
    let is : r.1 ≡ sum = cc in
    rw is at all.0)
    (λ there. lookup-small n rs currency sum all.1 (sym (ap (λ b. cond b (Some r.1) (lookup (same_text currency) rs)) there) ∙ e))

pub AreSmall-more : (n m : ℕ) (rs : List (List ℕ × ℤ)) → n ≤ m → AreSmall n rs → AreSmall m rs
AreSmall-more n m [] le all = tt
AreSmall-more n m (r ∷ rs) le all = (let here = all.0 in omega arith, AreSmall-more n m rs le all.1)

-- what is within so many postings is within more
pub AreWithin-more : (n m : ℕ) (rs : List (List ℕ × ℤ)) → n ≤ m → AreWithin n rs → AreWithin m rs
AreWithin-more n m rs le all = AreSmall-more (n * units_limit) (m * units_limit) rs (omega arith) all

sum_size : (a b : ℤ) → unsigned_abs (a +ℤ b) ≤ unsigned_abs a + unsigned_abs b
sum_size a b = omega (arith, ints)

-- the residual of a currency is within what all are within
residual_in-small : (n : ℕ) (rs : List (List ℕ × ℤ)) (currency : List ℕ) → AreSmall n rs
    → unsigned_abs (residual_in currency rs) ≤ n * rate_limit
residual_in-small n rs currency all = by (lookup (same_text currency) rs) refl
  where
    by : (found : Option ℤ) → lookup (same_text currency) rs ≡ found → unsigned_abs (unwrap_or found (pos 0)) ≤ n * rate_limit
    by None e = omega arith
    by (Some sum) e = lookup-small n rs currency sum all e

-- one more weight of so many units stays within the limit of weights
pub residual_in-fits : (n units : ℕ) (rs : List (List ℕ × ℤ)) (currency : List ℕ) (weight : ℤ) → AreSmall n rs
    → unsigned_abs weight ≤ units * rate_limit
    → n + units ≤ most_postings * units_limit → IsWide (residual_in currency rs +ℤ weight)
residual_in-fits n units rs currency weight all small few =
    let size = residual_in-small n rs currency all in
    omega (arith, sum_size (residual_in currency rs) weight)

pub AreSmall-add_weight : (n units : ℕ) (rs : List (List ℕ × ℤ)) (w : List ℕ × ℤ) → unsigned_abs w.1 ≤ units * rate_limit
    → AreSmall n rs → AreSmall (n + units) (add_weight rs w)
AreSmall-add_weight n units [] w small all = (omega arith, tt)
AreSmall-add_weight n units (r ∷ rs) w small all =
    let size = all.0 in
    by_bool (same_text w.0 r.0)
    (λ here. rw here (omega (arith, sum_size r.1 w.1), AreSmall-more n (n + units) rs (omega arith) all.1))
    (λ there. rw there (omega arith, AreSmall-add_weight n units rs w small all.1))

-- one more posting's weight
pub AreWithin-add_weight : (count : ℕ) (rs : List (List ℕ × ℤ)) (w : List ℕ × ℤ) → unsigned_abs w.1 ≤ units_limit * rate_limit
    → AreWithin count rs → AreWithin (suc count) (add_weight rs w)
AreWithin-add_weight count rs w small all =
    AreSmall-more (count * units_limit + units_limit) (suc count * units_limit) (add_weight rs w) (omega arith)
    (AreSmall-add_weight (count * units_limit) units_limit rs w small all)

-- ---- Units moved.

pub units_moved-more : (legs : List Leg) (i : ℕ) (leg : Leg) → i < length legs → leg ≡ get_or legs i leg
    → units_moved (take (i + 1) legs) ≡ units_moved (take i legs) + unsigned_abs leg.units
units_moved-more legs i leg inside is =
    ap units_moved (take_more legs i leg inside)
    ∙ sum_by_push (λ (l : Leg). unsigned_abs l.units) (take i legs) (get_or legs i leg)
    ∙ ap (λ (next : Leg). units_moved (take i legs) + unsigned_abs next.units) (sym is)

-- some of the legs move no more than all
pub units_moved-take : (legs : List Leg) (i : ℕ) → units_moved (take i legs) ≤ units_moved legs
units_moved-take legs i = sum_by-take-le (λ (l : Leg). unsigned_abs l.units) legs i
