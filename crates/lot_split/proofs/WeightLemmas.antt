-- What the postings of a split weigh in a currency.
use Rattle.std.proofs.Common.{◌≡◌, ℕ, Bool, true, false, cond, not, List, [], ◌∷◌, ◌++◌, None, Some, ℤ, pos, negsuc, ◌+ℤ◌, ◌-ℤ◌, ◌*ℤ◌, refl, ap, ◌∙◌, sym, arith}
use Rattle.std.specs.Prelude.{int_lt, map, flat_map, nat_eq, neg_ℤ, ◌||◌}
use Rattle.std.specs.List.{AllZip, list_any}
use Rattle.std.specs.Ordering.{int_eq}
use Rattle.std.proofs.Math.IntN.{*ℤ-zero, zero-*ℤ, +ℤ_idl, +ℤ_idr}
use Rattle.std.proofs.lemmas.Bool.Decides.{nat_tests}
use Rattle.std.proofs.lemmas.Grind.{flat_map-append}
use Rattle.std.proofs.lemmas.Int.{ints}
use Rattle.lot_base.specs.Text.{same_text}
use Rattle.lot_base.proofs.TextLemmas.{one_text}
use Rattle.lot_num.specs.Amount.{one}
use Rattle.lot_cost.specs.declared.method.Method.{Method}
use Rattle.lot_cost.specs.declared.method.Method.TheVariants.{Strict, Fifo, Lifo, Hifo, Unmatched}
use Rattle.lot_command.specs.declared.transaction.Posting.{Posting}
use Rattle.lot_split.specs.Crumbs.{crumb_postings, part_posting, rest_of, speck_of, whole_of}
use Rattle.lot_split.specs.Lots.{Becomes, cost_in, cost_of, crumb_in, currencies_of, each_once}
use Rattle.lot_split.specs.Split.{crumbs, openings, postings_of, takings}
use Rattle.lot_split.specs.Weights.{taken_in, weigh_in, weight_at, weights_of}
use Rattle.lot_split.specs.declared.lot.HeldLot.{HeldLot}
use Rattle.lot_rounding.specs.declared.ratio.Ratio.{Ratio}
use Rattle.lot_split.specs.declared.transaction.Split.{Split}
use Rattle.lot_split.proofs.CurrencyLemmas.{without}
use Rattle.lot_split.proofs.ListLemmas.{by_bool}
use Rattle.lot_split.proofs.NumberLemmas.{less_times}
use Rattle.lot_split.proofs.SumLemmas.{is_in, sum_where_part}

abbrev Weight : Type 0
Weight = List ℕ × ℤ

abbrev amount_of : Weight → ℤ
amount_of w = w.1

abbrev is_of : List ℕ → Weight → Bool
is_of currency w = same_text currency w.0

-- ---- sums

weigh_more : (currency : List ℕ) (w : Weight) (ws : List Weight)
    → weigh_in currency (w ∷ ws) ≡ cond (same_text currency w.0) w.1 (pos 0) +ℤ weigh_in currency ws
weigh_more currency w ws = sum_where_part (is_of currency) amount_of w ws

weigh_both : (currency : List ℕ) (vs ws : List Weight) → weigh_in currency (vs ++ ws) ≡ weigh_in currency vs +ℤ weigh_in currency ws
weigh_both currency [] ws = sym (+ℤ_idl (weigh_in currency ws))
weigh_both currency (v ∷ vs) ws =
    omega (arith, ints, weigh_more currency v (vs ++ ws), weigh_more currency v vs, weigh_both currency vs ws)

pub weigh_postings : (currency : List ℕ) (ps qs : List Posting)
    → weigh_in currency (weights_of (ps ++ qs)) ≡ weigh_in currency (weights_of ps) +ℤ weigh_in currency (weights_of qs)
weigh_postings currency ps qs =
    ap (weigh_in currency) (flat_map-append (λ (p : Posting). weight_at p.amount) ps qs)
    ∙ weigh_both currency (weights_of ps) (weights_of qs)

-- ---- openings and takings

pub weigh_openings : (asked : Split) (currency : List ℕ) (split : List HeldLot)
    → weigh_in currency (weights_of (openings asked split)) ≡ cost_in currency split
weigh_openings asked currency [] = refl
weigh_openings asked currency (l ∷ ls) =
    omega (
      arith,
      ints,
      weigh_more currency (l.key.currency, cost_of l) (weights_of (openings asked ls)),
      weigh_openings asked currency ls,
      sum_where_part (is_in currency) cost_of l ls,
    )

negated : (u : ℤ) (n : ℕ) → neg_ℤ u *ℤ pos n ≡ neg_ℤ (u *ℤ pos n)
negated u n =
    let same : neg_ℤ u ≡ pos 0 -ℤ u = omega (arith, ints) in
    omega (arith, ints, ap (λ z. z *ℤ pos n) same, less_times (pos 0) u n, zero-*ℤ (pos n))

opposite : (b : Bool) (x y : ℤ) → x ≡ neg_ℤ y → cond b x (pos 0) ≡ neg_ℤ (cond b y (pos 0))
opposite true x y same = same
opposite false x y same = omega (arith, ints)

weigh_each : (asked : Split) (currency : List ℕ) (lots : List HeldLot)
    → weigh_in currency (weights_of (takings asked Unmatched lots)) ≡ neg_ℤ (cost_in currency lots)
weigh_each asked currency [] = omega (arith, ints)
weigh_each asked currency (l ∷ ls) =
    let part = opposite (same_text currency l.key.currency) (neg_ℤ l.units *ℤ pos l.key.number) (cost_of l) (negated l.units l.key.number) in
    omega (
      arith,
      ints,
      part,
      weigh_more currency (l.key.currency, neg_ℤ l.units *ℤ pos l.key.number) (weights_of (takings asked Unmatched ls)),
      weigh_each asked currency ls,
      sum_where_part (is_in currency) cost_of l ls,
    )

-- the takings, with the lots that they take
pub weigh_takings : (asked : Split) (method : Method) (currency : List ℕ) (lots : List HeldLot)
    → weigh_in currency (weights_of (takings asked method lots)) +ℤ taken_in method lots currency ≡ neg_ℤ (cost_in currency lots)
weigh_takings asked Strict currency lots = +ℤ_idl (neg_ℤ (cost_in currency lots))
weigh_takings asked Fifo currency lots = +ℤ_idl (neg_ℤ (cost_in currency lots))
weigh_takings asked Lifo currency lots = +ℤ_idl (neg_ℤ (cost_in currency lots))
weigh_takings asked Hifo currency lots = +ℤ_idl (neg_ℤ (cost_in currency lots))
weigh_takings asked Unmatched currency lots = omega (arith, ints, weigh_each asked currency lots)

-- ---- the postings of one crumb

pub no_sign : (n : ℕ) → speck_of (pos n) ≡ pos 1
no_sign n = let not_below : int_lt (pos n) (pos 0) ≡ false = grind (arith, ints) in ap (λ b. cond b (neg_ℤ (pos 1)) (pos 1)) not_below

-- whole units and the rest come to the crumb
parts : (crumb : ℤ) → whole_of crumb *ℤ pos one +ℤ speck_of crumb *ℤ pos (rest_of crumb) ≡ crumb
parts (pos n) = rw (no_sign n) (omega (arith, ints))
parts (negsuc n) = omega (arith, ints)

none_whole : (z : ℤ) → int_eq z (pos 0) ≡ true → z *ℤ pos one ≡ pos 0
none_whole z is = let zero : z ≡ pos 0 = grind (arith, ints) in ap (λ y. y *ℤ pos one) zero

none_rest : (z : ℤ) (r : ℕ) → nat_eq r 0 ≡ true → z *ℤ pos r ≡ pos 0
none_rest z r is = let nothing : r ≡ 0 = grind (arith, nat_tests) in ap (λ y. z *ℤ pos y) nothing ∙ *ℤ-zero z

no_part : (b : Bool) (x : ℤ) → x ≡ pos 0 → pos 0 ≡ cond b x (pos 0)
no_part true x none = sym none
no_part false x none = refl

one_weight : (currency : List ℕ) (w : Weight) → weigh_in currency (w ∷ []) ≡ cond (same_text currency w.0) w.1 (pos 0)
one_weight currency w = weigh_more currency w [] ∙ +ℤ_idr (cond (same_text currency w.0) w.1 (pos 0))

weigh_whole : (account name currency : List ℕ) (units : ℤ)
    → weigh_in currency (weights_of (part_posting account name units None)) ≡ cond (same_text currency name) (units *ℤ pos one) (pos 0)
weigh_whole account name currency units =
    by_bool (int_eq units (pos 0))
    (λ none. rw none (no_part (same_text currency name) (units *ℤ pos one) (none_whole units none)))
    (λ some. rw some (one_weight currency (name, units *ℤ pos one)))

weigh_rest : (account name currency : List ℕ) (units : ℤ) (rate : ℕ)
    → weigh_in currency (weights_of (part_posting account name units (Some rate))) ≡ cond (same_text currency name) (units *ℤ pos rate) (pos 0)
weigh_rest account name currency units rate =
    by_bool (nat_eq rate 0)
    (λ none. rw none (no_part (same_text currency name) (units *ℤ pos rate) (none_rest units rate none)))
    (λ some. rw some (one_weight currency (name, units *ℤ pos rate)))

both_parts : (b : Bool) (x y z : ℤ) → x +ℤ y ≡ z → cond b x (pos 0) +ℤ cond b y (pos 0) ≡ cond b z (pos 0)
both_parts true x y z sum = sum
both_parts false x y z sum = refl

weigh_crumb : (account name currency : List ℕ) (crumb : ℤ)
    → weigh_in currency (weights_of (crumb_postings account name crumb)) ≡ cond (same_text currency name) crumb (pos 0)
weigh_crumb account name currency crumb =
    let whole = whole_of crumb in
    let speck = speck_of crumb in
    let rest = rest_of crumb in
    weigh_postings currency (part_posting account name whole None) (part_posting account name speck (Some rest))
    ∙ ap (λ z. z +ℤ weigh_in currency (weights_of (part_posting account name speck (Some rest)))) (weigh_whole account name currency whole)
    ∙ ap (λ z. cond (same_text currency name) (whole *ℤ pos one) (pos 0) +ℤ z) (weigh_rest account name currency speck rest)
    ∙ both_parts (same_text currency name) (whole *ℤ pos one) (speck *ℤ pos rest) crumb (parts crumb)

-- ---- the postings of all crumbs

-- names, each beside its number
abbrev beside : (List ℕ → ℤ) → List (List ℕ) → List Weight
beside f names = map (λ (name : List ℕ). (name, f name)) names

weigh_beside : (account currency : List ℕ) (f : List ℕ → ℤ) (names : List (List ℕ))
    → weigh_in currency (weights_of (flat_map (λ (name : List ℕ). crumb_postings account name (f name)) names)) ≡ weigh_in currency (beside f names)
weigh_beside account currency f [] = refl
weigh_beside account currency f (n ∷ ns) =
    let others = flat_map (λ (name : List ℕ). crumb_postings account name (f name)) ns in
    weigh_postings currency (crumb_postings account n (f n)) others
    ∙ ap (λ z. z +ℤ weigh_in currency (weights_of others)) (weigh_crumb account n currency (f n))
    ∙ ap (λ z. cond (same_text currency n) (f n) (pos 0) +ℤ z) (weigh_beside account currency f ns)
    ∙ sym (weigh_more currency (n, f n) (beside f ns))

here : (name : List ℕ) (w : Weight) (ws : List Weight) → same_text name w.0 ≡ true → weigh_in name (w ∷ ws) ≡ w.1 +ℤ weigh_in name ws
here name w ws e = weigh_more name w ws ∙ ap (λ b. cond b w.1 (pos 0) +ℤ weigh_in name ws) e

apart : (name : List ℕ) (w : Weight) (ws : List Weight) → same_text name w.0 ≡ false → weigh_in name (w ∷ ws) ≡ weigh_in name ws
apart name w ws e = weigh_more name w ws ∙ ap (λ b. cond b w.1 (pos 0) +ℤ weigh_in name ws) e ∙ +ℤ_idl (weigh_in name ws)

without_it : (f : List ℕ → ℤ) (name : List ℕ) (names : List (List ℕ)) → weigh_in name (beside f (without name names)) ≡ pos 0
without_it f name [] = refl
without_it f name (other ∷ names) = by_bool (same_text name other)
    (λ e. ap (λ b. weigh_in name (beside f (cond (not b) (other ∷ without name names) (without name names)))) e
    ∙ without_it f name names)
    (λ e. ap (λ b. weigh_in name (beside f (cond (not b) (other ∷ without name names) (without name names)))) e
    ∙ apart name (other, f other) (beside f (without name names)) e ∙ without_it f name names)

without_other : (f : List ℕ → ℤ) (gone name : List ℕ) → same_text name gone ≡ false → (names : List (List ℕ))
    → weigh_in name (beside f (without gone names)) ≡ weigh_in name (beside f names)
without_other f gone name differs [] = refl
without_other f gone name differs (other ∷ names) =
    let rest = without_other f gone name differs names in
    by_bool (same_text gone other)
    (λ e. ap (λ b. weigh_in name (beside f (cond (not b) (other ∷ without gone names) (without gone names)))) e ∙ rest
    ∙ sym (apart name (other, f other) (beside f names) (ap (same_text name) (sym (one_text gone other e)) ∙ differs)))
    (λ e. ap (λ b. weigh_in name (beside f (cond (not b) (other ∷ without gone names) (without gone names)))) e
    ∙ weigh_more name (other, f other) (beside f (without gone names))
    ∙ ap (λ z. cond (same_text name other) (f other) (pos 0) +ℤ z) rest
    ∙ sym (weigh_more name (other, f other) (beside f names)))

-- the names of a list, each once, have the numbers that the names have
beside_once : (f : List ℕ → ℤ) (name : List ℕ) (names : List (List ℕ))
    → weigh_in name (beside f (each_once names)) ≡ cond (list_any (same_text name) names) (f name) (pos 0)
beside_once f name [] = refl
beside_once f name (first ∷ names) = by_bool (same_text name first)
    (λ e. here name (first, f first) (beside f (without first (each_once names))) e
    ∙ ap (λ z. f first +ℤ z) (ap (λ n. weigh_in n (beside f (without first (each_once names)))) (one_text name first e)
    ∙ without_it f first (each_once names))
    ∙ +ℤ_idr (f first)
    ∙ ap f (sym (one_text name first e))
    ∙ ap (λ b. cond (b || list_any (same_text name) names) (f name) (pos 0)) (sym e))
    (λ e. apart name (first, f first) (beside f (without first (each_once names))) e
    ∙ without_other f first name e (each_once names)
    ∙ beside_once f name names
    ∙ ap (λ b. cond (b || list_any (same_text name) names) (f name) (pos 0)) (sym e))

-- ---- a currency that no lot has

abbrev names_of : List HeldLot → List (List ℕ)
names_of lots = map (λ (l : HeldLot). l.key.currency) lots

no_cost : (currency : List ℕ) (lots : List HeldLot) → list_any (same_text currency) (names_of lots) ≡ false → cost_in currency lots ≡ pos 0
no_cost currency [] none = refl
no_cost currency (l ∷ ls) none = by_bool (same_text currency l.key.currency)
    (λ e. let yes : true ≡ false = sym (ap (λ b. b || list_any (same_text currency) (names_of ls)) e) ∙ none in absurd cc)
    (λ e.
    let rest = no_cost currency ls (sym (ap (λ b. b || list_any (same_text currency) (names_of ls)) e) ∙ none) in
    sum_where_part (is_in currency) cost_of l ls ∙ ap (λ b. cond b (cost_of l) (pos 0) +ℤ cost_in currency ls) e
    ∙ +ℤ_idl (cost_in currency ls) ∙ rest)

same_names : (ratio : Ratio) (lots split : List HeldLot) → AllZip (Becomes ratio) lots split → names_of split ≡ names_of lots
same_names ratio [] [] all = refl
same_names ratio [] (s ∷ ss) all = absurd all
same_names ratio (l ∷ ls) [] all = absurd all
same_names ratio (l ∷ ls) (s ∷ ss) all =
    ap (λ name. name ∷ names_of ss) all.0.currency ∙ ap (λ names. l.key.currency ∷ names) (same_names ratio ls ss all.1)

-- all crumbs weigh in a currency what is between the costs
pub weigh_crumbs : (asked : Split) (currency : List ℕ) (ratio : Ratio) (lots split : List HeldLot) → AllZip (Becomes ratio) lots split
    → weigh_in currency (weights_of (crumbs asked lots split)) ≡ crumb_in lots split currency
weigh_crumbs asked currency ratio lots split all =
    let f = crumb_in lots split in
    let any = list_any (same_text currency) (names_of lots) in
    weigh_beside asked.rounding currency f (currencies_of lots) ∙ beside_once f currency (names_of lots)
    ∙ by_bool any
    (λ e. ap (λ b. cond b (f currency) (pos 0)) e)
    (λ e.
    let none = no_cost currency lots e in
    let none_split = no_cost currency split (ap (list_any (same_text currency)) (same_names ratio lots split all) ∙ e) in
    ap (λ b. cond b (f currency) (pos 0)) e ∙ sym (ap (λ z. z -ℤ cost_in currency split) none ∙ ap (λ z. pos 0 -ℤ z) none_split))

-- ---- all postings

pub balance : (asked : Split) (method : Method) (currency : List ℕ) (ratio : Ratio) (lots split : List HeldLot) → AllZip (Becomes ratio) lots split
    → weigh_in currency (weights_of (postings_of asked method lots split)) +ℤ taken_in method lots currency ≡ pos 0
balance asked method currency ratio lots split all =
    omega (
      arith,
      ints,
      weigh_postings currency (takings asked method lots ++ openings asked split) (crumbs asked lots split),
      weigh_postings currency (takings asked method lots) (openings asked split),
      weigh_takings asked method currency lots,
      weigh_openings asked currency split,
      weigh_crumbs asked currency ratio lots split all,
    )
