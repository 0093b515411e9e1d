-- Which purchases are left: those of what was bought that are taken by none so far.
use Rattle.std.specs.Prelude.{◌≡◌, ◌≢◌, ℕ, zero, suc, ◌+◌, ◌<◌, ◌==◌, ◌⊎◌, Bool, true, false, not, cond, ◌&&◌, ◌||◌, List, [], ◌∷◌, ◌++◌, length, Option, Some, None}
use Rattle.std.specs.BTreeMap.{BTreeMap, get, is_at}
use Rattle.std.specs.Cmp.{IsTotalOrder}
use Rattle.std.specs.Global.{Vec}
use Rattle.std.specs.Cmp.Lexicographic.{options_total}
use Rattle.std.specs.List.{slice_get}
use Rattle.std.specs.Option.{option_cmp}
use Rattle.std.specs.Ordering.{int_cmp, is_eq, nat_cmp, ordering_then}
use Rattle.std.specs.declared.cmp.Ordering.{Ordering}
use Rattle.std.specs.declared.cmp.Ordering.TheVariants.{Equal}
use Rattle.std.proofs.Common.{arith, ap, inl, inr, refl, sym, ◌∙◌}
use Rattle.std.proofs.lemmas.Bool.{true≢false}
use Rattle.std.proofs.lemmas.Bool.Decides.{eqb_tells}
use Rattle.std.proofs.lemmas.Cmp.{int_cmp_total, nat_cmp_total, nat_list_cmp_total, on_total, then_total, tied_itself}
use Rattle.std.proofs.lemmas.Map.Lookups.{exact_bytes, exact_signed, exact_unsigned}
use Rattle.lot_base.proofs.OrderLemmas.{equal_parts, exact_options}
use Rattle.lot_base.specs.Text.{text_cmp}
use Rattle.lot_sequence.specs.Cancel.{Bought, bought, partner_at}
use Rattle.lot_sequence.specs.Left.{KeepsOthers, bought_cmp, bought_of, mark_cmp, mark_of, places_in}
use Rattle.lot_sequence.specs.declared.cancel.Mark.{Mark}
use Rattle.lot_sequence.specs.declared.cancel.Side.{Side}
use Rattle.lot_sequence.specs.declared.cancel.Side.TheVariants.{Buys, Cancels, Neither}
use Rattle.lot_sequence.specs.declared.cancel.Trade.{Trade}

-- ---- What is the same.

abbrev pub is_same : Bought → Bought → Bool
is_same a b = is_eq (bought_cmp a b)

bought_total : IsTotalOrder bought_cmp
bought_total = then_total (on_total (λ (b : Bought). b.symbol) nat_list_cmp_total)
    (then_total (on_total (λ (b : Bought). b.units) int_cmp_total)
    (then_total (on_total (λ (b : Bought). b.price) (options_total nat_cmp_total))
    (then_total (on_total (λ (b : Bought). b.amount) int_cmp_total) (on_total (λ (b : Bought). b.currency) nat_list_cmp_total))))

same_itself : (b : Bought) → is_same b b ≡ true
same_itself b = ap is_eq (tied_itself bought_total b)

is_equal : (o : Ordering) → is_eq o ≡ true → o ≡ Equal
is_equal Ordering.Less e = cc
is_equal Equal e = refl
is_equal Ordering.Greater e = cc

pub one_bought : (a b : Bought) → is_same a b ≡ true → a ≡ b
one_bought a b same =
    let currencies = text_cmp a.currency b.currency in
    let amounts = ordering_then (int_cmp a.amount b.amount) currencies in
    let prices = ordering_then (option_cmp nat_cmp a.price b.price) amounts in
    let units = ordering_then (int_cmp a.units b.units) prices in
    let symbol = equal_parts (text_cmp a.symbol b.symbol) units (is_equal (bought_cmp a b) same) in
    let unit = equal_parts (int_cmp a.units b.units) prices symbol.1 in
    let price = equal_parts (option_cmp nat_cmp a.price b.price) amounts unit.1 in
    let amount = equal_parts (int_cmp a.amount b.amount) currencies price.1 in
    λ i. record {
      symbol = exact_bytes a.symbol b.symbol symbol.0 i;
      units = exact_signed a.units b.units unit.0 i;
      price = exact_options nat_cmp exact_unsigned a.price b.price price.0 i;
      amount = exact_signed a.amount b.amount amount.0 i;
      currency = exact_bytes a.currency b.currency amount.1 i;
    }

pub same_as : (a b : Bought) → a ≡ b → is_same a b ≡ true
same_as a b one = ap (λ (other : Bought). is_same a other) (sym one) ∙ same_itself a

pub by_bool : (b : Bool) → (b ≡ true) ⊎ (b ≡ false)
by_bool true = inl refl
by_bool false = inr refl

-- ---- The places below one at which something holds.

abbrev pub places_below : (ℕ → Bool) → ℕ → List ℕ
places_below f zero = []
places_below f (suc n) = cond (f n) (places_below f n ++ n ∷ []) (places_below f n)

pub below_next : (f : ℕ → Bool) (n : ℕ) → places_below f (n + 1) ≡ cond (f n) (places_below f n ++ n ∷ []) (places_below f n)
below_next f n = let one : n + 1 ≡ suc n = omega arith in ap (λ (m : ℕ). places_below f m) one

pub below_same : (f g : ℕ → Bool) (n : ℕ) → ((k : ℕ) → k < n → f k ≡ g k) → places_below f n ≡ places_below g n
below_same f g zero same = refl
below_same f g (suc n) same =
    let before : places_below f n ≡ places_below g n = below_same f g n (λ k small. same k (omega arith)) in
    let here : f n ≡ g n = same n (omega arith) in
    λ i. cond (here i) (before i ++ n ∷ []) (before i)

snoc_some : (xs : List ℕ) (x : ℕ) → xs ++ x ∷ [] ≡ [] → ⊥
snoc_some [] x is = cc
snoc_some (y ∷ xs) x is = cc

abbrev first_of : List ℕ → ℕ
first_of [] = 0
first_of (x ∷ xs) = x

abbrev rest_of : List ℕ → List ℕ
rest_of [] = []
rest_of (x ∷ xs) = xs

one_snoc : (xs ys : List ℕ) (x y : ℕ) → xs ++ x ∷ [] ≡ ys ++ y ∷ [] → (xs ≡ ys) × (x ≡ y)
one_snoc [] [] x y is = (refl, ap first_of is)
one_snoc [] (b ∷ ys) x y is = absurd (snoc_some ys y (sym (ap rest_of is)))
one_snoc (a ∷ xs) [] x y is = absurd (snoc_some xs x (ap rest_of is))
one_snoc (a ∷ xs) (b ∷ ys) x y is =
    let more = one_snoc xs ys x y (ap rest_of is) in
    let head : a ≡ b = ap first_of is in
    (λ i. head i ∷ more.0 i, more.1)

none_below_by : (f : ℕ → Bool) (n : ℕ) (b : Bool) → f n ≡ b → cond b (places_below f n ++ n ∷ []) (places_below f n) ≡ [] → (places_below f n ≡ []) × (f n ≡ false)
none_below_by f n true here none = absurd (snoc_some (places_below f n) n none)
none_below_by f n false here none = (none, here)

pub none_below : (f : ℕ → Bool) (n : ℕ) → places_below f n ≡ [] → (k : ℕ) → k < n → f k ≡ false
none_below f zero none k small = absurd (omega arith)
none_below f (suc n) none k small =
    let parts = none_below_by f n (f n) refl none in
    elim (eqb_tells k n) [
      | inl same ↦ ap f same.1 ∙ parts.1
      | inr apart ↦ let ne : k ≢ n = apart.1 in none_below f n parts.0 k (omega arith)
    ]

-- the last of the places, and those before it
pub record IsLastBelow (f : ℕ → Bool) (n : ℕ) (rest : List ℕ) (q : ℕ) : Type 0 where
  pub below : q < n
  pub holds : f q ≡ true
  pub last : (k : ℕ) → q < k → k < n → f k ≡ false
  pub others : places_below (λ k. f k && not (q == k)) n ≡ rest

and_true : (b : Bool) → (b && true) ≡ b
and_true true = refl
and_true false = refl

and_false : (b : Bool) → (b && false) ≡ false
and_false true = refl
and_false false = refl

without : (f : ℕ → Bool) (k q : ℕ) → q ≢ k → (f k && not (q == k)) ≡ f k
without f k q ne = elim (eqb_tells q k) [ inl same ↦ absurd (ne same.1) | inr apart ↦ ap (λ b. f k && not b) apart.0 ∙ and_true (f k) ]

not_here : (f : ℕ → Bool) (q : ℕ) → (f q && not (q == q)) ≡ false
not_here f q = elim (eqb_tells q q) [ inl same ↦ ap (λ b. f q && not b) same.0 ∙ and_false (f q) | inr apart ↦ absurd (apart.1 refl) ]

last_by : (f : ℕ → Bool) (n : ℕ) (rest : List ℕ) (q : ℕ) (b : Bool) → f n ≡ b → (places_below f n ≡ rest ++ q ∷ [] → IsLastBelow f n rest q)
    → cond b (places_below f n ++ n ∷ []) (places_below f n) ≡ rest ++ q ∷ [] → IsLastBelow f (suc n) rest q
last_by f n rest q true here earlier is =
    let parts = one_snoc (places_below f n) rest n q is in
    let one : n ≡ q = parts.1 in
    record {
      below = omega arith;
      holds = ap f (sym one) ∙ here;
      last = λ k behind before. absurd (omega arith);
      others =
          ap (λ b. cond b (places_below (λ k. f k && not (q == k)) n ++ n ∷ []) (places_below (λ k. f k && not (q == k)) n))
          (ap (λ (m : ℕ). f m && not (q == m)) one ∙ not_here f q)
          ∙ below_same (λ k. f k && not (q == k)) f n (λ k small. without f k q (omega arith)) ∙ parts.0;
    }
last_by f n rest q false here earlier is =
    let before : IsLastBelow f n rest q = earlier is in
    let small : q < n = before.below in
    record {
      below = omega arith;
      holds = before.holds;
      last = λ k behind ahead. elim (eqb_tells k n) [
        | inl same ↦ ap f same.1 ∙ here
        | inr apart ↦ let ne : k ≢ n = apart.1 in before.last k behind (omega arith)
      ];
      others =
          ap (λ b. cond b (places_below (λ k. f k && not (q == k)) n ++ n ∷ []) (places_below (λ k. f k && not (q == k)) n))
          (without f n q (omega arith) ∙ here)
          ∙ before.others;
    }

pub last_below : (f : ℕ → Bool) (n : ℕ) (rest : List ℕ) (q : ℕ) → places_below f n ≡ rest ++ q ∷ [] → IsLastBelow f n rest q
last_below f zero rest q is = absurd (snoc_some rest q (sym is))
last_below f (suc n) rest q is = last_by f n rest q (f n) refl (last_below f n rest q) is

-- ---- What is taken.

abbrev pub is_one : Option ℕ → ℕ → Bool
is_one None place = false
is_one (Some purchase) place = purchase == place

-- whether one of the rows takes back the purchase at that place
abbrev pub is_taken : List (Option ℕ) → ℕ → Bool
is_taken [] place = false
is_taken (p ∷ partners) place = is_one p place || is_taken partners place

or_false : (a : Bool) → (a || false) ≡ a
or_false true = refl
or_false false = refl

or_assoc : (a b c : Bool) → (a || (b || c)) ≡ ((a || b) || c)
or_assoc true b c = refl
or_assoc false b c = refl

taken_snoc : (partners : List (Option ℕ)) (x : Option ℕ) (place : ℕ) → is_taken (partners ++ x ∷ []) place ≡ (is_taken partners place || is_one x place)
taken_snoc [] x place = or_false (is_one x place)
taken_snoc (p ∷ partners) x place =
    ap (λ b. is_one p place || b) (taken_snoc partners x place) ∙ or_assoc (is_one p place) (is_taken partners place) (is_one x place)

pub taken_none : (partners : List (Option ℕ)) (place : ℕ) → is_taken (partners ++ None ∷ []) place ≡ is_taken partners place
taken_none partners place = taken_snoc partners None place ∙ or_false (is_taken partners place)

pub taken_some : (partners : List (Option ℕ)) (q place : ℕ) → is_taken (partners ++ Some q ∷ []) place ≡ (is_taken partners place || (q == place))
taken_some partners q place = taken_snoc partners (Some q) place

one_tells : (p : Option ℕ) (place : ℕ) → is_one p place ≡ true → p ≡ Some place
one_tells None place is = cc
one_tells (Some q) place is = elim (eqb_tells q place) [
  | inl same ↦ ap (λ n. Some n) same.1
  | inr apart ↦ absurd (true≢false (sym is ∙ apart.0))
]

one_told : (q place : ℕ) → q ≡ place → (q == place) ≡ true
one_told q place one = elim (eqb_tells q place) [ inl same ↦ same.0 | inr apart ↦ absurd (apart.1 one) ]

or_by : (a b : Bool) → (a || b) ≡ true → (a ≡ true) ⊎ (b ≡ true)
or_by true b is = inl refl
or_by false b is = inr is

or_true : (a : Bool) → (a || true) ≡ true
or_true true = refl
or_true false = refl

pub taken_tells : (partners : List (Option ℕ)) (place : ℕ) → is_taken partners place ≡ true
    → (earlier : ℕ) × (earlier < length partners) × (partner_at partners earlier ≡ Some place)
taken_tells [] place is = cc
taken_tells (p ∷ partners) place is = elim (or_by (is_one p place) (is_taken partners place) is) [
  | inl here ↦ (0, omega arith, one_tells p place here)
  | inr more ↦ let (earlier, before, at) = taken_tells partners place more in (suc earlier, omega arith, at)
]

pub taken_told : (partners : List (Option ℕ)) (earlier place : ℕ) → partner_at partners earlier ≡ Some place → is_taken partners place ≡ true
taken_told [] earlier place is = cc
taken_told (p ∷ partners) zero place is =
    ap (λ (x : Option ℕ). is_one x place || is_taken partners place) is ∙ ap (λ b. b || is_taken partners place) (one_told place place refl)
taken_told (p ∷ partners) (suc earlier) place is =
    ap (λ b. is_one p place || b) (taken_told partners earlier place is) ∙ or_true (is_one p place)

-- ---- Purchases that are left.

abbrev pub buys_same : Side → Bought → Bought → Bool
buys_same Buys b other = is_same b other
buys_same Cancels b other = false
buys_same Neither b other = false

-- whether a row is a purchase of that
abbrev pub is_bought : Bought → Option Trade → Bool
is_bought b None = false
is_bought b (Some trade) = buys_same trade.side b (bought trade)

-- whether at that place stands a purchase of that which none takes back
abbrev pub is_left : List Trade → List (Option ℕ) → Bought → ℕ → Bool
is_left rows partners b place = is_bought b (slice_get rows place) && not (is_taken partners place)

-- ---- Marks.

-- a change at a mark changes nothing of other things that are bought
pub others_kept : (old new : BTreeMap Mark (Vec ℕ)) (mark : Mark) (b : Bought) (value : Option (Vec ℕ)) → bought_of mark ≡ b
    → ((other : Mark) → get mark_cmp new other ≡ cond (is_at (mark_cmp mark) other) value (get mark_cmp old other)) → KeepsOthers old new b
others_kept old new mark b value is updated other ne =
    let apart : is_at (mark_cmp mark) (mark_of other) ≡ false =
    elim (by_bool (is_same b other)) [
      | inl same ↦ absurd (ne (sym (one_bought b other same)))
      | inr other_one ↦ ap (λ (c : Bought). is_same c other) is ∙ other_one
    ] in
    ap places_in (updated (mark_of other) ∙ ap (λ t. cond t value (get mark_cmp old (mark_of other))) apart)
