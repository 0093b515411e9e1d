-- The lines of a grid: the first multiple of a unit on a scale, and those that a count from there on reaches.
use Rattle.std.specs.Prelude.{nat_abs, int_div, int_lt, ◌*ℤ◌, ◌-ℤ◌}
use Rattle.std.proofs.Common.{◌≡◌, inl, inr, ℕ, zero, suc, ◌+◌, ◌*◌, ◌^◌, ◌/◌, ◌%◌, ◌<◌, ◌≤◌, true, false, List, [], ◌∷◌, ◌++◌, append-nil, append_assoc, cond, ap, refl, sym, ◌∙◌, subst, ℤ, pos, negsuc, neg_ℤ, ◌+ℤ◌, ◌<ℤ◌, ◌≤ℤ◌, arith}
use lib.Signed.{mag}
use mir.Syntax.{w128}
use mir.Val.{SFits, of_z, to_z}
use Rattle.std.specs.List.{AllByRecursion, flat_map}
use Rattle.std.specs.List.Sorted.{IsStrictlySortedBy}
use Rattle.std.specs.Ordering.{int_cmp}
use Rattle.std.specs.declared.cmp.Ordering.TheVariants.{Less}
use Rattle.std.proofs.lemmas.Bool.{cases_Bool}
use Rattle.std.proofs.lemmas.Bool.Decides.{leb_tells}
use Rattle.std.proofs.lemmas.Int.{ints, to_z-of_z, to_z_pos}
use Rattle.std.proofs.Math.Nat.{div-le_self, div-mul-le_self}
use Rattle.std.proofs.lemmas.Nat.{div-add-mod', le-div, mod_below, mul-le}
use Rattle.lot_plot.specs.Grid.{AreLines, FitsFew, IsAmong, IsFirstFrom, IsGrid, IsMultiple, IsUnit, line_html}
use Rattle.lot_plot.specs.Plot.{span_of}
use Rattle.lot_plot.proofs.UnitLemmas.{round_some, unit_small}
use Rattle.lot_plot.specs.declared.scale.Scale.{Scale}

-- ---- multiples

abs_neg : (n : ℕ) → nat_abs (neg_ℤ (pos n)) ≡ n
abs_neg zero = refl
abs_neg (suc n) = refl

neg_mul : (q u : ℕ) → neg_ℤ (pos q) *ℤ pos u ≡ neg_ℤ (pos (q * u))
neg_mul zero u = let none : 0 * u ≡ 0 = omega arith in rw (none) refl
neg_mul (suc q) u = refl

-- of two multiples of a unit the greater is a unit or more above the lesser
apart : (s t u : ℕ) → s * u < t * u → s * u + u ≤ t * u
apart s t u less = elim (leb_tells (suc s) t) [
  | inl is ↦ omega (arith, mul-le (suc s) u t u is.1 (omega arith))
  | inr not ↦ absurd (omega (arith, mul-le t u s u (omega (arith, not.1)) (omega arith)))
]

-- one that isn't zero is a unit or more
far : (s u a : ℕ) → suc a ≡ s * u → u ≤ suc a
far zero u a is = absurd (omega (arith, is))
far (suc s) u a is = omega (arith, is)

next_multiple : (unit : ℕ) (v w : ℤ) → IsMultiple unit v → IsMultiple unit w → v <ℤ w → (v +ℤ pos unit) ≤ℤ w
next_multiple unit (pos a) (pos b) (s, is_s) (t, is_t) less =
    let below : s * unit < t * unit = omega (arith, ints, less, is_s, is_t) in
    omega (arith, ints, apart s t unit below, is_s, is_t)
next_multiple unit (pos a) (negsuc b) (s, is_s) (t, is_t) less = absurd (omega (arith, ints, less))
next_multiple unit (negsuc a) (pos b) (s, is_s) (t, is_t) less = omega (arith, ints, far s unit a is_s)
next_multiple unit (negsuc a) (negsuc b) (s, is_s) (t, is_t) less =
    let below : t * unit < s * unit = omega (arith, ints, less, is_s, is_t) in
    omega (arith, ints, apart t s unit below, is_s, is_t)

plus_multiple : (unit : ℕ) (v : ℤ) → IsMultiple unit v → IsMultiple unit (v +ℤ pos unit)
plus_multiple unit (pos a) (s, is) = (s + 1, omega (arith, is))
plus_multiple unit (negsuc a) (zero, is) = absurd (omega (arith, is))
plus_multiple unit (negsuc a) (suc s, is) =
    let same : negsuc a +ℤ pos unit ≡ neg_ℤ (pos (s * unit)) = omega (arith, ints, is) in
    (s, ap nat_abs same ∙ abs_neg (s * unit))

-- ---- the first

first_above : (low t unit : ℤ) → pos 0 <ℤ unit → t ≡ int_div low unit *ℤ unit → t <ℤ low → IsFirstFrom low unit (t +ℤ unit)
first_above low t (negsuc u) some is less = absurd (omega (arith, ints, some))
first_above (pos n) t (pos u) some is less =
    let parts = div-add-mod' n u in
    let rest : n % u < u = mod_below n u (omega (arith, ints, some)) in
    record {
      multiple = (n / u + 1, ap (λ (z : ℤ). nat_abs (z +ℤ pos u)) is ∙ omega arith);
      reaches = omega (arith, ints, parts, is);
      near = omega (arith, ints, less);
    }
first_above (negsuc m) t (pos u) some is less =
    let parts = div-add-mod' (suc m) u in
    let at : t ≡ neg_ℤ (pos (suc m / u * u)) = is ∙ neg_mul (suc m / u) u in
    absurd (omega (arith, ints, parts, at, less))

first_here : (low t unit : ℤ) → pos 0 <ℤ unit → t ≡ int_div low unit *ℤ unit → low ≤ℤ t → IsFirstFrom low unit t
first_here low t (negsuc u) some is reaches = absurd (omega (arith, ints, some))
first_here (pos n) t (pos u) some is reaches =
    let parts = div-add-mod' n u in
    record {
      multiple = (n / u, ap nat_abs is);
      reaches = reaches;
      near = omega (arith, ints, parts, is, some);
    }
first_here (negsuc m) t (pos u) some is reaches =
    let parts = div-add-mod' (suc m) u in
    let rest : suc m % u < u = mod_below (suc m) u (omega (arith, ints, some)) in
    let at : t ≡ neg_ℤ (pos (suc m / u * u)) = is ∙ neg_mul (suc m / u) u in
    record {
      multiple = (suc m / u, ap nat_abs at ∙ abs_neg (suc m / u * u));
      reaches = reaches;
      near = omega (arith, ints, parts, at);
    }

-- ---- order, as tests

is_less : (a b : ℤ) → a <ℤ b → int_lt a b ≡ true
is_less a b less = grind (arith, ints)

pub not_above : (a b : ℤ) → b ≤ℤ a → int_lt a b ≡ false
not_above a b least = grind (arith, ints)

above : (a b : ℤ) → int_lt a b ≡ true → a <ℤ b
above a b is = grind (arith, ints)

pub at_most : (a b : ℤ) → int_lt a b ≡ false → b ≤ℤ a
at_most a b is = grind (arith, ints)

-- ---- the first, as the program counts: in 128 bits

mag_neg : (r a : ℕ) → r ≤ suc a → mag (neg_ℤ (pos r)) ≤ a
mag_neg zero a least = omega arith
mag_neg (suc r) a least = omega (arith, least)

quotient_fits : (low unit : ℤ) → pos 0 <ℤ unit → SFits w128 low → SFits w128 (int_div low unit)
quotient_fits low (negsuc u) some fits = absurd (omega (arith, ints, some))
quotient_fits (pos n) (pos u) some fits = record { sfits = omega (arith, fits.sfits, div-le_self n u) }
quotient_fits (negsuc m) (pos u) some fits =
    record { sfits = omega (arith, fits.sfits, mag_neg (suc m / u) m (div-le_self (suc m) u)) }

product_fits : (low unit : ℤ) → pos 0 <ℤ unit → SFits w128 low → SFits w128 (int_div low unit *ℤ unit)
product_fits low (negsuc u) some fits = absurd (omega (arith, ints, some))
product_fits (pos n) (pos u) some fits = record { sfits = omega (arith, fits.sfits, div-mul-le_self n u) }
product_fits (negsuc m) (pos u) some fits =
    subst (SFits w128) (sym (neg_mul (suc m / u) u))
    (record { sfits = omega (arith, fits.sfits, mag_neg (suc m / u * u) m (div-mul-le_self (suc m) u)) })

between_fits : (z : ℤ) → neg_ℤ (pos (10 ^ 38)) ≤ℤ z → z ≤ℤ pos (15 * 10 ^ 37) → SFits w128 z
between_fits (pos n) from to = record { sfits = omega (arith, ints, to) }
between_fits (negsuc n) from to = record { sfits = omega (arith, ints, from) }

abbrev pub cast : ℤ → ℤ
cast z = to_z w128 (of_z w128 z)

abbrev towards : ℤ → ℤ → ℤ
towards low unit = cast (cast (int_div (cast low) (cast unit)) *ℤ cast unit)

towards_is : (low unit : ℤ) → pos 0 <ℤ unit → SFits w128 low → SFits w128 unit → towards low unit ≡ int_div low unit *ℤ unit
towards_is low unit some fits unit_fits =
    ap (λ (z : ℤ). cast (cast (int_div z (cast unit)) *ℤ cast unit)) (to_z-of_z w128 low fits)
    ∙ ap (λ (z : ℤ). cast (cast (int_div low z) *ℤ z)) (to_z-of_z w128 unit unit_fits)
    ∙ ap (λ (z : ℤ). cast (z *ℤ unit)) (to_z-of_z w128 (int_div low unit) (quotient_fits low unit some fits))
    ∙ to_z-of_z w128 (int_div low unit *ℤ unit) (product_fits low unit some fits)

neg_least : (z : ℤ) → neg_ℤ (pos (nat_abs z)) ≤ℤ z
neg_least (pos zero) = omega (arith, ints)
neg_least (pos (suc n)) = omega (arith, ints)
neg_least (negsuc n) = omega (arith, ints)

span_least : (z : ℤ) → z ≤ℤ pos (nat_abs z)
span_least (pos n) = omega (arith, ints)
span_least (negsuc n) = omega (arith, ints)

-- a number between two weights is one
pub between_wide : (low value high : ℤ) → nat_abs low ≤ 10 ^ 38 → nat_abs high ≤ 10 ^ 38 → low ≤ℤ value → value ≤ℤ high
    → nat_abs value ≤ 10 ^ 38
between_wide low (pos n) high least most from to = omega (arith, ints, span_least high, most, to)
between_wide low (negsuc n) high least most from to = omega (arith, ints, neg_least low, least, from)

pub counted_above : (low unit : ℤ) → nat_abs low ≤ 10 ^ 38 → SFits w128 low → pos 0 <ℤ unit → unit ≤ℤ pos (5 * 10 ^ 37) → SFits w128 unit
    → int_lt (towards low unit) (cast low) ≡ true → IsFirstFrom low unit (cast (towards low unit +ℤ cast unit))
counted_above low unit wide fits some small unit_fits less =
    let t = int_div low unit *ℤ unit in
    let is = towards_is low unit some fits unit_fits in
    let own = to_z-of_z w128 low fits in
    let under : t <ℤ low = above t low (ap (λ (z : ℤ). int_lt t z) (sym own) ∙ ap (λ (z : ℤ). int_lt z (cast low)) (sym is) ∙ less) in
    let first : IsFirstFrom low unit (t +ℤ unit) = first_above low t unit some refl under in
    let sum : SFits w128 (t +ℤ unit) =
    between_fits (t +ℤ unit) (omega (arith, ints, neg_least low, wide, first.reaches))
    (omega (arith, ints, span_least low, wide, small, first.near)) in
    let all : cast (towards low unit +ℤ cast unit) ≡ t +ℤ unit =
    ap (λ (z : ℤ). cast (towards low unit +ℤ z)) (to_z-of_z w128 unit unit_fits)
    ∙ ap (λ (z : ℤ). cast (z +ℤ unit)) is
    ∙ to_z-of_z w128 (t +ℤ unit) sum in
    subst (IsFirstFrom low unit) (sym all) first

pub counted_here : (low unit : ℤ) → SFits w128 low → pos 0 <ℤ unit → SFits w128 unit → int_lt (towards low unit) (cast low) ≡ false
    → IsFirstFrom low unit (towards low unit)
counted_here low unit fits some unit_fits not =
    let t = int_div low unit *ℤ unit in
    let is = towards_is low unit some fits unit_fits in
    let own = to_z-of_z w128 low fits in
    let reaches : low ≤ℤ t = at_most t low (ap (λ (z : ℤ). int_lt t z) (sym own) ∙ ap (λ (z : ℤ). int_lt z (cast low)) (sym is) ∙ not) in
    subst (IsFirstFrom low unit) (sym is) (first_here low t unit some refl reaches)

-- ---- those from one on

-- at most so many multiples from a value on that aren't above another
unfoldable pub lines_from : ℕ → ℕ → ℤ → ℤ → List ℤ
lines_from zero unit high value = []
lines_from (suc n) unit high value = cond (int_lt high value) [] (value ∷ lines_from n unit high (value +ℤ pos unit))

before : (a b : ℤ) → a <ℤ b → int_cmp a b ≡ Less
before a b less = rw (is_less a b less) refl

all_after : (n unit : ℕ) (high base value : ℤ) → 0 < unit → base <ℤ value
    → AllByRecursion (λ (v : ℤ). int_cmp base v ≡ Less) (lines_from n unit high value)
unfolding lines_from
all_after zero unit high base value some less = tt
all_after (suc n) unit high base value some less = elim (cases_Bool (int_lt high value)) [
  | inl is ↦ rw (is) tt
  | inr isnt ↦ rw (isnt) (before base value less, all_after n unit high base (value +ℤ pos unit) some (omega (arith, ints, some, less)))
]

in_order : (n unit : ℕ) (high value : ℤ) → 0 < unit → IsStrictlySortedBy int_cmp (lines_from n unit high value)
unfolding IsStrictlySortedBy lines_from
in_order zero unit high value some = tt
in_order (suc n) unit high value some = elim (cases_Bool (int_lt high value)) [
  | inl is ↦ rw (is) tt
  | inr isnt ↦
      rw (isnt)
      (all_after n unit high value (value +ℤ pos unit) some (omega (arith, ints, some)), in_order n unit high (value +ℤ pos unit) some)
]

record Fits (unit : ℕ) (low high value : ℤ) : Type 0 where
  multiple : IsMultiple unit value
  from : low ≤ℤ value
  to : value ≤ℤ high

members : (n unit : ℕ) (high value : ℤ) → IsMultiple unit value → (v : ℤ) → IsAmong v (lines_from n unit high value)
    → Fits unit value high v
unfolding lines_from
members zero unit high value multiple v among = absurd among
members (suc n) unit high value multiple v among = elim (cases_Bool (int_lt high value)) [
  | inl is ↦ absurd (rw (is) at among)
  | inr isnt ↦ elim (rw (isnt) at among) [
    | inl same ↦
        let to = at_most high value isnt in
        record {
          multiple = subst (IsMultiple unit) (sym same) multiple;
          from = omega (arith, ints, same);
          to = omega (arith, ints, same, to);
        }
    | inr later ↦
        let fits = members n unit high (value +ℤ pos unit) (plus_multiple unit value multiple) v later in
        record {
          multiple = fits.multiple;
          from = omega (arith, ints, fits.from);
          to = fits.to;
        }
  ]
]

reached : (n unit : ℕ) (high value : ℤ) → IsMultiple unit value → high <ℤ (value +ℤ pos (n * unit)) → (v : ℤ) → Fits unit value high v
    → IsAmong v (lines_from n unit high value)
unfolding lines_from
reached zero unit high value multiple end v fits = absurd (omega (arith, ints, end, fits.from, fits.to))
reached (suc n) unit high value multiple end v fits = elim (cases_Bool (int_lt high value)) [
  | inl is ↦ let less = above high value is in absurd (omega (arith, ints, less, fits.from, fits.to))
  | inr isnt ↦ rw (isnt) (elim (cases_Bool (int_lt value v)) [
    | inl less ↦
        let next = next_multiple unit value v multiple fits.multiple (above value v less) in
        inr (reached n unit high (value +ℤ pos unit) (plus_multiple unit value multiple) (omega (arith, ints, end)) v
        (record { multiple = fits.multiple; from = next; to = fits.to }))
    | inr least ↦ let most = at_most value v least in inl (omega (arith, ints, most, fits.from))
  ])
]

few_below : (span unit : ℕ) → 0 < unit → span / unit ≤ 4 → span < 5 * unit
few_below span unit some few = elim (leb_tells (suc span) (5 * unit)) [
  | inl is ↦ is.1
  | inr not ↦ absurd (omega (arith, few, le-div 5 span unit some (omega (arith, not.1))))
]

least : (unit : ℕ) (low first value : ℤ) → IsFirstFrom low (pos unit) first → IsMultiple unit value → low ≤ℤ value → first ≤ℤ value
least unit low first value is multiple from = elim (cases_Bool (int_lt value first)) [
  | inl less ↦
      let next = next_multiple unit value first multiple is.multiple (above value first less) in
      absurd (omega (arith, ints, next, from, is.near))
  | inr not ↦ at_most value first not
]

-- the lines of a scale: of its unit it has at most five multiples
pub are_lines : (scale : Scale) (unit : ℕ) (first : ℤ) → 0 < unit → FitsFew (span_of scale) unit → IsFirstFrom scale.low (pos unit) first
    → AreLines scale unit (lines_from 16 unit scale.high first)
are_lines scale unit first some few is =
    let span = span_least (scale.high -ℤ scale.low) in
    let short : span_of scale < 5 * unit = few_below (span_of scale) unit some few in
    let end : scale.high <ℤ (first +ℤ pos (16 * unit)) = omega (arith, ints, span, short, is.reaches) in
    record {
      in_order = in_order 16 unit scale.high first some;
      multiples = λ value among.
          let fits = members 16 unit scale.high first is.multiple value among in
          (fits.multiple, omega (arith, ints, fits.from, is.reaches), fits.to);
      all = λ value multiple from to.
          reached 16 unit scale.high first is.multiple end value
          (record { multiple = multiple; from = least unit scale.low first value is multiple from; to = to });
    }

-- ---- what is written of them

-- one line more
pub line_more : (html : ℤ → List ℕ) (n unit : ℕ) (high value : ℤ) (text next all : List ℕ) → int_lt high value ≡ false
    → text ++ flat_map html (lines_from (suc n) unit high value) ≡ all → next ≡ text ++ html value
    → next ++ flat_map html (lines_from n unit high (value +ℤ pos unit)) ≡ all
unfolding lines_from
line_more html n unit high value text next all not was is =
    let rest = flat_map html (lines_from n unit high (value +ℤ pos unit)) in
    let opened : flat_map html (lines_from (suc n) unit high value) ≡ html value ++ rest = rw (not) refl in
    ap (λ (t : List ℕ). t ++ rest) is
    ∙ append_assoc text (html value) rest
    ∙ ap (λ (t : List ℕ). text ++ t) (sym opened)
    ∙ was

-- no line more
pub no_line_more : (html : ℤ → List ℕ) (n unit : ℕ) (high value : ℤ) (text all : List ℕ) → int_lt high value ≡ true
    → text ++ flat_map html (lines_from n unit high value) ≡ all → text ≡ all
unfolding lines_from
no_line_more html zero unit high value text all is was = sym (append-nil text) ∙ was
no_line_more html (suc n) unit high value text all is was =
    let none : flat_map html (lines_from (suc n) unit high value) ≡ [] = rw (is) refl in
    sym (append-nil text) ∙ ap (λ (t : List ℕ). text ++ t) (sym none) ∙ was

-- no line is left to be counted
pub no_line_left : (html : ℤ → List ℕ) (n unit : ℕ) (high value : ℤ) (text all : List ℕ) → n ≡ 0
    → text ++ flat_map html (lines_from n unit high value) ≡ all → text ≡ all
unfolding lines_from
no_line_left html zero unit high value text all is was = sym (append-nil text) ∙ was
no_line_left html (suc n) unit high value text all is was = absurd (omega (arith, is))

-- ---- the grid, as the program makes it

-- the unit of a scale, from its span as the program measures it
pub unit_at : (scale : Scale) (low high : ℤ) (span unit : ℕ) → low ≡ scale.low → high ≡ scale.high → SFits w128 low → SFits w128 high
    → span ≡ nat_abs (cast high -ℤ cast low) → IsUnit span unit → IsUnit (span_of scale) unit
unit_at scale low high span unit is_low is_high low_fits high_fits is unit_is =
    let same : span ≡ span_of scale =
    is
    ∙ ap (λ (z : ℤ). nat_abs (z -ℤ cast low)) (to_z-of_z w128 high high_fits ∙ is_high)
    ∙ ap (λ (z : ℤ). nat_abs (scale.high -ℤ z)) (to_z-of_z w128 low low_fits ∙ is_low) in
    subst (λ (n : ℕ). IsUnit n unit) same unit_is

abs_within : (z : ℤ) (n : ℕ) → z ≤ℤ pos n → neg_ℤ (pos n) ≤ℤ z → nat_abs z ≤ n
abs_within (pos a) n most least = omega (arith, ints, most)
abs_within (negsuc a) n most least = omega (arith, ints, least)

pub record Counts (unit : ℕ) : Type 0 where
  pub some : 0 < unit
  pub small : unit ≤ 5 * 10 ^ 37
  pub signed : to_z w128 unit ≡ pos unit

pub unit_counts : (scale : Scale) (unit : ℕ) → IsUnit (span_of scale) unit → nat_abs scale.low ≤ 10 ^ 38 → nat_abs scale.high ≤ 10 ^ 38
    → Counts unit
unit_counts scale unit is low high =
    let span : span_of scale ≤ 2 * 10 ^ 38 =
    abs_within (scale.high -ℤ scale.low) (2 * 10 ^ 38) (omega (arith, ints, low, high, span_least scale.high, neg_least scale.low))
    (omega (arith, ints, low, high, neg_least scale.high, span_least scale.low)) in
    let small = unit_small (span_of scale) unit is span in
    record { some = round_some unit is.round; small = small; signed = to_z_pos w128 unit (omega (arith, small)) }

pub sum_fits : (low value high : ℤ) (unit : ℕ) → nat_abs low ≤ 10 ^ 38 → nat_abs high ≤ 10 ^ 38 → low ≤ℤ value → value ≤ℤ high
    → unit ≤ 5 * 10 ^ 37 → SFits w128 (value +ℤ pos unit)
sum_fits low value high unit least most from to small =
    between_fits (value +ℤ pos unit) (omega (arith, ints, neg_least low, least, from)) (omega (arith, ints, span_least high, most, to, small))

pub grid_is : (scale : Scale) (unit : ℕ) (high first begin : ℤ) (text start : List ℕ) → IsUnit (span_of scale) unit → 0 < unit
    → IsFirstFrom scale.low (pos unit) first → high ≡ scale.high → begin ≡ first
    → text ≡ start ++ flat_map (line_html scale unit) (lines_from 16 unit high begin)
    → (plot : List ℕ) × IsGrid scale plot × (text ≡ start ++ plot)
grid_is scale unit high first begin text start is some first_is is_high is_first written =
    let values = lines_from 16 unit scale.high first in (
      flat_map (line_html scale unit) values,
      (unit, is, values, are_lines scale unit first some is.few first_is, refl),
      written
          ∙ ap (λ (z : ℤ). start ++ flat_map (line_html scale unit) (lines_from 16 unit z begin)) is_high
          ∙ ap (λ (z : ℤ). start ++ flat_map (line_html scale unit) (lines_from 16 unit scale.high z)) is_first,
    )
