-- Which purchase a row takes back, one more row at a time.
use Rattle.std.specs.Prelude.{◌≡◌, ◌≢◌, ℕ, zero, suc, ◌+◌, ◌<◌, ◌≤◌, ◌==◌, Bool, true, false, not, cond, ◌&&◌, ◌||◌, List, [], ◌∷◌, ◌++◌, length, Option, Some, None}
use Rattle.std.specs.BTreeMap.{BTreeMap}
use Rattle.std.specs.Global.{Vec}
use Rattle.std.specs.List.{slice_get}
use Rattle.std.specs.Option.{option_to_list, unwrap_or}
use Rattle.std.proofs.Common.{arith, ap, get_or, inl, inr, length-append, refl, subst, sym, ◌∙◌}
use Rattle.std.proofs.lemmas.Bool.{true≢false}
use Rattle.std.proofs.lemmas.Bool.Decides.{eqb_tells}
use Rattle.std.proofs.lemmas.List.{append-nil}
use Rattle.lot_sequence.specs.Cancel.{Bought, IsLast, IsLastLeft, IsMatching, IsTaken, MayTakeBack, TakesAs, TakesBack, bought, partner_at}
use Rattle.lot_sequence.specs.Left.{KeepsOthers, Moves, MovesAs, left_at}
use Rattle.lot_sequence.specs.declared.cancel.Mark.{Mark}
use Rattle.lot_sequence.specs.declared.cancel.Side.{Side}
use Rattle.lot_sequence.specs.declared.cancel.Side.TheVariants.{Buys, Cancels, Neither}
use Rattle.lot_sequence.specs.declared.cancel.Trade.{Trade}
use Rattle.lot_sequence.proofs.LeftLemmas.{IsLastBelow, below_next, below_same, buys_same, is_bought, is_left, is_same, is_taken, by_bool, last_below, none_below, one_bought, places_below, same_as, taken_none, taken_some, taken_tells, taken_told}

-- ---- Elements.

pub got : {X : Type 0} (xs : List X) (place : ℕ) (x : X) → place < length xs → x ≡ get_or xs place x → slice_get xs place ≡ Some x
got [] place x within is = absurd (omega arith)
got (y ∷ xs) zero x within is = ap Some (sym is)
got (y ∷ xs) (suc place) x within is = got xs place x (omega arith) is

at_grown : (partners : List (Option ℕ)) (x : Option ℕ) (place : ℕ) → place < length partners → partner_at (partners ++ x ∷ []) place ≡ partner_at partners place
at_grown [] x place within = absurd (omega arith)
at_grown (p ∷ partners) x zero within = refl
at_grown (p ∷ partners) x (suc place) within = at_grown partners x place (omega arith)

at_end : (partners : List (Option ℕ)) (x : Option ℕ) (count : ℕ) → length partners ≡ count → partner_at (partners ++ x ∷ []) count ≡ x
at_end [] x zero long = refl
at_end [] x (suc count) long = absurd (omega arith)
at_end (p ∷ partners) x zero long = absurd (omega arith)
at_end (p ∷ partners) x (suc count) long = at_end partners x count (omega arith)

-- ---- One more row.

module _ (partners : List (Option ℕ)) (x : Option ℕ) where
  taken_grown : (place purchase : ℕ) → place ≤ length partners → IsTaken partners place purchase → IsTaken (partners ++ x ∷ []) place purchase
  taken_grown place purchase within (earlier, before, is) = (earlier, before, at_grown partners x earlier (omega arith) ∙ is)

  taken_back : (place purchase : ℕ) → place ≤ length partners → IsTaken (partners ++ x ∷ []) place purchase → IsTaken partners place purchase
  taken_back place purchase within (earlier, before, is) = (earlier, before, sym (at_grown partners x earlier (omega arith)) ∙ is)

  last_grown : (rows : List Trade) (place : ℕ) (cancellation : Trade) (partner : Option ℕ) → place ≤ length partners
      → IsLastLeft rows partners place cancellation partner → IsLastLeft rows (partners ++ x ∷ []) place cancellation partner
  last_grown rows place cancellation None within none = λ other before may. taken_grown place other within (none other before may)
  last_grown rows place cancellation (Some purchase) within is = record {
    before = is.before;
    may = is.may;
    left = λ taken. is.left (taken_back place purchase within taken);
    last = λ other behind before may. taken_grown place other within (is.last other behind before may);
  }

  as_grown : (rows : List Trade) (place : ℕ) (trade : Trade) (side : Side) → place < length partners
      → TakesAs rows partners place trade side → TakesAs rows (partners ++ x ∷ []) place trade side
  as_grown rows place trade Buys within is = at_grown partners x place within ∙ is
  as_grown rows place trade Neither within is = at_grown partners x place within ∙ is
  as_grown rows place trade Cancels within is =
      subst (λ (p : Option ℕ). IsLastLeft rows (partners ++ x ∷ []) place trade p) (sym (at_grown partners x place within))
      (last_grown rows place trade (partner_at partners place) (omega arith) is)

  matching_more : (rows : List Trade) (count : ℕ) (trade : Trade) → slice_get rows count ≡ Some trade → IsMatching rows count partners
      → TakesBack rows (partners ++ x ∷ []) count trade → IsMatching rows (count + 1) (partners ++ x ∷ [])
  matching_more rows count trade there matching takes = record {
    each = let more = length-append partners (x ∷ []) in omega (arith, more, matching.each);
    takes = λ place other within at.
        elim (eqb_tells place count) [
          | inl same ↦
              let some : Some other ≡ Some trade = sym at ∙ ap (λ (n : ℕ). slice_get rows n) same.1 ∙ there in
              let one : trade ≡ other = sym (ap (λ (o : Option Trade). unwrap_or o trade) some) in
              subst (λ (t : Trade). TakesBack rows (partners ++ x ∷ []) place t) one
              (subst (λ (n : ℕ). TakesBack rows (partners ++ x ∷ []) n trade) (sym same.1) takes)
          | inr apart ↦
              let ne : place ≢ count = apart.1 in
              let long : length partners ≡ count = matching.each in
              as_grown rows place other other.side (omega arith) (matching.takes place other (omega arith) at)
        ];
  }

-- ---- A step of the loop.

-- the first rows take back what they should, and of each thing that is bought these purchases are left
pub record IsStep (rows : List Trade) (count : ℕ) (left : BTreeMap Mark (Vec ℕ)) (partners : List (Option ℕ)) : Type 0 where
  pub matching : IsMatching rows count partners
  pub left_are : (b : Bought) → left_at left b ≡ places_below (is_left rows partners b) count
  pub fresh : (place : ℕ) → count ≤ place → is_taken partners place ≡ false

may_is : (rows : List Trade) (trade : Trade) (place : ℕ) → MayTakeBack rows trade place → is_bought (bought trade) (slice_get rows place) ≡ true
may_is rows trade place may =
    ap (is_bought (bought trade)) may.there ∙ ap (λ (side : Side). buys_same side (bought trade) (bought may.purchase)) may.buys
    ∙ same_as (bought trade) (bought may.purchase) (sym may.same)

bought_may : (rows : List Trade) (trade purchase : Trade) (place : ℕ) (side : Side) → slice_get rows place ≡ Some purchase
    → purchase.side ≡ side → buys_same side (bought trade) (bought purchase) ≡ true → MayTakeBack rows trade place
bought_may rows trade purchase place Cancels there buys is = cc
bought_may rows trade purchase place Neither there buys is = cc
bought_may rows trade purchase place Buys there buys is =
    record { purchase = purchase; there = there; buys = buys; same = sym (one_bought (bought trade) (bought purchase) is) }

found_may : (rows : List Trade) (trade : Trade) (place : ℕ) (found : Option Trade) → slice_get rows place ≡ found
    → is_bought (bought trade) found ≡ true → MayTakeBack rows trade place
found_may rows trade place None there is = cc
found_may rows trade place (Some purchase) there is = bought_may rows trade purchase place purchase.side there refl is

is_may : (rows : List Trade) (trade : Trade) (place : ℕ) → is_bought (bought trade) (slice_get rows place) ≡ true → MayTakeBack rows trade place
is_may rows trade place is = found_may rows trade place (slice_get rows place) refl is

and_parts_of : (a b : Bool) → (a && b) ≡ true → (a ≡ true) × (b ≡ true)
and_parts_of true b is = (refl, is)
and_parts_of false b is = cc

not_true : (b : Bool) → not b ≡ true → b ≡ false
not_true true is = cc
not_true false is = refl

all_but : (a b : Bool) → a ≡ true → (a && not b) ≡ false → b ≡ true
all_but true true is none = refl
all_but true false is none = cc
all_but false b is none = cc

-- a purchase that isn't left is taken
taken_then : (rows : List Trade) (partners : List (Option ℕ)) (count : ℕ) (trade : Trade) (place : ℕ) → length partners ≡ count
    → MayTakeBack rows trade place → is_left rows partners (bought trade) place ≡ false → IsTaken partners count place
taken_then rows partners count trade place long may gone =
    let (earlier, before, at) = taken_tells partners place
    (all_but (is_bought (bought trade) (slice_get rows place)) (is_taken partners place) (may_is rows trade place may) gone) in
    (earlier, omega (arith, before, long), at)

and_yes : (a : Bool) → (a && true) ≡ a
and_yes true = refl
and_yes false = refl

bool_no : (b : Bool) → (b ≡ true → ⊥) → b ≡ false
bool_no b never = elim (by_bool b) [ inl is ↦ absurd (never is) | inr is ↦ is ]

-- what is left is taken by none
left_then : (partners : List (Option ℕ)) (count place : ℕ) → is_taken partners place ≡ false → IsTaken partners count place → ⊥
left_then partners count place free (earlier, before, at) = true≢false (sym (taken_told partners earlier place at) ∙ free)

and_not_or : (a b c : Bool) → (a && not (b || c)) ≡ ((a && not b) && not c)
and_not_or true true c = refl
and_not_or true false c = refl
and_not_or false b c = refl

module _ (rows : List Trade) (count : ℕ) (left new : BTreeMap Mark (Vec ℕ)) (partners : List (Option ℕ)) (was : IsStep rows count left partners) where
  long : length partners ≡ count
  long = was.matching.each

  -- what is left is the same behind a row that takes nothing
  left_none : (b : Bought) (place : ℕ) → is_left rows (partners ++ None ∷ []) b place ≡ is_left rows partners b place
  left_none b place = ap (λ t. is_bought b (slice_get rows place) && not t) (taken_none partners place)

  -- and without the purchase that a row takes
  left_some : (b : Bought) (q place : ℕ) → is_left rows (partners ++ Some q ∷ []) b place ≡ (is_left rows partners b place && not (q == place))
  left_some b q place =
      ap (λ t. is_bought b (slice_get rows place) && not t) (taken_some partners q place)
      ∙ and_not_or (is_bought b (slice_get rows place)) (is_taken partners place) (q == place)

  fresh_none : (place : ℕ) → count + 1 ≤ place → is_taken (partners ++ None ∷ []) place ≡ false
  fresh_none place behind = taken_none partners place ∙ was.fresh place (omega arith)

  fresh_some : (q : ℕ) → q < count → (place : ℕ) → count + 1 ≤ place → is_taken (partners ++ Some q ∷ []) place ≡ false
  fresh_some q before place behind =
      let apart : (q == place) ≡ false = elim (eqb_tells q place) [ inl same ↦ let e : q ≡ place = same.1 in absurd (omega arith) | inr other ↦ other.0 ] in
      taken_some partners q place ∙ ap (λ t. t || (q == place)) (was.fresh place (omega arith)) ∙ apart

  -- what is left behind a row that is no purchase of that
  below_other : (b : Bought) (x : Option ℕ) → is_bought b (slice_get rows count) ≡ false
      → places_below (is_left rows (partners ++ x ∷ []) b) (count + 1) ≡ places_below (is_left rows (partners ++ x ∷ []) b) count
  below_other b x none =
      let f = is_left rows (partners ++ x ∷ []) b in
      below_next f count
      ∙ ap (λ t. cond (t && not (is_taken (partners ++ x ∷ []) count)) (places_below f count ++ count ∷ []) (places_below f count)) none

  same_below : (b : Bought) → places_below (is_left rows (partners ++ None ∷ []) b) count ≡ places_below (is_left rows partners b) count
  same_below b = below_same (is_left rows (partners ++ None ∷ []) b) (is_left rows partners b) count (λ place small. left_none b place)

  -- ---- A purchase.

  module _ (trade : Trade) (there : slice_get rows count ≡ Some trade) where
    bought_here : (b : Bought) (side : Side) → trade.side ≡ side → is_bought b (slice_get rows count) ≡ buys_same side b (bought trade)
    bought_here b side is = ap (is_bought b) there ∙ ap (λ (s : Side). buys_same s b (bought trade)) is

    left_behind : (b : Bought) (same : Bool) → trade.side ≡ Buys → is_same b (bought trade) ≡ same
        → places_below (is_left rows (partners ++ None ∷ []) b) (count + 1)
        ≡ cond same (places_below (is_left rows partners b) count ++ count ∷ []) (places_below (is_left rows partners b) count)
    left_behind b same buys is =
        let f = is_left rows (partners ++ None ∷ []) b in
        let here : f count ≡ same =
        left_none b count ∙ ap (λ t. is_bought b (slice_get rows count) && not t) (was.fresh count (omega arith))
        ∙ and_yes (is_bought b (slice_get rows count)) ∙ bought_here b Buys buys ∙ is in
        below_next f count ∙ (λ i. cond (here i) (same_below b i ++ count ∷ []) (same_below b i))

    bought_left : (b : Bought) (same : Bool) → trade.side ≡ Buys → is_same b (bought trade) ≡ same
        → left_at new (bought trade) ≡ left_at left (bought trade) ++ count ∷ [] → KeepsOthers left new (bought trade)
        → left_at new b ≡ cond same (left_at left b ++ count ∷ []) (left_at left b)
    bought_left b true buys is here others =
        let one : b ≡ bought trade = one_bought b (bought trade) is in
        ap (left_at new) one ∙ here ∙ ap (λ (c : Bought). left_at left c ++ count ∷ []) (sym one)
    bought_left b false buys is here others = others b (λ one. true≢false (sym (same_as b (bought trade) one) ∙ is))

    step_bought : trade.side ≡ Buys → left_at new (bought trade) ≡ left_at left (bought trade) ++ count ∷ [] → KeepsOthers left new (bought trade)
        → IsStep rows (count + 1) new (partners ++ None ∷ [])
    step_bought buys here others = record {
      matching = matching_more partners None rows count trade there was.matching
          (subst (λ (s : Side). TakesAs rows (partners ++ None ∷ []) count trade s) (sym buys) (at_end partners None count long));
      left_are = λ b.
          bought_left b (is_same b (bought trade)) buys refl here others
          ∙ ap (λ (ps : List ℕ). cond (is_same b (bought trade)) (ps ++ count ∷ []) ps) (was.left_are b)
          ∙ sym (left_behind b (is_same b (bought trade)) buys refl);
      fresh = fresh_none;
    }

    -- ---- A cancellation.

    no_purchase : (b : Bought) → trade.side ≡ Cancels → is_bought b (slice_get rows count) ≡ false
    no_purchase b cancels = bought_here b Cancels cancels

    cancelled_matching : (x : Option ℕ) → trade.side ≡ Cancels → IsLastLeft rows partners count trade x → IsMatching rows (count + 1) (partners ++ x ∷ [])
    cancelled_matching x cancels is =
        matching_more partners x rows count trade there was.matching
        (subst (λ (s : Side). TakesAs rows (partners ++ x ∷ []) count trade s) (sym cancels)
        (subst (λ (p : Option ℕ). IsLastLeft rows (partners ++ x ∷ []) count trade p) (sym (at_end partners x count long))
        (last_grown partners x rows count trade x (omega (arith, long)) is)))

    others_same : (b : Bought) (same : Bool) → is_same b (bought trade) ≡ same → left_at new (bought trade) ≡ left_at left (bought trade)
        → KeepsOthers left new (bought trade) → left_at new b ≡ left_at left b
    others_same b true is here others =
        let one : b ≡ bought trade = one_bought b (bought trade) is in
        ap (left_at new) one ∙ here ∙ ap (left_at left) (sym one)
    others_same b false is here others = others b (λ one. true≢false (sym (same_as b (bought trade) one) ∙ is))

    -- ---- A row that is neither.

    step_neither : trade.side ≡ Neither → left_at new (bought trade) ≡ left_at left (bought trade) → KeepsOthers left new (bought trade)
        → IsStep rows (count + 1) new (partners ++ None ∷ [])
    step_neither neither here others = record {
      matching = matching_more partners None rows count trade there was.matching
          (subst (λ (s : Side). TakesAs rows (partners ++ None ∷ []) count trade s) (sym neither) (at_end partners None count long));
      left_are = λ b.
          others_same b (is_same b (bought trade)) refl here others ∙ was.left_are b ∙ sym (same_below b)
          ∙ sym (below_other b None (bought_here b Neither neither));
      fresh = fresh_none;
    }

    -- ---- A cancellation that takes one, or none.

    step_missed : trade.side ≡ Cancels → left_at left (bought trade) ≡ [] → left_at new (bought trade) ≡ left_at left (bought trade)
        → KeepsOthers left new (bought trade) → IsStep rows (count + 1) new (partners ++ None ∷ [])
    step_missed cancels empty here others =
        let none = none_below (is_left rows partners (bought trade)) count (sym (was.left_are (bought trade)) ∙ empty) in
        record {
          matching = cancelled_matching None cancels (λ other before may. taken_then rows partners count trade other long may (none other before));
          left_are = λ b.
              others_same b (is_same b (bought trade)) refl here others ∙ was.left_are b ∙ sym (same_below b) ∙ sym (below_other b None (no_purchase b cancels));
          fresh = fresh_none;
        }

    module _ (q : ℕ) (cancels : trade.side ≡ Cancels) (took : left_at left (bought trade) ≡ left_at new (bought trade) ++ q ∷ []) where
      last : IsLastBelow (is_left rows partners (bought trade)) count (left_at new (bought trade)) q
      last = last_below (is_left rows partners (bought trade)) count (left_at new (bought trade)) q (sym (was.left_are (bought trade)) ∙ took)

      parts : (is_bought (bought trade) (slice_get rows q) ≡ true) × (not (is_taken partners q) ≡ true)
      parts = and_parts_of (is_bought (bought trade) (slice_get rows q)) (not (is_taken partners q)) last.holds

      is_last : IsLast rows partners count trade q
      is_last = record {
        before = last.below;
        may = is_may rows trade q parts.0;
        left = left_then partners count q (not_true (is_taken partners q) parts.1);
        last = λ other behind before may. taken_then rows partners count trade other long may (last.last other behind before);
      }

      -- what was bought there is that alone
      not_there : (b : Bought) → b ≢ bought trade → is_bought b (slice_get rows q) ≡ false
      not_there b ne = bool_no (is_bought b (slice_get rows q)) (λ yes.
          let may : MayTakeBack rows trade q = is_may rows trade q parts.0 in
          let other : is_same b (bought may.purchase) ≡ true =
          sym (ap (is_bought b) may.there ∙ ap (λ (side : Side). buys_same side b (bought may.purchase)) may.buys) ∙ yes in
          ne (one_bought b (bought may.purchase) other ∙ may.same))

      taken_left : (b : Bought) (same : Bool) → is_same b (bought trade) ≡ same → KeepsOthers left new (bought trade)
          → left_at new b ≡ places_below (is_left rows (partners ++ Some q ∷ []) b) count
      taken_left b true is others =
          let one : b ≡ bought trade = one_bought b (bought trade) is in
          ap (left_at new) one ∙ sym last.others
          ∙ sym (below_same (is_left rows (partners ++ Some q ∷ []) (bought trade)) (λ k. is_left rows partners (bought trade) k && not (q == k)) count
          (λ place small. left_some (bought trade) q place))
          ∙ ap (λ (c : Bought). places_below (is_left rows (partners ++ Some q ∷ []) c) count) (sym one)
      taken_left b false is others =
          let ne : b ≢ bought trade = λ one. true≢false (sym (same_as b (bought trade) one) ∙ is) in
          others b ne ∙ was.left_are b
          ∙ sym (below_same (is_left rows (partners ++ Some q ∷ []) b) (is_left rows partners b) count (λ place small. elim (eqb_tells q place) [
            | inl same ↦
                let none : is_bought b (slice_get rows place) ≡ false = ap (λ (n : ℕ). is_bought b (slice_get rows n)) (sym same.1) ∙ not_there b ne in
                ap (λ t. t && not (is_taken (partners ++ Some q ∷ []) place)) none ∙ sym (ap (λ t. t && not (is_taken partners place)) none)
            | inr apart ↦ left_some b q place ∙ ap (λ t. is_left rows partners b place && not t) apart.0 ∙ and_yes (is_left rows partners b place)
          ]))

      step_taken : KeepsOthers left new (bought trade) → IsStep rows (count + 1) new (partners ++ Some q ∷ [])
      step_taken others = record {
        matching = cancelled_matching (Some q) cancels is_last;
        left_are = λ b. taken_left b (is_same b (bought trade)) refl others ∙ sym (below_other b (Some q) (no_purchase b cancels));
        fresh = fresh_some q last.below;
      }

    step_cancelled : (x : Option ℕ) → trade.side ≡ Cancels → left_at left (bought trade) ≡ left_at new (bought trade) ++ option_to_list x
        → (x ≡ None → left_at left (bought trade) ≡ []) → KeepsOthers left new (bought trade) → IsStep rows (count + 1) new (partners ++ x ∷ [])
    step_cancelled None cancels took none others =
        step_missed cancels (none refl) (sym (took ∙ append-nil (left_at new (bought trade)))) others
    step_cancelled (Some q) cancels took none others = step_taken q cancels took others

    step_as : (side : Side) (x : Option ℕ) → trade.side ≡ side → MovesAs side count (left_at left (bought trade)) (left_at new (bought trade)) x
        → KeepsOthers left new (bought trade) → IsStep rows (count + 1) new (partners ++ x ∷ [])
    step_as Buys x buys moves others =
        subst (λ (p : Option ℕ). IsStep rows (count + 1) new (partners ++ p ∷ [])) (sym moves.0) (step_bought buys moves.1 others)
    step_as Cancels x cancels moves others = step_cancelled x cancels moves.0 moves.1 others
    step_as Neither x neither moves others =
        subst (λ (p : Option ℕ). IsStep rows (count + 1) new (partners ++ p ∷ [])) (sym moves.0) (step_neither neither moves.1 others)

    pub step_more : (x : Option ℕ) (all : List (Option ℕ)) → Moves left new count trade x → all ≡ partners ++ x ∷ [] → IsStep rows (count + 1) new all
    step_more x all moves pushed =
        subst (λ (list : List (Option ℕ)). IsStep rows (count + 1) new list) (sym pushed) (step_as trade.side x refl moves.here moves.others)
