-- A split of lots is one by form.
use Rattle.std.proofs.Common.{◌≡◌, ◌∙◌, ℕ, ◌+◌, ◌/◌, Bool, true, false, List, [], ◌∷◌, ◌++◌, length, take, drop, None, Some, ℤ, ◌+ℤ◌, refl, sym, ap, ap₂, subst, subst₂, arith}
use Rattle.std.specs.Prelude.{cond, filter, flat_map, map, neg_ℤ, ◌||◌, ◌&&◌, Option}
use Rattle.std.specs.List.{AllByRecursion, list_all}
use Rattle.std.proofs.lemmas.Int.{ints}
use Rattle.std.proofs.lemmas.List.{append-nil, length-append, length-map}
use Rattle.std.proofs.lemmas.List.Elements.{filter-append}
use Rattle.std.proofs.lemmas.List.Folds.{list_all-append}
use Rattle.lot_num.specs.Sum.{sum_of}
use Rattle.lot_base.specs.Text.{same_text}
use Rattle.lot_base.proofs.TextLemmas.{same_text-itself}
use Rattle.lot_cost.specs.declared.cost_spec.CostSpec.{CostSpec}
use Rattle.lot_cost.specs.declared.method.Method.{Method}
use Rattle.lot_cost.specs.declared.method.Method.TheVariants.{Strict, Fifo, Lifo, Hifo, Unmatched}
use Rattle.lot_command.specs.declared.price.Price.{Price}
use Rattle.lot_command.specs.declared.transaction.Flag.TheVariants.{Complete}
use Rattle.lot_command.specs.declared.transaction.Posting.{Posting}
use Rattle.lot_command.specs.declared.transaction.Transaction.{Transaction}
use Rattle.lot_split.specs.Crumbs.{crumb_postings, is_nothing, part_posting, posting_in, price_in, rest_of, speck_of, whole_of}
use Rattle.lot_split.specs.Form.{Changes, ChangesIn, IsSplitByForm, count_taking, is_of_split, is_without_braces, moves_lots, moving, units_in}
use Rattle.lot_split.specs.Lots.{Becomes, crumb_in, currencies_of, held_of}
use Rattle.lot_split.specs.Split.{IsSplit, Splits, braced, crumbs, each_lot, openings, parts_of, postings_of, takings}
use Rattle.lot_split.specs.declared.lot.HeldLot.{HeldLot}
use Rattle.lot_split.specs.declared.transaction.Split.{Split}
use Rattle.lot_split.proofs.ListLemmas.{zip_length}
use Rattle.lot_split.proofs.OneLemmas.{held_split}

-- ---- lists

first_taken : {X : Type 0} (xs ys : List X) → take (length xs) (xs ++ ys) ≡ xs
first_taken [] ys = refl
first_taken (x ∷ xs) ys = ap (λ zs. x ∷ zs) (first_taken xs ys)

first_dropped : {X : Type 0} (xs ys : List X) → drop (length xs) (xs ++ ys) ≡ ys
first_dropped [] ys = refl
first_dropped (x ∷ xs) ys = first_dropped xs ys

halved : (all half : ℕ) → all ≡ half + half → all / 2 ≡ half
halved all half twice = omega arith

all_joined : {X : Type 0} (P : X → Type 0) (xs ys : List X) → AllByRecursion P xs → AllByRecursion P ys → AllByRecursion P (xs ++ ys)
all_joined P [] ys first others = others
all_joined P (x ∷ xs) ys first others = (first.0, all_joined P xs ys first.1 others)

both : (a b : Bool) → a ≡ true → b ≡ true → (a && b) ≡ true
both a b one other = rw (one, other) refl

both_of : (a b : Bool) → (a && b) ≡ true → (a ≡ true) × (b ≡ true)
both_of true b e = (refl, e)
both_of false b e = cc

kept_all : {X : Type 0} (p : X → Bool) (xs : List X) → list_all p xs ≡ true → filter p xs ≡ xs
kept_all p [] all = refl
kept_all p (x ∷ xs) all =
    let parts = both_of (p x) (list_all p xs) all in
    rw parts.0 (ap (λ zs. x ∷ zs) (kept_all p xs parts.1))

-- ---- which postings move lots

module _ (asked : Split) where
  braced_moves : (units : ℤ) (spec : CostSpec) → moves_lots asked (braced asked units spec) ≡ true
  braced_moves units spec = both (same_text asked.account asked.account) (same_text asked.commodity asked.commodity)
      (same_text-itself asked.account) (same_text-itself asked.commodity)

  all_braced : (units : HeldLot → ℤ) (lots : List HeldLot)
      → list_all (moves_lots asked) (map (λ (l : HeldLot). braced asked (units l) (parts_of l.key)) lots) ≡ true
  all_braced units [] = refl
  all_braced units (l ∷ ls) = rw (braced_moves (units l) (parts_of l.key)) (all_braced units ls)

  takings_move : (method : Method) (lots : List HeldLot) → list_all (moves_lots asked) (takings asked method lots) ≡ true
  takings_move Strict lots = rw (braced_moves (neg_ℤ (held_of lots)) each_lot) refl
  takings_move Fifo lots = rw (braced_moves (neg_ℤ (held_of lots)) each_lot) refl
  takings_move Lifo lots = rw (braced_moves (neg_ℤ (held_of lots)) each_lot) refl
  takings_move Hifo lots = rw (braced_moves (neg_ℤ (held_of lots)) each_lot) refl
  takings_move Unmatched lots = all_braced (λ l. neg_ℤ l.units) lots

-- ---- crumbs have no braces

module _ (asked : Split) where
  abbrev StandsBeside : Posting → Type 0
  StandsBeside posting = (moves_lots asked posting ≡ false) × (is_of_split asked posting ≡ true)

  crumb_beside : (account currency : List ℕ) (units : ℤ) (price : Option Price) → StandsBeside (posting_in account currency units price)
  crumb_beside account currency units price =
      elim (same_text asked.account account) as (λ b. ((b && false) ≡ false) × (((b && false) || true) ≡ true)) [
        | true ↦ (refl, refl)
        | false ↦ (refl, refl)
      ]

  part_beside : (account currency : List ℕ) (units : ℤ) (rate : Option ℕ) → AllByRecursion StandsBeside (part_posting account currency units rate)
  part_beside account currency units rate =
      elim (is_nothing units rate) as (λ b. AllByRecursion StandsBeside (cond b [] (posting_in account currency units (price_in currency rate) ∷ []))) [
        | true ↦ tt
        | false ↦ (crumb_beside account currency units (price_in currency rate), tt)
      ]

  all_beside : (crumb : List ℕ → ℤ) (currencies : List (List ℕ))
      → AllByRecursion StandsBeside (flat_map (λ (currency : List ℕ). crumb_postings asked.rounding currency (crumb currency)) currencies)
  all_beside crumb [] = tt
  all_beside crumb (c ∷ cs) =
      all_joined StandsBeside (crumb_postings asked.rounding c (crumb c))
      (flat_map (λ (currency : List ℕ). crumb_postings asked.rounding currency (crumb currency)) cs)
      (all_joined StandsBeside (part_posting asked.rounding c (whole_of (crumb c)) None)
      (part_posting asked.rounding c (speck_of (crumb c)) (Some (rest_of (crumb c))))
      (part_beside asked.rounding c (whole_of (crumb c)) None)
      (part_beside asked.rounding c (speck_of (crumb c)) (Some (rest_of (crumb c)))))
      (all_beside crumb cs)

  none_moves : (postings : List Posting) → AllByRecursion StandsBeside postings → filter (moves_lots asked) postings ≡ []
  none_moves [] all = refl
  none_moves (p ∷ ps) all = rw all.0.0 (none_moves ps all.1)

  all_stand : (postings : List Posting) → AllByRecursion StandsBeside postings → list_all (is_of_split asked) postings ≡ true
  all_stand [] all = refl
  all_stand (p ∷ ps) all = both (is_of_split asked p) (list_all (is_of_split asked) ps) all.0.1 (all_stand ps all.1)

  movers_stand : (postings : List Posting) → list_all (moves_lots asked) postings ≡ true → list_all (is_of_split asked) postings ≡ true
  movers_stand [] all = refl
  movers_stand (p ∷ ps) all =
      let parts = both_of (moves_lots asked p) (list_all (moves_lots asked) ps) all in
      both (is_of_split asked p) (list_all (is_of_split asked) ps) (ap (λ b. b || is_without_braces p.amount) parts.0) (movers_stand ps parts.1)

-- ---- what is taken and what is opened

sum_opposite : (lots : List HeldLot) → sum_of (map (λ (l : HeldLot). neg_ℤ l.units) lots) ≡ neg_ℤ (held_of lots)
sum_opposite [] = omega (arith, ints)
sum_opposite (l ∷ ls) = omega (arith, ints, sum_opposite ls)

module _ (asked : Split) where
  units_of_braced : (units : HeldLot → ℤ) (lots : List HeldLot)
      → units_in (map (λ (l : HeldLot). braced asked (units l) (parts_of l.key)) lots) ≡ sum_of (map units lots)
  units_of_braced units [] = refl
  units_of_braced units (l ∷ ls) = ap (λ z. units l +ℤ z) (units_of_braced units ls)

  units_taken : (method : Method) (lots : List HeldLot) → neg_ℤ (units_in (takings asked method lots)) ≡ held_of lots
  units_taken Strict lots = omega (arith, ints)
  units_taken Fifo lots = omega (arith, ints)
  units_taken Lifo lots = omega (arith, ints)
  units_taken Hifo lots = omega (arith, ints)
  units_taken Unmatched lots = omega (arith, ints, units_of_braced (λ l. neg_ℤ l.units) lots, sum_opposite lots)

  count_taken : (method : Method) (lots split : List HeldLot) → (lots ≡ [] → ⊥) → length split ≡ length lots
      → count_taking (takings asked method lots ++ openings asked split) ≡ length (takings asked method lots)
  count_taken Strict lots split some same = refl
  count_taken Fifo lots split some same = refl
  count_taken Lifo lots split some same = refl
  count_taken Hifo lots split some same = refl
  count_taken Unmatched [] split some same = absurd (some refl)
  count_taken Unmatched (l ∷ ls) split some same =
      let taken = takings asked Unmatched (l ∷ ls) in
      let opened = openings asked split in
      let counts : length (taken ++ opened) ≡ length taken + length opened = length-append taken opened in
      let takings_count : length taken ≡ length (l ∷ ls) = length-map (l ∷ ls) (λ (l : HeldLot). braced asked (neg_ℤ l.units) (parts_of l.key)) in
      let openings_count : length opened ≡ length split = length-map split (λ (l : HeldLot). braced asked l.units (parts_of l.key)) in
      halved (length (taken ++ opened)) (length taken) (omega (arith, counts, takings_count, openings_count, same))

-- ---- the split

module _ (asked : Split) (method : Method) (lots : List HeldLot) where
  moved : (split : List HeldLot) → moving asked (postings_of asked method lots split) ≡ takings asked method lots ++ openings asked split
  moved split =
      let taken = takings asked method lots in
      let opened = openings asked split in
      let beside = crumbs asked lots split in
      filter-append (moves_lots asked) (taken ++ opened) beside
      ∙ ap₂ (λ xs ys. xs ++ ys)
      (filter-append (moves_lots asked) taken opened
      ∙ ap₂ (λ xs ys. xs ++ ys) (kept_all (moves_lots asked) taken (takings_move asked method lots))
      (kept_all (moves_lots asked) opened (all_braced asked (λ l. l.units) split)))
      (none_moves asked beside (all_beside asked (crumb_in lots split) (currencies_of lots)))
      ∙ append-nil (taken ++ opened)

  stand : (split : List HeldLot) → list_all (is_of_split asked) (postings_of asked method lots split) ≡ true
  stand split =
      let taken = takings asked method lots in
      let opened = openings asked split in
      let beside = crumbs asked lots split in
      list_all-append (is_of_split asked) (taken ++ opened) beside
      ∙ both (list_all (is_of_split asked) (taken ++ opened)) (list_all (is_of_split asked) beside)
      (list_all-append (is_of_split asked) taken opened
      ∙ both (list_all (is_of_split asked) taken) (list_all (is_of_split asked) opened)
      (movers_stand asked taken (takings_move asked method lots)) (movers_stand asked opened (all_braced asked (λ l. l.units) split)))
      (all_stand asked beside (all_beside asked (crumb_in lots split) (currencies_of lots)))

  changes : (split : List HeldLot) → (splits : Splits asked method lots split)
      → ChangesIn asked.change (moving asked (postings_of asked method lots split))
  changes split splits =
      let taken = takings asked method lots in
      let opened = openings asked split in
      let count = count_taken asked method lots split splits.can.can.some (zip_length (Becomes splits.ratio) lots split splits.become) in
      let first : take (count_taking (taken ++ opened)) (taken ++ opened) ≡ taken =
      ap (λ n. take n (taken ++ opened)) count ∙ first_taken taken opened in
      let others : drop (count_taking (taken ++ opened)) (taken ++ opened) ≡ opened =
      ap (λ n. drop n (taken ++ opened)) count ∙ first_dropped taken opened in
      let held : neg_ℤ (units_in (take (count_taking (taken ++ opened)) (taken ++ opened))) ≡ held_of lots =
      ap (λ (ps : List Posting). neg_ℤ (units_in ps)) first ∙ units_taken asked method lots in
      let becomes : units_in (drop (count_taking (taken ++ opened)) (taken ++ opened)) ≡ held_of split =
      ap (λ (ps : List Posting). units_in ps) others ∙ units_of_braced asked (λ l. l.units) split in
      subst (λ (ps : List Posting). ChangesIn asked.change ps) (sym (moved split))
      (subst₂ (Changes asked.change) (sym held) (sym becomes) (record {
        in_range = splits.can.can.in_range;
        ratio = splits.ratio;
        lowest = splits.can.lowest;
        become = held_split splits.ratio lots split splits.become;
      }))

  pub by_form : (t : Transaction) → IsSplit asked method lots t → IsSplitByForm asked t
  by_form t is =
      let made : Transaction = record { day = asked.day; flag = Complete; narration = asked.narration; postings = postings_of asked method lots is.split } in
      let formed : IsSplitByForm asked made = record {
        day = refl;
        complete = refl;
        narration = refl;
        few = is.few;
        alone = stand is.split;
        changes = changes is.split is.splits;
      } in
      subst (IsSplitByForm asked) (sym is.is) formed
