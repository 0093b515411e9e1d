-- Sums over the legs of a book with their days.
use Rattle.std.specs.Prelude.{◌≡◌, ℤ, ◌+ℤ◌, Bool, true, false, cond, List, [], ◌∷◌, ◌++◌, filter, map}
use Rattle.std.specs.Ordering.{is_gt}
use Rattle.std.specs.declared.cmp.Ordering.{Ordering}
use Rattle.std.proofs.Common.{refl, sym, ap, ap₂, ◌∙◌}
use Rattle.std.proofs.Math.IntN.{+ℤ_assoc, +ℤ_comm, +ℤ_idl}
use Rattle.std.proofs.lemmas.List.{map-append}
use Rattle.std.proofs.lemmas.List.Elements.{filter-append}
use Rattle.sqlite_keyed.specs.Lists.{insert_sorted, sort_by}
use Rattle.sqlite_keyed.proofs.ListLemmas.{map_back}
use Rattle.lot_book.specs.Facts.{Entry, legs_of}
use Rattle.lot_book.specs.Leg.{same_position, sum_at}
use Rattle.lot_book.specs.declared.leg.Leg.{Leg}
use Rattle.lot_book.specs.declared.leg.Position.{Position}
use Rattle.lot_book.proofs.SumLemmas.{sum_where, sum_where-append}
use Rattle.lot_num.specs.Sum.{sum_of}
use Rattle.lot_stored.specs.StandFor.{sum_in}
use Rattle.lot_legs.specs.Legs.{booked_legs, by_posting, dated, dated_legs, dated_legs_of, day_of, entries_by, is_by, leg_in, legs_by, posting_cmp}
use Rattle.lot_legs.specs.declared.leg.DatedLeg.{DatedLeg}

-- ---- a list that is sorted

module _ {X : Type 0} (p : X → Bool) (f : X → ℤ) where
  sum_next : (x : X) (xs : List X) → sum_where p f (x ∷ xs) ≡ sum_where p f (x ∷ []) +ℤ sum_where p f xs
  sum_next x xs = sum_where-append p f (x ∷ []) xs

  sum_turned : (x y : X) (xs : List X) → sum_where p f (x ∷ y ∷ xs) ≡ sum_where p f (y ∷ x ∷ xs)
  sum_turned x y xs =
      let a = sum_where p f (x ∷ []) in
      let b = sum_where p f (y ∷ []) in
      let s = sum_where p f xs in
      sum_next x (y ∷ xs)
      ∙ ap (λ z. a +ℤ z) (sum_next y xs)
      ∙ sym (+ℤ_assoc a b s)
      ∙ ap (λ z. z +ℤ s) (+ℤ_comm a b)
      ∙ +ℤ_assoc b a s
      ∙ ap (λ z. b +ℤ z) (sym (sum_next x xs))
      ∙ sym (sum_next y (x ∷ xs))

  module _ (cmp : X → X → Ordering) where
    sum_inserted : (new : X) (xs : List X) → sum_where p f (insert_sorted cmp new xs) ≡ sum_where p f (new ∷ xs)
    sum_inserted new [] = refl
    sum_inserted new (x ∷ xs) = by (is_gt (cmp new x)) (sum_inserted new xs)
      where
        by : (b : Bool) → sum_where p f (insert_sorted cmp new xs) ≡ sum_where p f (new ∷ xs)
            → sum_where p f (cond b (x ∷ insert_sorted cmp new xs) (new ∷ x ∷ xs)) ≡ sum_where p f (new ∷ x ∷ xs)
        by false more = refl
        by true more =
            sum_next x (insert_sorted cmp new xs)
            ∙ ap (λ z. sum_where p f (x ∷ []) +ℤ z) more
            ∙ sym (sum_next x (new ∷ xs))
            ∙ sum_turned x new xs

    pub sum_sorted : (xs : List X) → sum_where p f (sort_by cmp xs) ≡ sum_where p f xs
    sum_sorted [] = refl
    sum_sorted (x ∷ xs) =
        sum_inserted x (sort_by cmp xs)
        ∙ sum_next x (sort_by cmp xs)
        ∙ ap (λ z. sum_where p f (x ∷ []) +ℤ z) (sum_sorted xs)
        ∙ sym (sum_next x xs)

sum_mapped : {X Y : Type 0} (g : X → Y) (p : Y → Bool) (f : Y → ℤ) (xs : List X) → sum_where p f (map g xs) ≡ sum_where (λ x. p (g x)) (λ x. f (g x)) xs
sum_mapped g p f [] = refl
sum_mapped g p f (x ∷ xs) = by (p (g x)) (sum_mapped g p f xs)
  where
    by : (b : Bool) → sum_where p f (map g xs) ≡ sum_where (λ x. p (g x)) (λ x. f (g x)) xs
        → sum_of (map f (cond b (g x ∷ filter p (map g xs)) (filter p (map g xs))))
        ≡ sum_of (map (λ x. f (g x)) (cond b (x ∷ filter (λ x. p (g x)) xs) (filter (λ x. p (g x)) xs)))
    by true more = ap (λ z. f (g x) +ℤ z) more
    by false more = more

-- ---- the order of booking

pub sums_booked : (entries : List Entry) (passes : DatedLeg → Bool) (value : DatedLeg → ℤ)
    → sum_of (map value (filter passes (dated_legs entries))) ≡ sum_of (map value (filter passes (booked_legs entries)))
sums_booked [] passes value = refl
sums_booked (entry ∷ entries) passes value =
    let day = day_of entry.command in
    let own : List DatedLeg = map (dated day) entry.legs in
    sum_where-append passes value (dated_legs_of entry) (dated_legs entries)
    ∙ ap₂ (λ a b. a +ℤ b)
    (sum_mapped (dated day) passes value (by_posting entry.legs)
    ∙ sum_sorted (λ (leg : Leg). passes (dated day leg)) (λ (leg : Leg). value (dated day leg)) posting_cmp entry.legs
    ∙ sym (sum_mapped (dated day) passes value entry.legs))
    (sums_booked entries passes value)
    ∙ sym (sum_where-append passes value own (booked_legs entries))

-- ---- up to a day

-- legs of one day are all up to a day, or none is
one_day : (last day : ℤ) (legs : List Leg) → legs_by last (map (dated day) legs) ≡ cond (is_by last day) (map (dated day) legs) []
one_day last day [] = elim (is_by last day) as (λ b. ◌≡◌ {A = List DatedLeg} [] (cond b [] [])) [ true ↦ refl | false ↦ refl ]
one_day last day (leg ∷ legs) =
    ap (λ (l : List DatedLeg). cond (is_by last day) (dated day leg ∷ l) l) (one_day last day legs) ∙ by (is_by last day)
  where
    by : (b : Bool) → cond b (dated day leg ∷ cond b (map (dated day) legs) []) (cond b (map (dated day) legs) []) ≡ cond b (dated day leg ∷ map (dated day) legs) []
    by true = refl
    by false = refl

module _ (last : ℤ) (position : Position) where
  entry_sum : (day : ℤ) (legs : List Leg) → sum_at (map leg_in (legs_by last (map (dated day) (by_posting legs)))) position
      ≡ sum_at (cond (is_by last day) legs []) position
  entry_sum day legs = ap (λ (l : List DatedLeg). sum_at (map leg_in l) position) (one_day last day (by_posting legs)) ∙ by (is_by last day)
    where
      by : (b : Bool) → sum_at (map leg_in (cond b (map (dated day) (by_posting legs)) [])) position ≡ sum_at (cond b legs []) position
      by true =
          ap (λ (l : List Leg). sum_at l position) (map_back (dated day) leg_in (λ leg. refl) (by_posting legs))
          ∙ sum_sorted (λ (leg : Leg). same_position position leg.position) (λ (leg : Leg). leg.units) posting_cmp legs
      by false = refl

  sum_both : (a b : List Leg) → sum_at (a ++ b) position ≡ sum_at a position +ℤ sum_at b position
  sum_both a b = sum_where-append (λ (leg : Leg). same_position position leg.position) (λ (leg : Leg). leg.units) a b

  entries_sum : (entry : Entry) (entries : List Entry) → sum_at (cond (is_by last (day_of entry.command)) entry.legs []) position +ℤ sum_in entries position
      ≡ sum_in (cond (is_by last (day_of entry.command)) (entry ∷ entries) entries) position
  entries_sum entry entries = by (is_by last (day_of entry.command))
    where
      by : (b : Bool) → sum_at (cond b entry.legs []) position +ℤ sum_in entries position ≡ sum_in (cond b (entry ∷ entries) entries) position
      by true = sym (sum_both entry.legs (legs_of entries))
      by false = +ℤ_idl (sum_in entries position)

  pub sums_by : (entries : List Entry) → sum_at (map leg_in (legs_by last (dated_legs entries))) position ≡ sum_in (entries_by last entries) position
  sums_by [] = refl
  sums_by (entry ∷ entries) =
      let here = legs_by last (dated_legs_of entry) in
      let there = legs_by last (dated_legs entries) in
      ap (λ (l : List DatedLeg). sum_at (map leg_in l) position)
      (filter-append (λ (leg : DatedLeg). is_by last leg.day) (dated_legs_of entry) (dated_legs entries))
      ∙ ap (λ (l : List Leg). sum_at l position) (map-append leg_in here there)
      ∙ sum_both (map leg_in here) (map leg_in there)
      ∙ ap₂ (λ a b. a +ℤ b) (entry_sum (day_of entry.command) entry.legs) (sums_by entries)
      ∙ entries_sum entry (entries_by last entries)
