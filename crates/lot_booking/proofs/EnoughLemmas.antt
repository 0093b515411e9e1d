-- What a posting comes to, by how many lots there are for it and what they hold.
use Rattle.std.specs.Prelude.{◌≡◌, ◌≢◌, ℕ, ◌≤◌, ◌<◌, Bool, true, false, nat_le, ◌&&◌, ◌||◌, List, [], ◌∷◌, length, Option, None, Some, is_none, ℤ, unsigned_abs}
use Rattle.std.proofs.Common.{inl, inr, refl, sym, ap, subst, arith}
use Rattle.std.proofs.lemmas.Bool.{and_parts, true≢false}
use Rattle.std.proofs.lemmas.Bool.Decides.{nat_tests}
use Rattle.lot_cost.specs.declared.cost_spec.CostSpec.{CostSpec}
use Rattle.lot_cost.specs.declared.lot_key.LotKey.{LotKey}
use Rattle.lot_cost.specs.declared.method.Method.{Method}
use Rattle.lot_cost.specs.declared.method.Method.TheVariants.{Strict, Fifo, Lifo, Hifo, Unmatched}
use Rattle.lot_inv.specs.Foremost.{Counts, CountsSeveral}
use Rattle.lot_inv.specs.Inventory.{fitting, held_in, with_number}
use Rattle.lot_inv.proofs.LawLemmas.{sorted_matching}
use Rattle.lot_booking.specs.declared.fault.BookingFault.{BookingFault}
use Rattle.lot_booking.specs.declared.fault.BookingFault.TheVariants.{ZeroUnits, InexactCost, IncompleteCost, NoMatch, Ambiguous, NotEnough, Memory}
use Rattle.lot_booking.specs.Booking.{Augments, Braced, ComesToLegs, Reduces, Stops, candidates, given_of, number_of, opened_key, spec_of}
use Rattle.lot_booking.specs.Choice.{HasNoChoice}
use Rattle.lot_booking.specs.Method.{Ties, is_strict, may_reduce, rule_by}
use Rattle.lot_booking.specs.Way.{FallShort, StopsOpening, Suffice}
use Rattle.lot_booking.proofs.BookLemmas.{none_of_several}
use Rattle.lot_booking.proofs.BookingLaws.{candidates_distinct}
use Rattle.lot_booking.proofs.ChoiceLemmas.{no_choice-from_less}
use Rattle.lot_booking.proofs.SomeOutcome.{suffice-takes}

-- ---- taking lots away

none_at_all : (lots : List (LotKey × ℤ)) → length lots ≡ 0 → lots ≡ []
none_at_all [] e = refl
none_at_all (lot ∷ lots) e = absurd (omega (arith, e))

none_strictly : (ties : Ties) (method : Method) → is_strict method ≡ true → (lots : List (LotKey × ℤ)) (amount : ℕ)
    → 2 ≤ length lots → held_in lots ≢ amount → HasNoChoice (rule_by ties method) lots amount
none_strictly ties Strict strict lots amount several differ = none_of_several lots amount several differ
none_strictly ties Fifo strict lots amount several differ = absurd (true≢false (sym strict))
none_strictly ties Lifo strict lots amount several differ = absurd (true≢false (sym strict))
none_strictly ties Hifo strict lots amount several differ = absurd (true≢false (sym strict))
none_strictly ties Unmatched strict lots amount several differ = absurd (true≢false (sym strict))

are_several : (n : ℕ) → 2 ≤ n → nat_le 2 n ≡ true
are_several n several = grind (arith, nat_tests)

are_few : (strict : Bool) (n : ℕ) → (strict ≡ true → n < 2) → (strict && nat_le 2 n) ≡ false
are_few true n few = let less = few refl in grind (arith, nat_tests)
are_few false n few = refl

module _ (method : Method) (amount count held : ℕ) (lots : List (LotKey × ℤ)) (counted : Counts amount count held lots) where
  -- what suffices of the lots that are counted suffices of all
  pub suffice_all : Suffice method count held amount → Suffice method (length lots) (held_in lots) amount
  suffice_all suffice = elim counted [
    | inl all ↦
        subst (λ n. Suffice method n (held_in lots) amount) all.lots_counted
        (subst (λ n. Suffice method count n amount) all.held_counted suffice)
    | inr some ↦ record {
      enough = omega (arith, some.more, some.within);
      exact = λ strict several. let same = suffice.exact strict some.several in absurd (omega (arith, same, some.more));
    }
  ]

  -- and what falls short of them of all
  short_all : (fault : BookingFault) → FallShort method count held amount fault → FallShort method (length lots) (held_in lots) amount fault
  short_all fault short = elim counted [
    | inl all ↦
        subst (λ n. FallShort method n (held_in lots) amount fault) all.lots_counted
        (subst (λ n. FallShort method count n amount fault) all.held_counted short)
    | inr some ↦ of_several some fault short
  ]
    where
      of_several : CountsSeveral amount count held lots → (fault : BookingFault) → FallShort method count held amount fault
          → FallShort method (length lots) (held_in lots) amount fault
      of_several some NoMatch short = absurd (omega (arith, short, some.several))
      of_several some Ambiguous short = (
        short.0,
        omega (arith, some.several, some.among),
        (λ same. omega (arith, same, some.more, some.within)),
      )
      of_several some NotEnough short = let less = short.2 in absurd (omega (arith, less, some.more))
      of_several some ZeroUnits short = absurd short
      of_several some InexactCost short = absurd short
      of_several some IncompleteCost short = absurd short
      of_several some Memory short = absurd short

-- the lots for a posting, by what its cost gives
pub lots_for : (posting : Braced) (number : Option ℕ) (given : CostSpec) → number ≡ number_of posting.units posting.cost → given ≡ given_of posting.cost
    → fitting posting.held posting.commodity posting.units (with_number number given) ≡ candidates posting
lots_for posting number given n g = λ i. fitting posting.held posting.commodity posting.units (with_number (n i) (g i))

module _ (posting : Braced) (count held : ℕ) (reduces : Reduces posting)
    (counted : Counts (unsigned_abs posting.units) count held (candidates posting)) where
  abbrev lots : List (LotKey × ℤ)
  lots = candidates posting

  abbrev amount : ℕ
  amount = unsigned_abs posting.units

  few_are_refused : (fault : BookingFault) → FallShort posting.method (length lots) (held_in lots) amount fault → Stops posting fault
  few_are_refused NoMatch h = (reduces, none_at_all lots h)
  few_are_refused Ambiguous h =
      (reduces, (λ i. h.0 i && are_several (length lots) h.1 i), none_strictly posting.ties posting.method h.0 lots amount h.1 h.2)
  few_are_refused NotEnough h = (
    reduces,
    (λ none. h.0 (ap length none)),
    are_few (is_strict posting.method) (length lots) h.1,
    no_choice-from_less (rule_by posting.ties posting.method) lots amount h.2,
  )
  few_are_refused ZeroUnits h = absurd h
  few_are_refused InexactCost h = absurd h
  few_are_refused IncompleteCost h = absurd h
  few_are_refused Memory h = absurd h

  -- where the lots don't suffice the posting is refused
  pub refused_where_short : (fault : BookingFault) → FallShort posting.method count held amount fault → Stops posting fault
  refused_where_short fault short =
      few_are_refused fault (short_all posting.method amount count held lots counted fault short)

  -- where they do it has legs
  pub legs_where_enough : Suffice posting.method count held amount → ComesToLegs posting
  legs_where_enough suffice =
      let taken = suffice-takes posting.ties posting.method (and_parts (may_reduce posting.method) _ reduces.2).0 lots posting.units
      (candidates_distinct sorted_matching posting) (suffice_all posting.method amount count held lots counted suffice) in
      (true, taken.0, (reduces, taken.1))

-- ---- opening a lot

opens_with : (posting : Braced) → Augments posting → (number : Option ℕ) (currency : Option (List ℕ))
    → (spec_of posting.units posting.cost).number ≡ number → (spec_of posting.units posting.cost).currency ≡ currency
    → (is_none number || is_none currency) ≡ false → ComesToLegs posting
opens_with posting h None currency e f complete = absurd (true≢false complete)
opens_with posting h (Some number) None e f complete = absurd (true≢false complete)
opens_with posting h (Some number) (Some currency) e f complete =
    let spec = spec_of posting.units posting.cost in (
      false,
      (opened_key spec posting.day number currency, posting.units) ∷ [],
      (h, record { number = number; currency = currency; given_number = e; given_currency = f; leg = refl }),
    )

pub stops_opening : (posting : Braced) → Augments posting → (fault : BookingFault) → StopsOpening (spec_of posting.units posting.cost) fault → Stops posting fault
stops_opening posting h IncompleteCost incomplete = (h, incomplete)
stops_opening posting h Memory complete =
    let spec = spec_of posting.units posting.cost in
    opens_with posting h spec.number spec.currency refl refl complete
stops_opening posting h ZeroUnits stops = absurd stops
stops_opening posting h InexactCost stops = absurd stops
stops_opening posting h NoMatch stops = absurd stops
stops_opening posting h Ambiguous stops = absurd stops
stops_opening posting h NotEnough stops = absurd stops
