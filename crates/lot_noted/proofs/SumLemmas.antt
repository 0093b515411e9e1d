-- What the legs of a register leave is what the book has booked.
use Rattle.std.specs.Prelude.{◌≡◌, ℕ, ℤ, ◌&&◌, Bool, true, IsTrue, List, [], ◌∷◌, filter, flat_map, map, None, Option}
use Rattle.std.specs.Ordering.{is_eq}
use Rattle.std.proofs.Common.{refl, sym, ap, subst, ◌∙◌}
use Rattle.sqlite_keyed.proofs.ListLemmas.{filter-filter, filter-map, flat_map_same_on, map-flat_map, map-map, map_back}
use Rattle.lot_book.specs.Change.{pair_cmp}
use Rattle.lot_book.specs.Facts.{Entry, legs_of}
use Rattle.lot_book.specs.declared.change.Pair.{Pair}
use Rattle.lot_book.specs.declared.leg.Leg.{Leg}
use Rattle.lot_book.proofs.SumLemmas.{sum_where}
use Rattle.lot_num.specs.Sum.{sum_of}
use Rattle.lot_legs.specs.Legs.{booked_legs, dated, dated_legs, day_of, leg_in}
use Rattle.lot_legs.specs.declared.leg.DatedLeg.{DatedLeg}
use Rattle.lot_legs.proofs.SumLemmas.{sum_sorted}
use Rattle.lot_register.specs.Left.{is_of_pair, left_in}
use Rattle.lot_register.specs.declared.leg.NotedLeg.{NotedLeg}
use Rattle.lot_register.proofs.LeftLemmas.{one_pair}
use Rattle.lot_walk.specs.Gains.{is_up_to}
use Rattle.lot_noted.specs.Book.{Asked, bare, day_cmp, has, is_asked, is_commodity, is_of, noted_legs, pair_of, register_legs, units_booked}
use Rattle.lot_noted.proofs.BareLemmas.{bare_legs}

-- a sum over what is made of elements
sum_mapped : {X Y : Type 0} (g : X → Y) (p : Y → Bool) (f : Y → ℤ) (xs : List X)
    → sum_where p f (map g xs) ≡ sum_where (λ (x : X). p (g x)) (λ (x : X). f (g x)) xs
sum_mapped g p f xs = ap (λ ys. sum_of (map f ys)) (filter-map p g xs) ∙ ap sum_of (map-map f g (filter (λ x. p (g x)) xs))

all_three : (a b c : Bool) → a ≡ true → b ≡ true → c ≡ true → (a && (b && c)) ≡ true
all_three a b c one two three = ap (λ x. x && (b && c)) one ∙ ap (λ x. x && c) two ∙ three

booked_back : (entries : List Entry) → map leg_in (booked_legs entries) ≡ legs_of entries
booked_back entries =
    map-flat_map leg_in (λ (entry : Entry). map (dated (day_of entry.command)) entry.legs) entries
    ∙ flat_map_same_on (λ (entry : Entry). map leg_in (map (dated (day_of entry.command)) entry.legs)) (λ (entry : Entry). entry.legs)
    (λ entry. map_back (dated (day_of entry.command)) leg_in (λ leg. refl) entry.legs) entries

module _ (asked : Asked) (entries : List Entry) (pair : Pair) (account : is_of asked.account pair.account ≡ true)
    (commodity : is_commodity asked.commodity pair.commodity ≡ true) (last : asked.last ≡ None) where
  abbrev here : NotedLeg → Bool
  here leg = is_of_pair pair leg

  abbrev units_in : NotedLeg → ℤ
  units_in leg = leg.units

  abbrev dated_here : DatedLeg → Bool
  dated_here leg = is_eq (pair_cmp pair (pair_of (leg_in leg)))

  abbrev dated_units : DatedLeg → ℤ
  dated_units leg = leg.units

  abbrev booked_here : Leg → Bool
  booked_here leg = is_eq (pair_cmp pair (pair_of leg))

  abbrev booked_units : Leg → ℤ
  booked_units leg = leg.units

  is_one : (leg : NotedLeg) → here leg ≡ true → is_asked asked leg ≡ true
  is_one leg e =
      let same = one_pair pair (record { account = leg.account; commodity = leg.commodity }) e in
      all_three (is_of asked.account leg.account) (is_commodity asked.commodity leg.commodity) (is_up_to asked.last leg.day)
      (ap (λ (p : Pair). is_of asked.account p.account) (sym same) ∙ account)
      (ap (λ (p : Pair). is_commodity asked.commodity p.commodity) (sym same) ∙ commodity)
      (ap (λ day. is_up_to day leg.day) last)

  pub left_booked : ((passes : DatedLeg → Bool) (value : DatedLeg → ℤ)
      → sum_of (map value (filter passes (dated_legs entries))) ≡ sum_of (map value (filter passes (booked_legs entries))))
      → left_in (register_legs asked entries) pair ≡ units_booked entries pair
  left_booked same =
      sum_sorted here units_in day_cmp (filter (is_asked asked) (noted_legs entries))
      ∙ ap (λ ls. sum_of (map units_in ls)) (filter-filter here (is_asked asked) is_one (noted_legs entries))
      ∙ sym (sum_mapped bare dated_here dated_units (noted_legs entries))
      ∙ ap (sum_where dated_here dated_units) (bare_legs entries)
      ∙ same dated_here dated_units
      ∙ sym (sum_mapped leg_in booked_here booked_units (booked_legs entries))
      ∙ ap (sum_where booked_here booked_units) (booked_back entries)
