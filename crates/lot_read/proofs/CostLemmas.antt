-- What the parts of a cost give: there is something exactly where all of them are within their rules.
use Rattle.std.proofs.Common.{◌≡◌, ℕ, true, false, List, [], ◌∷◌, Option, Some, None, refl, sym, ◌∙◌, arith}
use Rattle.std.specs.Prelude.{ℤ, flat_map}
use Rattle.std.specs.List.{list_any}
use Rattle.std.proofs.lemmas.Bool.{false≢true}
use Rattle.lot_base.specs.Name.{is_commodity, is_label as is_label_name}
use Rattle.lot_cost.specs.declared.cost.Cost.{Cost}
use Rattle.lot_cost.specs.declared.cost.Cost.TheVariants as Costs
use Rattle.lot_syntax.specs.Form.{CostPart, money, amount, currency, day, label, is_money, is_day, is_label, has_number, how_many, AtMostOneEach, WrittenCost, each, whole, FitsCost}
use Rattle.lot_read.specs.declared.given.Given.{Given}
use Rattle.lot_read.specs.Checked.{MeansGiven, either, spec_of}
use Rattle.lot_read.specs.Meaning.{Item, IsInside, AreInside, MeansPerhaps, MeansRate, MeansTotal, MeansDay, Names, Quotes, MeansCost, number_in, currency_in, day_in, label_in, part_items, rate_item, total_item, cost_items}
use Rattle.lot_read.proofs.ItemLemmas.{inside_parts}
use Rattle.lot_read.proofs.GivenLemmas.{first_means}

-- ---- Parts within their rules give something.

-- what is within the rule of a number means one
abbrev MeanWhereInside : {N : Type 0} → (List ℕ → N → Type 0) → (List ℕ → Item) → Type 0
MeanWhereInside {N} Means item = (part : List ℕ) → IsInside (item part) → (number : N) × Means part number

abbrev Gives : {N : Type 0} → (List ℕ → N → Type 0) → List CostPart → Type 0
Gives {N} Means parts = (given : Given N) × MeansGiven Means parts given

part_gives : {N : Type 0} (Means : List ℕ → N → Type 0) (item : List ℕ → Item) → MeanWhereInside Means item → (part : CostPart)
    → AreInside (part_items item part) → Gives Means (part ∷ [])
part_gives Means item meant (money n c) h =
    let number = meant n h.0 in (
      record { number = Some number.0; currency = Some h.1.0.0; day = None; label = None },
      record { number = number.1; currency = h.1.0.1; day = tt; label = tt },
    )
part_gives Means item meant (amount n) h =
    let number = meant n h.0 in (
      record { number = Some number.0; currency = None; day = None; label = None },
      record { number = number.1; currency = tt; day = tt; label = tt },
    )
part_gives Means item meant (currency c) h = (
  record { number = None; currency = Some h.0.0; day = None; label = None },
  record { number = tt; currency = h.0.1; day = tt; label = tt },
)
part_gives Means item meant (day d) h = (
  record { number = None; currency = None; day = Some h.0.0; label = None },
  record { number = tt; currency = tt; day = h.0.1; label = tt },
)
part_gives Means item meant (label l) h = (
  record { number = None; currency = None; day = None; label = Some h.0.0 },
  record { number = tt; currency = tt; day = tt; label = h.0.1 },
)

parts_give : {N : Type 0} (Means : List ℕ → N → Type 0) (item : List ℕ → Item) → MeanWhereInside Means item → (parts : List CostPart)
    → AreInside (flat_map (part_items item) parts) → Gives Means parts
parts_give Means item meant [] h = (
  record { number = None; currency = None; day = None; label = None },
  record { number = tt; currency = tt; day = tt; label = tt },
)
parts_give Means item meant (part ∷ parts) h =
    let both = inside_parts (part_items item part) (flat_map (part_items item) parts) h in
    let first = part_gives Means item meant part both.0 in
    let others = parts_give Means item meant parts both.1 in
    (either first.0 others.0, first_means Means part parts first.0 others.0 first.1 others.1)

-- ---- Parts that give something are within their rules, where no two are of one kind.

no_money : (parts : List CostPart) → how_many is_money parts ≡ 0 → (number_in parts ≡ None) × (currency_in parts ≡ None)
no_money [] e = (refl, refl)
no_money (money n c ∷ parts) e = absurd (omega (arith, e))
no_money (amount n ∷ parts) e = absurd (omega (arith, e))
no_money (currency c ∷ parts) e = absurd (omega (arith, e))
no_money (day d ∷ parts) e = no_money parts e
no_money (label l ∷ parts) e = no_money parts e

no_day : (parts : List CostPart) → how_many is_day parts ≡ 0 → day_in parts ≡ None
no_day [] e = refl
no_day (money n c ∷ parts) e = no_day parts e
no_day (amount n ∷ parts) e = no_day parts e
no_day (currency c ∷ parts) e = no_day parts e
no_day (day d ∷ parts) e = absurd (omega (arith, e))
no_day (label l ∷ parts) e = no_day parts e

no_label : (parts : List CostPart) → how_many is_label parts ≡ 0 → label_in parts ≡ None
no_label [] e = refl
no_label (money n c ∷ parts) e = no_label parts e
no_label (amount n ∷ parts) e = no_label parts e
no_label (currency c ∷ parts) e = no_label parts e
no_label (day d ∷ parts) e = no_label parts e
no_label (label l ∷ parts) e = absurd (omega (arith, e))

some_meant : {A B : Type 0} (Means : A → B → Type 0) (a : A) (o : Option B) → MeansPerhaps Means (Some a) o → (b : B) × Means a b
some_meant Means a None h = absurd h
some_meant Means a (Some b) h = (b, h)

-- the parts behind the first
fewer : (part : CostPart) (parts : List CostPart) → AtMostOneEach (part ∷ parts) → AtMostOneEach parts
fewer (money n c) parts h = record { moneys = omega (arith, h.moneys); days = h.days; labels = h.labels }
fewer (amount n) parts h = record { moneys = omega (arith, h.moneys); days = h.days; labels = h.labels }
fewer (currency c) parts h = record { moneys = omega (arith, h.moneys); days = h.days; labels = h.labels }
fewer (day d) parts h = record { moneys = h.moneys; days = omega (arith, h.days); labels = h.labels }
fewer (label l) parts h = record { moneys = h.moneys; days = h.days; labels = omega (arith, h.labels) }

given_inside : {N : Type 0} (Means : List ℕ → N → Type 0) (item : List ℕ → Item) → ((part : List ℕ) (number : N) → Means part number → IsInside (item part))
    → (parts : List CostPart) → AtMostOneEach parts → (given : Given N) → MeansGiven Means parts given → AreInside (flat_map (part_items item) parts)
given_inside Means item inside [] once given h = tt
given_inside Means item inside (money n c ∷ parts) once given h =
    let none = no_money parts (omega (arith, once.moneys)) in
    let number = some_meant Means n given.number h.number in (
      inside n number.0 number.1,
      (
        some_meant (Names is_commodity) c given.currency h.currency,
        given_inside Means item inside parts (fewer (money n c) parts once)
            (record { number = None; currency = None; day = given.day; label = given.label })
            (record { number = rw none.0 tt; currency = rw none.1 tt; day = h.day; label = h.label }),
      ),
    )
given_inside Means item inside (amount n ∷ parts) once given h =
    let none = no_money parts (omega (arith, once.moneys)) in
    let number = some_meant Means n given.number h.number in (
      inside n number.0 number.1,
      given_inside Means item inside parts (fewer (amount n) parts once)
          (record { number = None; currency = None; day = given.day; label = given.label })
          (record { number = rw none.0 tt; currency = rw none.1 tt; day = h.day; label = h.label }),
    )
given_inside Means item inside (currency c ∷ parts) once given h =
    let none = no_money parts (omega (arith, once.moneys)) in (
      some_meant (Names is_commodity) c given.currency h.currency,
      given_inside Means item inside parts (fewer (currency c) parts once)
          (record { number = None; currency = None; day = given.day; label = given.label })
          (record { number = rw none.0 tt; currency = rw none.1 tt; day = h.day; label = h.label }),
    )
given_inside Means item inside (day d ∷ parts) once given h = (
  some_meant MeansDay d given.day h.day,
  given_inside Means item inside parts (fewer (day d) parts once)
      (record { number = given.number; currency = given.currency; day = None; label = given.label })
      (record { number = h.number; currency = h.currency; day = rw (no_day parts (omega (arith, once.days))) tt; label = h.label }),
)
given_inside Means item inside (label l ∷ parts) once given h = (
  some_meant (Quotes is_label_name) l given.label h.label,
  given_inside Means item inside parts (fewer (label l) parts once)
      (record { number = given.number; currency = given.currency; day = given.day; label = None })
      (record { number = h.number; currency = h.currency; day = h.day; label = rw (no_label parts (omega (arith, once.labels))) tt }),
)

-- ---- Costs.

no_number : (parts : List CostPart) → MeansPerhaps MeansTotal (number_in parts) None → list_any has_number parts ≡ false
no_number [] h = refl
no_number (money n c ∷ parts) h = absurd h
no_number (amount n ∷ parts) h = absurd h
no_number (currency c ∷ parts) h = no_number parts h
no_number (day d ∷ parts) h = no_number parts h
no_number (label l ∷ parts) h = no_number parts h

whole_means : (parts : List CostPart) (given : Given ℤ) (number : Option ℤ) → list_any has_number parts ≡ true
    → MeansPerhaps MeansTotal (number_in parts) number → MeansGiven MeansTotal parts given → (cost : Cost) × MeansCost (whole parts) cost
whole_means parts given None has h means = absurd (false≢true (sym (no_number parts h) ∙ has))
whole_means parts given (Some total) has h means = (
  Costs.Whole (total, spec_of None given),
  (h, refl, record { in_currency = means.currency; on_day = means.day; of_label = means.label }),
)

pub some_cost : (cost : WrittenCost) → FitsCost cost → AreInside (cost_items cost) → (meant : Cost) × MeansCost cost meant
some_cost (each parts) fits inside =
    let given = parts_give MeansRate rate_item (λ part h. h) parts inside in (
      Costs.Each (spec_of given.0.number given.0),
      (given.1.number, record { in_currency = given.1.currency; on_day = given.1.day; of_label = given.1.label }),
    )
some_cost (whole parts) fits inside =
    let given = parts_give MeansTotal total_item (λ part h. h) parts inside in
    whole_means parts given.0 given.0.number fits.1 given.1.number given.1

pub cost_inside : (cost : WrittenCost) (meant : Cost) → FitsCost cost → MeansCost cost meant → AreInside (cost_items cost)
cost_inside (each parts) (Costs.Each spec) fits h =
    given_inside MeansRate rate_item (λ part number means. (number, means)) parts fits
    (record { number = spec.number; currency = spec.currency; day = spec.day; label = spec.label })
    (record { number = h.0; currency = h.1.in_currency; day = h.1.on_day; label = h.1.of_label })
cost_inside (each parts) (Costs.Whole cost) fits h = absurd h
cost_inside (whole parts) (Costs.Each spec) fits h = absurd h
cost_inside (whole parts) (Costs.Whole cost) fits h =
    given_inside MeansTotal total_item (λ part number means. (number, means)) parts fits.0
    (record { number = Some cost.0; currency = cost.1.currency; day = cost.1.day; label = cost.1.label })
    (record { number = h.0; currency = h.2.in_currency; day = h.2.on_day; label = h.2.of_label })
