-- The parts of a cost as its canonical text has them: what they give of the lot.
use Rattle.std.proofs.Common.{◌≡◌, ℕ, ◌≤◌, List, [], ◌∷◌, ◌++◌, refl, sym, subst, arith, ℤ}
use Rattle.std.specs.Prelude.{option_map, Option, Some, None, IfSome, IsTrue}
use Rattle.std.specs.List.{list_any}
use Rattle.lot_base.specs.Day.{IsDayNumber, day_text}
use Rattle.lot_base.specs.Name.{IsName, is_commodity, is_label}
use Rattle.lot_cost.specs.declared.cost_spec.CostSpec.{CostSpec}
use Rattle.lot_syntax.specs.Form.{CostPart, money, amount, currency, day, label, AtMostOneEach, has_number, how_many, is_day, is_label as is_label_part, is_money}
use Rattle.lot_read.specs.Meaning.{MeansDay, MeansPerhaps, MeansRest, Names, Quotes, number_in, currency_in, day_in, label_in}
use Rattle.lot_command.specs.Sayable.{IsSpec}
use Rattle.lot_print.proofs.MeaningLemmas.{name_means, day_means, label_means}

-- ---- The parts.

abbrev pub written_money : Option (List ℕ) → Option (List ℕ) → List CostPart
written_money None None = []
written_money None (Some c) = currency c ∷ []
written_money (Some n) None = amount n ∷ []
written_money (Some n) (Some c) = money n c ∷ []

abbrev pub written_day : Option (List ℕ) → List CostPart
written_day None = []
written_day (Some d) = day d ∷ []

abbrev pub written_label : Option (List ℕ) → List CostPart
written_label None = []
written_label (Some l) = label l ∷ []

-- its number is a text
abbrev pub written_parts : Option (List ℕ) → CostSpec → List CostPart
written_parts number spec =
    written_money number spec.currency ++ (written_day (option_map day_text spec.day) ++ written_label spec.label)

-- ---- What they give.

record GivesStatement (number in_currency on_day of_label : Option (List ℕ)) (parts : List CostPart) : Type 0 where
  is_number : number_in parts ≡ number
  is_currency : currency_in parts ≡ in_currency
  is_day : day_in parts ≡ on_day
  is_label : label_in parts ≡ of_label

-- a day and a label, of which each may be absent
record IsTail (on_day of_label : Option (List ℕ)) (parts : List CostPart) : Type 0 where
  gives : GivesStatement None None on_day of_label parts
  moneys : how_many is_money parts ≡ 0
  days : how_many is_day parts ≤ 1
  labels : how_many is_label_part parts ≤ 1

tail : (d l : Option (List ℕ)) → IsTail d l (written_day d ++ written_label l)
tail None None = record {
  gives = record { is_number = refl; is_currency = refl; is_day = refl; is_label = refl };
  moneys = refl;
  days = omega arith;
  labels = omega arith;
}
tail None (Some l) = record {
  gives = record { is_number = refl; is_currency = refl; is_day = refl; is_label = refl };
  moneys = refl;
  days = omega arith;
  labels = omega arith;
}
tail (Some d) None = record {
  gives = record { is_number = refl; is_currency = refl; is_day = refl; is_label = refl };
  moneys = refl;
  days = omega arith;
  labels = omega arith;
}
tail (Some d) (Some l) = record {
  gives = record { is_number = refl; is_currency = refl; is_day = refl; is_label = refl };
  moneys = refl;
  days = omega arith;
  labels = omega arith;
}

given_by : (n c d l : Option (List ℕ)) (parts : List CostPart) → IsTail d l parts → GivesStatement n c d l (written_money n c ++ parts)
given_by None None d l parts t = t.gives
given_by None (Some c) d l parts t =
    record { is_number = t.gives.is_number; is_currency = refl; is_day = t.gives.is_day; is_label = t.gives.is_label }
given_by (Some n) None d l parts t =
    record { is_number = refl; is_currency = t.gives.is_currency; is_day = t.gives.is_day; is_label = t.gives.is_label }
given_by (Some n) (Some c) d l parts t =
    record { is_number = refl; is_currency = refl; is_day = t.gives.is_day; is_label = t.gives.is_label }

at_most_one : (n c d l : Option (List ℕ)) (parts : List CostPart) → IsTail d l parts → AtMostOneEach (written_money n c ++ parts)
at_most_one None None d l parts t = record { moneys = omega (arith, t.moneys); days = t.days; labels = t.labels }
at_most_one None (Some c) d l parts t = record { moneys = omega (arith, t.moneys); days = t.days; labels = t.labels }
at_most_one (Some n) None d l parts t = record { moneys = omega (arith, t.moneys); days = t.days; labels = t.labels }
at_most_one (Some n) (Some c) d l parts t = record { moneys = omega (arith, t.moneys); days = t.days; labels = t.labels }

spec_tail : (spec : CostSpec)
    → IsTail (option_map day_text spec.day) spec.label (written_day (option_map day_text spec.day) ++ written_label spec.label)
spec_tail spec = tail (option_map day_text spec.day) spec.label

-- ---- They are a form, and mean the specification.

pub parts_fit : (number : Option (List ℕ)) (spec : CostSpec) → AtMostOneEach (written_parts number spec)
parts_fit number spec = at_most_one number spec.currency _ _ _ (spec_tail spec)

pub parts_number : (number : List ℕ) (spec : CostSpec) → IsTrue (list_any has_number (written_parts (Some number) spec))
parts_number number spec = by spec.currency
  where
    by : (c : Option (List ℕ))
        → IsTrue (list_any has_number
        (written_money (Some number) c ++ (written_day (option_map day_text spec.day) ++ written_label spec.label)))
    by None = refl
    by (Some c) = refl

gives : (number : Option (List ℕ)) (spec : CostSpec)
    → GivesStatement number spec.currency (option_map day_text spec.day) spec.label (written_parts number spec)
gives number spec = given_by number spec.currency _ _ _ (spec_tail spec)

pub number_is : (number : Option (List ℕ)) (spec : CostSpec) → number_in (written_parts number spec) ≡ number
number_is number spec = (gives number spec).is_number

currency_means : (c : Option (List ℕ)) → IfSome c (IsName is_commodity) → MeansPerhaps (Names is_commodity) c c
currency_means None h = tt
currency_means (Some c) h = name_means is_commodity c h

days_mean : (d : Option ℤ) → IfSome d IsDayNumber → MeansPerhaps MeansDay (option_map day_text d) d
days_mean None h = tt
days_mean (Some d) h = day_means d h

labels_mean : (l : Option (List ℕ)) → IfSome l (IsName is_label) → MeansPerhaps (Quotes is_label) l l
labels_mean None h = tt
labels_mean (Some l) h = label_means l h

pub rest_means : (number : Option (List ℕ)) (spec : CostSpec) → IsSpec spec → MeansRest (written_parts number spec) spec
rest_means number spec h =
    let g = gives number spec in
    record {
      in_currency =
          subst (λ (c : Option (List ℕ)). MeansPerhaps (Names is_commodity) c spec.currency) (sym g.is_currency)
          (currency_means spec.currency h.in_currency);
      on_day =
          subst (λ (d : Option (List ℕ)). MeansPerhaps MeansDay d spec.day) (sym g.is_day) (days_mean spec.day h.on_day);
      of_label =
          subst (λ (l : Option (List ℕ)). MeansPerhaps (Quotes is_label) l spec.label) (sym g.is_label)
          (labels_mean spec.label h.of_label);
    }
