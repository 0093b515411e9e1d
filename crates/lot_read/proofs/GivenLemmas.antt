-- What the parts of a cost give, part by part.
use Rattle.std.proofs.Common.{◌≡◌, ℕ, List, [], ◌∷◌, ◌++◌, Option, Some, None, refl, sym, subst}
use Rattle.std.specs.Prelude.{flat_map}
use Rattle.std.proofs.lemmas.Grind.{flat_map-append}
use Rattle.std.specs.Option.{option_or}
use Rattle.lot_base.specs.Name.{is_commodity, is_label}
use Rattle.lot_syntax.specs.declared.form.Part.{Part}
use Rattle.lot_syntax.specs.Form.{CostPart, money, amount, currency, day, label}
use Rattle.lot_syntax.specs.Shape.{listed, part_seen}
use Rattle.lot_read.specs.declared.given.Given.{Given}
use Rattle.lot_read.specs.Checked.{MeansGiven, either}
use Rattle.lot_read.specs.Meaning.{Item, AreInside, FirstOutside, MeansPerhaps, MeansDay, Names, Quotes, number_in, currency_in, day_in, label_in}
use Rattle.lot_read.specs.declared.fault.ValueFault.{ValueFault}
use Rattle.lot_read.proofs.ItemLemmas.{both_inside, outside_before, outside_behind}

perhaps_either : {A B : Type 0} (Means : A → B → Type 0) (o p : Option A) (x y : Option B) → MeansPerhaps Means o x → MeansPerhaps Means p y
    → MeansPerhaps Means (option_or o p) (option_or x y)
perhaps_either Means None p None y h k = k
perhaps_either Means None p (Some b) y h k = absurd h
perhaps_either Means (Some a) p None y h k = absurd h
perhaps_either Means (Some a) p (Some b) y h k = h

-- what the parts of both lists give is what either of them gives
record GiveEither (a b both : List CostPart) : Type 0 where
  number : number_in both ≡ option_or (number_in a) (number_in b)
  currency : currency_in both ≡ option_or (currency_in a) (currency_in b)
  day : day_in both ≡ option_or (day_in a) (day_in b)
  label : label_in both ≡ option_or (label_in a) (label_in b)

gives_first : (part : CostPart) (parts : List CostPart) → GiveEither (part ∷ []) parts (part ∷ parts)
gives_first (money n c) parts = record { number = refl; currency = refl; day = refl; label = refl }
gives_first (amount n) parts = record { number = refl; currency = refl; day = refl; label = refl }
gives_first (currency c) parts = record { number = refl; currency = refl; day = refl; label = refl }
gives_first (day d) parts = record { number = refl; currency = refl; day = refl; label = refl }
gives_first (label l) parts = record { number = refl; currency = refl; day = refl; label = refl }

both_mean : {N : Type 0} (Means : List ℕ → N → Type 0) (a b both : List CostPart) → GiveEither a b both → (x y : Given N)
    → MeansGiven Means a x → MeansGiven Means b y → MeansGiven Means both (either x y)
both_mean Means a b both e x y h k = record {
  number = rw e.number (perhaps_either Means (number_in a) (number_in b) x.number y.number h.number k.number);
  currency =
      rw e.currency (perhaps_either (Names is_commodity) (currency_in a) (currency_in b) x.currency y.currency h.currency k.currency);
  day = rw e.day (perhaps_either MeansDay (day_in a) (day_in b) x.day y.day h.day k.day);
  label = rw e.label (perhaps_either (Quotes is_label) (label_in a) (label_in b) x.label y.label h.label k.label);
}

pub first_means : {N : Type 0} (Means : List ℕ → N → Type 0) (part : CostPart) (parts : List CostPart) (x y : Given N)
    → MeansGiven Means (part ∷ []) x → MeansGiven Means parts y → MeansGiven Means (part ∷ parts) (either x y)
first_means Means part parts x y h k = both_mean Means (part ∷ []) parts (part ∷ parts) (gives_first part parts) x y h k

pub either_means : {N : Type 0} (Means : List ℕ → N → Type 0) (part : Option Part) (parts : List CostPart) (x y : Given N)
    → MeansGiven Means (listed part) x → MeansGiven Means parts y → MeansGiven Means (listed part ++ parts) (either x y)
either_means Means None parts x y h k =
    both_mean Means [] parts parts (record { number = refl; currency = refl; day = refl; label = refl }) x y h k
either_means Means (Some part) parts x y h k = first_means Means (part_seen part) parts x y h k

-- ---- The parts of a cost as items.

pub both_inside_listed : (items : CostPart → List Item) (a b : List CostPart) → AreInside (flat_map items a) → AreInside (flat_map items b)
    → AreInside (flat_map items (a ++ b))
both_inside_listed items a b h k =
    subst AreInside (sym (flat_map-append items a b)) (both_inside (flat_map items a) (flat_map items b) h k)

pub outside_before_listed : (items : CostPart → List Item) (a b : List CostPart) (fault : ValueFault) → FirstOutside (flat_map items a) fault
    → FirstOutside (flat_map items (a ++ b)) fault
outside_before_listed items a b fault first =
    subst (λ (x : List Item). FirstOutside x fault) (sym (flat_map-append items a b)) (outside_before (flat_map items a) (flat_map items b) fault first)

pub outside_behind_listed : (items : CostPart → List Item) (a b : List CostPart) (fault : ValueFault) → AreInside (flat_map items a)
    → FirstOutside (flat_map items b) fault → FirstOutside (flat_map items (a ++ b)) fault
outside_behind_listed items a b fault h first =
    subst (λ (x : List Item). FirstOutside x fault) (sym (flat_map-append items a b)) (outside_behind (flat_map items a) (flat_map items b) fault h first)

-- ---- One part alone, or none.

listed_alone : (part : Option Part) → listed part ++ [] ≡ listed part
listed_alone None = refl
listed_alone (Some part) = refl

pub means_alone : {N : Type 0} (Means : List ℕ → N → Type 0) (part : Option Part) (given : Given N) → MeansGiven Means (listed part) given
    → MeansGiven Means (listed part ++ []) given
means_alone Means part given h = subst (λ (parts : List CostPart). MeansGiven Means parts given) (sym (listed_alone part)) h

pub inside_alone : (items : CostPart → List Item) (part : Option Part) → AreInside (flat_map items (listed part))
    → AreInside (flat_map items (listed part ++ []))
inside_alone items part h = subst (λ (parts : List CostPart). AreInside (flat_map items parts)) (sym (listed_alone part)) h

pub outside_alone : (items : CostPart → List Item) (part : Option Part) (fault : ValueFault) → FirstOutside (flat_map items (listed part)) fault
    → FirstOutside (flat_map items (listed part ++ [])) fault
outside_alone items part fault first =
    subst (λ (parts : List CostPart). FirstOutside (flat_map items parts) fault) (sym (listed_alone part)) first
