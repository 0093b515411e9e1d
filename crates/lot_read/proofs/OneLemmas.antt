-- What a part means is one.
use Rattle.std.proofs.Common.{◌≡◌, ℕ, List, Bool, Some, None, refl, sym, ap, ◌∙◌}
use Rattle.lot_base.specs.Name.{is_label, is_note}
use Rattle.lot_read.specs.Meaning.{MeansPerhaps, MeansUnits, MeansRate, MeansTotal, MeansDay, Names, Quotes}
use Rattle.lot_read.proofs.EscapeLemmas.{one_text}
use Rattle.lot_read.specs.NameLaws.{label_is_plain}

-- what is meant by a part is one
abbrev pub MeansOne : {A B : Type 0} → (A → B → Type 0) → Type 0
MeansOne {A} {B} Means = (a : A) (x y : B) → Means a x → Means a y → x ≡ y

pub one_perhaps : {A B : Type 0} (Means : A → B → Type 0) → MeansOne Means → MeansOne (MeansPerhaps Means)
one_perhaps Means one None None None h k = refl
one_perhaps Means one None None (Some y) h k = absurd k
one_perhaps Means one None (Some x) y h k = absurd h
one_perhaps Means one (Some a) None y h k = absurd h
one_perhaps Means one (Some a) (Some x) None h k = absurd k
one_perhaps Means one (Some a) (Some x) (Some y) h k = ap Some (one a x y h k)

pub one_units : MeansOne MeansUnits
one_units bytes x y h k = cc

pub one_rate : MeansOne MeansRate
one_rate bytes x y h k = cc

pub one_total : MeansOne MeansTotal
one_total bytes x y h k = cc

pub one_day : MeansOne MeansDay
one_day bytes x y h k = cc

pub one_name : (is_name : List ℕ → Bool) → MeansOne (Names is_name)
one_name is_name bytes x y h k = sym h.spelled ∙ k.spelled

pub one_label : MeansOne (Quotes is_label)
one_label bytes x y h k =
    sym (label_is_plain x h.good) ∙ sym h.spelled ∙ k.spelled ∙ label_is_plain y k.good

pub one_note : MeansOne (Quotes is_note)
one_note bytes x y h k = one_text x y (sym h.spelled ∙ k.spelled)
