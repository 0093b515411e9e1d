-- Which kinds of a table hold of a row.
use Rattle.std.proofs.Common.{◌≡◌, ◌⊎◌, inl, inr, ℕ, zero, suc, ◌+◌, ◌<◌, ◌≤◌, List, [], ◌∷◌, length, get_or, Some, refl, sym, ap, ◌∙◌, subst, arith}
use Rattle.std.specs.List.{slice_get}
use Rattle.std.proofs.lemmas.Bool.{cases_lt}
use Rattle.std.proofs.lemmas.Option.{get_or_from_slice_get, slice_get-get_or}
use Rattle.lot_profile.specs.declared.file.FileForm.{FileForm}
use Rattle.lot_profile.specs.declared.kind.KindRule.{KindRule}
use Rattle.lot_sheet.specs.Sheet.{SheetRow}
use Rattle.lot_roles.specs.Kinds.{AreFirstTwo, HoldsAt, IsOfKind, IsOnly}

by_lt : {P : Type 0} (a b : ℕ) → (a < b → P) → (b ≤ a → P) → P
by_lt {P} a b f g = either (cases_lt a b)
  where
    either : (a < b) ⊎ (b ≤ a) → P
    either (inl less) = f less
    either (inr at_least) = g at_least

pub holds_here : (form : FileForm) (row : SheetRow) (kinds : List KindRule) (place : ℕ) (other : KindRule) → place < length kinds
    → IsOfKind form row (get_or kinds place other) → HoldsAt form row kinds place
holds_here form row kinds place other here holds =
    record { kind = get_or kinds place other; there = slice_get-get_or kinds place other here; holds = holds }

pub holds_not : (form : FileForm) (row : SheetRow) (kinds : List KindRule) (place : ℕ) (other : KindRule)
    → (IsOfKind form row (get_or kinds place other) → ⊥) → HoldsAt form row kinds place → ⊥
holds_not form row kinds place other not_so h =
    not_so (subst (IsOfKind form row) (sym (get_or_from_slice_get kinds place h.kind other h.there)) h.holds)

inside : (kinds : List KindRule) (place : ℕ) (kind : KindRule) → slice_get kinds place ≡ Some kind → place < length kinds
inside [] place kind e = absurd (cc e)
inside (k ∷ kinds) zero kind e = omega arith
inside (k ∷ kinds) (suc place) kind e = omega (arith, inside kinds place kind e)

-- no kind is behind the last
pub holds_inside : (form : FileForm) (row : SheetRow) (kinds : List KindRule) (place : ℕ) → HoldsAt form row kinds place → place < length kinds
holds_inside form row kinds place h = inside kinds place h.kind h.there

-- none before a place, that one, and none behind it
pub only_one : (form : FileForm) (row : SheetRow) (kinds : List KindRule) (first : ℕ) (kind : KindRule) → kind ≡ get_or kinds first kind
    → HoldsAt form row kinds first
    → ((other : ℕ) → 0 ≤ other → other < first → HoldsAt form row kinds other → ⊥)
    → ((other : ℕ) → first + 1 ≤ other → HoldsAt form row kinds other → ⊥) → IsOnly form row kinds kind
only_one form row kinds first kind is h before behind =
    let same : kind ≡ h.kind = is ∙ get_or_from_slice_get kinds first h.kind kind h.there in
    record {
      place = first;
      there = h.there ∙ ap (λ (k : KindRule). Some k) (sym same);
      holds = subst (IsOfKind form row) (sym same) h.holds;
      only = λ other holds. by_lt other first (λ less. absurd (before other (omega arith) less holds))
          (λ at_least. by_lt first other (λ more. absurd (behind other (omega (arith, more)) holds)) (λ at_most. omega (arith, at_least, at_most)));
    }

-- none before the first, none between the two
pub first_two : (form : FileForm) (row : SheetRow) (kinds : List KindRule) (one two : ℕ)
    → HoldsAt form row kinds one → HoldsAt form row kinds two → one + 1 ≤ two
    → ((other : ℕ) → 0 ≤ other → other < one → HoldsAt form row kinds other → ⊥)
    → ((other : ℕ) → one + 1 ≤ other → other < two → HoldsAt form row kinds other → ⊥) → AreFirstTwo form row kinds (one + 1) (two + 1)
first_two form row kinds one two h k order before between = record {
  one = one;
  two = two;
  first_is = refl;
  second_is = refl;
  order = omega (arith, order);
  one_holds = h;
  two_holds = k;
  none_before = λ other less holds. by_lt other one (λ fewer. absurd (before other (omega arith) fewer holds))
      (λ at_least. by_lt one other (λ more. absurd (between other (omega (arith, more)) less holds)) (λ at_most. omega (arith, at_least, at_most)));
}
