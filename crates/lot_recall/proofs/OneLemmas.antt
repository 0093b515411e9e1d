-- No two legs of a book are at one place: those at the same keys are the same.
use Rattle.std.specs.Prelude.{◌≡◌, ◌≢◌, List, [], ◌∷◌, map}
use Rattle.std.specs.List.{AllByRecursion}
use Rattle.std.specs.Ordering.{is_lt}
use Rattle.std.specs.declared.cmp.Ordering.TheVariants.{Equal, Less}
use Rattle.std.proofs.Common.{inl, inr, refl, sym, ap, ap₂, subst, ◌∙◌}
use Rattle.std.proofs.lemmas.Bool.{true≢false}
use Rattle.sqlite.specs.Tree.{IsAscending}
use Rattle.sqlite_keyed.proofs.ListLemmas.{ascending_from_map}
use Rattle.sqlite_rules.specs.Lists.{Has as HasRow}
use Rattle.lot_book.specs.Book.{IsBook}
use Rattle.lot_book.specs.Facts.{Entry}
use Rattle.lot_legs.proofs.OrderLemmas.{legs_up}
use Rattle.lot_noted.specs.Book.{bare, noted_legs}
use Rattle.lot_noted.specs.Keys.{key_of}
use Rattle.lot_noted.specs.declared.key.LegKey.{LegKey}
use Rattle.lot_noted.proofs.BareLemmas.{IsBefore, bare_legs}
use Rattle.lot_noted.proofs.DayLemmas.{IsPlacedBelow, place_cmp}
use Rattle.lot_register.specs.declared.leg.NotedLeg.{NotedLeg}
use Rattle.lot_recall.proofs.RecallLemmas.{once, tied_place}

-- each of a list is in it
pub all_within : {X : Type 0} (xs : List X) (P : X → Type 0) → ((x : X) → HasRow xs x → P x) → AllByRecursion P xs
all_within [] P each = tt
all_within (x ∷ xs) P each = (each x (inl refl), all_within xs P (λ y has. each y (inr has)))

module _ (entries : List Entry) (book : IsBook entries) where
  placed : IsAscending IsPlacedBelow (noted_legs entries)
  placed = ascending_from_map IsBefore bare (noted_legs entries) (subst (IsAscending IsBefore) (sym (bare_legs entries)) (legs_up entries book))

  one_at : (a b : NotedLeg) → HasRow (noted_legs entries) a → HasRow (noted_legs entries) b → key_of a ≡ key_of b → a ≡ b
  one_at a b has other same =
      let entry : a.entry ≡ b.entry = ap (λ (k : LegKey). k.entry) same in
      let posting : a.posting ≡ b.posting = ap (λ (k : LegKey). k.posting) same in
      let place : a.place ≡ b.place = ap (λ (k : LegKey). k.place) same in
      let tie : place_cmp a b ≡ Equal = tied_place a b entry posting place in
      let turned : place_cmp b a ≡ Equal = tied_place b a (sym entry) (sym posting) (sym place) in
      let never : Less ≢ Equal = λ e. true≢false (ap is_lt e) in
      once IsPlacedBelow (noted_legs entries) a b placed has other (λ below. never (sym below ∙ tie)) (λ below. never (sym below ∙ turned))

  pub same_legs : (legs those : List NotedLeg) → map key_of legs ≡ map key_of those → AllByRecursion (HasRow (noted_legs entries)) legs
      → AllByRecursion (HasRow (noted_legs entries)) those → legs ≡ those
  same_legs [] [] same all others = refl
  same_legs [] (other ∷ those) same all others = cc
  same_legs (leg ∷ legs) [] same all others = cc
  same_legs (leg ∷ legs) (other ∷ those) same all others =
      let first : key_of leg ≡ key_of other = cc in
      let rest : map key_of legs ≡ map key_of those = cc in
      ap₂ (λ (l : NotedLeg) (ls : List NotedLeg). l ∷ ls) (one_at leg other all.0 others.0 first) (same_legs legs those rest all.1 others.1)
