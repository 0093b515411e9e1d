-- Legs without the narration are those of the book with their days.
use Rattle.std.specs.Prelude.{◌≡◌, ◌↔◌, ℕ, ℤ, Bool, true, IsTrue, List, [], ◌∷◌, ◌++◌, filter, flat_map, map, Option}
use Rattle.std.specs.List.Sorted.{IsPermutation}
use Rattle.std.specs.declared.cmp.Ordering.TheVariants.{Less}
use Rattle.std.proofs.Common.{refl, sym, ap, subst, ◌∙◌}
use Rattle.std.proofs.lemmas.List.Sorted.{IsPermutation-map, IsPermutation-sym, IsPermutation-trans}
use Rattle.sqlite.specs.Tree.{IsAscending}
use Rattle.sqlite_keyed.specs.Lists.{sort_by}
use Rattle.sqlite_keyed.proofs.ListLemmas.{IsPermutation-same, ascending-filter, ascending-map, ascending_from_map, filter-map, flat_map_same_on, map-flat_map, map-map, map_back}
use Rattle.sqlite_keyed.proofs.SortLemmas.{IsPermutation-sort_by, sorted_unique}
use Rattle.sqlite_rules.specs.Lists.{Has}
use Rattle.sqlite_rules.proofs.ListLemmas.{has_filtered, has_kept}
use Rattle.lot_book.specs.Facts.{Entry}
use Rattle.lot_legs.specs.Legs.{dated_legs, dated_legs_of, leg_cmp, leg_in}
use Rattle.lot_legs.specs.declared.leg.DatedLeg.{DatedLeg}
use Rattle.lot_legs.proofs.BookLemmas.{has_sorted, sorted_has}
use Rattle.lot_register.specs.declared.leg.NotedLeg.{NotedLeg}
use Rattle.lot_noted.specs.Book.{Asked, bare, by_day, day_cmp, has, is_asked, narration_of, noted, noted_legs, noted_legs_of, register_legs}
use Rattle.lot_noted.specs.Keys.{AreInOrder, asked_keys, key_cmp, key_in, key_of}
use Rattle.lot_noted.specs.declared.key.LegKey.{LegKey}
use Rattle.lot_noted.proofs.DayLemmas.{IsListedBelow, IsPlacedBelow, days_total, keys_total, sorted_up}

pub bare_legs : (entries : List Entry) → map bare (noted_legs entries) ≡ dated_legs entries
bare_legs entries =
    map-flat_map bare noted_legs_of entries
    ∙ flat_map_same_on (λ (entry : Entry). map bare (noted_legs_of entry)) dated_legs_of
    (λ entry. map_back (noted (narration_of entry.command)) bare (λ leg. refl) (dated_legs_of entry)) entries

-- the keys of those that are asked for are those of the legs with their days
pub keys_of_asked : (asked : Asked) (legs : List NotedLeg) → map key_of (filter (is_asked asked) legs) ≡ asked_keys asked (map bare legs)
keys_of_asked asked legs =
    sym (map-map key_in bare (filter (is_asked asked) legs))
    ∙ ap (map key_in) (sym (filter-map (λ (leg : DatedLeg). has asked leg.account leg.commodity leg.day) bare legs))

-- ---- which legs

pub those_asked : (asked : Asked) (entries : List Entry) (leg : NotedLeg)
    → Has (register_legs asked entries) leg ↔ (Has (noted_legs entries) leg × IsTrue (is_asked asked leg))
those_asked asked entries leg = (
  λ there. has_filtered (is_asked asked) (noted_legs entries) leg (has_sorted day_cmp (filter (is_asked asked) (noted_legs entries)) leg there),
  λ (among, is). sorted_has day_cmp (filter (is_asked asked) (noted_legs entries)) leg (has_kept (is_asked asked) (noted_legs entries) leg among is),
)

-- ---- in which order

abbrev pub IsBefore : DatedLeg → DatedLeg → Type 0
IsBefore a b = leg_cmp (leg_in a) (leg_in b) ≡ Less

module _ (asked : Asked) (entries : List Entry) (up : IsAscending IsBefore (dated_legs entries)) where
  abbrev chosen : List NotedLeg
  chosen = filter (is_asked asked) (noted_legs entries)

  placed : IsAscending IsPlacedBelow chosen
  placed =
      ascending-filter IsPlacedBelow (is_asked asked) (noted_legs entries)
      (ascending_from_map IsBefore bare (noted_legs entries) (subst (IsAscending IsBefore) (sym (bare_legs entries)) up))

  pub listed_up : IsAscending IsListedBelow (register_legs asked entries)
  listed_up = sorted_up chosen placed

  -- ---- their keys

  chosen_keys : map key_of chosen ≡ asked_keys asked (dated_legs entries)
  chosen_keys = keys_of_asked asked (noted_legs entries) ∙ ap (asked_keys asked) (bare_legs entries)

  abbrev listed : List LegKey
  listed = map key_of (register_legs asked entries)

  same_keys : IsPermutation listed (asked_keys asked (dated_legs entries))
  same_keys =
      IsPermutation-trans listed (map key_of chosen) (asked_keys asked (dated_legs entries))
      (IsPermutation-map key_of (register_legs asked entries) chosen (IsPermutation-sort_by day_cmp days_total chosen))
      (IsPermutation-same (map key_of chosen) (asked_keys asked (dated_legs entries)) chosen_keys)

  pub keys_are : (keys : List LegKey) → AreInOrder asked (dated_legs entries) keys → keys ≡ listed
  keys_are keys are =
      sorted_unique key_cmp keys_total listed keys
      (ascending-map (λ (a b : LegKey). key_cmp a b ≡ Less) key_of (register_legs asked entries) listed_up)
      (IsPermutation-trans listed (asked_keys asked (dated_legs entries)) keys same_keys are.same) are.sorted
