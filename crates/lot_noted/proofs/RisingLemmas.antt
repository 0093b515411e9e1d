-- Where days never fall, legs in the order of entries are in the order of days.
use Rattle.std.specs.Prelude.{◌≡◌, ℕ, ℤ, false, IsTrue, cond, Option, List, [], ◌∷◌, filter, map}
use Rattle.std.specs.List.{AllByRecursion}
use Rattle.std.specs.Ordering.{int_cmp, is_gt}
use Rattle.std.proofs.Common.{refl, sym, ap, subst, ◌∙◌, arith}
use Rattle.std.proofs.lemmas.Int.{ints}
use Rattle.sqlite.specs.Tree.{IsAscending}
use Rattle.sqlite_keyed.specs.Lists.{insert_sorted}
use Rattle.sqlite_keyed.proofs.ListLemmas.{all-append, all_weaker, ascending-append, ascending-filter}
use Rattle.lot_book.specs.Facts.{Entry}
use Rattle.lot_book.specs.declared.leg.Leg.{Leg}
use Rattle.lot_legs.specs.Legs.{by_posting, dated, day_of, is_by}
use Rattle.lot_register.specs.declared.leg.NotedLeg.{NotedLeg}
use Rattle.lot_noted.specs.Book.{Asked, NeverFall, by_day, day_cmp, days_of, is_asked, narration_of, noted, noted_legs, noted_legs_of, register_legs}

-- a leg isn't later than another
abbrev IsNoLater : NotedLeg → NotedLeg → Type 0
IsNoLater a b = IsTrue (is_by b.day a.day)

abbrev IsOn : ℤ → NotedLeg → Type 0
IsOn day leg = leg.day ≡ day

abbrev IsFrom : ℤ → NotedLeg → Type 0
IsFrom day leg = IsTrue (is_by leg.day day)

-- ---- legs that stay where they are

not_later : (a b : ℤ) → IsTrue (is_by b a) → is_gt (int_cmp a b) ≡ false
not_later a b upto = grind (arith, ints, upto)

first_stays : (x : NotedLeg) (xs : List NotedLeg) → AllByRecursion (IsNoLater x) xs → insert_sorted day_cmp x xs ≡ x ∷ xs
first_stays x [] all = refl
first_stays x (y ∷ xs) all = ap (λ b. cond b (y ∷ insert_sorted day_cmp x xs) (x ∷ y ∷ xs)) (not_later x.day y.day all.0)

stay : (xs : List NotedLeg) → IsAscending IsNoLater xs → by_day xs ≡ xs
stay [] up = refl
stay (x ∷ xs) up = ap (insert_sorted day_cmp x) (stay xs up.1) ∙ first_stays x xs up.0

-- ---- the legs of entries

same_day : (a b day : ℤ) → a ≡ day → b ≡ day → IsTrue (is_by b a)
same_day a b day first second = grind (arith, ints, first, second)

later_from : (a b day : ℤ) → a ≡ day → IsTrue (is_by b day) → IsTrue (is_by b a)
later_from a b day is later = subst (λ d. IsTrue (is_by b d)) (sym is) later

on_day : (narration : Option (List ℕ)) (day : ℤ) (legs : List Leg) → AllByRecursion (IsOn day) (map (noted narration) (map (dated day) legs))
on_day narration day [] = tt
on_day narration day (leg ∷ legs) = (refl, on_day narration day legs)

own_day : (entry : Entry) → AllByRecursion (IsOn (day_of entry.command)) (noted_legs_of entry)
own_day entry = on_day (narration_of entry.command) (day_of entry.command) (by_posting entry.legs)

day_up : (day : ℤ) (legs : List NotedLeg) → AllByRecursion (IsOn day) legs → IsAscending IsNoLater legs
day_up day [] all = tt
day_up day (leg ∷ legs) all =
    (all_weaker (IsOn day) (IsNoLater leg) (λ other on. same_day leg.day other.day day all.0 on) legs all.1, day_up day legs all.1)

all_from : (day : ℤ) (entries : List Entry) → AllByRecursion (λ (later : ℤ). IsTrue (is_by later day)) (days_of entries)
    → AllByRecursion (IsFrom day) (noted_legs entries)
all_from day [] all = tt
all_from day (entry ∷ entries) all =
    all-append (IsFrom day) (noted_legs_of entry) (noted_legs entries)
    (all_weaker (IsOn (day_of entry.command)) (IsFrom day) (λ leg on. subst (λ d. IsTrue (is_by d day)) (sym on) all.0) (noted_legs_of entry) (own_day entry))
    (all_from day entries all.1)

legs_up : (entries : List Entry) → NeverFall (days_of entries) → IsAscending IsNoLater (noted_legs entries)
legs_up [] up = tt
legs_up (entry ∷ entries) up =
    let day = day_of entry.command in
    ascending-append IsNoLater (noted_legs_of entry) (noted_legs entries) (day_up day (noted_legs_of entry) (own_day entry)) (legs_up entries up.1)
    (all_weaker (IsOn day) (λ (leg : NotedLeg). AllByRecursion (IsNoLater leg) (noted_legs entries))
    (λ leg on. all_weaker (IsFrom day) (IsNoLater leg) (λ other from. later_from leg.day other.day day on from) (noted_legs entries) (all_from day entries up.0))
    (noted_legs_of entry) (own_day entry))

pub legs_stay : (asked : Asked) (entries : List Entry) → NeverFall (days_of entries)
    → register_legs asked entries ≡ filter (is_asked asked) (noted_legs entries)
legs_stay asked entries up =
    stay (filter (is_asked asked) (noted_legs entries)) (ascending-filter IsNoLater (is_asked asked) (noted_legs entries) (legs_up entries up))
