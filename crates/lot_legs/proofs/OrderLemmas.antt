-- The legs of a book with their days are in the order of entries, postings and places, and each is of its entry.
use Rattle.std.specs.Prelude.{◌≡◌, ◌<◌, ℕ, suc, List, [], ◌∷◌, ◌++◌, length, map}
use Rattle.std.specs.List.{AllByRecursion}
use Rattle.std.specs.Cmp.{IsTotalOrder, nat_cmp_is}
use Rattle.std.specs.Ordering.{nat_cmp, ordering_then}
use Rattle.std.specs.declared.cmp.Ordering.TheVariants.{Less, Equal}
use Rattle.std.proofs.Common.{refl, sym, ap, ap₂, subst, ◌∙◌}
use Rattle.std.proofs.lemmas.Cmp.{nat_cmp_total, on_total, then_total, tied_itself}
use Rattle.std.proofs.lemmas.List.{append_assoc, map-append}
use Rattle.sqlite.specs.Tree.{IsAscending}
use Rattle.sqlite_keyed.proofs.ListLemmas.{all-append, ascending_from_map, map_back}
use Rattle.sqlite_rules.proofs.ListLemmas.{all_from}
use Rattle.sqlite_rules.specs.Lists.{Has}
use Rattle.lot_book.specs.Book.{IsBook}
use Rattle.lot_book.specs.Edition.{After}
use Rattle.lot_book.specs.Facts.{Entry}
use Rattle.lot_book.specs.declared.leg.Leg.{Leg}
use Rattle.lot_stored.proofs.NumberLemmas.{one_longer}
use Rattle.lot_legs.specs.Legs.{IsOfEntry, by_posting, dated, dated_legs, dated_legs_of, day_of, leg_cmp, leg_in, posting_cmp}
use Rattle.lot_legs.specs.declared.leg.DatedLeg.{DatedLeg}
use Rattle.lot_legs.proofs.BookLemmas.{AreNumbered, all_sorted, book_numbers, placed, placed_up}

abbrev IsBefore : Leg → Leg → Type 0
IsBefore a b = leg_cmp a b ≡ Less

legs_total : IsTotalOrder leg_cmp
legs_total =
    then_total (on_total (λ (leg : Leg). leg.entry) nat_cmp_total)
    (then_total (on_total (λ (leg : Leg). leg.posting) nat_cmp_total) (on_total (λ (leg : Leg). leg.place) nat_cmp_total))

less : (m n : ℕ) → m < n → nat_cmp m n ≡ Less
less m n below = sym (nat_cmp_is m n Less below)

tied : (m n : ℕ) → m ≡ n → nat_cmp m n ≡ Equal
tied m n same = ap (λ k. nat_cmp m k) (sym same) ∙ tied_itself nat_cmp_total m

before_by_entry : (a b : Leg) → a.entry < b.entry → IsBefore a b
before_by_entry a b below = ap (λ o. ordering_then o (ordering_then (nat_cmp a.posting b.posting) (nat_cmp a.place b.place))) (less a.entry b.entry below)

before_by_posting : (a b : Leg) → a.entry ≡ b.entry → a.posting < b.posting → IsBefore a b
before_by_posting a b entry below =
    ap (λ o. ordering_then o (ordering_then (nat_cmp a.posting b.posting) (nat_cmp a.place b.place))) (tied a.entry b.entry entry)
    ∙ ap (λ o. ordering_then o (nat_cmp a.place b.place)) (less a.posting b.posting below)

before_by_place : (a b : Leg) → a.entry ≡ b.entry → a.posting ≡ b.posting → a.place < b.place → IsBefore a b
before_by_place a b entry posting below =
    ap (λ o. ordering_then o (ordering_then (nat_cmp a.posting b.posting) (nat_cmp a.place b.place))) (tied a.entry b.entry entry)
    ∙ ap (λ o. ordering_then o (nat_cmp a.place b.place)) (tied a.posting b.posting posting)
    ∙ less a.place b.place below

legs_placed : (entries : List Entry) → map leg_in (dated_legs entries) ≡ placed entries
legs_placed [] = refl
legs_placed (entry ∷ entries) =
    map-append leg_in (dated_legs_of entry) (dated_legs entries)
    ∙ ap₂ (λ (a b : List Leg). a ++ b) (map_back (dated (day_of entry.command)) leg_in (λ leg. refl) (by_posting entry.legs)) (legs_placed entries)

pub legs_up : (entries : List Entry) → IsBook entries → IsAscending (λ (a b : DatedLeg). leg_cmp (leg_in a) (leg_in b) ≡ Less) (dated_legs entries)
legs_up entries book =
    ascending_from_map IsBefore leg_in (dated_legs entries)
    (subst (IsAscending IsBefore) (sym (legs_placed entries))
    (placed_up IsBefore before_by_entry before_by_posting before_by_place legs_total.trans 1 entries (book_numbers (After book.place) entries book.is)))

-- ---- the entry of each

own_of : (before : List Entry) (entry : Entry) (entries : List Entry) (legs : List Leg) → AllByRecursion (λ (leg : Leg). leg.entry ≡ suc (length before)) legs
    → AllByRecursion (Has entry.legs) legs → AllByRecursion (IsOfEntry (before ++ entry ∷ entries)) (map (dated (day_of entry.command)) legs)
own_of before entry entries [] of own = tt
own_of before entry entries (leg ∷ legs) of own = (
  record { before = before; entry = entry; behind = entries; whole = refl; number = of.0; day = refl; among = own.0 },
  own_of before entry entries legs of.1 own.1,
)

of_entries : (before entries : List Entry) → AreNumbered (suc (length before)) entries → AllByRecursion (IsOfEntry (before ++ entries)) (dated_legs entries)
of_entries before [] are = tt
of_entries before (entry ∷ entries) are =
    all-append (IsOfEntry (before ++ entry ∷ entries)) (dated_legs_of entry) (dated_legs entries)
    (own_of before entry entries (by_posting entry.legs)
    (all_sorted posting_cmp (λ (leg : Leg). leg.entry ≡ suc (length before)) entry.legs are.0.0)
    (all_sorted posting_cmp (Has entry.legs) entry.legs (all_from (Has entry.legs) entry.legs (λ leg has. has))))
    (subst (λ (whole : List Entry). AllByRecursion (IsOfEntry whole) (dated_legs entries)) (append_assoc before (entry ∷ []) entries)
    (of_entries (before ++ entry ∷ []) entries (subst (λ n. AreNumbered (suc n) entries) (sym (one_longer before entry)) are.1)))

pub legs_of_their_entries : (entries : List Entry) → IsBook entries → AllByRecursion (IsOfEntry entries) (dated_legs entries)
legs_of_their_entries entries book = of_entries [] entries (book_numbers (After book.place) entries book.is)
