-- Rows that are judged have days.
use Rattle.std.specs.Prelude.{◌≡◌, ℕ, zero, suc, ◌-◌, All, IsSome, List, [], ◌∷◌, filter_map, map, Option, Some, None}
use Rattle.std.specs.List.{AllByRecursion, slice_get}
use Rattle.std.specs.Option.{unwrap_or}
use Rattle.std.proofs.Common.{arith, ap, refl, subst, sym, ◌∙◌}
use Rattle.std.proofs.lemmas.List.Sorted.{All-permutation}
use Rattle.lot_deal_read.specs.declared.says.Dated.{Dated}
use Rattle.lot_profile.specs.declared.table.Order.{Order}
use Rattle.lot_sequence.specs.Key.{keys_of, said}
use Rattle.lot_sequence.specs.declared.row.Row.{Row as Line}
use Rattle.lot_export.specs.Entries.{AreNumbered, dated_at, dated_by, dated_in}
use Rattle.lot_export.specs.HandedIn.{HaveDays}
use Rattle.lot_export.specs.Lines.{AreJudged, PlainLine, line_by, line_of, plain}
use Rattle.lot_export.specs.Named.{named_of}
use Rattle.lot_export.specs.declared.entry.Entry.{Entry}
use Rattle.lot_export.specs.declared.named.Named.{Named}

-- ---- What holds of each, in two forms.

to_all : {X : Type 0} (P : X → Type 0) (xs : List X) → AllByRecursion P xs → All P xs
to_all P [] all k d within = absurd (omega arith)
to_all P (x ∷ xs) all zero d within = all.0
to_all P (x ∷ xs) all (suc k) d within = to_all P xs all.1 k d (omega arith)

from_all : {X : Type 0} (P : X → Type 0) (xs : List X) → All P xs → AllByRecursion P xs
from_all P [] all = tt
from_all P (x ∷ xs) all = (all 0 x (omega arith), from_all P xs (λ k d within. all (suc k) d (omega arith)))

-- ---- Lines.

-- what holds of each element that comes of a list
one_more : {X Y : Type 0} (f : X → Option Y) (P : Y → Type 0) (x : X) (xs : List X) (found : Option Y) → f x ≡ found
    → ((y : Y) → f x ≡ Some y → P y) → AllByRecursion P (filter_map f xs) → AllByRecursion P (filter_map f (x ∷ xs))
one_more f P x xs None is here more = rw is more
one_more f P x xs (Some y) is here more = rw is (here y is, more)

of_each : {X Y : Type 0} (f : X → Option Y) (P : Y → Type 0) (xs : List X)
    → ((place : ℕ) (x : X) (y : Y) → slice_get xs place ≡ Some x → f x ≡ Some y → P y) → AllByRecursion P (filter_map f xs)
of_each f P [] each = tt
of_each f P (x ∷ xs) each =
    one_more f P x xs (f x) refl (λ y is. each 0 x y refl is) (of_each f P xs (λ place z y at is. each (suc place) z y at is))

by_dated : (entry : Entry) (dated : Option Dated) (line : PlainLine) → dated_by entry.says ≡ dated → line_by entry dated ≡ Some line
    → (line.number ≡ entry.number) × IsSome (dated_by entry.says)
by_dated entry None line is found = cc
by_dated entry (Some dated) line is found =
    (sym (ap (λ (o : Option PlainLine). (unwrap_or o line).number) found), subst (λ (o : Option Dated). IsSome o) (sym is) refl)

line_has : (entries : List Entry) → AreNumbered entries → (place : ℕ) (entry : Entry) (line : PlainLine) → slice_get entries place ≡ Some entry
    → line_of entry ≡ Some line → IsSome (dated_at entries line.number)
line_has entries numbered place entry line at is =
    let found = by_dated entry (dated_by entry.says) line refl is in
    let number : line.number - 1 ≡ place = let n = numbered.each place entry at in omega (arith, n, found.0) in
    subst (λ (o : Option Dated). IsSome o) (sym (ap (λ (k : ℕ). dated_in (slice_get entries k)) number ∙ ap dated_in at)) found.1

unplain : (P : ℕ → Type 0) (lines : List Line) → AllByRecursion (λ (line : PlainLine). P line.number) (map plain lines)
    → AllByRecursion (λ (line : Line). P line.number) lines
unplain P [] all = tt
unplain P (line ∷ lines) all = (all.0, unplain P lines all.1)

-- ---- Rows with names.

of_named : (P : ℕ → Type 0) (lines : List Line) (names : List (List ℕ)) → AllByRecursion (λ (line : Line). P line.number) lines
    → AllByRecursion (λ (row : Named). P row.number) (named_of lines names)
of_named P [] names all = tt
of_named P (line ∷ lines) [] all = tt
of_named P (line ∷ lines) (name ∷ names) all = (all.0, of_named P lines names all.1)

abbrev IsThere : List Entry → ℕ → Type 0
IsThere entries number = IsSome (dated_at entries number)

pub judged_have_days : (orders : List Order) (entries : List Entry) (rows : List Named) → AreNumbered entries → AreJudged orders entries rows
    → HaveDays entries rows
judged_have_days orders entries rows numbered judged =
    let plain_lines = of_each line_of (λ (line : PlainLine). IsThere entries line.number) entries (line_has entries numbered) in
    let lines = unplain (IsThere entries) judged.lines
    (subst (AllByRecursion (λ (line : PlainLine). IsThere entries line.number)) (sym judged.are_lines) plain_lines) in
    let ordered = from_all (λ (line : Line). IsThere entries line.number) judged.judged
    (All-permutation (λ (line : Line). IsThere entries line.number) judged.lines judged.judged judged.same (to_all (λ (line : Line). IsThere entries line.number) judged.lines lines)) in
    subst (HaveDays entries) (sym judged.are) (of_named (IsThere entries) judged.judged (keys_of (map said judged.judged)) ordered)
