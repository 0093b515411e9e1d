-- What a book with one more entry says beside the facts that commands are judged on, and the rows of its entries.
use Rattle.std.specs.Prelude.{◌≡◌, ℕ, suc, ◌+◌, ◌≤◌, Bool, true, false, ◌&&◌, ◌||◌, cond, List, [], ◌∷◌, ◌++◌, length, find, reverse, slice_get, pos, ℤ, Option, None, Some, is_some}
use Rattle.std.specs.List.{AllByRecursion}
use Rattle.std.specs.Option.{option_map, option_or, unwrap_or}
use Rattle.std.specs.Ordering.{is_eq, ordering_then}
use Rattle.std.specs.declared.cmp.Ordering.TheVariants.{Less, Equal}
use Rattle.std.proofs.Common.{refl, sym, ap, ◌∙◌, arith}
use Rattle.std.proofs.Math.Bool.{and-true}
use Rattle.std.proofs.lemmas.Bool.{true≢false}
use Rattle.std.proofs.lemmas.List.{reverse-append}
use Rattle.sqlite.specs.Order.{Row}
use Rattle.sqlite.specs.declared.types.Value.TheVariants.{Int, Text}
use Rattle.sqlite_value.specs.Order.{value_cmp}
use Rattle.lot_base.specs.Text.{same_text}
use Rattle.lot_base.proofs.OptionLemmas.{none_there, or_none, or_or}
use Rattle.lot_command.specs.Canonical.{canonical}
use Rattle.lot_command.specs.declared.command.Command.{Command}
use Rattle.lot_command.specs.declared.command.Command.TheVariants.{Opening, Closing, Declaring, Quoting, Transaction}
use Rattle.lot_command.specs.declared.key.Key.{Key}
use Rattle.lot_cost.proofs.OrderLemmas.{eq_then}
use Rattle.lot_book.specs.Facts.{Entry, declares, is_declared, same_key, text_under}
use Rattle.lot_rows.specs.Entry.{IsUnnamed, entry_cells, greatest_number, is_named}
use Rattle.lot_rows.specs.declared.entry.EntryRow.{EntryRow}
use Rattle.lot_stored.specs.Kept.{declared_on, declaring_by, rate_by, rate_on}
use Rattle.lot_stored.specs.Rows.{entry_row, entry_rows}
use Rattle.lot_stored.proofs.KeyLemmas.{number_below, text_tie}
use Rattle.lot_stored.proofs.OrderLemmas.{row_order}

-- ---- declarings and prices

pub declared_on-append : (entries : List Entry) (entry : Entry) (commodity : List ℕ)
    → declared_on (entries ++ entry ∷ []) commodity ≡ option_or (declared_on entries commodity) (declaring_by commodity entry.command)
declared_on-append [] entry commodity = or_none (declaring_by commodity entry.command)
declared_on-append (first ∷ entries) entry commodity =
    ap (option_or (declaring_by commodity first.command)) (declared_on-append entries entry commodity)
    ∙ or_or (declaring_by commodity first.command) (declared_on entries commodity) (declaring_by commodity entry.command)

-- the last rate that is quoted is the one that counts
pub rate_on-append : (entries : List Entry) (entry : Entry) (base quote : List ℕ) (day : ℤ)
    → rate_on (entries ++ entry ∷ []) base quote day ≡ option_or (rate_by base quote day entry.command) (rate_on entries base quote day)
rate_on-append [] entry base quote day = sym (or_none (rate_by base quote day entry.command))
rate_on-append (first ∷ entries) entry base quote day =
    ap (λ rate. option_or rate (rate_by base quote day first.command)) (rate_on-append entries entry base quote day)
    ∙ sym (or_or (rate_by base quote day entry.command) (rate_on entries base quote day) (rate_by base quote day first.command))

-- a commodity that isn't declared has no day of a declaring
declares_as : (commodity : List ℕ) (command : Command) → is_some (declaring_by commodity command) ≡ declares commodity command
declares_as commodity (Opening o) = refl
declares_as commodity (Closing c) = refl
declares_as commodity (Declaring d) =
    elim (same_text commodity d.commodity) as (λ b. is_some (cond b (Some d.day) None) ≡ b) [ true ↦ refl | false ↦ refl ]
declares_as commodity (Quoting q) = refl
declares_as commodity (Transaction t) = refl

some_or : {X : Type 0} (o p : Option X) → is_some (option_or o p) ≡ (is_some o || is_some p)
some_or None p = refl
some_or (Some x) p = refl

pub declared_as : (entries : List Entry) (commodity : List ℕ) → is_some (declared_on entries commodity) ≡ is_declared entries commodity
declared_as [] commodity = refl
declared_as (entry ∷ entries) commodity =
    some_or (declaring_by commodity entry.command) (declared_on entries commodity)
    ∙ ap (λ b. b || is_some (declared_on entries commodity)) (declares_as commodity entry.command)
    ∙ ap (λ b. declares commodity entry.command || b) (declared_as entries commodity)

pub declared_on-none : (entries : List Entry) (commodity : List ℕ) → is_declared entries commodity ≡ false
    → declared_on entries commodity ≡ None
declared_on-none entries commodity none = none_there (declared_on entries commodity) (declared_as entries commodity ∙ none)

-- ---- the rows of entries

pub entry_rows-append : (number : ℕ) (entries : List Entry) (entry : Entry)
    → entry_rows number (entries ++ entry ∷ []) ≡ entry_rows number entries ++ entry_row (number + length entries) entry ∷ []
entry_rows-append number [] entry = ap (λ n. entry_row n entry ∷ []) (omega arith)
entry_rows-append number (first ∷ entries) entry =
    ap (λ rows. entry_row number first ∷ rows)
    (entry_rows-append (suc number) entries entry
    ∙ ap (λ n. entry_rows (suc number) entries ++ entry_row n entry ∷ []) (omega arith))

-- the columns behind the number
abbrev told : EntryRow → Row
told row = Text row.source ∷ Text row.name ∷ Text row.body ∷ []

-- the numbers rise from the first on
pub entry_rows-below : (number : ℕ) (entries : List Entry) (new : EntryRow) → number + length entries ≤ new.number
    → AllByRecursion (λ row. row_order entry_cells 1 row new ≡ Less) (entry_rows number entries)
entry_rows-below number [] new within = tt
entry_rows-below number (entry ∷ entries) new within = (
  number_below 0 number new.number (told (entry_row number entry)) (told new) (omega arith),
  entry_rows-below (suc number) entries new (omega arith),
)

first_behind : (rows : List EntryRow) (last row : EntryRow) → slice_get rows 0 ≡ Some row → slice_get (rows ++ last ∷ []) 0 ≡ Some row
first_behind [] last row e = cc
first_behind (x ∷ rows) last row e = e

-- the last row of entries has the number of the last entry
last_row : (number : ℕ) (entry : Entry) (entries : List Entry)
    → (row : EntryRow) × (slice_get (reverse (entry_rows number (entry ∷ entries))) 0 ≡ Some row) × (row.number ≡ number + length entries)
last_row number entry [] = (entry_row number entry, refl, omega arith)
last_row number entry (next ∷ entries) =
    let more = last_row (suc number) next entries in
    let rows = entry_rows (suc number) (next ∷ entries) in (
      more.0,
      ap (λ (xs : List EntryRow). slice_get xs 0) (reverse-append (entry_row number entry ∷ []) rows)
          ∙ first_behind (reverse rows) (entry_row number entry) more.0 more.1,
      more.2 ∙ omega arith,
    )

pub greatest_some : (entries : List Entry) (number : ℕ) → Some number ≡ greatest_number (entry_rows 1 entries) → number ≡ length entries
greatest_some [] number e = cc
greatest_some (entry ∷ entries) number e =
    let last = last_row 1 entry entries in
    let is : Some number ≡ Some last.0.number = e ∙ ap (option_map (λ (row : EntryRow). row.number)) last.1 in
    let same : number ≡ last.0.number = cc in
    same ∙ last.2 ∙ omega arith

pub greatest_none : (entries : List Entry) → None ≡ greatest_number (entry_rows 1 entries) → 0 ≡ length entries
greatest_none [] e = refl
greatest_none (entry ∷ entries) e =
    let last = last_row 1 entry entries in
    let is : None ≡ Some last.0.number = e ∙ ap (option_map (λ (row : EntryRow). row.number)) last.1 in
    cc

-- the greatest number, or 0 where there is none, counts the entries
pub greatest_counts : (entries : List Entry) → unwrap_or (greatest_number (entry_rows 1 entries)) 0 ≡ length entries
greatest_counts entries = by (greatest_number (entry_rows 1 entries)) refl
  where
    by : (o : Option ℕ) → greatest_number (entry_rows 1 entries) ≡ o → unwrap_or o 0 ≡ length entries
    by None is = greatest_none entries (sym is)
    by (Some number) is = greatest_some entries number (sym is)

-- ---- keys

first_none : (key : Key) (entry : Entry) (entries : List Entry) → text_under (entry ∷ entries) key ≡ None
    → (same_key key entry.key ≡ false) × (text_under entries key ≡ None)
first_none key entry entries none = by (same_key key entry.key) refl none
  where
    by : (b : Bool) → same_key key entry.key ≡ b
        → option_map (λ (e : Entry). canonical e.command) (cond b (Some entry) (find (λ (e : Entry). same_key key e.key) entries)) ≡ None
        → (same_key key entry.key ≡ false) × (text_under entries key ≡ None)
    by true here e = absurd (true≢false (ap is_some e))
    by false apart e = (apart, e)

named_as : (source name other what body : List ℕ) (number : ℤ)
    → is_named source name (Int number ∷ Text other ∷ Text what ∷ Text body ∷ []) ≡ (same_text source other && same_text name what)
named_as source name other what body number =
    eq_then (value_cmp (Text other) (Text source)) (ordering_then (value_cmp (Text what) (Text name)) Equal)
    ∙ ap (λ b. b && is_eq (ordering_then (value_cmp (Text what) (Text name)) Equal)) (text_tie source other)
    ∙ ap (λ b. same_text source other && b)
    (eq_then (value_cmp (Text what) (Text name)) Equal ∙ and-true (is_eq (value_cmp (Text what) (Text name))) ∙ text_tie name what)

-- no row of entries has the source and the name of a key that is new
pub entry_rows-unnamed : (number : ℕ) (entries : List Entry) (key : Key) (new : EntryRow) → text_under entries key ≡ None
    → new.source ≡ key.source → new.name ≡ key.name → IsUnnamed new (entry_rows number entries)
entry_rows-unnamed number [] key new none source name = tt
entry_rows-unnamed number (entry ∷ entries) key new none source name =
    let parts = first_none key entry entries none in (
      named_as new.source new.name entry.key.source entry.key.name (canonical entry.command) (pos number)
          ∙ (λ i. same_text (source i) entry.key.source && same_text (name i) entry.key.name)
          ∙ parts.0,
      entry_rows-unnamed (suc number) entries key new parts.1 source name,
    )
