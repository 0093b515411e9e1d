-- The first row under the key of an entry is its own exactly where no entry before it has the key.
use Rattle.std.specs.Prelude.{◌≡◌, ◌+◌, ◌≤◌, ◌&&◌, ℕ, suc, Bool, true, false, cond, find, is_some, List, [], ◌∷◌, ◌++◌, length, slice_get, option_map, Option, None, Some}
use Rattle.std.specs.Ordering.{is_eq, ordering_then}
use Rattle.std.specs.declared.cmp.Ordering.TheVariants.{Equal}
use Rattle.std.proofs.Common.{refl, sym, ap, ◌∙◌, arith}
use Rattle.std.proofs.Math.Bool.{and-true}
use Rattle.std.proofs.lemmas.Bool.{true≢false}
use Rattle.sqlite.specs.declared.types.Value.TheVariants.{Text}
use Rattle.sqlite_value.specs.Order.{value_cmp}
use Rattle.lot_base.specs.Text.{same_text}
use Rattle.lot_base.proofs.TextLemmas.{same_text-itself}
use Rattle.lot_cost.proofs.OrderLemmas.{eq_then}
use Rattle.lot_command.specs.Canonical.{canonical}
use Rattle.lot_command.specs.declared.key.Key.{Key}
use Rattle.lot_book.specs.Facts.{Entry, same_key, text_under}
use Rattle.lot_rows.specs.Entry.{entry_cells, is_named, named}
use Rattle.lot_rows.specs.declared.entry.EntryRow.{EntryRow}
use Rattle.lot_stored.specs.Rows.{entry_row, entry_rows}
use Rattle.lot_stored.proofs.KeyLemmas.{text_tie}

named_as : (key : Key) (number : ℕ) (entry : Entry)
    → is_named key.source key.name (entry_cells (entry_row number entry)) ≡ same_key key entry.key
named_as key number entry =
    let name = ordering_then (value_cmp (Text entry.key.name) (Text key.name)) Equal in
    eq_then (value_cmp (Text entry.key.source) (Text key.source)) name
    ∙ ap (λ (b : Bool). b && is_eq name) (text_tie key.source entry.key.source)
    ∙ ap (λ (b : Bool). same_text key.source entry.key.source && b)
    (eq_then (value_cmp (Text entry.key.name) (Text key.name)) Equal
    ∙ and-true (is_eq (value_cmp (Text entry.key.name) (Text key.name))) ∙ text_tie key.name entry.key.name)

-- the row of an entry has its key
pub names_itself : (key : Key) (number : ℕ) (entry : Entry) → entry.key ≡ key
    → is_named key.source key.name (entry_cells (entry_row number entry)) ≡ true
names_itself key number entry is =
    named_as key number entry
    ∙ ap (same_key key) is
    ∙ (λ i. same_text-itself key.source i && same_text-itself key.name i)

module _ (key : Key) (row : EntryRow) (own : is_named key.source key.name (entry_cells row) ≡ true) (rest : List EntryRow) where
  -- the first row under the key, of those of some entries, the row and others behind it
  abbrev first : ℕ → List Entry → Option EntryRow
  first number entries = slice_get (named key.source key.name (entry_rows number entries ++ row ∷ rest)) 0

  abbrev first_behind : ℕ → Entry → List Entry → Bool → Option EntryRow
  first_behind number entry entries here =
      slice_get (cond here (entry_row number entry ∷ named key.source key.name (entry_rows (suc number) entries ++ row ∷ rest))
      (named key.source key.name (entry_rows (suc number) entries ++ row ∷ rest))) 0

  -- none of the entries has the key
  pub first_where_new : (number : ℕ) (entries : List Entry) → text_under entries key ≡ None → first number entries ≡ Some row
  first_where_new number [] none =
      ap (λ (b : Bool). slice_get (cond b (row ∷ named key.source key.name rest) (named key.source key.name rest)) 0) own
  first_where_new number (entry ∷ entries) none =
      by (same_key key entry.key) refl none (first_where_new (suc number) entries)
    where
      by : (b : Bool) → same_key key entry.key ≡ b
          → option_map (λ (e : Entry). canonical e.command) (cond b (Some entry) (find (λ (e : Entry). same_key key e.key) entries)) ≡ None
          → (text_under entries key ≡ None → first (suc number) entries ≡ Some row)
          → first number (entry ∷ entries) ≡ Some row
      by true here e others = absurd (true≢false (ap is_some e))
      by false apart e others =
          ap (first_behind number entry entries) (named_as key number entry ∙ apart) ∙ others e

  -- a row behind the entries is the first
  pub new_where_first : (number : ℕ) (entries : List Entry) (n : ℕ)
      → option_map (λ (r : EntryRow). r.number) (first number entries) ≡ Some n → number + length entries ≤ n
      → text_under entries key ≡ None
  new_where_first number [] n is behind = refl
  new_where_first number (entry ∷ entries) n is behind =
      by (same_key key entry.key) refl (new_where_first (suc number) entries n)
    where
      by : (b : Bool) → same_key key entry.key ≡ b
          → (option_map (λ (r : EntryRow). r.number) (first (suc number) entries) ≡ Some n → suc number + length entries ≤ n
          → text_under entries key ≡ None)
          → option_map (λ (e : Entry). canonical e.command) (cond b (Some entry) (find (λ (e : Entry). same_key key e.key) entries)) ≡ None
      by true here others =
          let found : Some number ≡ Some n =
          sym (ap (λ (b : Bool). option_map (λ (r : EntryRow). r.number) (first_behind number entry entries b))
          (named_as key number entry ∙ here)) ∙ is in
          let same : number ≡ n = cc in
          absurd (omega (arith, same, behind))
      by false apart others =
          others
          (sym (ap (λ (b : Bool). option_map (λ (r : EntryRow). r.number) (first_behind number entry entries b))
          (named_as key number entry ∙ apart)) ∙ is)
          (omega arith)
