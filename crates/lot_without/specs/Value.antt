-- What the values of options leave out of a dump.
use Rattle.std.specs.Prelude.{ℕ, ◌^◌, ◌==◌, ◌&&◌, if◌then◌else◌, not, bytes_eq, decimal, nat_le, nat_lt, Bool, List, Option, None, Some, option_and_then}
use Rattle.std.specs.Borrow.{Bor}
use Rattle.std.specs.List.{after_first, before_first, list_all}
use Rattle.std.specs.Str.Parse.{digits_value}
use Rattle.lot_base.specs.Name.{is_label}
use Rattle.lot_without.specs.declared.value.By.{By}
use Rattle.lot_without.specs.declared.value.By.TheVariants as by
use Rattle.lot_without.specs.declared.without.Without.{Without}
use Rattle.lot_without.specs.declared.without.Without.TheVariants.{Key, Batch, Entries}

-- ---- a key

abbrev pub is_blank : ℕ → Bool
is_blank b = b == 32

-- the entry under the key with that source and that name
abbrev pub under : List ℕ → List ℕ → Without
under source name = Key (record { source = source; name = name })

-- a key: its source stands before the first blank, its name behind it; both are labels
abbrev pub named_key : List ℕ → Option Without
named_key text =
    if is_label (before_first is_blank text) && is_label (after_first is_blank text)
    then Some (under (before_first is_blank text) (after_first is_blank text)) else None

-- what is known of borrowed parts
abbrev pub key_by : Bor (List ℕ) × Bor (List ℕ) → Without
key_by cut = under cut.0.now cut.1.now

-- ---- a batch

abbrev pub is_no_blank : ℕ → Bool
is_no_blank b = not (b == 32)

-- whether the text is a label without a blank, as the source of a key is
abbrev pub is_source : List ℕ → Bool
is_source text = is_label text && list_all is_no_blank text

-- a batch
abbrev pub named_batch : List ℕ → Option Without
named_batch text = if is_source text then Some (Batch text) else None

-- ---- a range

abbrev pub is_dash : ℕ → Bool
is_dash b = b == 45

-- the number of 32 bits that is printed as that text: without a sign, and without leading zeros
unfoldable pub named_number : List ℕ → Option ℕ
named_number text =
    if bytes_eq text (decimal (digits_value 10 text)) && nat_lt (digits_value 10 text) (2 ^ 32)
    then Some (digits_value 10 text) else None

-- from a first number, which is 1 at least, to a last one, which isn't below it
abbrev pub range_of : ℕ → ℕ → Option Without
range_of first last = if nat_le 1 first && nat_le first last then Some (Entries first last) else None

-- a range: its first number stands before the first dash, its last behind it
abbrev pub named_entries : List ℕ → Option Without
named_entries text =
    option_and_then (λ first. option_and_then (range_of first) (named_number (after_first is_dash text)))
    (named_number (before_first is_dash text))

-- ---- any value

abbrev pub named : By → List ℕ → Option Without
named by.Key text = named_key text
named by.Batch text = named_batch text
named by.Entries text = named_entries text
