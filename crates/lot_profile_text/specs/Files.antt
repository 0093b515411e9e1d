-- How a profile says how a file is written.
use Rattle.std.specs.Prelude.{ℕ, Bool, not, ◌==◌, ◌&&◌, ◌||◌, nat_le, nat_lt, if◌then◌else◌, List, [], ◌∷◌, count_by, length, map, Option, None, Some, Ok, Err}
use Rattle.std.specs.Char.{is_ascii_digit}
use Rattle.std.specs.List.{list_all, list_any}
use Rattle.toml.specs.Data.{Data}
use Rattle.lot_base.specs.Text.{same_text}
use Rattle.lot_field.specs.Field.{cut}
use Rattle.lot_field.specs.declared.numbers.DecimalMark.{DecimalMark}
use Rattle.lot_field.specs.declared.numbers.NumberForm.{NumberForm}
use Rattle.lot_profile.specs.declared.file.FileForm.{FileForm}
use Rattle.lot_profile.specs.declared.kind.KindRule.{KindRule}
use Rattle.lot_profile.specs.declared.role.Sources.{Sources}
use Rattle.lot_profile.specs.declared.table.Table.{Table}
use Rattle.lot_profile_text.specs.declared.entry.Form.TheVariants as form
use Rattle.lot_profile_text.specs.declared.fault.ProfileFault.TheVariants.{Wrong}
use Rattle.lot_profile_text.specs.declared.file.FileOfOneTable.{FileOfOneTable}
use Rattle.lot_profile_text.specs.declared.list.Listed.{Listed}
use Rattle.lot_profile_text.specs.Columns.{header_of}
use Rattle.lot_profile_text.specs.Days.{day_of}
use Rattle.lot_profile_text.specs.Keys.{currency_signs_key, day_key, decimal_key, delimiter_key, encoding_key, file_keys, file_of_tables_keys, grouping_key, header_key, nothing_key, optional_key, order_key, turn_key}
use Rattle.lot_profile_text.specs.Reading.{Read, ◌>>=◌, below, entry_of, only_list_of, section_of, text_of, word_of}
use Rattle.lot_profile_text.specs.Roles.{turned_of}
use Rattle.lot_profile_text.specs.Words.{decimal_mark_all, decimal_mark_word, delimiter_all, delimiter_word, encoding_all, encoding_word, order_all, order_word}

-- ---- Numbers.

-- a digit, a sign or a parenthesis
abbrev pub is_of_number : ℕ → Bool
is_of_number byte = is_ascii_digit byte || (byte == 43) || (byte == 45) || (byte == 40) || (byte == 41)

-- a byte that begins a character
abbrev pub begins_character : ℕ → Bool
begins_character byte = nat_lt byte 128 || nat_le 192 byte

-- whether a text may stand between groups of digits: one character, which isn't of numbers, and not the decimal mark
abbrev pub may_group : DecimalMark → List ℕ → Bool
may_group decimal text =
    (count_by begins_character text == 1) && not (list_any is_of_number text) && not (same_text text (decimal_mark_word decimal))

-- what groups digits in the file of the section at a place: nothing, where the text is empty
unfoldable pub grouping_of : List ℕ → DecimalMark → List ℕ → Read (Option (List ℕ))
grouping_of place decimal [] = Ok None
grouping_of place decimal (first ∷ more) =
    if may_group decimal (first ∷ more) then Ok (Some (first ∷ more))
    else Err (Wrong (below place grouping_key.name) form.Character)

-- a point, a comma or a blank, or of numbers
abbrev pub is_beside_number : ℕ → Bool
is_beside_number byte = is_of_number byte || (byte == 46) || (byte == 44) || (byte == 32) || (byte == 9)

-- whether a text may be the sign of a currency
abbrev pub may_be_currency : List ℕ → Bool
may_be_currency text = nat_le 1 (length text) && not (list_any is_beside_number text)

abbrev pub if_currencies : List ℕ → List (List ℕ) → Read (List (List ℕ))
if_currencies place signs =
    if list_all may_be_currency signs then Ok signs else Err (Wrong (below place currency_signs_key.name) form.CurrencySigns)

-- the texts that stand as signs of currencies
unfoldable pub currency_texts_of : List ℕ → Data → Read (Listed (List ℕ))
currency_texts_of place value = entry_of (only_list_of text_of) currency_signs_key place value

-- the signs of currencies in the file of the section at a place
unfoldable pub currency_signs_of : List ℕ → Data → Read (List (List ℕ))
currency_signs_of place value = currency_texts_of place value >>= λ texts. if_currencies place texts.items

-- how numbers are written
unfoldable pub numbers_of : List ℕ → Data → Read NumberForm
numbers_of place value = do
  decimal ← entry_of (word_of decimal_mark_word decimal_mark_all form.DecimalMark) decimal_key place value
  text ← entry_of text_of grouping_key place value
  grouping ← grouping_of place decimal text
  signs ← currency_signs_of place value
  Ok (record { decimal = decimal; grouping = grouping; signs = signs })

-- ---- The file.

-- how a file is written; fields that mean no value count without the blanks at their ends
unfoldable pub form_of : List ℕ → Data → Read FileForm
form_of place value = do
  encoding ← entry_of (word_of encoding_word encoding_all form.Encoding) encoding_key place value
  delimiter ← entry_of (word_of delimiter_word delimiter_all form.Delimiter) delimiter_key place value
  numbers ← numbers_of place value
  nothing ← entry_of (only_list_of text_of) nothing_key place value
  day ← entry_of day_of day_key place value
  optional ← entry_of (only_list_of text_of) optional_key place value
  Ok (record { encoding = encoding; delimiter = delimiter; numbers = numbers; nothing = map cut nothing.items; day = day; optional = optional.items })

-- the same, in a section of its own: the file has several tables
abbrev pub file_of : List ℕ → Data → Read FileForm
file_of place value = section_of file_of_tables_keys place value >>= λ _. form_of place value

-- the same, where it has one table, with what is said of that
abbrev pub file_of_one_table : List ℕ → Data → Read FileOfOneTable
file_of_one_table place value = do
  _ ← section_of file_keys place value
  file ← form_of place value
  header ← entry_of header_of header_key place value
  order ← entry_of (word_of order_word order_all form.Order) order_key place value
  turn ← entry_of (only_list_of turned_of) turn_key place value
  Ok (record { file = file; header = header; order = order; turn = turn.items })

-- the only table of a file, where these are its columns and kinds: each line is a row of it
abbrev pub only_table : FileOfOneTable → List Sources → List KindRule → Table
only_table file columns kinds = record { header = file.header; rows = []; order = file.order; columns = columns; turn = file.turn; kinds = kinds }
