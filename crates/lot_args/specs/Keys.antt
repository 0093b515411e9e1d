-- What the rows of a table of gains are told apart by, as `--by` names it: a key, or several joined by commas, none of them twice
-- (docs/FORMATS.md, Gains by keys).
use Rattle.std.specs.Prelude.{if◌then◌else◌, ◌==◌, ◌&&◌, Bool, is_some, List, [], length, nat_lt, Option, Some, None, codes, filter, filter_map}
use Rattle.std.specs.List.{list_all, slice_split}
use Rattle.std.specs.Option.{option_map_or}
use Rattle.std.specs.Str.{bytes_eq}
use Rattle.clap.specs.Words.{Row, Text, first_of}
use Rattle.lot_tally.specs.declared.key.GainKey.{GainKey}
use Rattle.lot_tally.specs.declared.key.GainKey.TheVariants.{Account, Commodity, Term, Year}

-- the key of that name
abbrev pub key_named : Text → Option GainKey
key_named name =
    if bytes_eq name (codes "year") then Some Year
    else (if bytes_eq name (codes "commodity") then Some Commodity
    else (if bytes_eq name (codes "account") then Some Account
    else (if bytes_eq name (codes "term") then Some Term else None)))

-- the parts of a text between commas
abbrev pub parts_of : Text → List Text
parts_of text = slice_split (λ b. b == 44) text

-- whether each of them names a key
abbrev pub all_name_keys : Text → Bool
all_name_keys text = list_all (λ part. is_some (key_named part)) (parts_of text)

-- whether no two of them are that name
abbrev pub is_named_once : Text → Text → Bool
is_named_once text name = nat_lt (length (filter (λ part. bytes_eq part name) (parts_of text))) 2

-- whether no two of them name one key
abbrev pub names_none_twice : Text → Bool
names_none_twice text =
    is_named_once text (codes "year") && (is_named_once text (codes "commodity")
    && (is_named_once text (codes "account") && is_named_once text (codes "term")))

-- whether each of them names a key, and none that another one names
abbrev pub are_keys : Text → Bool
are_keys text = all_name_keys text && names_none_twice text

-- the keys that they name
abbrev pub keys_in : Text → List GainKey
keys_in text = filter_map key_named (parts_of text)

-- those of the option, none where it isn't given
abbrev pub keys_of : List Row → List GainKey
keys_of rows = option_map_or keys_in (first_of (codes "by") rows) []
