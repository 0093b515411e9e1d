-- Which commodity may be meant by a text that is none (docs/RULES.md, Names).
use Rattle.std.specs.Prelude.{ℕ, nat_le, ◌==◌, ◌||◌, if◌then◌else◌, List, [], ◌∷◌, ◌++◌, length, Option, None, Some}
use Rattle.std.specs.Option.{option_to_list, unwrap_or}
use Rattle.std.specs.Char.{is_ascii_alphanumeric, is_ascii_digit, to_ascii_uppercase}
use Rattle.lot_base.specs.Name.{is_commodity, longest_commodity}

-- the mark for a byte that is neither a letter nor a digit: itself, where it may stand in a commodity (' . _ -), or else a point
abbrev pub mark_for : ℕ → ℕ
mark_for b = if ((b == 39) || (b == 46) || (b == 95) || (b == 45)) then b else 46

-- what stands between a name and its next letter or digit: an X before a digit at the start, or the mark that waits
abbrev pub between : List ℕ → Option ℕ → ℕ → List ℕ
between [] waiting b = if is_ascii_digit b then 88 ∷ [] else []
between (n ∷ name) waiting b = option_to_list waiting

-- A name, with a mark that waits, and the letters and digits of bytes behind it, as many as a commodity may have. Letters are capital
-- letters, and between two of them stands at most one mark, that for the first byte there.
abbrev pub name_of : List ℕ → Option ℕ → List ℕ → List ℕ
name_of name waiting [] = name
name_of name waiting (b ∷ bytes) =
    if is_ascii_alphanumeric b
    then (let longer = name ++ between name waiting b ++ to_ascii_uppercase b ∷ [] in
    if nat_le (length longer) longest_commodity then name_of longer None bytes else name)
    else name_of name (Some (unwrap_or waiting (mark_for b))) bytes

-- the commodity that may be meant by a text
abbrev pub commodity_of : List ℕ → Option (List ℕ)
commodity_of text = let name = name_of [] None text in if is_commodity name then Some name else None
