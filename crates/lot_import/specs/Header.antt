-- What a file that has a header begins with (docs/FORMATS.md, Broker files), as far as its bytes alone say.
use Rattle.std.specs.Prelude.{ℕ, Bool, true, false, ◌==◌, ◌&&◌, ◌||◌, if◌then◌else◌, IsTrue, List, [], ◌∷◌, codes}
use Rattle.csv.specs.Reading.{strip_bom}
use Rattle.lot_import.specs.declared.version.Version.{Version}
use Rattle.lot_import.specs.declared.version.Version.TheVariants.{First, Second}

-- a quote
abbrev pub quote : ℕ
quote = 34

-- whether a byte ends a line
abbrev pub ends_line : ℕ → Bool
ends_line byte = (byte == 13) || (byte == 10)

-- the columns of a version as its header has them, unquoted
abbrev pub header_text : Version → List ℕ
header_text First = codes "ref,date,action,symbol,units,price,currency,fee"
header_text Second = codes "ref,date,action,symbol,units,price,currency,fee,lot"

-- whether a text is at its end, at that of a line, or at a quote
abbrev pub may_end : List ℕ → Bool
may_end [] = true
may_end (first ∷ rest) = ends_line first || (first == quote)

-- whether the first line of a text is this one, or begins with a part of it and then a quote
abbrev pub may_say : List ℕ → List ℕ → Bool
may_say [] text = may_end text
may_say (byte ∷ more) [] = false
may_say (byte ∷ more) (first ∷ rest) = (first == quote) || ((first == byte) && may_say more rest)

-- whether that is so of the header of a version, behind empty lines
abbrev pub may_begin : List ℕ → Bool
may_begin [] = false
may_begin (first ∷ rest) =
    if ends_line first then may_begin rest
    else may_say (header_text First) (first ∷ rest) || may_say (header_text Second) (first ∷ rest)

-- The first line of the file, behind a byte order mark and empty lines, is a header, or begins with a part of one and then a
-- quote. The quote may quote the rest. No other file has a header.
abbrev pub MayHaveHeader : List ℕ → Type 0
MayHaveHeader bytes = IsTrue (may_begin (strip_bom bytes))
