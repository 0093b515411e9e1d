-- Which numbers have a comma, wherever it stands in them: of a line of ledger text the first, of a broker file those of its columns
-- (docs/RULES.md, Notes on standard error).
use Rattle.std.specs.Prelude.{ℕ, ◌==◌, Bool, if◌then◌else◌, List, [], ◌∷◌, Option, None, Some}
use Rattle.std.specs.List.{list_any}
use Rattle.lot_import.specs.Row.{at_column}
use Rattle.lot_syntax.specs.Token.{Lexeme, date, mark, number, text, word}
use Rattle.lot_explain.specs.Site.{one_more}
use Rattle.lot_explain.specs.declared.commas.Column.{Column}
use Rattle.lot_explain.specs.declared.commas.Commas.{Commas}

abbrev pub has_comma : List ℕ → Bool
has_comma field = list_any (λ b. b == 44) field

-- ---- A line of ledger text.

-- what a token says, if it is a number with a comma
abbrev pub with_comma : Lexeme → Option (List ℕ)
with_comma (number bytes) = if has_comma bytes then Some bytes else None
with_comma (word bytes) = None
with_comma (date bytes) = None
with_comma (text within) = None
with_comma (mark m) = None

abbrev pub found_or : Option (List ℕ) → Option (List ℕ) → Option (List ℕ)
found_or (Some found) behind = Some found
found_or None behind = behind

-- the first number with a comma among tokens
abbrev pub first_with_comma : List Lexeme → Option (List ℕ)
first_with_comma [] = None
first_with_comma (token ∷ tokens) = found_or (with_comma token) (first_with_comma tokens)

-- ---- The columns of a broker file.

-- the first row with a comma in a column, and how many there are behind it, with one more row
abbrev pub found_behind : Option ℕ → ℕ → ℕ → Column
found_behind None more row = record { first = Some row; more = more }
found_behind (Some first) more row = record { first = Some first; more = one_more more }

abbrev pub found_at : ℕ → Column → Column
found_at row column = found_behind column.first column.more row

-- the same with one more row, which has that field there
abbrev pub with_field : ℕ → List ℕ → Column → Column
with_field row field column = if has_comma field then found_at row column else column

-- the same of the three columns, with the row of that number that a record says
abbrev pub with_record : ℕ → List (List ℕ) → Commas → Commas
with_record row written commas = record {
  units = with_field row (at_column written 4) commas.units;
  price = with_field row (at_column written 5) commas.price;
  fee = with_field row (at_column written 7) commas.fee;
}
