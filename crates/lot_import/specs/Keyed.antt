-- The commands of the rows of a file, each under its key (docs/RULES.md, Keys and repeats).
use Rattle.std.specs.Prelude.{◌≡◌, ℕ, Bool, false, not, ◌&&◌, nat_le, ◌+◌, List, [], ◌∷◌, ◌++◌, filter, length, map, Option, ⊤}
use Rattle.std.specs.List.{AllZip, enumerate_from, list_any}
use Rattle.lot_base.specs.Text.{same_text}
use Rattle.lot_command.specs.declared.key.Key.{Key}
use Rattle.lot_import.specs.Deal.{HasCash, IsAskedOf}
use Rattle.lot_import.specs.declared.accounts.Accounts.{Accounts}
use Rattle.lot_import.specs.declared.row.Row.{Row}
use Rattle.lot_rounding.specs.declared.asked.Asked.{Asked}

-- the key of a row of a source
abbrev pub key_of : List ℕ → Row → Key
key_of source row = record { source = source; name = row.name }

-- a row as it is handed in, under its key
abbrev pub IsKeyed : List ℕ → Accounts → Option ℕ → Row → Key × Asked → Type 0
IsKeyed source accounts decimals row keyed = (keyed.0 ≡ key_of source row) × IsAskedOf accounts decimals row keyed.1

-- rows, in their order
abbrev pub AreKeyed : List ℕ → Accounts → Option ℕ → List Row → List (Key × Asked) → Type 0
AreKeyed source accounts decimals = AllZip (IsKeyed source accounts decimals)

-- whether a row is left out: its `ref` is one of those
abbrev pub is_left_out : List (List ℕ) → Row → Bool
is_left_out except row = list_any (λ name. same_text name row.name) except

-- the rows that aren't left out
abbrev pub remaining : List (List ℕ) → List Row → List Row
remaining except = filter (λ row. not (is_left_out except row))

-- whether the row of a number gives a command: it has that number at least, and isn't left out
abbrev pub is_taken : ℕ → List (List ℕ) → ℕ × Row → Bool
is_taken from except numbered = nat_le from numbered.0 && not (is_left_out except numbered.1)

-- The rows from that number on that aren't left out, each with its number. Of all rows the first has the number 1.
abbrev pub remaining_from : ℕ → List (List ℕ) → List Row → List (ℕ × Row)
remaining_from from except rows = filter (is_taken from except) (enumerate_from 1 rows)

-- each of the rows has cash
abbrev pub HaveCash : Option ℕ → List Row → Type 0
HaveCash decimals [] = ⊤
HaveCash decimals (row ∷ rows) = HasCash decimals row × HaveCash decimals rows

-- What is given of rows: the numbers and the commands of those from that number on that aren't left out, one by one. Each row
-- that isn't left out has cash.
pub record AreKeyedFrom (source : List ℕ) (accounts : Accounts) (decimals : Option ℕ) (from : ℕ) (except : List (List ℕ))
    (rows : List Row) (given : List ℕ × List (Key × Asked)) : Type 0 where
  pub have_cash : HaveCash decimals (remaining except rows)
  pub numbers : given.0 ≡ map (λ numbered. numbered.0) (remaining_from from except rows)
  pub commands : AreKeyed source accounts decimals (map (λ numbered. numbered.1) (remaining_from from except rows)) given.1

-- the first row that isn't left out and has no cash is that one, counted from 1 among all
pub record HasInexactRow (decimals : Option ℕ) (except : List (List ℕ)) (rows : List Row) (number : ℕ) : Type 0 where
  pub before : List Row
  pub row : Row
  pub after : List Row
  pub all : rows ≡ before ++ row ∷ after
  pub earlier : HaveCash decimals (remaining except before)
  pub remains : is_left_out except row ≡ false
  pub inexact : HasCash decimals row → ⊥
  pub place : number ≡ length before + 1
