-- The account that a profile names by pieces (docs/FORMATS.md, Profiles).
use Rattle.std.specs.Prelude.{ℕ, if◌then◌else◌, List, [], ◌∷◌, ◌++◌, Option, Some, Ok, Err}
use Rattle.std.specs.Option.{option_and_then, option_map}
use Rattle.lot_base.specs.Name.{is_account}
use Rattle.lot_profile.specs.declared.account.AccountRole.{AccountRole}
use Rattle.lot_profile.specs.declared.account.Piece.{Piece}
use Rattle.lot_profile.specs.declared.account.Piece.TheVariants as piece
use Rattle.lot_profile.specs.declared.role.Role.TheVariants as role
use Rattle.lot_sheet.specs.Sheet.{SheetRow}
use Rattle.lot_roles.specs.Names.{symbol_text_of}
use Rattle.lot_roles.specs.Parts.{text_of}
use Rattle.lot_roles.specs.Reading.{Read, ◌>>=◌, or_fault}
use Rattle.lot_roles.specs.Rules.{pieces_of}
use Rattle.lot_roles.specs.declared.fault.RowFault.TheVariants.{BadAccount, NoAccount}
use Rattle.lot_roles.specs.declared.rules.Rules.{Rules}

-- what a piece stands for, where the account at the broker, the currency and the symbol are these
abbrev pub piece_text : Option (List ℕ) → List ℕ → Option (List ℕ) → Piece → Option (List ℕ)
piece_text account currency symbol (piece.Text text) = Some text
piece_text account currency symbol piece.Account = account
piece_text account currency symbol piece.Currency = Some currency
piece_text account currency symbol piece.Symbol = symbol

-- the name that pieces make, one after another; none where a piece has no value
abbrev pub name_of : (Piece → Option (List ℕ)) → List Piece → Option (List ℕ)
name_of text [] = Some []
name_of text (piece ∷ pieces) =
    option_and_then (λ (front : List ℕ). option_map (λ (rest : List ℕ). front ++ rest) (name_of text pieces)) (text piece)

-- a name as an account
abbrev pub as_account : AccountRole → List ℕ → Read (List ℕ)
as_account role name = if is_account name then Ok name else Err (BadAccount role)

-- the account for something, where that currency is posted
unfoldable pub account_of : Rules → SheetRow → AccountRole → List ℕ → Read (List ℕ)
account_of rules row purpose currency =
    or_fault (NoAccount purpose) (pieces_of rules purpose) >>= λ pieces.
    or_fault (NoAccount purpose)
    (name_of (piece_text (text_of rules row role.Account) currency (symbol_text_of rules row)) pieces) >>= λ name.
    as_account purpose name
