-- The accounts that a profile names.
use Rattle.std.specs.Prelude.{ℕ, Bool, true, false, ◌==◌, ◌&&◌, if◌then◌else◌, List, [], ◌∷◌, length, drop, codes, Option, None, Some, option_map, Err}
use Rattle.std.specs.List.{before_first, flat_map, list_all}
use Rattle.std.specs.Option.{option_or}
use Rattle.toml.specs.Data.{Data, string}
use Rattle.lot_base.specs.Name.{is_account}
use Rattle.lot_field.specs.Field.{behind}
use Rattle.lot_profile.specs.declared.account.AccountOf.{AccountOf}
use Rattle.lot_profile.specs.declared.account.AccountRole.{AccountRole}
use Rattle.lot_profile.specs.declared.account.AccountRole.TheVariants.{Rounding}
use Rattle.lot_profile.specs.declared.account.Piece.{Piece}
use Rattle.lot_profile.specs.declared.account.Piece.TheVariants as piece
use Rattle.lot_profile_text.specs.declared.entry.Form.TheVariants as form
use Rattle.lot_profile_text.specs.declared.fault.ProfileFault.TheVariants.{Unknown, Wrong}
use Rattle.lot_profile_text.specs.Reading.{Read, below, named, or_wrong}
use Rattle.lot_profile_text.specs.Spelling.{parts_of}
use Rattle.lot_profile_text.specs.Words.{account_role_all, account_role_word}

-- ---- Pieces.

-- how a piece is written
abbrev pub piece_written : Piece → List ℕ
piece_written (piece.Text text) = text
piece_written piece.Account = codes "{account}"
piece_written piece.Currency = codes "{currency}"
piece_written piece.Symbol = codes "{symbol}"

abbrev pub is_brace : ℕ → Bool
is_brace byte = byte == 123

abbrev pub text_before : List ℕ → List ℕ → Option (Piece × List ℕ)
text_before [] text = None
text_before (byte ∷ more) text = Some (piece.Text (byte ∷ more), drop (length (byte ∷ more)) text)

-- the text before the first brace, where it isn't empty, and what stands behind it
abbrev pub first_text : List ℕ → Option (Piece × List ℕ)
first_text text = text_before (before_first is_brace text) text

-- that piece, where a text begins with it, and what stands behind it
abbrev pub first_if : Piece → List ℕ → Option (Piece × List ℕ)
first_if piece text = option_map (λ rest. (piece, rest)) (behind (piece_written piece) text)

-- the piece that a text begins with
abbrev pub first_piece : List ℕ → Option (Piece × List ℕ)
first_piece text =
    option_or (first_if piece.Account text) (option_or (first_if piece.Currency text)
    (option_or (first_if piece.Symbol text) (first_text text)))

-- ---- Accounts.

-- a piece with a component of an account in the place of what stands in braces
abbrev pub piece_filled : Piece → List ℕ
piece_filled (piece.Text text) = text
piece_filled _ = codes "X"

abbrev pub is_text : Piece → Bool
is_text (piece.Text text) = true
is_text _ = false

-- whether pieces come to an account; that of crumbs has no braces
abbrev pub names_account : AccountRole → List Piece → Bool
names_account Rounding pieces = is_account (flat_map piece_filled pieces) && list_all is_text pieces
names_account _ pieces = is_account (flat_map piece_filled pieces)

abbrev pub if_account : AccountRole → Option (List Piece) → Option AccountOf
if_account role None = None
if_account role (Some pieces) = if names_account role pieces then Some (record { role = role; pieces = pieces }) else None

-- the account for something that a text names
unfoldable pub account_in : AccountRole → List ℕ → Option AccountOf
account_in role text = if_account role (parts_of first_piece text)

abbrev pub account_said : List ℕ → AccountRole → Data → Read AccountOf
account_said place role (string text) = or_wrong form.Account place (account_in role text)
account_said place role value = Err (Wrong place form.Account)

abbrev pub account_if : List ℕ → Data → Option AccountRole → Read AccountOf
account_if place value None = Err (Unknown place)
account_if place value (Some role) = account_said place role value

-- what a key names an account for, and the account
abbrev pub account_of : List ℕ → List ℕ → Data → Read AccountOf
account_of place key value = account_if (below place key) value (named account_role_word account_role_all key)
