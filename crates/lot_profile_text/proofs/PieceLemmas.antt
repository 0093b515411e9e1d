-- The pieces of a text, as they are written, are the text.
use Rattle.std.proofs.Common.{◌≡◌, ℕ, zero, suc, Bool, true, false, List, [], ◌∷◌, ◌++◌, length, take, drop, Option, Some, None, refl, ap, ◌∙◌, inl, inr}
use Rattle.std.specs.Prelude.{flat_map, option_and_then, option_map}
use Rattle.std.specs.List.{before_first, position_or_len}
use Rattle.lot_field.proofs.DayLemmas.{behind-is}
use Rattle.lot_field.specs.Field.{behind}
use Rattle.lot_profile.specs.declared.account.AccountOf.{AccountOf}
use Rattle.lot_profile.specs.declared.account.AccountRole.{AccountRole}
use Rattle.lot_profile.specs.declared.account.Piece.{Piece}
use Rattle.lot_profile.specs.declared.account.Piece.TheVariants.{Account, Currency, Symbol, Text}
use Rattle.lot_profile_text.proofs.DayLemmas.{or-cases}
use Rattle.lot_profile_text.specs.Accounts.{account_in, first_if, first_piece, first_text, if_account, is_brace, names_account, piece_written, text_before}
use Rattle.lot_profile_text.specs.Spelling.{parts_of, parts_within}

same-read : (one other : Piece × List ℕ) → Some one ≡ Some other → one ≡ other
same-read one other e = cc e

if-is : (piece p : Piece) (text rest : List ℕ) → first_if piece text ≡ Some (p, rest) → text ≡ piece_written p ++ rest
if-is piece p text rest e = go (behind (piece_written piece) text) refl e
  where
    go : (r : Option (List ℕ)) → behind (piece_written piece) text ≡ r
        → option_map {U = Piece × List ℕ} (λ (left : List ℕ). (piece, left)) r ≡ Some (p, rest) → text ≡ piece_written p ++ rest
    go None is e = cc e
    go (Some found) is e =
        let read = same-read (piece, found) (p, rest) e in
        behind-is (piece_written piece) text found is ∙ ap (λ (q : Piece × List ℕ). piece_written q.0 ++ q.1) read

front : (n : ℕ) (text : List ℕ) → text ≡ take n text ++ drop (length (take n text)) text
front zero [] = refl
front zero (b ∷ text) = refl
front (suc n) [] = refl
front (suc n) (b ∷ text) = ap (λ (t : List ℕ). b ∷ t) (front n text)

text-is : (p : Piece) (text rest : List ℕ) → first_text text ≡ Some (p, rest) → text ≡ piece_written p ++ rest
text-is p text rest e = go (before_first is_brace text) refl e
  where
    go : (before : List ℕ) → before_first is_brace text ≡ before → text_before before text ≡ Some (p, rest) → text ≡ piece_written p ++ rest
    go [] is e = cc e
    go (byte ∷ more) is e =
        let read = same-read (Text (byte ∷ more), drop (length (byte ∷ more)) text) (p, rest) e in
        let whole : text ≡ before_first is_brace text ++ drop (length (before_first is_brace text)) text = front (position_or_len is_brace text) text in
        whole ∙ ap (λ (t : List ℕ). t ++ drop (length t) text) is ∙ ap (λ (q : Piece × List ℕ). piece_written q.0 ++ q.1) read

first-is : (p : Piece) (text rest : List ℕ) → first_piece text ≡ Some (p, rest) → text ≡ piece_written p ++ rest
first-is p text rest e =
    elim (or-cases (first_if Account text) _ (p, rest) e) [
      | inl a ↦ if-is Account p text rest a
      | inr a ↦
          elim (or-cases (first_if Currency text) _ (p, rest) a) [
            | inl b ↦ if-is Currency p text rest b
            | inr b ↦
                elim (or-cases (first_if Symbol text) _ (p, rest) b) [
                  | inl d ↦ if-is Symbol p text rest d
                  | inr d ↦ text-is p text rest d
                ]
          ]
    ]

abbrev AllWritten : ℕ → Type 0
AllWritten n = (rest : List ℕ) (ps : List Piece) → parts_within first_piece n rest ≡ Some ps → rest ≡ flat_map piece_written ps

some-pieces : (one other : List Piece) → Some one ≡ Some other → one ≡ other
some-pieces one other e = cc e

written : (n : ℕ) (text : List ℕ) (pieces : List Piece) → parts_within first_piece n text ≡ Some pieces → text ≡ flat_map piece_written pieces
written zero [] pieces e = ap (λ (ps : List Piece). flat_map piece_written ps) (some-pieces [] pieces e)
written zero (b ∷ text) pieces e = cc e
written (suc n) [] pieces e = ap (λ (ps : List Piece). flat_map piece_written ps) (some-pieces [] pieces e)
written (suc n) (b ∷ text) pieces e = go (written n) (first_piece (b ∷ text)) refl e
  where
    with : AllWritten n → (p : Piece) (rest : List ℕ) → first_piece (b ∷ text) ≡ Some (p, rest) → (r : Option (List Piece))
        → parts_within first_piece n rest ≡ r
        → option_map (λ (ps : List Piece). p ∷ ps) r ≡ Some pieces → b ∷ text ≡ flat_map piece_written pieces
    with all p rest found None more e = cc e
    with all p rest found (Some ps) more e =
        first-is p (b ∷ text) rest found ∙ ap (λ (t : List ℕ). piece_written p ++ t) (all rest ps more)
        ∙ ap (λ (qs : List Piece). flat_map piece_written qs) (some-pieces (p ∷ ps) pieces e)

    go : AllWritten n → (r : Option (Piece × List ℕ)) → first_piece (b ∷ text) ≡ r
        → option_and_then (λ (read : Piece × List ℕ). option_map (λ (ps : List Piece). read.0 ∷ ps) (parts_within first_piece n read.1)) r ≡ Some pieces
        → b ∷ text ≡ flat_map piece_written pieces
    go all None found e = cc e
    go all (Some (p, rest)) found e = with all p rest found (parts_within first_piece n rest) refl e

-- the pieces of an account are its text
pub account-written : (role : AccountRole) (text : List ℕ) (account : AccountOf) → account_in role text ≡ Some account
    → text ≡ flat_map piece_written account.pieces
unfolding account_in
account-written role text account e = go (parts_of first_piece text) refl e
  where
    some-account : (one other : AccountOf) → Some one ≡ Some other → one ≡ other
    some-account one other e = cc e

    with : (pieces : List Piece) → text ≡ flat_map piece_written pieces → (names : Bool) → names_account role pieces ≡ names
        → if_account role (Some pieces) ≡ Some account → text ≡ flat_map piece_written account.pieces
    with pieces is true names e =
        let found : Some (record { role = role; pieces = pieces }) ≡ Some account = rw names at e in
        is ∙ ap (λ (a : AccountOf). flat_map piece_written a.pieces) (some-account (record { role = role; pieces = pieces }) account found)
    with pieces is false names e = let never : ◌≡◌ {A = Option AccountOf} None (Some account) = rw names at e in cc never

    go : (r : Option (List Piece)) → parts_of first_piece text ≡ r → if_account role r ≡ Some account → text ≡ flat_map piece_written account.pieces
    go None found e = cc e
    go (Some pieces) found e = with pieces (written (length text) text pieces found) (names_account role pieces) refl e
