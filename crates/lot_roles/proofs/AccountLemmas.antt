-- The account that pieces name.
use Rattle.std.specs.Option.{option_and_then, option_map}
use Rattle.std.proofs.lemmas.List.{append-nil}
use Rattle.std.proofs.Common.{◌≡◌, ◌++◌, ◌∷◌, ◌∙◌, ℕ, List, [], Option, Some, None, append_assoc, ap, refl, sym}
use Rattle.lot_profile.specs.declared.account.AccountRole.{AccountRole}
use Rattle.lot_profile.specs.declared.account.Piece.{Piece}
use Rattle.lot_profile.specs.declared.role.Role.TheVariants as role
use Rattle.lot_sheet.specs.Sheet.{SheetRow}
use Rattle.lot_roles.specs.Accounts.{account_of, as_account, name_of, piece_text}
use Rattle.lot_roles.specs.Names.{symbol_text_of}
use Rattle.lot_roles.specs.Parts.{text_of}
use Rattle.lot_roles.specs.Rules.{pieces_of}
use Rattle.lot_roles.specs.declared.rules.Rules.{Rules}

-- the name that pieces make behind a beginning
abbrev pub name_behind : List ℕ → (Piece → Option (List ℕ)) → List Piece → Option (List ℕ)
name_behind before text [] = Some before
name_behind before text (piece ∷ pieces) = option_and_then (λ (more : List ℕ). name_behind (before ++ more) text pieces) (text piece)

behind_both : (before front : List ℕ) (name : Option (List ℕ))
    → option_map (λ (rest : List ℕ). (before ++ front) ++ rest) name ≡ option_map (λ (rest : List ℕ). before ++ rest) (option_map (λ (rest : List ℕ). front ++ rest) name)
behind_both before front None = refl
behind_both before front (Some rest) = ap (λ (name : List ℕ). Some name) (append_assoc before front rest)

with_piece : (text : Piece → Option (List ℕ)) (pieces : List Piece) (before : List ℕ) (said : Option (List ℕ))
    → ((start : List ℕ) → name_behind start text pieces ≡ option_map (λ (rest : List ℕ). start ++ rest) (name_of text pieces))
    → option_and_then (λ (more : List ℕ). name_behind (before ++ more) text pieces) said
    ≡ option_map (λ (rest : List ℕ). before ++ rest) (option_and_then (λ (front : List ℕ). option_map (λ (rest : List ℕ). front ++ rest) (name_of text pieces)) said)
with_piece text pieces before None others = refl
with_piece text pieces before (Some front) others = others (before ++ front) ∙ behind_both before front (name_of text pieces)

behind_is : (text : Piece → Option (List ℕ)) (pieces : List Piece) (before : List ℕ)
    → name_behind before text pieces ≡ option_map (λ (rest : List ℕ). before ++ rest) (name_of text pieces)
behind_is text [] before = ap (λ (name : List ℕ). Some name) (sym (append-nil before))
behind_is text (piece ∷ pieces) before = with_piece text pieces before (text piece) (λ start. behind_is text pieces start)

whole : (name : Option (List ℕ)) → option_map (λ (rest : List ℕ). [] ++ rest) name ≡ name
whole None = refl
whole (Some rest) = refl

-- the whole name is behind nothing
pub behind_nothing : (text : Piece → Option (List ℕ)) (pieces : List Piece) → name_of text pieces ≡ name_behind [] text pieces
behind_nothing text pieces = sym (behind_is text pieces [] ∙ whole (name_of text pieces))

pub account_is : (rules : Rules) (row : SheetRow) (purpose : AccountRole) (currency : List ℕ) (pieces : List Piece) (account symbol : Option (List ℕ)) (name : List ℕ)
    → pieces_of rules purpose ≡ Some pieces → text_of rules row role.Account ≡ account → symbol_text_of rules row ≡ symbol
    → name_of (piece_text account currency symbol) pieces ≡ Some name
    → account_of rules row purpose currency ≡ as_account purpose name
unfolding account_of
account_is rules row purpose currency pieces account symbol name p t s n = rw p (rw t (rw s (rw n refl)))
