-- Lines that are cut: the tokens of one part of a line, and behind them those of the rest.
use Rattle.std.proofs.Common.{◌≡◌, ℕ, false, List, [], ◌∷◌, ◌++◌, refl, ap, sym, subst, append_assoc, inl, inr}
use Rattle.std.specs.List.{AllZip, flat_map, join_by}
use Rattle.std.proofs.lemmas.List.{append-nil}
use Rattle.lot_command.specs.Canonical.{in_quotes, joined}
use Rattle.lot_syntax.specs.Token.{Lexeme, word, text, mark, Cuts, Stands, begins, is_word_byte, spelled}
use Rattle.lot_syntax.specs.declared.token.Mark.TheVariants as Marks
use Rattle.lot_print.proofs.NameLemmas.{IsWord}

-- ---- One token.

-- the line has these tokens
pub record IsCut (tokens : List Lexeme) (line : List ℕ) : Type 0 where
  pub cuts : Cuts tokens line

-- the same tokens and bytes, grouped in another way
pub regrouped : {ts us : List Lexeme} {line other : List ℕ} → ts ≡ us → line ≡ other → IsCut ts line → IsCut us other
regrouped {ts} {us} {line} {other} e f cut = subst (λ (vs : List Lexeme). IsCut vs other) e (subst (IsCut ts) f cut)

-- a line without bytes has no token
pub no_token : IsCut [] []
no_token = record { cuts = ([], [], refl, inl refl) }

-- a token that stands at the front
pub token_first : (token : Lexeme) {tokens : List Lexeme} {rest : List ℕ} → Stands token rest → IsCut tokens rest
    → IsCut (token ∷ tokens) (spelled token ++ rest)
token_first token {tokens} {rest} stands cut = record { cuts = ([], rest, refl, stands, cut.cuts, refl) }

space_before : (tokens : List Lexeme) (line : List ℕ) → Cuts tokens line → Cuts tokens (32 ∷ line)
space_before [] line (blanks, comment, all, inl e) = (32 ∷ blanks, comment, all, inl (ap (λ xs. 32 ∷ xs) e))
space_before [] line (blanks, comment, all, inr e) = (32 ∷ blanks, comment, all, inr (ap (λ xs. 32 ∷ xs) e))
space_before (token ∷ tokens) line (blanks, rest, all, stands, cuts, e) =
    (32 ∷ blanks, rest, all, stands, cuts, ap (λ xs. 32 ∷ xs) e)

-- a space before the first token
pub space_first : {tokens : List Lexeme} {line : List ℕ} → IsCut tokens line → IsCut tokens (32 ∷ line)
space_first {tokens} {line} cut = record { cuts = space_before tokens line cut.cuts }

pub word_first : (most : ℕ) (bytes rest : List ℕ) (tokens : List Lexeme) → IsWord most bytes → begins is_word_byte rest ≡ false
    → IsCut tokens rest → IsCut (word bytes ∷ tokens) (bytes ++ rest)
word_first most bytes rest tokens is ends cuts = token_first (word bytes) (is.starts, is.goes_on, ends) cuts

-- a word at the end of a line
pub word_last : (most : ℕ) (bytes : List ℕ) → IsWord most bytes → IsCut (word bytes ∷ []) bytes
word_last most bytes is =
    regrouped refl (append-nil bytes) (word_first most bytes [] [] is refl no_token)

-- a text between quotes
pub text_first : (within rest : List ℕ) (tokens : List Lexeme) → Stands (text within) rest → IsCut tokens rest
    → IsCut (text within ∷ tokens) (in_quotes within ++ rest)
text_first within rest tokens stands cuts = token_first (text within) stands cuts

-- ---- Parts in a row, with a comma between each two.

-- The bytes of a part are its tokens wherever such a rest stands behind it.
abbrev pub PartStands : (List ℕ → Type 0) → List ℕ → List Lexeme → Type 0
PartStands Rest bytes part =
    (rest : List ℕ) (tokens : List Lexeme) → Rest rest → IsCut tokens rest → IsCut (part ++ tokens) (bytes ++ rest)

-- what separates two parts is a comma, perhaps with blanks behind it, and it may stand behind a part
pub record Separates (Rest : List ℕ → Type 0) (separator : List ℕ) : Type 0 where
  pub is_comma : (line : List ℕ) (tokens : List Lexeme) → IsCut tokens line
      → IsCut (mark Marks.Comma ∷ tokens) (separator ++ line)
  pub behind : (line : List ℕ) → Rest (separator ++ line)

pub comma_space : (Rest : List ℕ → Type 0) → ((line : List ℕ) → Rest (44 ∷ 32 ∷ line)) → Separates Rest (44 ∷ 32 ∷ [])
comma_space Rest behind = record {
  is_comma = λ line tokens cuts. token_first (mark Marks.Comma) tt (space_first cuts);
  behind = behind;
}

pub comma_alone : (Rest : List ℕ → Type 0) → ((line : List ℕ) → Rest (44 ∷ line)) → Separates Rest (44 ∷ [])
comma_alone Rest behind = record {
  is_comma = λ line tokens cuts. token_first (mark Marks.Comma) tt cuts;
  behind = behind;
}

-- a row of parts behind a first one
abbrev More : (List ℕ → Type 0) → List ℕ → List Lexeme → Type 0
More Rest line tokens = Rest line × IsCut tokens line

more_parts : {X : Type 0} (Rest : List ℕ → Type 0) (separator : List ℕ) (tokens_of : X → List Lexeme) → Separates Rest separator
    → (texts : List (List ℕ)) (parts : List X) → AllZip (λ bytes x. PartStands Rest bytes (tokens_of x)) texts parts
    → (rest : List ℕ) (tokens : List Lexeme) → Rest rest → IsCut tokens rest
    → More Rest (flat_map (λ bytes. separator ++ bytes) texts ++ rest)
    (flat_map (λ x. mark Marks.Comma ∷ [] ++ tokens_of x) parts ++ tokens)
more_parts Rest separator tokens_of s [] [] all rest tokens fits cuts = (fits, cuts)
more_parts Rest separator tokens_of s [] (x ∷ parts) all rest tokens fits cuts = absurd all
more_parts Rest separator tokens_of s (bytes ∷ texts) [] all rest tokens fits cuts = absurd all
more_parts Rest separator tokens_of s (bytes ∷ texts) (x ∷ parts) (stands, all) rest tokens fits cuts =
    let row = flat_map (λ bytes. separator ++ bytes) texts in
    let behind = flat_map (λ x. mark Marks.Comma ∷ [] ++ tokens_of x) parts in
    let more = more_parts Rest separator tokens_of s texts parts all rest tokens fits cuts in
    let first = stands (row ++ rest) (behind ++ tokens) more.0 more.1 in
    let comma = s.is_comma (bytes ++ (row ++ rest)) (tokens_of x ++ (behind ++ tokens)) first in
    let whole : separator ++ (bytes ++ (row ++ rest)) ≡ ((separator ++ bytes) ++ row) ++ rest = simp append_assoc in (
      subst Rest whole (s.behind (bytes ++ (row ++ rest))),
      regrouped (ap (λ ts. mark Marks.Comma ∷ ts) (sym (append_assoc (tokens_of x) behind tokens))) whole comma,
    )

-- parts in a row, of which there may be none
pub joined_parts : {X : Type 0} (Rest : List ℕ → Type 0) (separator : List ℕ) (tokens_of : X → List Lexeme)
    → Separates Rest separator → (texts : List (List ℕ)) (parts : List X)
    → AllZip (λ bytes x. PartStands Rest bytes (tokens_of x)) texts parts
    → (rest : List ℕ) (tokens : List Lexeme) → Rest rest → IsCut tokens rest
    → IsCut (join_by tokens_of (mark Marks.Comma ∷ []) parts ++ tokens) (joined separator texts ++ rest)
joined_parts Rest separator tokens_of s [] [] all rest tokens fits cuts = cuts
joined_parts Rest separator tokens_of s [] (x ∷ parts) all rest tokens fits cuts = absurd all
joined_parts Rest separator tokens_of s (bytes ∷ texts) [] all rest tokens fits cuts = absurd all
joined_parts Rest separator tokens_of s (bytes ∷ texts) (x ∷ parts) (stands, all) rest tokens fits cuts =
    let row = flat_map (λ bytes. separator ++ bytes) texts in
    let behind = flat_map (λ x. mark Marks.Comma ∷ [] ++ tokens_of x) parts in
    let more = more_parts Rest separator tokens_of s texts parts all rest tokens fits cuts in
    regrouped (sym (append_assoc (tokens_of x) behind tokens)) (sym (append_assoc bytes row rest))
    (stands (row ++ rest) (behind ++ tokens) more.0 more.1)
