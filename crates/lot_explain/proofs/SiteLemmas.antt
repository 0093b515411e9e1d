-- Lines one after another, to that of a command or a posting.
use Rattle.std.specs.Prelude.{◌≡◌, ℕ, Bool, true, false, List, [], ◌∷◌, Option, None, Some, MatchOption, is_some, ◌&&◌}
use Rattle.std.proofs.Common.{refl, ap}
use Rattle.std.proofs.lemmas.Str.{IsUtf8-from_is_utf8, is_utf8-from_IsUtf8}
use Rattle.std.specs.Str.{IsUtf8, is_utf8}
use Rattle.lot_syntax.specs.Token.{Cuts, Lexeme}
use Rattle.lot_syntax.specs.Cutting.{cut_of}
use Rattle.lot_syntax.proofs.CutLemmas.{cuts_found, found_cuts}
use Rattle.lot_explain.specs.Site.{are_some, ends_at, first_at, found_at, has_tokens, kind_of, with_line}
use Rattle.lot_explain.specs.declared.site.Kind.{Kind}
use Rattle.lot_explain.specs.declared.site.Passed.{Passed}

-- ---- Tokens.

-- a line with tokens has some where there is a first one
pub some_first : {N : Type 0} (found : Option N) (head : N → Lexeme) (tail : N → List Lexeme) (tokens : List Lexeme)
    → MatchOption found (tokens ≡ []) (λ next. tokens ≡ head next ∷ tail next) → are_some (Some tokens) ≡ is_some found
some_first None head tail tokens h = ap (λ (ts : List Lexeme). are_some (Some ts)) h
some_first (Some next) head tail tokens h = ap (λ (ts : List Lexeme). are_some (Some ts)) h

pub tokens_of : (line : List ℕ) (tokens : List Lexeme) → IsUtf8 line → Cuts tokens line → has_tokens line ≡ are_some (Some tokens)
tokens_of line tokens utf8 cuts = rw (is_utf8-from_IsUtf8 line utf8, cuts_found tokens line cuts) refl

not_utf8 : (line : List ℕ) (utf8 : Bool) → is_utf8 line ≡ utf8 → (IsUtf8 line → ⊥) → utf8 ≡ false
not_utf8 line true e h = absurd (h (IsUtf8-from_is_utf8 line e))
not_utf8 line false e h = refl

pub none_in_bytes : (line : List ℕ) → (IsUtf8 line → ⊥) → has_tokens line ≡ false
none_in_bytes line h = rw (not_utf8 line (is_utf8 line) refl h) refl

uncut : (line : List ℕ) (cut : Option (List Lexeme)) (utf8 : Bool) → cut_of line ≡ cut
    → ((tokens : List Lexeme) → Cuts tokens line → ⊥) → utf8 && are_some cut ≡ false
uncut line None true e h = refl
uncut line None false e h = refl
uncut line (Some tokens) utf8 e h = absurd (h tokens (found_cuts tokens line e))

pub none_in_uncut : (line : List ℕ) → ((tokens : List Lexeme) → Cuts tokens line → ⊥) → has_tokens line ≡ false
none_in_uncut line h = uncut line (cut_of line) (is_utf8 line) refl h

-- ---- One line.

pub first_none : (command : ℕ) (posting : Option ℕ) (passed : Passed) (lines behind : List (List ℕ)) → lines ≡ [] → behind ≡ []
    → found_at passed behind None ≡ first_at command posting passed lines
unfolding first_at
first_none command posting passed lines behind e f = rw (e, f) refl

pub first_here : (command : ℕ) (posting : Option ℕ) (passed : Passed) (lines : List (List ℕ)) (line : List ℕ) (behind : List (List ℕ))
    (kind : Kind) (next : Passed) → lines ≡ line ∷ behind → kind ≡ kind_of line → next ≡ with_line kind passed
    → ends_at command posting kind next ≡ true
    → found_at next behind (Some (next.lines, line)) ≡ first_at command posting passed lines
unfolding first_at
first_here command posting passed lines line behind kind next e k n h =
    let ends = rw (n, k) at h in rw (e, n, k, ends) refl

pub first_behind : (command : ℕ) (posting : Option ℕ) (passed : Passed) (lines : List (List ℕ)) (line : List ℕ) (behind : List (List ℕ))
    (kind : Kind) (next : Passed) → lines ≡ line ∷ behind → kind ≡ kind_of line → next ≡ with_line kind passed
    → ends_at command posting kind next ≡ false
    → first_at command posting next behind ≡ first_at command posting passed lines
unfolding first_at
first_behind command posting passed lines line behind kind next e k n h =
    let ends = rw (n, k) at h in rw (e, n, k, ends) refl
