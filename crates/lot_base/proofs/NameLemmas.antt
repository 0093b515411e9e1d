-- The components of an account, as its text is cut at its first colon.
use Rattle.std.proofs.Common.{◌≡◌, ℕ, ◌<◌, Bool, true, false, List, [], ◌∷◌, length, refl}
use Rattle.std.specs.Prelude.{◌&&◌, ◌==◌, cond}
use Rattle.std.specs.List.{list_all, onto_first, position_or_len, before_first, after_first}
use Rattle.std.proofs.lemmas.List.Splits.{slice_split_first}
use Rattle.lot_base.proofs.SplitLemmas.{slice_split-whole}
use Rattle.lot_base.specs.Name.{components, is_account_path, is_component, is_root}

-- a text with no colon is one component
pub components-whole : (text : List ℕ) → position_or_len (λ b. b == 58) text ≡ length text → components text ≡ text ∷ []
components-whole text h = slice_split-whole (λ b. b == 58) text 0 h

-- else the first component ends at the first colon
pub components-cut : (text root rest : List ℕ) → root ≡ before_first (λ b. b == 58) text
    → rest ≡ after_first (λ b. b == 58) text → position_or_len (λ b. b == 58) text < length text
    → components text ≡ root ∷ components rest
components-cut text root rest e f h = rw (e, f) (slice_split_first (λ b. b == 58) text 0 h)

-- a component put on a list of them
some_parts : (b : ℕ) (colon : Bool) (parts : List (List ℕ)) (root : List ℕ)
    → is_account_path (root ∷ cond colon ([] ∷ parts) (onto_first b parts))
    ≡ (is_root root && list_all is_component (cond colon ([] ∷ parts) (onto_first b parts)))
some_parts b true parts root = refl
some_parts b false [] root = refl
some_parts b false (part ∷ parts) root = refl

-- whatever stands after the first colon is one component or more
pub is_account_path-cut : (root rest : List ℕ)
    → is_account_path (root ∷ components rest) ≡ (is_root root && list_all is_component (components rest))
is_account_path-cut root [] = refl
is_account_path-cut root (b ∷ rest) = some_parts b (b == 58) (components rest) root
