-- What is written for a shell, and what a shell reads of it.
use Rattle.std.proofs.Common.{◌≡◌, ℕ, Bool, true, false, List, [], ◌∷◌, ◌++◌, length, Some, refl, ap, codes, arith, ◌<◌, ◌+◌, suc}
use Rattle.std.specs.Prelude.{◌==◌, ◌&&◌, option_map}
use Rattle.std.specs.List.{after_first, before_first, flat_map, list_all, position_or_len}
use Rattle.std.proofs.lemmas.Bool.{eqb-true}
use Rattle.lot_explain.specs.Shell.{in_quotes, in_single_quotes, is_plain, is_plain_byte, outside, quoted, rest_of, word_of}

-- whether the byte is a quote
abbrev pub is_quote : ℕ → Bool
is_quote b = b == 39

-- ---- writing

-- a text up to its first quote, that quote and the rest
pub up_to_quote : (text : List ℕ) → position_or_len is_quote text < length text
    → before_first is_quote text ++ (codes "'\\''" ++ flat_map in_single_quotes (after_first is_quote text)) ≡ flat_map in_single_quotes text
up_to_quote [] lt = absurd (omega (arith, lt))
up_to_quote (b ∷ bs) lt = go (up_to_quote bs) (is_quote b) refl
  where
    go : (position_or_len is_quote bs < length bs
        → before_first is_quote bs ++ (codes "'\\''" ++ flat_map in_single_quotes (after_first is_quote bs)) ≡ flat_map in_single_quotes bs)
        → (t : Bool) → is_quote b ≡ t
        → before_first is_quote (b ∷ bs) ++ (codes "'\\''" ++ flat_map in_single_quotes (after_first is_quote (b ∷ bs))) ≡ flat_map in_single_quotes (b ∷ bs)
    go more true e = rw e refl
    go more false e =
        let later : position_or_len is_quote bs < length bs = omega (arith, rw e at lt) in
        let p = position_or_len is_quote bs in
        let one : 1 + p ≡ suc p = omega arith in
        let two : suc p + 1 ≡ suc (p + 1) = omega arith in
        rw (e, one, two) (ap (λ (t : List ℕ). b ∷ t) (more later))

-- a text without a quote
pub no_quote : (text : List ℕ) → position_or_len is_quote text ≡ length text → flat_map in_single_quotes text ≡ text
no_quote [] none = refl
no_quote (b ∷ bs) none = go (no_quote bs) (is_quote b) refl
  where
    go : (position_or_len is_quote bs ≡ length bs → flat_map in_single_quotes bs ≡ bs) → (t : Bool) → is_quote b ≡ t → flat_map in_single_quotes (b ∷ bs) ≡ b ∷ bs
    go more true e = let bad : 0 ≡ length (b ∷ bs) = rw e at none in absurd (omega (arith, bad))
    go more false e =
        let later : position_or_len is_quote bs ≡ length bs = omega (arith, rw e at none) in
        rw e (ap (λ (t : List ℕ). b ∷ t) (more later))

-- ---- reading

-- text in single quotes
quotes_read : (text : List ℕ) → rest_of in_quotes (flat_map in_single_quotes text ++ 39 ∷ []) ≡ Some text
quotes_read [] = refl
quotes_read (b ∷ bs) = go (quotes_read bs) (is_quote b) refl
  where
    go : rest_of in_quotes (flat_map in_single_quotes bs ++ 39 ∷ []) ≡ Some bs → (t : Bool) → is_quote b ≡ t → rest_of in_quotes (flat_map in_single_quotes (b ∷ bs) ++ 39 ∷ []) ≡ Some (b ∷ bs)
    go more true e = rw (e, eqb-true b 39 e) (ap (option_map (λ (word : List ℕ). 39 ∷ word)) more)
    go more false e = rw (e, e) (ap (option_map (λ (word : List ℕ). b ∷ word)) more)

-- a plain byte is neither a quote nor a backslash
plain_is : (b other : ℕ) → is_plain_byte b ≡ true → is_plain_byte other ≡ false → (b == other) ≡ false
plain_is b other plain not_plain = go (b == other) refl
  where
    go : (t : Bool) → (b == other) ≡ t → (b == other) ≡ false
    go false e = e
    go true e = let same = eqb-true b other e in cc

-- text of plain bytes
plain_read : (text : List ℕ) → list_all is_plain_byte text ≡ true → rest_of outside text ≡ Some text
plain_read [] plain = refl
plain_read (b ∷ bs) plain = go (plain_read bs) (is_plain_byte b) refl
  where
    go : (list_all is_plain_byte bs ≡ true → rest_of outside bs ≡ Some bs) → (t : Bool) → is_plain_byte b ≡ t → rest_of outside (b ∷ bs) ≡ Some (b ∷ bs)
    go more false e = cc
    go more true e =
        let later : list_all is_plain_byte bs ≡ true = rw e at plain in
        rw (plain_is b 39 e refl, plain_is b 92 e refl, e) (ap (option_map (λ (word : List ℕ). b ∷ word)) (more later))

second_of : (a b : Bool) → (a && b) ≡ true → b ≡ true
second_of true b e = e
second_of false b e = cc

-- what is written for a shell
pub read_back : (text : List ℕ) → word_of (quoted text) ≡ Some text
read_back text = go (is_plain text) refl
  where
    go : (t : Bool) → is_plain text ≡ t → word_of (quoted text) ≡ Some text
    go true e = go_plain text e
      where
        go_plain : (text : List ℕ) → is_plain text ≡ true → word_of (quoted text) ≡ Some text
        go_plain [] e = cc
        go_plain (b ∷ bs) e = rw e (plain_read (b ∷ bs) (second_of _ _ e))
    go false e = rw e (quotes_read text)
