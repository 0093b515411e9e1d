-- Texts that grow piece by piece, and what is written of each number of a range.
use Rattle.std.proofs.Common.{◌≡◌, ℕ, zero, suc, ◌+◌, ◌<◌, length, take, get_or, Bool, true, false, cond, List, [], ◌∷◌, ◌++◌, ap, refl, sym, ◌∙◌, append-nil, append_assoc, filter, arith}
use Rattle.std.specs.List.{flat_map, range_with_len}
use Rattle.std.proofs.lemmas.Grind.{flat_map-append}
use Rattle.std.proofs.lemmas.List.{take_more}
use Rattle.std.proofs.lemmas.List.Elements.{filter-append}
use Rattle.lot_plot.specs.Plot.{all_of}

-- a text grows by pieces to the last one
abbrev pub Grows : List ℕ → List (List ℕ) → List ℕ → Type 0
Grows text [] last = last ≡ text
Grows text (piece ∷ pieces) last = (next : List ℕ) × (next ≡ text ++ piece) × Grows next pieces last

pub grown : (text : List ℕ) (pieces : List (List ℕ)) (last : List ℕ) → Grows text pieces last → last ≡ text ++ all_of pieces
grown text [] last is = is ∙ sym (append-nil text)
grown text (piece ∷ pieces) last (next, is, more) =
    grown next pieces last more ∙ ap (λ (t : List ℕ). t ++ all_of pieces) is ∙ append_assoc text piece (all_of pieces)

-- ---- lists

-- a text that has been written of the first elements, and is written of one more
pub one_more_of : {X : Type 0} (html : X → List ℕ) (xs : List X) (i : ℕ) (x : X) (first text next : List ℕ) → i < length xs
    → x ≡ get_or xs i x → text ≡ first ++ flat_map html (take i xs) → next ≡ text ++ html x
    → next ≡ first ++ flat_map html (take (i + 1) xs)
one_more_of {X} html xs i x first text next below item was is =
    let more : flat_map html (take (i + 1) xs) ≡ flat_map html (take i xs) ++ html x =
    ap (λ (ys : List X). flat_map html ys) (take_more xs i x below)
    ∙ flat_map-append html (take i xs) (get_or xs i x ∷ [])
    ∙ ap (λ (t : List ℕ). flat_map html (take i xs) ++ t) (append-nil (html (get_or xs i x)) ∙ ap html (sym item)) in
    is
    ∙ ap (λ (t : List ℕ). t ++ html x) was
    ∙ append_assoc first (flat_map html (take i xs)) (html x)
    ∙ ap (λ (t : List ℕ). first ++ t) (sym more)

-- ---- ranges

one_more : (first n : ℕ) → range_with_len first (suc n) ≡ range_with_len first n ++ (first + n) ∷ []
one_more first zero = ap (λ (k : ℕ). k ∷ []) (omega arith)
one_more first (suc n) =
    ap (λ (ks : List ℕ). first ∷ ks)
    (one_more (first + 1) n ∙ ap (λ (k : ℕ). range_with_len (first + 1) n ++ k ∷ []) (omega arith))

alone : (html : ℕ → List ℕ) (b : Bool) (n : ℕ) → flat_map html (cond b (n ∷ []) []) ≡ cond b (html n) []
alone html true n = append-nil (html n)
alone html false n = refl

-- what is written of the numbers that pass a test, and of one more
each_more : (html : ℕ → List ℕ) (test : ℕ → Bool) (n : ℕ)
    → flat_map html (filter test (range_with_len 0 (n + 1)))
    ≡ flat_map html (filter test (range_with_len 0 n)) ++ cond (test n) (html n) []
each_more html test n =
    let more : n + 1 ≡ suc n = omega arith in
    let last : 0 + n ≡ n = omega arith in
    ap (λ (k : ℕ). flat_map html (filter test (range_with_len 0 k))) more
    ∙ ap (λ (ks : List ℕ). flat_map html (filter test ks)) (one_more 0 n ∙ ap (λ (k : ℕ). range_with_len 0 n ++ k ∷ []) last)
    ∙ ap (flat_map html) (filter-append test (range_with_len 0 n) (n ∷ []))
    ∙ flat_map-append html (filter test (range_with_len 0 n)) (filter test (n ∷ []))
    ∙ ap (λ (t : List ℕ). flat_map html (filter test (range_with_len 0 n)) ++ t) (alone html (test n) n)

-- a text that has been written of the numbers below one, and is written of that one
pub one_more_written : (html : ℕ → List ℕ) (test : ℕ → Bool) (n : ℕ) (first text next : List ℕ)
    → text ≡ first ++ flat_map html (filter test (range_with_len 0 n)) → next ≡ text ++ cond (test n) (html n) []
    → next ≡ first ++ flat_map html (filter test (range_with_len 0 (n + 1)))
one_more_written html test n first text next was is =
    is
    ∙ ap (λ (t : List ℕ). t ++ cond (test n) (html n) []) was
    ∙ append_assoc first (flat_map html (filter test (range_with_len 0 n))) (cond (test n) (html n) [])
    ∙ ap (λ (t : List ℕ). first ++ t) (sym (each_more html test n))
