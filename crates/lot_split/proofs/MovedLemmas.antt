-- The units that postings move, one posting after another.
use Rattle.std.proofs.Common.{◌≡◌, ◌≢◌, ◌∙◌, ℕ, ◌+◌, ◌-◌, ◌<◌, ◌≤◌, ◌/◌, true, false, cond, None, Some, List, [], ◌∷◌, ◌++◌, length, get_or, take, drop, ℤ, pos, ◌+ℤ◌, refl, sym, ap, arith}
use Rattle.std.specs.Prelude.{Bool, find}
use Rattle.std.proofs.lemmas.Int.{ints}
use Rattle.std.proofs.lemmas.List.{append-nil, drop-append-le, drop_all, length-append, take-append-le, take_all}
use Rattle.std.proofs.lemmas.List.Elements.{filter-append}
use Rattle.lot_command.specs.declared.transaction.Posting.{Posting}
use Rattle.lot_split.specs.Form.{count_taking, fits_each, moves_lots, moving, units_in, units_of}
use Rattle.lot_split.specs.declared.transaction.Split.{Split}
use Rattle.lot_split.proofs.ListLemmas.{next_taken}

units_more : (postings : List Posting) (posting : Posting) → units_in (postings ++ posting ∷ []) ≡ units_in postings +ℤ units_of posting.amount
units_more [] p = omega (arith, ints)
units_more (first ∷ ps) p = omega (arith, ints, units_more ps p)

-- what is taken and opened of some postings, of which the first so many take
pub record AreMoved (taking : ℕ) (moved : List Posting) (rest : ℕ) (first others : ℤ) : Type 0 where
  pub left : rest ≡ taking - length moved
  pub taken : first ≡ units_in (take taking moved)
  pub opened : others ≡ units_in (drop taking moved)

pub nothing_moved : (taking : ℕ) → AreMoved taking [] taking (pos 0) (pos 0)
nothing_moved taking = record {
  left = omega arith;
  taken = sym (ap (λ (ps : List Posting). units_in ps) (take_all taking [] (omega arith)));
  opened = sym (ap (λ (ps : List Posting). units_in ps) (drop_all taking [] (omega arith)));
}

pub moved_so : (taking : ℕ) (moved : List Posting) (rest left : ℕ) (first taken others opened : ℤ) → AreMoved taking moved left taken opened
    → rest ≡ left → first ≡ taken → others ≡ opened → AreMoved taking moved rest first others
moved_so taking moved rest left first taken others opened are one two three = record {
  left = one ∙ are.left;
  taken = two ∙ are.taken;
  opened = three ∙ are.opened;
}

module _ (asked : Split) (taking : ℕ) (postings : List Posting) (i : ℕ) (posting : Posting) (below : i < length postings)
    (is : posting ≡ get_or postings i posting) (left : ℕ) (taken opened : ℤ)
    (moved : AreMoved taking (moving asked (take i postings)) left taken opened) where
  abbrev before : List Posting
  before = moving asked (take i postings)

  more : moving asked (take (i + 1) postings) ≡ before ++ cond (moves_lots asked posting) (posting ∷ []) []
  more = ap (λ (ps : List Posting). moving asked ps) (next_taken postings i posting below is) ∙ filter-append (moves_lots asked) (take i postings) (posting ∷ [])

  behind : moves_lots asked posting ≡ true → moving asked (take (i + 1) postings) ≡ before ++ posting ∷ []
  behind moves = more ∙ ap (λ b. before ++ cond b (posting ∷ []) []) moves

  pub stays_moved : moves_lots asked posting ≡ false → AreMoved taking (moving asked (take (i + 1) postings)) left taken opened
  stays_moved moves =
      let same : moving asked (take (i + 1) postings) ≡ before = more ∙ ap (λ b. before ++ cond b (posting ∷ []) []) moves ∙ append-nil before in
      rw same moved

  -- one more where all are taken is opened
  pub one_opened : moves_lots asked posting ≡ true → left ≡ 0
      → AreMoved taking (moving asked (take (i + 1) postings)) left taken (opened +ℤ units_of posting.amount)
  one_opened moves none =
      let count : taking ≤ length before = omega (arith, moved.left) in
      let longer : length (before ++ posting ∷ []) ≡ length before + 1 = length-append before (posting ∷ []) in
      let all = behind moves in
      rw all (record {
        left = omega (arith, moved.left, longer);
        taken = moved.taken ∙ ap (λ (ps : List Posting). units_in ps) (sym (take-append-le taking before (posting ∷ []) count));
        opened = ap (λ z. z +ℤ units_of posting.amount) moved.opened
            ∙ sym (units_more (drop taking before) posting)
            ∙ ap (λ (ps : List Posting). units_in ps) (sym (drop-append-le taking before (posting ∷ []) count));
      })

  -- before that it is taken
  pub one_taken : moves_lots asked posting ≡ true → left ≢ 0
      → AreMoved taking (moving asked (take (i + 1) postings)) (left - 1) (taken +ℤ units_of posting.amount) opened
  one_taken moves some =
      let longer : length (before ++ posting ∷ []) ≡ length before + 1 = length-append before (posting ∷ []) in
      let count : length before ≤ taking = omega (arith, moved.left) in
      let fits : length (before ++ posting ∷ []) ≤ taking = omega (arith, moved.left, longer) in
      let all = behind moves in
      rw all (record {
        left = omega (arith, moved.left, longer);
        taken = ap (λ z. z +ℤ units_of posting.amount) (moved.taken ∙ ap (λ (ps : List Posting). units_in ps) (take_all taking before count))
            ∙ sym (units_more before posting)
            ∙ ap (λ (ps : List Posting). units_in ps) (sym (take_all taking (before ++ posting ∷ []) fits));
        opened = moved.opened ∙ ap (λ (ps : List Posting). units_in ps) (drop_all taking before count ∙ sym (drop_all taking (before ++ posting ∷ []) fits));
      })

-- ---- how many take

module _ (asked : Split) where
  found_at : (p : Posting) (ps : List Posting) (b : Bool) → moves_lots asked p ≡ b → find (moves_lots asked) (p ∷ ps) ≡ cond b (Some p) (find (moves_lots asked) ps)
  found_at p ps b moves = ap (λ c. cond c (Some p) (find (moves_lots asked) ps)) moves

  moving_at : (p : Posting) (ps : List Posting) (b : Bool) → moves_lots asked p ≡ b → moving asked (p ∷ ps) ≡ cond b (p ∷ moving asked ps) (moving asked ps)
  moving_at p ps b moves = ap (λ c. cond c (p ∷ moving asked ps) (moving asked ps)) moves

  found_first : (postings : List Posting) (first : Posting) → find (moves_lots asked) postings ≡ Some first
      → (others : List Posting) × (moving asked postings ≡ first ∷ others)
  found_first [] first found = cc
  found_first (p ∷ ps) first found = by (moves_lots asked p) refl (found_first ps first)
    where
      by : (b : Bool) → moves_lots asked p ≡ b
          → (find (moves_lots asked) ps ≡ Some first → (others : List Posting) × (moving asked ps ≡ first ∷ others))
          → (others : List Posting) × (moving asked (p ∷ ps) ≡ first ∷ others)
      by true moves rest =
          let same : Some p ≡ Some first = sym (found_at p ps true moves) ∙ found in
          let one : p ≡ first = cc in
          (moving asked ps, moving_at p ps true moves ∙ ap (λ q. q ∷ moving asked ps) one)
      by false moves rest =
          let later = rest (sym (found_at p ps false moves) ∙ found) in
          (later.0, moving_at p ps false moves ∙ later.1)

  found_none : (postings : List Posting) → find (moves_lots asked) postings ≡ None → moving asked postings ≡ []
  found_none [] none = refl
  found_none (p ∷ ps) none = by (moves_lots asked p) refl (found_none ps)
    where
      by : (b : Bool) → moves_lots asked p ≡ b → (find (moves_lots asked) ps ≡ None → moving asked ps ≡ []) → moving asked (p ∷ ps) ≡ []
      by true moves rest = let contrary : Some p ≡ None = sym (found_at p ps true moves) ∙ none in cc
      by false moves rest = moving_at p ps false moves ∙ rest (sym (found_at p ps false moves) ∙ none)

  pub count_first : (postings : List Posting) (first : Posting) → find (moves_lots asked) postings ≡ Some first
      → fits_each first.amount ≡ true → count_taking (moving asked postings) ≡ 1
  count_first postings first found fits =
      let are = found_first postings first found in
      ap count_taking are.1 ∙ ap (λ b. cond b 1 (length (first ∷ are.0) / 2)) fits

  pub count_half : (postings : List Posting) (first : Posting) → find (moves_lots asked) postings ≡ Some first
      → fits_each first.amount ≡ false → count_taking (moving asked postings) ≡ length (moving asked postings) / 2
  count_half postings first found fits =
      let are = found_first postings first found in
      ap count_taking are.1 ∙ ap (λ b. cond b 1 (length (first ∷ are.0) / 2)) fits ∙ ap (λ (ps : List Posting). length ps / 2) (sym are.1)

  pub count_none : (postings : List Posting) → find (moves_lots asked) postings ≡ None
      → count_taking (moving asked postings) ≡ length (moving asked postings) / 2
  count_none postings none =
      let are = found_none postings none in
      ap count_taking are ∙ ap (λ (ps : List Posting). length ps / 2) (sym are)
