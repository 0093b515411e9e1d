-- The rows of a file one after another: their cash, and their commands under their keys, with their numbers.
use Rattle.std.proofs.Common.{◌≡◌, ◌∙◌, ◌⊎◌, inl, inr, ℕ, zero, suc, ◌+◌, ◌<◌, ◌≤◌, Bool, true, false, cond, not, ◌&&◌, nat_le, filter, IsTrue, List, [], ◌∷◌, ◌++◌, length, get_or, map, take, drop, refl, sym, ap, subst, arith, append-nil, length-append, length-take, take-append-drop, drop-cons}
use Rattle.std.proofs.lemmas.List.{map-append, take_more}
use Rattle.std.proofs.lemmas.List.Elements.{All-nil, All-push, filter-append}
use Rattle.std.proofs.lemmas.Slice.Zip.{all_zipped_more}
use Rattle.std.proofs.lemmas.Option.{none-some, same_Some}
use Rattle.std.specs.List.{All, AllWithin, HoldsAt, enumerate_from}
use Rattle.std.specs.Prelude.{Option, Some, None, IfNone, MatchOption}
use Rattle.lot_command.specs.declared.key.Key.{Key}
use Rattle.lot_import.specs.Deal.{HasCash}
use Rattle.lot_import.specs.Keyed.{AreKeyed, HasInexactRow, HaveCash, IsKeyed, is_left_out, is_taken, remaining, remaining_from}
use Rattle.lot_import.specs.declared.accounts.Accounts.{Accounts}
use Rattle.lot_import.specs.declared.row.Row.{Row}
use Rattle.lot_rounding.specs.declared.asked.Asked.{Asked}

-- ---- Cash.

not_true : (b : Bool) → (IsTrue b → ⊥) → b ≡ false
not_true true untrue = absurd (untrue refl)
not_true false untrue = refl

module _ (decimals : Option ℕ) (except : List (List ℕ)) where
  -- a row is left out, or has cash
  abbrev pub Passes : Row → Type 0
  Passes row = IsTrue (is_left_out except row) ⊎ HasCash decimals row

  -- the rows that aren't left out have cash, where it is known whether the first one is
  abbrev Have : Row → List Row → Bool → Type 0
  Have row rows out = HaveCash decimals (cond (not out) (row ∷ remaining except rows) (remaining except rows))

  -- a row that passes, and others
  with_row : (row : Row) (rows : List Row) → Passes row → HaveCash decimals (remaining except rows) → HaveCash decimals (remaining except (row ∷ rows))
  with_row row rows (inl out) have = subst (Have row rows) (sym out) have
  with_row row rows (inr has) have = elim (is_left_out except row) as (Have row rows) [ true ↦ have | false ↦ (has, have) ]

  others : (row : Row) (rows : List Row) → HaveCash decimals (remaining except (row ∷ rows)) → HaveCash decimals (remaining except rows)
  others row rows have =
      elim (is_left_out except row) as (λ out. Have row rows out → HaveCash decimals (remaining except rows)) [
        | true ↦ λ h. h
        | false ↦ λ h. h.1
      ] have

  first : (row : Row) (rows : List Row) → is_left_out except row ≡ false → HaveCash decimals (remaining except (row ∷ rows)) → HasCash decimals row
  first row rows kept have = let h : Have row rows false = subst (Have row rows) kept have in h.0

  -- the row at a place among those that have cash or are left out
  pub cash_at : (rows : List Row) (i : ℕ) (row : Row) → HaveCash decimals (remaining except rows) → i < length rows → row ≡ get_or rows i row
      → is_left_out except row ≡ false → HasCash decimals row
  cash_at [] i row have lt is kept = absurd (omega (arith, lt))
  cash_at (r ∷ rows) zero row have lt is kept =
      subst (HasCash decimals) (sym is) (first r rows (ap (is_left_out except) (sym is) ∙ kept) have)
  cash_at (r ∷ rows) (suc i) row have lt is kept = cash_at rows i row (others r rows have) (omega (arith, lt)) is kept

  abbrev Fails : Row → Type 0
  Fails row = Passes row → ⊥

  all_have : (rows : List Row) → AllWithin Passes rows 0 (length rows) → HaveCash decimals (remaining except rows)
  all_have [] h = tt
  all_have (r ∷ rows) h = with_row r rows (h 0 r (omega arith) (omega arith)) (all_have rows (λ k d low lt. h (suc k) d (omega arith) (omega (arith, lt))))

  these_have : (rows : List Row) (i : ℕ) → i ≤ length rows → AllWithin Passes rows 0 i → HaveCash decimals (remaining except (take i rows))
  these_have [] zero le h = tt
  these_have [] (suc i) le h = tt
  these_have (r ∷ rows) zero le h = tt
  these_have (r ∷ rows) (suc i) le h =
      with_row r (take i rows) (h 0 r (omega arith) (omega arith))
      (these_have rows i (omega (arith, le)) (λ k d low lt. h (suc k) d (omega arith) (omega (arith, lt))))

  first_at : (rows : List Row) (i : ℕ) → i < length rows → HoldsAt Fails rows i → AllWithin Passes rows 0 i → HasInexactRow decimals except rows (i + 1)
  first_at [] i lt fails pass = absurd (omega (arith, lt))
  first_at (r ∷ more) i lt fails pass =
      let rows : List Row = r ∷ more in
      let failing : Fails (get_or rows i r) = fails r in
      record {
        before = take i rows;
        row = get_or rows i r;
        after = drop (suc i) rows;
        all = sym (take-append-drop i rows) ∙ ap (λ (xs : List Row). take i rows ++ xs) (drop-cons rows i r lt);
        earlier = these_have rows i (omega (arith, lt)) pass;
        remains = not_true (is_left_out except (get_or rows i r)) (λ out. failing (inl out));
        inexact = λ has. failing (inr has);
        place = omega (arith, length-take i rows, lt);
      }

  -- what a search for the first row that doesn't pass finds
  abbrev pub Finds : List Row → Option ℕ → Type 0
  Finds rows found = MatchOption found (AllWithin Passes rows 0 (length rows)) (λ i. (i < length rows) × HoldsAt Fails rows i × AllWithin Passes rows 0 i)

  pub found_inexact : (rows : List Row) (found : Option ℕ) (i : ℕ) → found ≡ Some i → Finds rows found → HasInexactRow decimals except rows (i + 1)
  found_inexact rows (Some j) i is finds =
      let same : j ≡ i = same_Some j i is in subst (λ k. HasInexactRow decimals except rows (k + 1)) same (first_at rows j finds.0 finds.1 finds.2)
  found_inexact rows None i is finds = absurd (none-some i is)

  pub found_none : (rows : List Row) (found : Option ℕ) → found ≡ None → Finds rows found → HaveCash decimals (remaining except rows)
  found_none rows None is finds = all_have rows finds
  found_none rows (Some j) is finds = absurd (none-some j (sym is))

pub where_none : {A : Type 0} (r : Option A) (P : Type 0) → P → IfNone r P
where_none None P p = p
where_none (Some x) P p = tt

-- ---- Commands.

counted_on : (n : ℕ) (rows : List Row) (row : Row) → enumerate_from n (rows ++ row ∷ []) ≡ enumerate_from n rows ++ (n + length rows, row) ∷ []
counted_on n [] row = ap (λ k. (k, row) ∷ []) (omega arith)
counted_on n (r ∷ rows) row =
    ap (λ (more : List (ℕ × Row)). (n, r) ∷ more)
    (counted_on (n + 1) rows row ∙ ap (λ k. enumerate_from (n + 1) rows ++ (k, row) ∷ []) (omega arith))

abbrev pub number_of : ℕ × Row → ℕ
number_of numbered = numbered.0

abbrev pub row_of : ℕ × Row → Row
row_of numbered = numbered.1

module _ (source : List ℕ) (accounts : Accounts) (decimals : Option ℕ) (from : ℕ) (except : List (List ℕ)) (most : ℕ) where
  -- these are the numbers and the commands of the first rows, of at most that number
  pub record AreOf (rows : List Row) (numbers : List ℕ) (commands : List (Key × Asked)) : Type 0 where
    pub numbers_are : numbers ≡ map number_of (remaining_from from except rows)
    pub commands_are : AreKeyed source accounts decimals (map row_of (remaining_from from except rows)) commands
    pub as_many : length numbers ≡ length commands
    pub within : All (λ number. number ≤ most) numbers

  pub none_yet : (rows : List Row) (numbers : List ℕ) (commands : List (Key × Asked)) → numbers ≡ [] → commands ≡ [] → AreOf (take 0 rows) numbers commands
  none_yet rows numbers commands empty none = record {
    numbers_are = empty;
    commands_are = subst (λ (ks : List (Key × Asked)). AreKeyed source accounts decimals [] ks) (sym none) tt;
    as_many = ap length empty ∙ sym (ap length none);
    within = subst (All (λ number. number ≤ most)) (sym empty) (All-nil (λ number. number ≤ most));
  }

  module _ (rows : List Row) (i : ℕ) (row : Row) (lt : i < length rows) (is : row ≡ get_or rows i row)
      (numbers : List ℕ) (commands : List (Key × Asked)) (so : AreOf (take i rows) numbers commands) where
    abbrev before : List (ℕ × Row)
    before = remaining_from from except (take i rows)

    one_row : take (i + 1) rows ≡ take i rows ++ row ∷ []
    one_row = take_more rows i row lt ∙ ap (λ r. take i rows ++ r ∷ []) (sym is)

    grown : remaining_from from except (take (i + 1) rows) ≡ before ++ cond (is_taken from except (i + 1, row)) ((i + 1, row) ∷ []) []
    grown =
        ap (remaining_from from except) one_row
        ∙ ap (filter (is_taken from except)) (counted_on 1 (take i rows) row ∙ ap (λ k. enumerate_from 1 (take i rows) ++ (k, row) ∷ []) (omega (arith, length-take i rows, lt)))
        ∙ filter-append (is_taken from except) (enumerate_from 1 (take i rows)) ((i + 1, row) ∷ [])

    -- the next row gives a command
    pub takes_next : (more : List ℕ) (longer : List (Key × Asked)) (one : Key × Asked) → more ≡ numbers ++ (i + 1) ∷ [] → longer ≡ commands ++ one ∷ []
        → is_taken from except (i + 1, row) ≡ true → IsKeyed source accounts decimals row one → i + 1 ≤ most → AreOf (take (i + 1) rows) more longer
    takes_next more longer one numbered keyed taken is_keyed low =
        let eq : remaining_from from except (take (i + 1) rows) ≡ before ++ (i + 1, row) ∷ [] =
        grown ∙ ap (λ b. before ++ cond b ((i + 1, row) ∷ []) []) taken in
        let Keyed : List Row → Type 0 = λ rs. AreKeyed source accounts decimals rs longer in
        let zipped : AreKeyed source accounts decimals (map row_of before ++ row ∷ []) longer =
        subst (λ (ks : List (Key × Asked)). AreKeyed source accounts decimals (map row_of before ++ row ∷ []) ks) (sym keyed)
        (all_zipped_more (IsKeyed source accounts decimals) (map row_of before) commands row one so.commands_are is_keyed) in
        record {
          numbers_are = numbered ∙ ap (λ (ns : List ℕ). ns ++ (i + 1) ∷ []) so.numbers_are ∙ sym (map-append number_of before ((i + 1, row) ∷ []))
              ∙ ap (map number_of) (sym eq);
          commands_are = subst Keyed (sym (map-append row_of before ((i + 1, row) ∷ [])) ∙ ap (map row_of) (sym eq)) zipped;
          as_many = ap length numbered ∙ length-append numbers ((i + 1) ∷ []) ∙ ap (λ n. n + 1) so.as_many
              ∙ sym (length-append commands (one ∷ [])) ∙ sym (ap length keyed);
          within = subst (All (λ number. number ≤ most)) (sym numbered) (All-push (λ number. number ≤ most) numbers (i + 1) so.within low);
        }

    -- the next row gives none
    pub skips_next : is_taken from except (i + 1, row) ≡ false → AreOf (take (i + 1) rows) numbers commands
    skips_next passed =
        let eq : remaining_from from except (take (i + 1) rows) ≡ before =
        grown ∙ ap (λ b. before ++ cond b ((i + 1, row) ∷ []) []) passed ∙ append-nil before in
        let Keyed : List (ℕ × Row) → Type 0 = λ rs. AreKeyed source accounts decimals (map row_of rs) commands in
        record {
          numbers_are = so.numbers_are ∙ ap (map number_of) (sym eq);
          commands_are = subst Keyed (sym eq) so.commands_are;
          as_many = so.as_many;
          within = so.within;
        }

-- a row that gives a command isn't left out
pub taken_remains : (from number : ℕ) (except : List (List ℕ)) (row : Row) → is_taken from except (number, row) ≡ true → is_left_out except row ≡ false
taken_remains from number except row taken =
    elim (is_left_out except row) as (λ out. (nat_le from number && not out) ≡ true → out ≡ false) [
      | true ↦ λ both. sym both ∙ and_false (nat_le from number)
      | false ↦ λ both. refl
    ] taken
  where
    and_false : (b : Bool) → (b && false) ≡ false
    and_false true = refl
    and_false false = refl
