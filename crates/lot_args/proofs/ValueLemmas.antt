-- What the values of options say, and which of them is outside its rule.
use Rattle.std.proofs.Common.{◌≡◌, ℕ, zero, suc, ◌<◌, ◌≤◌, Bool, true, false, List, [], ◌∷◌, ◌++◌, ◌∙◌, ap, sym, length, get_or, drop, option_map, Option, Some, None, Err, Ok, ℤ, pos, refl, arith, codes}
use Rattle.std.specs.Prelude.{◌&&◌, ◌||◌, not, is_some, IsTrue, Result, SomeIff, map, nat_le, nat_lt, option_and_then, unwrap_or}
use Rattle.std.specs.Borrow.{Bor}
use Rattle.std.specs.List.{list_all, slice_get}
use Rattle.std.specs.Result.{result_ok}
use Rattle.std.proofs.lemmas.Bool.{le-leb, le-ltb, leb-true, true≢false}
use Rattle.std.proofs.lemmas.Int.{ints}
use Rattle.clap.specs.Words.{Row}
use Rattle.clap.proofs.WalkLemmas.{both}
use Rattle.lot_base.specs.Name.{is_label}
use Rattle.lot_num.specs.Amount.{one, units_limit}
use Rattle.lot_num.specs.NumberText.{as_units, read_below, total_of, with_no_sign}
use Rattle.lot_num.specs.declared.number_text.NumberFault.{NumberFault}
use Rattle.lot_rounding.specs.Nearest.{most_decimals}
use Rattle.lot_rounding.specs.Rounding.{IsBound}
use Rattle.lot_args.specs.Batch.{is_batch}
use Rattle.lot_args.specs.Options.{account_options, except_of, first_bad, has_profile, is_good, is_shown, options_of, rounding_options, speaks_of_book, value_of}
use Rattle.lot_args.specs.Rounding.{as_bound, decimals_at, named_bound}
use Rattle.lot_args.specs.Start.{IsStart, greatest_start, is_start, start_at}
use Rattle.lot_args.specs.declared.fault.BadOption.{BadOption}
use Rattle.lot_args.specs.declared.fault.BadOption.TheVariants.{Batch, Except, From, Holdings, KeepAccepted, Sales, Show}

-- ---- the start

pub start_from : (o : Option ℕ) (number first : ℕ) → SomeIff o (IsStart number) number → first ≡ 1 → unwrap_or o first ≡ start_at number
start_from (Some start) number first h one = rw (le-leb 1 number h.0.0, le-leb number greatest_start h.0.1) h.1
start_from None number first h one = go (is_start number) refl
  where
    go : (b : Bool) → is_start number ≡ b → first ≡ start_at number
    go false e = rw e one
    go true e =
        let tests = both _ _ e in
        absurd (h (leb-true 1 number tests.0, leb-true number greatest_start tests.1))

-- ---- a rounding account

pub decimals_from : (o : Option ℕ) (number all : ℕ) → SomeIff o (number ≤ most_decimals) number → all ≡ most_decimals → unwrap_or o all ≡ decimals_at number
decimals_from (Some decimals) number all h is = rw (le-leb number most_decimals h.0) h.1
decimals_from None number all h is = go (nat_le number most_decimals) refl
  where
    go : (b : Bool) → nat_le number most_decimals ≡ b → all ≡ decimals_at number
    go false e = rw e is
    go true e = absurd (h (leb-true number most_decimals e))

-- a total that is a bound where it is small enough
as_bound_of : (o : Option ℤ) (n : ℕ) → SomeIff o (IsBound (pos n)) (pos n) → o ≡ as_bound (pos n)
as_bound_of (Some bound) n h =
    let most : n ≤ one = omega (arith, ints, h.0.most) in
    rw (le-leb n one most) (ap Some h.1)
as_bound_of None n h = go (nat_le n one) refl
  where
    go : (b : Bool) → nat_le n one ≡ b → None ≡ as_bound (pos n)
    go false e = rw e refl
    go true e = absurd (h (record { least = omega (arith, ints); most = omega (arith, ints, leb-true n one e) }))

bound_from : (o : Option ℤ) (total : ℤ) (r : Result ℕ NumberFault) → result_ok (as_units r) ≡ Some total → SomeIff o (IsBound total) total
    → o ≡ as_bound total
bound_from o total (Ok n) e h = let same : pos n ≡ total = cc in rw (← same) (as_bound_of o n (rw (← same) at h))
bound_from o total (Err fault) e h = cc

-- a total that a text says is the bound that it names, or no bound
pub bound_named : (o : Option ℤ) (text : List ℕ) (total : ℤ) → result_ok (total_of text) ≡ Some total → SomeIff o (IsBound total) total
    → o ≡ named_bound text
bound_named o text total e h = bound_from o total (with_no_sign (read_below units_limit text)) e h ∙ sym (ap (option_and_then as_bound) e)

-- ---- a second one

-- a list has no second element where it has fewer than two
pub no_second : {A B : Type 0} (v : A → B) (o : Option A) (xs : List B) (none : Bool) → option_map v o ≡ slice_get xs 1
    → is_some o ≡ not none → none ≡ nat_lt (length xs) 2
no_second v None [] true e is = refl
no_second v None [] false e is = cc
no_second v (Some x) [] none e is = cc
no_second v None (y ∷ []) true e is = refl
no_second v None (y ∷ []) false e is = cc
no_second v (Some x) (y ∷ []) none e is = cc
no_second v None (y ∷ z ∷ ys) none e is = cc
no_second v (Some x) (y ∷ z ∷ ys) false e is = sym (le-ltb (length (y ∷ z ∷ ys)) 2 (omega arith))
no_second v (Some x) (y ∷ z ∷ ys) true e is = cc

-- ---- texts

-- whether texts pass a test, by the one at a place
module _ (p : List ℕ → Bool) where
  -- each of the texts that pass does
  pub passes_at : (texts : List (Bor (List ℕ))) (i : ℕ) (none : Bor (List ℕ)) → i < length texts
      → IsTrue (list_all p (map (λ text. text.now) texts)) → IsTrue (p (get_or texts i none).now)
  passes_at [] i none lt all = absurd (omega (arith, lt))
  passes_at (text ∷ texts) zero none lt all = (both _ _ all).0
  passes_at (text ∷ texts) (suc i) none lt all = passes_at texts i none (omega (arith, lt)) (both _ _ all).1

  -- whether those from a place on do, by the text that is there
  pub fails_here : (texts : List (Bor (List ℕ))) (i : ℕ) (none : Bor (List ℕ)) → i < length texts → p (get_or texts i none).now ≡ false
      → list_all p (map (λ text. text.now) (drop i texts)) ≡ false
  fails_here [] i none lt bad = absurd (omega (arith, lt))
  fails_here (text ∷ texts) zero none lt bad = rw bad refl
  fails_here (text ∷ texts) (suc i) none lt bad = fails_here texts i none (omega (arith, lt)) bad

  pub passes_here : (texts : List (Bor (List ℕ))) (i : ℕ) (none : Bor (List ℕ)) → i < length texts → p (get_or texts i none).now ≡ true
      → list_all p (map (λ text. text.now) (drop i texts)) ≡ list_all p (map (λ text. text.now) (drop (suc i) texts))
  passes_here [] i none lt good = absurd (omega (arith, lt))
  passes_here (text ∷ texts) zero none lt good = rw good refl
  passes_here (text ∷ texts) (suc i) none lt good = passes_here texts i none (omega (arith, lt)) good

  pub no_text_left : (texts : List (Bor (List ℕ))) (i : ℕ) → length texts ≤ i → list_all p (map (λ text. text.now) (drop i texts)) ≡ true
  no_text_left [] zero le = refl
  no_text_left [] (suc i) le = refl
  no_text_left (text ∷ texts) zero le = absurd (omega (arith, le))
  no_text_left (text ∷ texts) (suc i) le = no_text_left texts i (omega (arith, le))

-- ---- options

-- where none of two lists is bad, none of either is
pub none_of_both : (rows : List Row) (options others : List BadOption) → first_bad rows (options ++ others) ≡ None
    → (first_bad rows options ≡ None) × (first_bad rows others ≡ None)
none_of_both rows [] others e = (refl, e)
none_of_both rows (option ∷ options) others e = go (is_good rows option) refl (none_of_both rows options others)
  where
    go : (b : Bool) → is_good rows option ≡ b
        → (first_bad rows (options ++ others) ≡ None → (first_bad rows options ≡ None) × (first_bad rows others ≡ None))
        → (first_bad rows (option ∷ options) ≡ None) × (first_bad rows others ≡ None)
    go true is more = rw is (more (rw is at e))
    go false is more = let bad : Some option ≡ None = rw is at e in cc

-- an option that isn't bad alone
pub good_alone : (rows : List Row) (option : BadOption) → first_bad rows (option ∷ []) ≡ None → is_good rows option ≡ true
good_alone rows option e = go (is_good rows option) refl
  where
    go : (b : Bool) → is_good rows option ≡ b → is_good rows option ≡ true
    go true is = is
    go false is = let bad : Some option ≡ None = rw is at e in cc

-- a batch is good where it is looked at: an import without a profile isn't shown
pub batch_of_shown : (shown profile book good : Bool) → profile ≡ false → (not shown || (profile && not book)) ≡ true
    → (shown || good) ≡ true → good ≡ true
batch_of_shown false profile book good plain show batch = batch
batch_of_shown true true book good plain show batch = absurd (true≢false plain)
batch_of_shown true false book good plain show batch = absurd (true≢false (sym show))

-- what an import's options are, of which none is bad
abbrev behind_rounding : List BadOption
behind_rounding = Sales ∷ Holdings ∷ From ∷ []

abbrev behind_accounts : List BadOption
behind_accounts = Except ∷ (rounding_options ++ behind_rounding)

module _ (rows : List Row) (good : first_bad rows (options_of (codes "import")) ≡ None) where
  from_accounts : (first_bad rows account_options ≡ None) × (first_bad rows behind_accounts ≡ None)
  from_accounts = none_of_both rows account_options behind_accounts
      (none_of_both rows (Show ∷ KeepAccepted ∷ Batch ∷ []) (account_options ++ behind_accounts) good).1

  pub good_accounts : first_bad rows account_options ≡ None
  good_accounts = from_accounts.0

  pub good_batch : has_profile rows ≡ false → IsTrue (is_batch (value_of (codes "batch") rows))
  good_batch plain =
      let first = (none_of_both rows (Show ∷ KeepAccepted ∷ Batch ∷ []) (account_options ++ behind_accounts) good).0 in
      let both = none_of_both rows (Show ∷ []) (KeepAccepted ∷ Batch ∷ []) first in
      let last = (none_of_both rows (KeepAccepted ∷ []) (Batch ∷ []) both.1).1 in
      batch_of_shown (is_shown rows) (has_profile rows) (speaks_of_book rows) (is_batch (value_of (codes "batch") rows)) plain
      (good_alone rows Show both.0) (good_alone rows Batch last)

  pub good_except : IsTrue (list_all is_label (except_of rows))
  good_except = good_alone rows Except (none_of_both rows (Except ∷ []) (rounding_options ++ behind_rounding) from_accounts.1).0

  pub good_rounding : first_bad rows rounding_options ≡ None
  good_rounding =
      (none_of_both rows rounding_options behind_rounding
      (none_of_both rows (Except ∷ []) (rounding_options ++ behind_rounding) from_accounts.1).1).0

-- the option at a place, and those from there on
pub bad_here : (rows : List Row) (options : List BadOption) (i : ℕ) (none : BadOption) → i < length options
    → is_good rows (get_or options i none) ≡ false → first_bad rows (drop i options) ≡ Some (get_or options i none)
bad_here rows [] i none lt bad = absurd (omega (arith, lt))
bad_here rows (option ∷ options) zero none lt bad = rw bad refl
bad_here rows (option ∷ options) (suc i) none lt bad = bad_here rows options i none (omega (arith, lt)) bad

pub good_here : (rows : List Row) (options : List BadOption) (i : ℕ) (none : BadOption) → i < length options
    → is_good rows (get_or options i none) ≡ true → first_bad rows (drop i options) ≡ first_bad rows (drop (suc i) options)
good_here rows [] i none lt good = absurd (omega (arith, lt))
good_here rows (option ∷ options) zero none lt good = rw good refl
good_here rows (option ∷ options) (suc i) none lt good = good_here rows options i none (omega (arith, lt)) good

pub none_left : (rows : List Row) (options : List BadOption) (i : ℕ) → length options ≤ i → first_bad rows (drop i options) ≡ None
none_left rows [] zero le = refl
none_left rows [] (suc i) le = refl
none_left rows (option ∷ options) zero le = absurd (omega (arith, le))
none_left rows (option ∷ options) (suc i) le = none_left rows options i (omega (arith, le))
