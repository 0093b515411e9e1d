-- Whether rows are there, one after another.
use Rattle.std.specs.Prelude.{◌≡◌, ◌≢◌, ◌↔◌, ◌==◌, ◌⊎◌, ◌||◌, ◌+◌, ◌<◌, ℕ, suc, Bool, true, false, not, IsTrue, List, [], ◌∷◌, ◌++◌, drop, get_or, length, map, take, slice_get, None, Ok, Vec}
use Rattle.std.specs.List.{list_any}
use Rattle.std.specs.declared.alloc.Global.{Global}
use Rattle.std.proofs.Common.{refl, sym, ap, ◌∙◌, arith, inl, inr}
use Rattle.std.proofs.lemmas.List.{drop_more, take-append-drop, take_more}
use Rattle.std.proofs.lemmas.Bool.{true≢false}
use Rattle.std.proofs.lemmas.Bool.Decides.{Decides-eqb}
use Rattle.sqlite.specs.Order.{Row}
use Rattle.sqlite.specs.State.{State}
use Rattle.lot_book.specs.Facts.{posts_at_cost}
use Rattle.lot_command.specs.declared.transaction.Posting.{Posting}
use Rattle.lot_rows.specs.Tables.{Tables, head_table, layout}
use Rattle.lot_rows.specs.declared.allowed.AllowedRow.{AllowedRow}
use Rattle.lot_table.specs.Call.{ListsColumns}
use Rattle.lot_stored.specs.Rows.{allowed_rows, pair_key, row_at}
use Rattle.lot_audit.specs.Checks.{Checks}
use Rattle.lot_audit.specs.Entries.{HaveHeads}
use Rattle.lot_audit.proofs.SeenLemmas.{Tells, tells_whether}

-- ---- rows of a key

some_there : {X : Type 0} (encode : X → Row) (found rows : List X) (n : ℕ) → n ≡ length found → map encode found ≡ map encode rows
    → IsTrue (not (n == 0)) ↔ (slice_get rows 0 ≢ None)
some_there encode [] [] n count same =
    ((λ some. absurd (true≢false (sym some ∙ ap not ((Decides-eqb n 0).1 count)))), (λ some. absurd (some refl)))
some_there encode [] (y ∷ rows) n count same = absurd cc
some_there encode (x ∷ found) [] n count same = absurd cc
some_there encode (x ∷ found) (y ∷ rows) n count same =
    ((λ some none. cc), (λ some. by (n == 0) refl))
  where
    by : (b : Bool) → (n == 0) ≡ b → IsTrue (not b)
    by false apart = refl
    by true zero_is =
        let none : suc (length found) ≡ 0 = sym count ∙ (Decides-eqb n 0).0 zero_is in
        absurd cc

-- rows that are listed tell whether there is one
pub listed_there : {X : Type 0} (encode : X → Row) (IsGood : X → Type 0) (rows : Tables → List X) (old new : State) (found : Vec X Global)
    → ListsColumns layout encode IsGood rows old new (Ok found)
    → Checks (Tells (λ tables. slice_get (rows tables) 0 ≢ None)) old new (Ok (not (found.len == 0)))
listed_there encode IsGood rows old new found lists =
    tells_whether _ _ _ (λ tables. slice_get (rows tables) 0 ≢ None) old new found (not (found.len == 0)) lists
    (λ tables has good same. some_there encode found.items (rows tables) found.len found.ok.0 same)

-- ---- currencies

pub allowed_length : (account : List ℕ) (place : ℕ) (currencies : List (List ℕ)) → length (allowed_rows account place currencies) ≡ length currencies
allowed_length account place [] = refl
allowed_length account place (currency ∷ currencies) = ap suc (allowed_length account (suc place) currencies)

abbrev row_for : List ℕ → ℕ → List ℕ → AllowedRow
row_for account place currency = record { account = account; place = place; commodity = currency }

module _ (account : List ℕ) (n : ℕ) (rows : List AllowedRow) (currencies : List (List ℕ)) (row : AllowedRow) (currency : List ℕ)
    (within : n < length rows) (in_currencies : n < length currencies) (at : row ≡ get_or rows n row)
    (currency_at : currency ≡ get_or currencies n currency) where
  rows_left : drop n rows ≡ row ∷ drop (n + 1) rows
  rows_left = drop_more rows n row within ∙ ap (λ (r : AllowedRow). r ∷ drop (n + 1) rows) (sym at)

  currencies_left : allowed_rows account n (drop n currencies) ≡ row_for account n currency ∷ allowed_rows account (n + 1) (drop (n + 1) currencies)
  currencies_left =
      ap (allowed_rows account n)
      (drop_more currencies n currency in_currencies ∙ ap (λ (k : List ℕ). k ∷ drop (n + 1) currencies) (sym currency_at))
      ∙ ap (λ (m : ℕ). row_for account n currency ∷ allowed_rows account m (drop (n + 1) currencies)) (omega arith)

  abbrev AreLeft : ℕ → Type 0
  AreLeft m = drop m rows ≡ allowed_rows account m (drop m currencies)

  pub same_row : row ≡ row_for account n currency → AreLeft n ↔ AreLeft (n + 1)
  same_row is = (
    (λ same.
        let whole : row ∷ drop (n + 1) rows ≡ row_for account n currency ∷ allowed_rows account (n + 1) (drop (n + 1) currencies) =
        sym rows_left ∙ same ∙ currencies_left in
        cc),
    (λ rest.
        rows_left
        ∙ ap (λ (r : AllowedRow). r ∷ drop (n + 1) rows) is
        ∙ ap (λ (l : List AllowedRow). row_for account n currency ∷ l) rest
        ∙ sym currencies_left),
  )

  pub other_row : (row ≡ row_for account n currency → ⊥) → AreLeft n → ⊥
  other_row apart same =
      let whole : row ∷ drop (n + 1) rows ≡ row_for account n currency ∷ allowed_rows account (n + 1) (drop (n + 1) currencies) =
      sym rows_left ∙ same ∙ currencies_left in
      let head : row ≡ row_for account n currency = cc in
      apart head

-- ---- days at cost

any_more : (p : Posting → Bool) (a : List Posting) (x : Posting) → list_any p (a ++ x ∷ []) ≡ true
    → (list_any p a ≡ true) ⊎ (list_any p (x ∷ []) ≡ true)
any_more p [] x is = inr is
any_more p (y ∷ a) x is = by (p y) refl is (any_more p a x)
  where
    by : (b : Bool) → p y ≡ b → (b || list_any p (a ++ x ∷ [])) ≡ true
        → (list_any p (a ++ x ∷ []) ≡ true → (list_any p a ≡ true) ⊎ (list_any p (x ∷ []) ≡ true))
        → ((p y || list_any p a) ≡ true) ⊎ (list_any p (x ∷ []) ≡ true)
    by true here found rest = inl (ap (λ (b : Bool). b || list_any p a) here)
    by false out found rest = turned (rest found)
      where
        turned : (list_any p a ≡ true) ⊎ (list_any p (x ∷ []) ≡ true)
            → ((p y || list_any p a) ≡ true) ⊎ (list_any p (x ∷ []) ≡ true)
        turned (inl there) = inl (ap (λ (b : Bool). b || list_any p a) out ∙ there)
        turned (inr last) = inr last

pub heads_more : (tables : Tables) (a : List Posting) (x : Posting) → HaveHeads a tables → HaveHeads (x ∷ []) tables
    → HaveHeads (a ++ x ∷ []) tables
heads_more tables a x before own account commodity any =
    by (any_more (posts_at_cost account commodity) a x any)
  where
    by : (list_any (posts_at_cost account commodity) a ≡ true) ⊎ (list_any (posts_at_cost account commodity) (x ∷ []) ≡ true)
        → row_at head_table (pair_key account commodity) tables ≢ None
    by (inl there) = before account commodity there
    by (inr last) = own account commodity last

-- the items up to one, and that one
pub taken : {X : Type 0} (xs : List X) (n : ℕ) (x : X) → n < length xs → x ≡ get_or xs n x → take (n + 1) xs ≡ take n xs ++ x ∷ []
taken xs n x within at = take_more xs n x within ∙ ap (λ (y : _). take n xs ++ y ∷ []) (sym at)

pub split_at : {X : Type 0} (xs : List X) (n : ℕ) (x : X) → n < length xs → x ≡ get_or xs n x → take n xs ++ x ∷ drop (n + 1) xs ≡ xs
split_at xs n x within at =
    ap (λ (l : List _). take n xs ++ l) (ap (λ (y : _). y ∷ drop (n + 1) xs) at ∙ sym (drop_more xs n x within)) ∙ take-append-drop n xs
