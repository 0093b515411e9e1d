-- Where a cursor stands: the last row of the last page tells which rows come next.
use Rattle.std.proofs.Common.{zero, ◌≡◌, ◌≤◌, ℕ, suc, true, false, Some, Option, List, [], ◌∷◌, ◌++◌, drop, filter, length, take, refl, sym, ap, subst, ◌∙◌, arith, Less, is_gt}
use Rattle.std.specs.List.{AllByRecursion}
use Rattle.std.specs.Cmp.{IsTotalOrder, tied_itself}
use Rattle.std.specs.Ordering.{ordering_reverse}
use Rattle.std.proofs.lemmas.List.{append-nil, append_assoc, length-take, take-append-drop}
use Rattle.sqlite.specs.Order.{Row}
use Rattle.sqlite_keyed.proofs.ListLemmas.{all_weaker, filter_all}
use Rattle.sqlite_sql.proofs.QueryLemmas.{key_cmp_total}
use Rattle.sqlite_value.specs.Keys.{rising}
use Rattle.lot_table.specs.Rows.{key_order}
use Rattle.lot_page.specs.Cursor.{Follows, Place, Rises}
use Rattle.lot_page.specs.Page.{IsPageOf, behind, is_past}

pub drop_none : {X : Type 0} (xs : List X) → drop 0 xs ≡ xs
drop_none [] = refl
drop_none (x ∷ xs) = refl

-- ---- the rows behind one of them

-- what all of a list are, one in its middle is
within : {X : Type 0} (P : X → Type 0) (before : List X) (x : X) (after : List X) → AllByRecursion P (before ++ x ∷ after) → P x
within P [] x after all = all.0
within P (y ∷ before) x after all = within P before x after all.1

module _ (width : ℕ) where
  total : IsTotalOrder (key_order width)
  total = key_cmp_total (rising width []) 0

  pub behind_row : (given : List Row) (row : Row) (others : List Row) → Rises width (given ++ row ∷ others) → filter (is_past width row) (given ++ row ∷ others) ≡ others
  behind_row [] row others up =
      let itself : is_past width row row ≡ false = ap is_gt (tied_itself total row) in
      let later : AllByRecursion (λ r. is_past width row r ≡ true) others =
      all_weaker (λ r. key_order width row r ≡ Less) (λ r. is_past width row r ≡ true) (λ r less. ap is_gt (total.antisymm r row ∙ ap ordering_reverse less)) others up.0 in
      rw itself (filter_all (is_past width row) others later)
  behind_row (first ∷ given) row others up =
      let earlier : is_past width row first ≡ false = ap is_gt (within (λ r. key_order width first r ≡ Less) given row others up.0) in
      rw earlier (behind_row given row others up.1)

-- ---- a page

-- the first rows of those left
pub page_taken : (most : ℕ) (rows page : List Row) → 1 ≤ most → page ≡ take most rows → IsPageOf most rows page
page_taken most rows page one is = record {
  unread = drop most rows;
  read = ap (λ l. l ++ drop most rows) is ∙ take-append-drop most rows;
  few = let shorter = ap length is ∙ length-take most rows in omega (arith, shorter);
  some = λ none. empty most one rows (sym is ∙ none);
}
  where
    empty : (n : ℕ) → 1 ≤ n → (xs : List Row) → take n xs ≡ [] → xs ≡ []
    empty zero low xs none = absurd (omega (arith, low))
    empty (suc n) low [] none = refl
    empty (suc n) low (x ∷ xs) none = absurd cc

-- ---- a place

-- a page goes on behind the rows given
pub page_follows : (given rows page : List Row) (place : Place) (most : ℕ) (f : Follows given rows place) → place.ahead ≡ [] → IsPageOf most (behind place.width place.last rows) page
    → Follows given rows (record { width = place.width; ahead = page; last = place.last })
page_follows given rows page place most f none p = record { others = f.others; whole = f.whole; unread = p.unread; read = p.read ∙ sym (f.last none); last = λ _. f.last none }

-- an empty page is the end
pub page_ends : (given rows page : List Row) (place : Place) (most : ℕ) (f : Follows given rows place) → place.ahead ≡ [] → IsPageOf most (behind place.width place.last rows) page → page ≡ [] → given ≡ rows
page_ends given rows page place most f none p empty = sym (append-nil given) ∙ ap (λ l. given ++ l) (sym (f.last none ∙ p.some empty)) ∙ f.whole

-- the next row is given
pub row_follows : (given rows ahead : List Row) (row : Row) (last : Option Row) (place : Place) → place.ahead ≡ row ∷ ahead → Rises place.width rows → (ahead ≡ [] → last ≡ Some row) → Follows given rows place
    → Follows (given ++ row ∷ []) rows (record { width = place.width; ahead = ahead; last = last })
row_follows given rows ahead row last place is up kept f =
    let others : row ∷ (ahead ++ f.unread) ≡ f.others = ap (λ l. l ++ f.unread) (sym is) ∙ f.read in
    let whole : given ++ row ∷ (ahead ++ f.unread) ≡ rows = ap (λ l. given ++ l) others ∙ f.whole in
    record {
      others = ahead ++ f.unread;
      whole = append_assoc given (row ∷ []) (ahead ++ f.unread) ∙ whole;
      unread = f.unread;
      read = refl;
      last = λ none. sym (behind_row place.width given row (ahead ++ f.unread) (subst (Rises place.width) (sym whole) up)) ∙ ap (filter (is_past place.width row)) whole
          ∙ ap (λ l. behind place.width l rows) (sym (kept none));
    }
