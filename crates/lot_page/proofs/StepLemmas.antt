-- The steps of a cursor.
use Rattle.std.proofs.Common.{◌≡◌, ◌≢◌, ◌⊎◌, inl, inr, ◌<◌, ◌≤◌, ◌+◌, ℕ, zero, suc, drop, length, get_or, ap₂, Err, Ok, None, OnOk, Option, Result, Some, Vec, List, [], ◌∷◌, ◌++◌, map, refl, sym, ap, subst, ◌∙◌, arith}
use Rattle.std.proofs.Math.Numerals.{add-one}
use Rattle.std.proofs.Math.Seq.{drop-cons}
use Rattle.std.proofs.lemmas.List.Elements.{recursion_from_All}
use Rattle.std.proofs.lemmas.List.{map-append}
use Rattle.std.specs.List.{AllByRecursion}
use Rattle.std.specs.declared.alloc.Global.{Global}
use Rattle.sqlite.specs.Order.{Row}
use Rattle.sqlite.specs.State.{IsRolledBack, IsUnchanged, State}
use Rattle.sqlite.specs.Tree.{Trees}
use Rattle.lot_page.specs.Cursor.{Follows, IsBehind, Place, Refills, Rises, Stays, Steps}
use Rattle.lot_page.specs.Page.{IsPageOf, Pages, behind as rows_behind}
use Rattle.lot_page.proofs.PlaceLemmas.{drop_none, page_ends, page_follows, row_follows}
use Rattle.lot_rows.specs.Tables.{Tables, layout}
use Rattle.lot_table.specs.Book.{Holds, IsUndone}
use Rattle.lot_table.specs.declared.fault.Fault.TheVariants.{Damaged, Device}
use Rattle.lot_table.specs.declared.fault.Fault.{Fault}

stays : (old new : State) → IsUnchanged old new → Stays old new
stays old new same = record { now = same.0.now_is; committed = same.0.committed_is; mode = same.0.mode; is_open = same.0.is_open ∙ sym same.0.was_open }

on_stays : {A : Type 0} (old new : State) (result : Result A Fault) → OnOk result (IsUnchanged old new) → OnOk result (Stays old new)
on_stays old new (Ok found) same = stays old new same
on_stays old new (Err fault) same = tt

undone_or : (old new : State) → IsUndone old new → Stays old new ⊎ IsRolledBack old new
undone_or old new (inl same) = inl (stays old new same)
undone_or old new (inr undone) = inr undone

-- one of the rows of a list, each of which is good
named : {X : Type 0} (encode : X → Row) (IsGood : X → Type 0) (given others : List Row) (row : Row) (xs : List X) → AllByRecursion IsGood xs → given ++ row ∷ others ≡ map encode xs → (x : X) × IsGood x × (row ≡ encode x)
named encode IsGood given others row [] all is = absurd (go given is)
  where
    go : (given : List Row) → given ++ row ∷ others ≡ [] → ⊥
    go [] is = cc
    go (g ∷ given) is = cc
named encode IsGood [] others row (x ∷ xs) all is = (x, all.0, let same : row ≡ encode x = cc in same)
named encode IsGood (g ∷ given) others row (x ∷ xs) all is = named encode IsGood given others row xs all.1 (let same : given ++ row ∷ others ≡ map encode xs = cc in same)

-- ---- a place in a page

-- before the first row
pub begins : (width : ℕ) (rows items : List Row) → items ≡ [] → Follows [] rows (record { width = width; ahead = drop 0 items; last = None })
begins width rows items none = record { others = rows; whole = refl; unread = rows; read = ap (λ l. l ++ rows) (drop_none items ∙ none); last = λ _. refl }

pub some_left : {X : Type 0} (xs : List X) (i : ℕ) → i < length xs → drop i xs ≢ []
some_left [] i low none = absurd (omega (arith, low))
some_left (x ∷ xs) i low none = absurd (let some = sym (drop-cons (x ∷ xs) i x low) ∙ none in cc)

pub none_left : {X : Type 0} (xs : List X) (i : ℕ) → length xs ≤ i → drop i xs ≡ []
none_left [] zero low = refl
none_left [] (suc i) low = refl
none_left (x ∷ xs) zero low = absurd (omega (arith, low))
none_left (x ∷ xs) (suc i) low = none_left xs i (omega (arith, low))

-- the row at a place, and those behind it
pub row_left : {X : Type 0} (xs : List X) (i : ℕ) (x : X) → i < length xs → x ≡ get_or xs i x → drop i xs ≡ x ∷ drop (i + 1) xs
row_left xs i x low is = drop-cons xs i x low ∙ ap₂ (λ y n. y ∷ drop n xs) (sym is) (sym (add-one i))

module _ {X : Type 0} (encode : X → Row) (rows : Tables → List X) where
  -- ---- the next page

  -- a row is left of the last one
  pub ready : (place : Place) (state : State) → place.ahead ≢ [] → Refills encode rows place place state state (Ok tt)
  ready place state some = record {
    filled = λ clean tables has given behind. (behind, λ none. absurd (some none));
    left = tt;
    same = λ clean. record { now = refl; committed = refl; mode = refl; is_open = refl };
    damaged = λ clean is. absurd cc;
    device = λ clean is. absurd cc;
    undone = λ clean. tt;
    crash = record { clean = omega arith; shield = λ holds. holds; counts = omega arith; limit = refl; closes = λ clean is. inl is; crash = λ clean db may. inl may };
  }

  module _ (place : Place) (most : ℕ) (old new : State) where
    pub refilled : (page : Vec Row Global) → place.ahead ≡ [] → Pages encode rows place.width most place.last old new (Ok page)
        → Refills encode rows place (record { width = place.width; ahead = drop 0 page.items; last = place.last }) old new (Ok tt)
    refilled page none p = record {
      filled = λ clean tables has given behind.
          let is = subst (IsPageOf most (rows_behind place.width place.last (map encode (rows tables)))) (sym (drop_none page.items)) (p.says clean tables has) in (
            page_follows (map encode given) (map encode (rows tables)) (drop 0 page.items) place most behind none is,
            page_ends (map encode given) (map encode (rows tables)) (drop 0 page.items) place most behind none is,
          );
      left = tt;
      same = λ clean. stays old new (p.same clean);
      damaged = λ clean is. absurd cc;
      device = λ clean is. absurd cc;
      undone = λ clean. tt;
      crash = p.crash;
    }

    pub unread : (fault : Fault) → Pages encode rows place.width most place.last old new (Err fault) → Refills encode rows place place old new (Err fault)
    unread fault p = record {
      filled = λ clean. tt;
      left = refl;
      same = λ clean. tt;
      damaged = λ clean is unlimited tables has. p.damaged clean (ap Err (same is)) unlimited tables has tt;
      device = λ clean is. p.device clean (ap Err (same is));
      undone = λ clean. undone_or old new (p.undone clean);
      crash = p.crash;
    }
      where
        same : {which : Fault} → ◌≡◌ {A = Result (Unit {0}) Fault} (Err fault) (Err which) → fault ≡ which
        same is = cc

  -- ---- the next row

  module _ (IsGood : X → Type 0) (before mid : Place) (old new : State) where
    same_fault : {A : Type 0} {a b : Fault} → ◌≡◌ {A = Result A Fault} (Err a) (Err b) → a ≡ b
    same_fault is = cc

    -- there is no page
    pub pageless : (fault : Fault) → Refills encode rows before mid old new (Err fault) → Steps encode IsGood rows before mid old new (Err fault)
    pageless fault r = record {
      gives = λ clean. tt;
      good = tt;
      kept = λ clean tables has given behind. subst (IsBehind encode given (rows tables)) (sym r.left) behind;
      same = λ clean. tt;
      damaged = λ clean is unlimited tables has given behind all. r.damaged clean (ap Err (same_fault is)) unlimited tables has;
      device = λ clean is. r.device clean (ap Err (same_fault is));
      undone = r.undone;
      crash = r.crash;
    }

    module _ (r : Refills encode rows before mid old new (Ok tt)) where
      -- no row is left
      pub ended : mid.ahead ≡ [] → Steps encode IsGood rows before mid old new (Ok None)
      ended none = record {
        gives = λ clean tables has given behind. (r.filled clean tables has given behind).1 none;
        good = tt;
        kept = λ clean. tt;
        same = r.same;
        damaged = λ clean is. absurd cc;
        device = λ clean is. absurd cc;
        undone = λ clean. tt;
        crash = r.crash;
      }

      -- the row can't be given
      pub stopped : (fault : Fault) (row : Row) (ahead : List Row) → mid.ahead ≡ row ∷ ahead → fault ≢ Device → (fault ≡ Damaged → (x : X) → IsGood x → row ≢ encode x) → Steps encode IsGood rows before mid old new (Err fault)
      stopped fault row ahead is no_device bad = record {
        gives = λ clean. tt;
        good = tt;
        kept = λ clean tables has given behind. (r.filled clean tables has given behind).0;
        same = λ clean. tt;
        damaged = λ clean damage unlimited tables has given behind all.
            let f = (r.filled clean tables has given behind).0 in
            let whole = ap (λ l. map encode given ++ (l ++ f.unread)) (sym is) ∙ ap (λ l. map encode given ++ l) f.read ∙ f.whole in
            let it = named encode IsGood (map encode given) (ahead ++ f.unread) row (rows tables) (recursion_from_All IsGood (rows tables) all) whole in
            bad (same_fault damage) it.0 it.1 it.2;
        device = λ clean device. absurd (no_device (same_fault device));
        undone = λ clean. inl (r.same clean);
        crash = r.crash;
      }

      -- the row is given
      pub stepped : (x : X) (ahead : List Row) (last : Option Row) → mid.ahead ≡ encode x ∷ ahead → (ahead ≡ [] → last ≡ Some (encode x)) → IsGood x
          → ((trees : Trees) (tables : Tables) → Holds layout trees tables → Rises mid.width (map encode (rows tables)))
          → Steps encode IsGood rows before (record { width = mid.width; ahead = ahead; last = last }) old new (Ok (Some x))
      stepped x ahead last is kept good rises = record {
        gives = λ clean tables has given behind.
            let f = row_follows (map encode given) (map encode (rows tables)) ahead (encode x) last mid is (rises old.now.trees tables has.1) kept (r.filled clean tables has given behind).0 in
            subst (λ l. Follows l (map encode (rows tables)) (record { width = mid.width; ahead = ahead; last = last })) (sym (map-append encode given (x ∷ []))) f;
        good = good;
        kept = λ clean. tt;
        same = r.same;
        damaged = λ clean is. absurd cc;
        device = λ clean is. absurd cc;
        undone = λ clean. tt;
        crash = r.crash;
      }
