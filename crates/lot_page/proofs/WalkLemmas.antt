-- The pages of a table as its queries give them, one after another.
use Rattle.std.proofs.Common.{◌≡◌, ◌≢◌, ◌≤◌, ℕ, suc, Bool, true, Err, Ok, Result, Vec, List, [], ◌∷◌, ◌++◌, filter, map, sym, ap, subst, ◌∙◌}
use Rattle.std.specs.List.{AllByRecursion}
use Rattle.std.specs.declared.alloc.Global.{Global}
use Rattle.std.proofs.lemmas.List.{append_assoc}
use Rattle.sqlite.specs.Order.{Row}
use Rattle.sqlite.specs.State.{State}
use Rattle.sqlite.specs.Tree.{Trees}
use Rattle.sqlite.specs.declared.types.Value.{Value}
use Rattle.sqlite_keyed.proofs.ListLemmas.{filter_all}
use Rattle.lot_page.specs.Page.{IsPageOf, PagesOf, Takes, is_from, is_past, level}
use Rattle.lot_page.proofs.CallLemmas.{answers_ok, answers_so, answers_then, ends_so, fails_so}
use Rattle.lot_page.proofs.LevelLemmas.{Mounts, first_column, split}
use Rattle.lot_page.proofs.PlaceLemmas.{page_taken}
use Rattle.lot_rows.specs.Tables.{Tables, layout}
use Rattle.lot_table.specs.Book.{Holds}
use Rattle.lot_table.specs.declared.fault.Fault.TheVariants.{Memory}
use Rattle.lot_table.specs.declared.fault.Fault.{Fault}
use Rattle.lot_table.proofs.KeyLemmas.{filter_alike}

module _ {X : Type 0} (encode : X → Row) (rows : Tables → List X) (most : ℕ) (one : 1 ≤ most) where
  -- ---- from a value of the first column on

  all_so : (p q : Row → Bool) → ((x : X) → p (encode x) ≡ q (encode x)) → (xs : List X) → AllByRecursion (λ row. p row ≡ q row) (map encode xs)
  all_so p q same [] = tt
  all_so p q same (x ∷ xs) = (same x, all_so p q same xs)

  -- from the least on there are all
  pub from_all : (least : Value) → ((x : X) → is_from least (encode x) ≡ true) → (xs : List X) → filter (is_from least) (map encode xs) ≡ map encode xs
  from_all least lowest xs = filter_all (is_from least) (map encode xs) (all_so (is_from least) (λ _. true) lowest xs)

  -- from the next on there are those past the row
  pub from_past : (start : Row) (next : Value) → ((x : X) → is_from next (encode x) ≡ is_past 1 start (encode x)) → (xs : List X) → filter (is_from next) (map encode xs) ≡ filter (is_past 1 start) (map encode xs)
  from_past start next same xs = filter_alike (is_from next) (is_past 1 start) (map encode xs) (all_so (is_from next) (is_past 1 start) same xs)

  -- a call that answers pages of these rows answers those of the same rows by another name
  pub pages_so : (those these : List Row → List Row) → ((xs : List X) → those (map encode xs) ≡ these (map encode xs)) → (old new : State) (result : Result (Vec Row Global) Fault)
      → PagesOf encode rows most those old new result → PagesOf encode rows most these old new result
  pages_so those these same old new result = answers_so _ _ old new result (λ found b has p. subst (λ l. IsPageOf most l found.items) (same (rows b)) p)

  -- the first rows that pass a test are a page of them
  pub taken : (passes : Row → Bool) (old new : State) (result : Result (Vec Row Global) Fault) → Takes encode rows most passes old new result → PagesOf encode rows most (filter passes) old new result
  taken passes old new result = answers_so _ _ old new result (λ found b has told. page_taken most (filter passes (map encode (rows b))) found.items one told)

  -- those of the first level are those past the first column
  pub first_pages : (start : Row) (old new : State) (result : Result (Vec Row Global) Fault) → Takes encode rows most (level 0 0 start) old new result → PagesOf encode rows most (filter (is_past 1 start)) old new result
  first_pages start old new result first =
      pages_so (filter (level 0 0 start)) (filter (is_past 1 start)) (λ xs. filter_alike (level 0 0 start) (is_past 1 start) (map encode xs) (all_so (level 0 0 start) (is_past 1 start) (λ x. first_column start (encode x)) xs))
      old new result (taken (level 0 0 start) old new result first)

  -- ---- a level, and then the rows past fewer columns

  module _ (n : ℕ) (start : Row) (rises : (trees : Trees) (tables : Tables) → Holds layout trees tables → Mounts n (map encode (rows tables))) (old mid : State) where
    -- some rows of the level are left
    pub level_pages : (rest : Vec Row Global) → rest.items ≢ [] → Takes encode rows most (level n 0 start) old mid (Ok rest) → PagesOf encode rows most (filter (is_past (suc n) start)) old mid (Ok rest)
    level_pages rest some =
        answers_ok _ _ old mid rest (λ b has told.
        let p = page_taken most (filter (level n 0 start) (map encode (rows b))) rest.items one told in
        let later = filter (is_past n start) (map encode (rows b)) in
        record {
          unread = p.unread ++ later;
          read = sym (append_assoc rest.items p.unread later) ∙ ap (λ l. l ++ later) p.read ∙ sym (split n start (map encode (rows b)) (rises old.now.trees b has.1));
          few = p.few;
          some = λ none. absurd (some none);
        })

    -- none are
    pub later_pages : (rest : Vec Row Global) → rest.items ≡ [] → Takes encode rows most (level n 0 start) old mid (Ok rest) → (new : State) (result : Result (Vec Row Global) Fault)
        → PagesOf encode rows most (filter (is_past n start)) mid new result → PagesOf encode rows most (filter (is_past (suc n) start)) old new result
    later_pages rest none first new result =
        answers_then _ _ old mid rest first _ new result (λ page b has told p.
        let of_level = (page_taken most (filter (level n 0 start) (map encode (rows b))) rest.items one told).some none in
        subst (λ l. IsPageOf most l page.items) (sym (split n start (map encode (rows b)) (rises old.now.trees b has.1) ∙ ap (λ l. l ++ filter (is_past n start) (map encode (rows b))) of_level)) p)

    -- the query fails, or there is no memory for the next
    pub level_fails : (fault : Fault) → Takes encode rows most (level n 0 start) old mid (Err fault) → PagesOf encode rows most (filter (is_past (suc n) start)) old mid (Err fault)
    level_fails fault = fails_so _ _ old mid fault

    pub level_ends : (rest : Vec Row Global) → Takes encode rows most (level n 0 start) old mid (Ok rest) → PagesOf encode rows most (filter (is_past (suc n) start)) old mid (Err Memory)
    level_ends rest first = ends_so _ _ old mid rest first
