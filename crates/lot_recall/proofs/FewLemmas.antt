-- The first rows of a table from a number on, as they are read.
use Rattle.std.specs.Prelude.{◌≡◌, ◌≢◌, ℕ, zero, suc, pos, Bool, All, IfOk, List, [], ◌∷◌, filter, map, take, Ok, Err, Result, Vec}
use Rattle.std.specs.List.{AllByRecursion}
use Rattle.std.specs.declared.alloc.Global.{Global}
use Rattle.std.proofs.Common.{◌⊎◌, inl, inr, refl, sym, ap, subst, ◌∙◌}
use Rattle.std.proofs.lemmas.List.Elements.{All-from_recursion, recursion_from_All}
use Rattle.sqlite.specs.Order.{Row}
use Rattle.sqlite.specs.State.{State}
use Rattle.sqlite.specs.declared.types.Value.TheVariants.{Int}
use Rattle.sqlite_keyed.proofs.ListLemmas.{all-filter, all_both, filter-map}
use Rattle.sqlite_rules.proofs.ListLemmas.{has_filtered}
use Rattle.sqlite_rules.specs.Lists.{Has as HasRow}
use Rattle.lot_page.specs.Page.{is_from}
use Rattle.lot_rows.specs.Tables.{Has, Tables}
use Rattle.lot_table.proofs.KeyLemmas.{has_mapped, mapped_has}
use Rattle.lot_table.specs.declared.fault.Fault.{Fault}
use Rattle.lot_table.specs.declared.fault.Fault.TheVariants.{Damaged, Device}
use Rattle.lot_recall.specs.Recall.{ReadsFirst, TakesFirst, first_rows}

take_map : {X Y : Type 0} (f : X → Y) (n : ℕ) (xs : List X) → take n (map f xs) ≡ map f (take n xs)
take_map f zero xs = refl
take_map f (suc n) [] = refl
take_map f (suc n) (x ∷ xs) = ap (λ l. f x ∷ l) (take_map f n xs)

all_taken : {X : Type 0} (P : X → Type 0) (n : ℕ) (xs : List X) → AllByRecursion P xs → AllByRecursion P (take n xs)
all_taken P zero xs all = tt
all_taken P (suc n) [] all = tt
all_taken P (suc n) (x ∷ xs) all = (all.0, all_taken P n xs all.1)

has_taken : {X : Type 0} (n : ℕ) (xs : List X) (x : X) → HasRow (take n xs) x → HasRow xs x
has_taken zero xs x has = absurd has
has_taken (suc n) [] x has = absurd has
has_taken (suc n) (y ∷ xs) x (inl is) = inl is
has_taken (suc n) (y ∷ xs) x (inr there) = inr (has_taken n xs x there)

abbrev unread_rows : Fault → Result (Vec Row Global) Fault
unread_rows fault = Err fault

module _ {X : Type 0} (encode : X → Row) (IsGood : X → Type 0) (rows : Tables → List X) (most number : ℕ) where
  abbrev unread : Fault → Result (Vec X Global) Fault
  unread fault = Err fault

  abbrev passes : X → Bool
  passes row = is_from (Int (pos number)) (encode row)

  few_of : (all : List X) → first_rows encode most number all ≡ map encode (take most (filter passes all))
  few_of all = ap (take most) (filter-map (is_from (Int (pos number))) encode all) ∙ take_map encode most (filter passes all)

  few_good : (all : List X) → All IsGood all → All IsGood (take most (filter passes all))
  few_good all good =
      All-from_recursion IsGood (take most (filter passes all))
      (all_taken IsGood most (filter passes all) (all-filter IsGood passes all (recursion_from_All IsGood all good)))

  pub few_unread : (old new : State) (fault : Fault) → TakesFirst encode rows most number old new (Err fault)
      → ReadsFirst encode IsGood rows most number old new (Err fault)
  few_unread old new fault takes = record {
    says = λ clean. tt;
    good = tt;
    same = λ clean. tt;
    damaged = λ clean is limit tables has good.
        let of : unread_rows fault ≡ Err Damaged = cc in
        takes.damaged clean of limit tables has tt;
    device = λ clean is. let of : unread_rows fault ≡ Err Device = cc in takes.device clean of;
    undone = takes.undone;
    crash = takes.crash;
  }

  pub few_read : (columns : Vec Row Global) (old new : State) (result : Result (Vec X Global) Fault) → TakesFirst encode rows most number old new (Ok columns)
      → IfOk result (λ found. columns.items ≡ map encode found.items) → IfOk result (λ found. All IsGood found.items)
      → (result ≡ Err Damaged → (xs : List X) → All IsGood xs → columns.items ≢ map encode xs) → result ≢ Err Device
      → ReadsFirst encode IsGood rows most number old new result
  few_read columns old new (Ok found) takes ok good bad apart = record {
    says = λ clean tables has. sym ok ∙ takes.says clean tables has;
    good = good;
    same = takes.same;
    damaged = λ clean is. cc;
    device = λ clean is. cc;
    undone = λ clean. tt;
    crash = takes.crash;
  }
  few_read columns old new (Err fault) takes ok good bad apart = record {
    says = λ clean. tt;
    good = tt;
    same = λ clean. tt;
    damaged = λ clean is limit tables has sound.
        bad is (take most (filter passes (rows tables))) (few_good (rows tables) sound) (takes.says clean tables has ∙ few_of (rows tables));
    device = λ clean is. absurd (apart is);
    undone = λ clean. inl (takes.same clean);
    crash = takes.crash;
  }

  -- they are rows of the table
  among : (all found : List X) → map encode found ≡ first_rows encode most number all → AllByRecursion (λ x. HasRow (map encode all) (encode x)) found
  among all found same = each found (λ x has. has)
    where
      one : (x : X) → HasRow found x → HasRow (map encode all) (encode x)
      one x has =
          let there = subst (λ (l : List Row). HasRow l (encode x)) (same ∙ few_of all) (mapped_has encode found x has) in
          let m = has_mapped encode (take most (filter passes all)) (encode x) there in
          let row = (has_filtered passes all m.0 (has_taken most (filter passes all) m.0 m.1)).0 in
          subst (HasRow (map encode all)) (sym m.2) (mapped_has encode all m.0 row)

      each : (xs : List X) → ((x : X) → HasRow xs x → HasRow found x) → AllByRecursion (λ x. HasRow (map encode all) (encode x)) xs
      each [] of = tt
      each (x ∷ xs) of = (one x (of x (inl refl)), each xs (λ y has. of y (inr has)))

  pub few_are : (all found : List X) → map encode found ≡ first_rows encode most number all → All IsGood found
      → AllByRecursion (λ x. HasRow (map encode all) (encode x) × IsGood x) found
  few_are all found same good =
      all_both (λ x. HasRow (map encode all) (encode x)) IsGood (λ x. HasRow (map encode all) (encode x) × IsGood x) (λ x there is. (there, is)) found
      (among all found same) (recursion_from_All IsGood found good)
