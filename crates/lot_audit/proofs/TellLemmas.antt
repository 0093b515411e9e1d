-- The rows of a table, told by their columns, tell what is known of the book.
use Rattle.std.specs.Prelude.{◌≡◌, ◌↔◌, Bool, true, false, IsTrue, All, List, [], ◌∷◌, ◌++◌, map, Ok, Vec}
use Rattle.std.specs.List.{AllByRecursion}
use Rattle.std.specs.declared.alloc.Global.{Global}
use Rattle.std.proofs.Common.{refl, sym, ap₂, subst, ◌∙◌}
use Rattle.std.proofs.lemmas.Bool.{true≢false}
use Rattle.std.proofs.lemmas.List.Elements.{All-from_recursion, recursion_from_All}
use Rattle.sqlite.specs.Order.{Row}
use Rattle.sqlite.specs.State.{State}
use Rattle.lot_rows.specs.Tables.{Tables, layout}
use Rattle.lot_table.specs.Call.{ListsColumns}
use Rattle.lot_audit.specs.Checks.{Checks}
use Rattle.lot_audit.specs.Told.{AreTold}
use Rattle.lot_audit.proofs.SeenLemmas.{Tells, tells_whether}

module _ {X : Type 0} (encode : X → Row) (IsGood : X → Type 0) (one : (x y : X) → IsGood x → IsGood y → encode x ≡ encode y → x ≡ y) where
  -- good rows are told by their columns
  one_list : (xs ys : List X) → AllByRecursion IsGood xs → AllByRecursion IsGood ys → map encode xs ≡ map encode ys → xs ≡ ys
  one_list [] [] p q same = refl
  one_list [] (y ∷ ys) p q same = absurd cc
  one_list (x ∷ xs) [] p q same = absurd cc
  one_list (x ∷ xs) (y ∷ ys) p q same =
      let head : encode x ≡ encode y = cc in
      let tail : map encode xs ≡ map encode ys = cc in
      ap₂ (λ (a : X) (l : List X). a ∷ l) (one x y p.0 q.0 head) (one_list xs ys p.1 q.1 tail)

  pub one_rows : (xs ys : List X) → All IsGood xs → All IsGood ys → map encode xs ≡ map encode ys → xs ≡ ys
  one_rows xs ys p q = one_list xs ys (recursion_from_All IsGood xs p) (recursion_from_All IsGood ys q)

  module _ (Told : X → Type 0) where
    -- rows that were found are told exactly where all of them tell it
    told_found : (found rows : List X) (is : Bool) → All IsGood found → map encode found ≡ map encode rows
        → IsTrue is ↔ All Told found → IsTrue is ↔ AreTold encode IsGood Told rows
    told_found found rows is good same tells = (
      (λ yes. record { good_rows = found; same = same; good = good; told = tells.0 yes }),
      (λ are.
          tells.1
          (subst (All Told) (one_rows are.good_rows found are.good good (are.same ∙ sym same)) are.told)),
    )

    -- of good rows each tells it
    pub told_of_good : (rows : List X) → All IsGood rows → AreTold encode IsGood Told rows → AllByRecursion Told rows
    told_of_good rows good are =
        recursion_from_All Told rows (subst (All Told) (one_rows are.good_rows rows are.good good are.same) are.told)

    pub good_are_told : (rows : List X) → All IsGood rows → AllByRecursion Told rows → AreTold encode IsGood Told rows
    good_are_told rows good told =
        record { good_rows = rows; same = refl; good = good; told = All-from_recursion Told rows told }

    among : (done rest : List X) (x : X) → AllByRecursion Told (done ++ x ∷ rest) → Told x
    among [] rest x all = all.0
    among (y ∷ done) rest x all = among done rest x all.1

    module _ (rows : Tables → List X) (old new : State) where
      columns_tell : (found : Vec X Global) (is : Bool) → ListsColumns layout encode IsGood rows old new (Ok found)
          → IsTrue is ↔ All Told found.items
          → Checks (Tells (λ tables. AreTold encode IsGood Told (rows tables))) old new (Ok is)
      columns_tell found is lists tells =
          tells_whether _ _ _ (λ tables. AreTold encode IsGood Told (rows tables)) old new found is lists
          (λ tables has good same. told_found found.items (rows tables) is good same tells)

      -- each of the rows tells it
      pub columns_whole : (found : Vec X Global) (done : List X) → ListsColumns layout encode IsGood rows old new (Ok found)
          → done ≡ found.items → AllByRecursion Told done
          → Checks (Tells (λ tables. AreTold encode IsGood Told (rows tables))) old new (Ok true)
      columns_whole found done lists is told =
          columns_tell found true lists
          ((λ yes. All-from_recursion Told found.items (subst (AllByRecursion Told) is told)), (λ all. refl))

      -- one of them doesn't
      pub columns_among : (found : Vec X Global) (done rest : List X) (x : X) (is : Bool)
          → ListsColumns layout encode IsGood rows old new (Ok found) → done ++ x ∷ rest ≡ found.items → IsTrue is ↔ Told x → is ≡ false
          → Checks (Tells (λ tables. AreTold encode IsGood Told (rows tables))) old new (Ok false)
      columns_among found done rest x is lists split tells out =
          columns_tell found false lists (
            (λ yes. absurd (true≢false (sym yes))),
            (λ all.
                absurd (true≢false
                (sym (tells.1 (among done rest x (subst (AllByRecursion Told) (sym split) (recursion_from_All Told found.items all)))) ∙ out))),
          )
