-- Nothing differs exactly where each commodity is held as it is said.
use Rattle.std.specs.Prelude.{◌≡◌, ◌↔◌, ℕ, ℤ, pos, ◌-ℤ◌, Bool, true, false, not, cond, ◌&&◌, if◌then◌else◌, IsTrue, List, [], ◌∷◌, ◌++◌, None, Some}
use Rattle.std.specs.Cmp.{signed_Decides}
use Rattle.std.specs.List.Sorted.{IsStrictlySortedBy}
use Rattle.std.specs.Map.{keys_of}
use Rattle.std.specs.Ordering.{int_eq}
use Rattle.std.proofs.Common.{refl, sym, ap, subst, ◌∙◌, arith}
use Rattle.std.proofs.lemmas.Bool.{true≢false}
use Rattle.std.proofs.lemmas.Int.{ints}
use Rattle.std.proofs.lemmas.List.{append_assoc}
use Rattle.lot_base.specs.Text.{text_cmp}
use Rattle.lot_legs.specs.declared.leg.DatedLeg.{DatedLeg}
use Rattle.lot_num.specs.Amount.{one}
use Rattle.lot_statement.specs.Line.{Line}
use Rattle.lot_reconcile.specs.Balance.{AreBalances, balance_of, differs, held_in, is_known, said_in}
use Rattle.lot_reconcile.specs.Table.{IsHeldAsSaid, agree}
use Rattle.lot_reconcile.specs.declared.balance.Balance.{Balance}
use Rattle.lot_reconcile.proofs.BalanceLemmas.{unknown}
use Rattle.lot_reconcile.proofs.FindLemmas.{before_none, find, found_at, is_named}

-- ---- a difference of zero

not_so : (b : Bool) → not b ≡ true → b ≡ false
not_so true e = absurd (true≢false (sym e))
not_so false e = refl

double : (b : Bool) → not b ≡ false → b ≡ true
double true e = refl
double false e = absurd (true≢false e)

same_amounts : (said held : ℤ) → said -ℤ held ≡ pos 0 → said ≡ held
same_amounts said held none = omega (arith, ints, none)

no_difference : (said held : ℤ) → said ≡ held → said -ℤ held ≡ pos 0
no_difference said held same = omega (arith, ints, same)

-- ---- what is found agrees

first_agrees : (a b : Bool) → (a && b) ≡ true → a ≡ true
first_agrees true b e = refl
first_agrees false b e = e

rest_agrees : (a b : Bool) → (a && b) ≡ true → b ≡ true
rest_agrees true b e = e
rest_agrees false b e = absurd (true≢false (sym e))

found_agrees : (rows : List (List ℕ × Balance)) (q : List ℕ) (b : Balance) → agree rows ≡ true → find rows q ≡ Some b → differs b ≡ false
found_agrees [] q b all found = cc found
found_agrees (row ∷ rows) q b all found = by (is_named q row.0) refl (found_agrees rows q b)
  where
    by : (c : Bool) → is_named q row.0 ≡ c → (agree rows ≡ true → find rows q ≡ Some b → differs b ≡ false) → differs b ≡ false
    by true here later =
        let some : Some row.1 ≡ Some b = ap (λ c. cond c (Some row.1) (find rows q)) (sym here) ∙ found in
        let same : row.1 ≡ b = cc some in
        subst (λ (x : Balance). differs x ≡ false) same (not_so (differs row.1) (first_agrees (not (differs row.1)) (agree rows) all))
    by false here later =
        later (rest_agrees (not (differs row.1)) (agree rows) all) (ap (λ c. cond c (Some row.1) (find rows q)) (sym here) ∙ found)

-- ---- rows that agree where each that is found does

all_agree : (done rest : List (List ℕ × Balance)) → IsStrictlySortedBy text_cmp (keys_of (done ++ rest))
    → ((q : List ℕ) (b : Balance) → find (done ++ rest) q ≡ Some b → differs b ≡ false) → agree rest ≡ true
all_agree done [] sorted each = refl
all_agree done (row ∷ rest) sorted each =
    let own : differs row.1 ≡ false = each row.0 row.1 (found_at done rest row.0 row.1 (before_none done rest row.0 row.1 sorted)) in
    let moved : (done ++ row ∷ []) ++ rest ≡ done ++ row ∷ rest = append_assoc done (row ∷ []) rest in
    ap (λ b. not b && agree rest) own
    ∙ all_agree (done ++ row ∷ []) rest (subst (λ (rs : List (List ℕ × Balance)). IsStrictlySortedBy text_cmp (keys_of rs)) (sym moved) sorted)
    (λ q b found. each q b (ap (λ (rs : List (List ℕ × Balance)). find rs q) (sym moved) ∙ found))

-- ---- the law

module _ (lines : List Line) (legs : List DatedLeg) (rows : List (List ℕ × Balance)) (are : AreBalances lines legs rows) where
  held_as_said : agree rows ≡ true → IsHeldAsSaid lines legs
  held_as_said all q = by (is_known lines legs q) refl
    where
      by : (b : Bool) → is_known lines legs q ≡ b → said_in lines q ≡ held_in legs q
      by true known =
          let found : find rows q ≡ Some (balance_of lines legs q) =
          are.each q ∙ ap (λ b. if b then Some (balance_of lines legs q) else None) known in
          same_amounts (said_in lines q) (held_in legs q)
          ((signed_Decides (said_in lines q -ℤ held_in legs q) (pos 0)).0
          (double (int_eq (said_in lines q -ℤ held_in legs q) (pos 0)) (found_agrees rows q (balance_of lines legs q) all found)))
      by false none = let (said, held) = unknown lines legs q none in said ∙ sym held

  module _ (same : IsHeldAsSaid lines legs) (q : List ℕ) (b : Balance) where
    known_agrees : (c : Bool) → (if c then Some (balance_of lines legs q) else None) ≡ Some b → differs b ≡ false
    known_agrees true e =
        let same_balance : balance_of lines legs q ≡ b = cc e in
        subst (λ (x : Balance). differs x ≡ false) same_balance
        (ap not ((signed_Decides (said_in lines q -ℤ held_in legs q) (pos 0)).1 (no_difference (said_in lines q) (held_in legs q) (same q))))
    known_agrees false e = cc e

    each_agrees : find rows q ≡ Some b → differs b ≡ false
    each_agrees found = known_agrees (is_known lines legs q) (sym (are.each q) ∙ found)

  agrees : IsHeldAsSaid lines legs → agree rows ≡ true
  agrees same = all_agree [] rows are.in_order (each_agrees same)

  pub agree_where_held : IsTrue (agree rows) ↔ IsHeldAsSaid lines legs
  agree_where_held = (held_as_said, agrees)
