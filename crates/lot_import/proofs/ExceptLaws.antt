-- Rows of which none is left out: the commands of all of them from a number on, with the numbers from this one on.
use Rattle.std.proofs.Common.{◌≡◌, ◌∙◌, ℕ, ℤ, suc, ◌+◌, ◌-◌, ◌<◌, ◌≤◌, Bool, true, false, cond, ◌&&◌, nat_le, filter, List, [], ◌∷◌, length, map, drop, refl, sym, ap, subst, arith}
use Rattle.std.proofs.lemmas.Bool.{leb-true, leb-false}
use Rattle.std.proofs.lemmas.List.{drop_all, length-map}
use Rattle.std.proofs.lemmas.Slice.Zip.{AllZip-long}
use Rattle.std.specs.List.{enumerate_from, range_with_len}
use Rattle.std.specs.Prelude.{None, Option}
use Rattle.lot_command.specs.declared.key.Key.{Key}
use Rattle.lot_import.specs.Deal.{HasCash, command_with, exact_cash}
use Rattle.lot_import.specs.Keyed.{AreKeyed, AreKeyedFrom, HaveCash, IsKeyed, is_taken, key_of, remaining, remaining_from}
use Rattle.lot_import.specs.declared.accounts.Accounts.{Accounts}
use Rattle.lot_import.specs.declared.row.Row.{Row}
use Rattle.lot_import.proofs.KeyedLemmas.{number_of, row_of}
use Rattle.lot_rounding.specs.declared.asked.Asked.{Asked}

-- all rows remain
pub all_remain : (rows : List Row) → remaining [] rows ≡ rows
all_remain [] = refl
all_remain (row ∷ rows) = ap (λ (more : List Row). row ∷ more) (all_remain rows)

module _ (source : List ℕ) (accounts : Accounts) (decimals : Option ℕ) (from : ℕ) where
  -- the rows that give commands, where the first one has that number
  abbrev Taken : ℕ → List Row → List (ℕ × Row)
  Taken n rows = filter (is_taken from []) (enumerate_from n rows)

  abbrev TakenAs : ℕ → Row → List Row → Bool → List (ℕ × Row)
  TakenAs n row rows high = cond (high && true) ((n, row) ∷ Taken (n + 1) rows) (Taken (n + 1) rows)

  -- ---- the numbers

  abbrev Follow : ℕ → List (ℕ × Row) → Type 0
  Follow first taken = map number_of taken ≡ range_with_len first (length taken)

  follow_on : (n : ℕ) (rows : List Row) → from ≤ n → Follow n (Taken n rows)
  follow_on n [] low = refl
  follow_on n (row ∷ rows) low =
      elim (nat_le from n) as (λ high. nat_le from n ≡ high → Follow n (TakenAs n row rows high)) [
        | true ↦ λ is. ap (λ (ns : List ℕ). n ∷ ns) (follow_on (n + 1) rows (omega (arith, low)))
        | false ↦ λ is. absurd (omega (arith, low, leb-false from n is))
      ] refl

  follow_from : (n : ℕ) (rows : List Row) → n ≤ from → Follow from (Taken n rows)
  follow_from n [] low = refl
  follow_from n (row ∷ rows) low =
      elim (nat_le from n) as (λ high. nat_le from n ≡ high → Follow from (TakenAs n row rows high)) [
        | true ↦ λ is.
            let same : n ≡ from = omega (arith, low, leb-true from n is) in
            subst (λ first. Follow first ((n, row) ∷ Taken (n + 1) rows)) same
            (ap (λ (ns : List ℕ). n ∷ ns) (follow_on (n + 1) rows (omega (arith, same))))
        | false ↦ λ is. follow_from (n + 1) rows (omega (arith, leb-false from n is))
      ] refl

  -- ---- the commands

  abbrev made : Row → ℤ → Key × Asked
  made row cash = (key_of source row, record { command = command_with accounts row cash; cash = exact_cash decimals row; split = None })

  made_is : (row : Row) (has : HasCash decimals row) → IsKeyed source accounts decimals row (made row has.0)
  made_is row has = (refl, record { command = record { cash = has.0; moves = has.1; is = refl }; cash = refl; split = refl })

  -- these are the commands of all rows without the first ones
  abbrev IsRestOf : ℕ → List Row → List (Key × Asked) → Type 0
  IsRestOf n rows commands = (all : List (Key × Asked)) × AreKeyed source accounts decimals rows all × (commands ≡ drop (from - n) all)

  rest_of : (n : ℕ) (rows : List Row) (commands : List (Key × Asked)) → HaveCash decimals rows
      → AreKeyed source accounts decimals (map row_of (Taken n rows)) commands → IsRestOf n rows commands
  rest_of n [] [] have keyed = ([], tt, sym (drop_all (from - n) [] (omega arith)))
  rest_of n [] (c ∷ cs) have keyed = absurd keyed
  rest_of n (row ∷ rows) commands have keyed =
      elim (nat_le from n) as (λ high. nat_le from n ≡ high
      → AreKeyed source accounts decimals (map row_of (TakenAs n row rows high)) commands → IsRestOf n (row ∷ rows) commands) [
        | true ↦ λ is. with_first n row rows commands (leb-true from n is) (λ cs. rest_of (n + 1) rows cs have.1)
        | false ↦ λ is more. without_first n row rows commands have.0 (leb-false from n is) (rest_of (n + 1) rows commands have.1 more)
      ] refl keyed
    where
      with_first : (n : ℕ) (row : Row) (rows : List Row) (commands : List (Key × Asked)) → from ≤ n
          → ((cs : List (Key × Asked)) → AreKeyed source accounts decimals (map row_of (Taken (n + 1) rows)) cs → IsRestOf (n + 1) rows cs)
          → AreKeyed source accounts decimals (row ∷ map row_of (Taken (n + 1) rows)) commands → IsRestOf n (row ∷ rows) commands
      with_first n row rows [] low rest keyed = absurd keyed
      with_first n row rows (c ∷ cs) low rest keyed =
          let more = rest cs keyed.1 in
          let none : from - (n + 1) ≡ 0 = omega (arith, low) in
          let first : 0 ≡ from - n = omega (arith, low) in (
            c ∷ more.0,
            (keyed.0, more.1),
            ap (λ (ks : List (Key × Asked)). c ∷ ks) (more.2 ∙ ap (λ k. drop k more.0) none) ∙ ap (λ k. drop k (c ∷ more.0)) first,
          )

      without_first : (n : ℕ) (row : Row) (rows : List Row) (commands : List (Key × Asked)) → HasCash decimals row → n < from
          → IsRestOf (n + 1) rows commands → IsRestOf n (row ∷ rows) commands
      without_first n row rows commands has high more =
          let one = made row has.0 in
          let next : suc (from - (n + 1)) ≡ from - n = omega (arith, high) in
          (one ∷ more.0, (made_is row has, more.1), more.2 ∙ ap (λ k. drop k (one ∷ more.0)) next)

module _ (source : List ℕ) (accounts : Accounts) (decimals : Option ℕ) (from : ℕ) (rows : List Row) (given : List ℕ × List (Key × Asked))
    (so : AreKeyedFrom source accounts decimals from [] rows given) where
  pub numbers_follow : 1 ≤ from → given.0 ≡ range_with_len from (length given.1)
  numbers_follow some =
      let taken = remaining_from from [] rows in
      let as_many : length taken ≡ length given.1 =
      sym (length-map taken row_of) ∙ sym (AllZip-long (IsKeyed source accounts decimals) (map row_of taken) given.1 so.commands) in
      so.numbers ∙ follow_from source accounts decimals from 1 rows some ∙ ap (range_with_len from) as_many

  pub rest_given : (all : List (Key × Asked)) × AreKeyed source accounts decimals rows all × (given.1 ≡ drop (from - 1) all)
  rest_given = rest_of source accounts decimals from 1 rows given.1 (subst (HaveCash decimals) (all_remain rows) so.have_cash) so.commands
