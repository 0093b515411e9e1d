-- A row is known by what it says at other decimals.
use Rattle.std.proofs.Common.{◌≡◌, ◌∙◌, ℕ, ◌≤◌, ◌<◌, ◌*◌, Some, None, Option, inl, inr, ap, refl, subst, sym, arith}
use Rattle.std.proofs.lemmas.Bool.{cases_Bool}
use Rattle.std.proofs.lemmas.Int.{unsigned_abs-mul}
use Rattle.std.specs.Prelude.{◌==◌, ℤ, pos, ◌*ℤ◌, unsigned_abs}
use Rattle.lot_num.specs.Amount.{IsUnits, one, units_limit}
use Rattle.lot_command.specs.declared.command.Command.TheVariants as Commands
use Rattle.lot_command.specs.declared.transaction.Transaction.{Transaction as TransactionOf}
use Rattle.lot_import.specs.Deal.{HasCash, IsAskedOf, IsCommandOf, MayBeGiven, cash_place, cash_weight, postings, transaction_with}
use Rattle.lot_import.specs.declared.accounts.Accounts.{Accounts}
use Rattle.lot_import.specs.declared.row.Action.{Action}
use Rattle.lot_import.specs.declared.row.Action.TheVariants.{Buy, Sell}
use Rattle.lot_import.specs.declared.row.Row.{Row}
use Rattle.lot_rounding.proofs.NearestLemmas.{rounded_units, units_are_rounded}
use Rattle.lot_rounding.specs.Asked.{HasCashAt, IsAtSomeDecimals, with_units_at}
use Rattle.lot_rounding.specs.Nearest.{IsRounded, most_decimals}
use Rattle.lot_rounding.specs.declared.asked.Asked.{Asked}
use Rattle.lot_rounding.specs.declared.asked.RowCash.{RowCash}

-- ---- Rounded cash.

below : (units : ℤ) → unsigned_abs (units *ℤ pos one) < units_limit * one → IsUnits units
below units few = omega (arith, unsigned_abs-mul units (pos one), few)

-- rounded cash is units, unless it is out of their range
pub rounded_cash : (decimals : ℕ) (row : Row) (rounded : ℤ) → decimals ≤ most_decimals → IsRounded decimals (cash_weight row) rounded
    → unsigned_abs rounded < units_limit * one → HasCash (Some decimals) row
rounded_cash decimals row rounded few is small =
    let (units, same) = rounded_units decimals (cash_weight row) rounded few is in (
      units,
      record {
        in_range = below units (subst (λ (r : ℤ). unsigned_abs r < units_limit * one) same small);
        kept = subst (λ (r : ℤ). IsRounded decimals (cash_weight row) r) same is;
      },
    )

-- exact cash is that at eight decimals, too
exact_is_rounded : (accounts : Accounts) (row : Row) (written : TransactionOf) → IsCommandOf accounts None row (Commands.Transaction written)
    → IsCommandOf accounts (Some most_decimals) row (Commands.Transaction written)
exact_is_rounded accounts row written h =
    record {
      cash = h.cash;
      moves = record {
        in_range = h.moves.in_range;
        kept = subst (λ (amount : ℤ). IsRounded most_decimals amount (h.cash *ℤ pos one)) h.moves.kept (units_are_rounded h.cash);
      };
      is = h.is;
    }

-- ---- The same row with other cash.

other_postings : (accounts : Accounts) (row : Row) (a b : ℤ) (action : Action)
    → postings action accounts row b ≡ with_units_at (cash_place row) b (postings action accounts row a)
other_postings accounts row a b Buy = elim (cases_Bool (row.fee == 0)) [ inl e ↦ rw (e) refl | inr e ↦ rw (e) refl ]
other_postings accounts row a b Sell = elim (cases_Bool (row.fee == 0)) [ inl e ↦ rw (e) refl | inr e ↦ rw (e) refl ]

other_cash : (accounts : Accounts) (row : Row) (a b : ℤ)
    → transaction_with accounts row b
    ≡ record (transaction_with accounts row a) { postings = with_units_at (cash_place row) b (transaction_with accounts row a).postings }
other_cash accounts row a b = ap (λ ps. record (transaction_with accounts row a) { postings = ps }) (other_postings accounts row a b row.action)

same_transaction : (x y : TransactionOf) → Commands.Transaction x ≡ Commands.Transaction y → x ≡ y
same_transaction x y e = cc

module _ (accounts : Accounts) (decimals : ℕ) (row : Row) (asked : Asked) (t : TransactionOf)
    (is : IsAskedOf accounts (Some decimals) row asked) (of : asked.command ≡ Commands.Transaction t) where
  known_at : (at : ℕ) (written : TransactionOf) → at ≤ most_decimals → IsCommandOf accounts (Some at) row (Commands.Transaction written)
      → IsAtSomeDecimals asked.cash t written
  known_at at written few other =
      let first : t ≡ transaction_with accounts row is.command.cash = same_transaction _ _ (sym of ∙ is.command.is) in
      let second : written ≡ transaction_with accounts row other.cash = same_transaction _ _ other.is in
      let cash : RowCash = record { place = cash_place row; exact = cash_weight row } in
      let has : HasCashAt cash at t written = record {
        units = other.cash;
        in_range = other.moves.in_range;
        rounds = other.moves.kept;
        is = second ∙ other_cash accounts row is.command.cash other.cash
            ∙ ap (λ (x : TransactionOf). record x { postings = with_units_at (cash_place row) other.cash x.postings }) (sym first);
      } in
      subst (λ c. IsAtSomeDecimals c t written) (sym is.cash) (at, few, has)

  pub known : (earlier : Option ℕ) (written : TransactionOf) → MayBeGiven earlier → IsCommandOf accounts earlier row (Commands.Transaction written)
      → IsAtSomeDecimals asked.cash t written
  known None written given other = known_at most_decimals written (omega arith) (exact_is_rounded accounts row written other)
  known (Some at) written given other = known_at at written given other

pub known_itself : (accounts : Accounts) (decimals : Option ℕ) (row : Row) (asked : Asked) (t : TransactionOf) → MayBeGiven decimals
    → IsAskedOf accounts decimals row asked → asked.command ≡ Commands.Transaction t → IsAtSomeDecimals asked.cash t t
known_itself accounts None row asked t given is of = subst (λ c. IsAtSomeDecimals c t t) (sym is.cash) refl
known_itself accounts (Some decimals) row asked t given is of =
    known accounts decimals row asked t is of (Some decimals) t given
    (subst (λ c. IsCommandOf accounts (Some decimals) row c) of is.command)
