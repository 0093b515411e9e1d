-- A row has one command, and each command comes of one row.
use Rattle.std.proofs.Common.{◌≡◌, ℕ, true, false, List, [], ◌∷◌, ◌++◌, length, Option, Some, None, ℤ, inl, inr, sym, ◌∙◌, ap, refl, arith}
use Rattle.std.proofs.lemmas.Bool.{cases_Bool, eqb-true}
use Rattle.std.proofs.lemmas.Int.{ints}
use Rattle.std.proofs.lemmas.Option.{none-some, same_Some}
use Rattle.std.specs.Prelude.{◌==◌, IfNone, pos, ◌*ℤ◌, neg_ℤ}
use Rattle.lot_num.specs.Amount.{IsUnits, one}
use Rattle.lot_cost.specs.declared.cost_spec.CostSpec.{CostSpec}
use Rattle.lot_cost.specs.declared.cost.Cost.TheVariants as Costs
use Rattle.lot_command.specs.declared.command.Command.{Command}
use Rattle.lot_command.specs.declared.command.Command.TheVariants as Commands
use Rattle.lot_command.specs.declared.price.Price.TheVariants as Prices
use Rattle.lot_command.specs.declared.price.UnitPrice.{UnitPrice}
use Rattle.lot_command.specs.declared.transaction.Amount.{Amount}
use Rattle.lot_command.specs.declared.transaction.Narration.{Narration}
use Rattle.lot_command.specs.declared.transaction.Posting.{Posting}
use Rattle.lot_command.specs.declared.transaction.Transaction.{Transaction}
use Rattle.lot_import.specs.Deal.{HasCash, IsAskedOf, IsCash, IsCommandOf, IsKept, bought, cash_posting, cash_weight, command_with, elided, fee_posting, opened, plain, postings, sold, taken}
use Rattle.lot_import.specs.declared.accounts.Accounts.{Accounts}
use Rattle.lot_import.specs.declared.row.Action.{Action}
use Rattle.lot_import.specs.declared.row.Action.TheVariants.{Buy, Sell}
use Rattle.lot_import.specs.declared.row.Row.{Row}
use Rattle.lot_import.proofs.RecordLaws.{same_fields}
use Rattle.lot_rounding.proofs.NearestLemmas.{one_rounded}
use Rattle.lot_rounding.specs.declared.asked.Asked.{Asked}
use Rattle.lot_rounding.specs.declared.asked.RowCash.{RowCash}
use Rattle.lot_rounding.specs.declared.ratio.Change.{Change}

-- ---- One command.

same_units : (a b : ℤ) → a *ℤ pos one ≡ b *ℤ pos one → a ≡ b
same_units a b e = omega (arith, ints, e)

-- an amount is kept as one
pub one_kept : (decimals : Option ℕ) (amount a b : ℤ) → IsKept decimals amount a → IsKept decimals amount b → a ≡ b
one_kept None amount a b h k = h ∙ sym k
one_kept (Some decimals) amount a b h k = one_rounded decimals amount a b h k

pub one_cash : (decimals : Option ℕ) (row : Row) (a b : ℤ) → IsCash decimals row a → IsCash decimals row b → a ≡ b
one_cash decimals row a b h k =
    same_units a b (one_kept decimals (cash_weight row) (a *ℤ pos one) (b *ℤ pos one) h.kept k.kept)

-- what isn't units is no cash
pub no_units : (decimals : Option ℕ) (row : Row) (kept : ℤ) (found : Option ℤ) → IsKept decimals (cash_weight row) kept
    → ((units : ℤ) → IsUnits units → kept ≡ units *ℤ pos one → found ≡ Some units) → IfNone found (HasCash decimals row → ⊥)
no_units decimals row kept None keeps every = λ (cash, it).
    none-some cash (every cash it.in_range (one_kept decimals (cash_weight row) kept (cash *ℤ pos one) keeps it.kept))
no_units decimals row kept (Some units) keeps every = tt

pub one_command : (accounts : Accounts) (decimals : Option ℕ) (row : Row) (a b : Command)
    → IsCommandOf accounts decimals row a → IsCommandOf accounts decimals row b → a ≡ b
one_command accounts decimals row a b h k =
    h.is ∙ ap (command_with accounts row) (one_cash decimals row h.cash k.cash h.moves k.moves) ∙ sym k.is

same_asked : (a b : Command) (p q : Option RowCash) (r s : Option Change) → a ≡ b → p ≡ q → r ≡ s
    → ◌≡◌ {A = Asked} (record { command = a; cash = p; split = r }) (record { command = b; cash = q; split = s })
same_asked a b p q r s command cash split = rw (command, cash, split) refl

pub one_asked : (accounts : Accounts) (decimals : Option ℕ) (row : Row) (a b : Asked)
    → IsAskedOf accounts decimals row a → IsAskedOf accounts decimals row b → a ≡ b
one_asked accounts decimals row a b h k =
    same_asked a.command b.command a.cash b.cash a.split b.split (one_command accounts decimals row a.command b.command h.command k.command)
    (h.cash ∙ sym k.cash) (h.split ∙ sym k.split)

-- ---- One row.

abbrev posting : List ℕ → Amount → Posting
posting account amount = record { account = account; amount = Some amount }

same_amount : (a b : List ℕ) (x y : Amount) → posting a x ≡ posting b y → x ≡ y
same_amount a b x y e = same_Some x y (ap (λ (p : Posting). p.amount) e)

same_cost : (x y : CostSpec) → Some (Costs.Each x) ≡ Some (Costs.Each y) → x ≡ y
same_cost x y e = cc

same_price : (x y : UnitPrice) → Some (Prices.Each x) ≡ Some (Prices.Each y) → x ≡ y
same_price x y e = cc

-- what the first postings and the fees of two rows have in common
record IsSameDeal (a b : Row) (x y : Action) : Type 0 where
  action : x ≡ y
  symbol : a.symbol ≡ b.symbol
  units : a.units ≡ b.units
  price : a.price ≡ b.price
  currency : a.currency ≡ b.currency
  lot : a.lot ≡ b.lot
  fee : a.fee ≡ b.fee

same_bought : (accounts : Accounts) (a b : Row) → bought accounts a ≡ bought accounts b → a.fee ≡ b.fee → IsSameDeal a b Buy Buy
same_bought accounts a b e fee =
    let amount = same_amount accounts.invest accounts.invest _ _ e in
    let cost = same_cost (opened a) (opened b) (ap (λ (x : Amount). x.cost) amount) in
    record {
      action = refl;
      symbol = ap (λ (x : Amount). x.commodity) amount;
      units = ap (λ (x : Amount). x.units) amount;
      price = same_Some a.price b.price (ap (λ (x : CostSpec). x.number) cost);
      currency = same_Some a.currency b.currency (ap (λ (x : CostSpec). x.currency) cost);
      lot = ap (λ (x : CostSpec). x.label) cost;
      fee = fee;
    }

same_negated : (a b : ℤ) → neg_ℤ a ≡ neg_ℤ b → a ≡ b
same_negated a b e = omega (arith, ints, e)

same_sold : (accounts : Accounts) (a b : Row) → sold accounts a ≡ sold accounts b → a.fee ≡ b.fee → IsSameDeal a b Sell Sell
same_sold accounts a b e fee =
    let amount = same_amount accounts.invest accounts.invest _ _ e in
    let cost = same_cost (taken a) (taken b) (ap (λ (x : Amount). x.cost) amount) in
    let price = same_price (record { rate = a.price; currency = a.currency }) (record { rate = b.price; currency = b.currency }) (ap (λ (x : Amount). x.price) amount) in
    record {
      action = refl;
      symbol = ap (λ (x : Amount). x.commodity) amount;
      units = same_negated a.units b.units (ap (λ (x : Amount). x.units) amount);
      price = ap (λ (x : UnitPrice). x.rate) price;
      currency = ap (λ (x : UnitPrice). x.currency) price;
      lot = ap (λ (x : CostSpec). x.label) cost;
      fee = fee;
    }

not_both : (accounts : Accounts) (a b : Row) → bought accounts a ≡ sold accounts b → ⊥
not_both accounts a b e =
    let amount = same_amount accounts.invest accounts.invest _ _ e in
    let cost = same_cost (opened a) (taken b) (ap (λ (x : Amount). x.cost) amount) in
    let number : Some a.price ≡ None = ap (λ (x : CostSpec). x.number) cost in
    none-some a.price (sym number)

-- postings behind the fee, which is left out where it is zero
without_fee : (accounts : Accounts) (row : Row) (others : List Posting) → (row.fee == 0) ≡ true → fee_posting accounts row ++ others ≡ others
without_fee accounts row others e = rw (e) refl

with_fee : (accounts : Accounts) (row : Row) (others : List Posting) → (row.fee == 0) ≡ false
    → fee_posting accounts row ++ others ≡ plain accounts.fees (pos row.fee) row.currency ∷ others
with_fee accounts row others e = rw (e) refl

longer : (p : Posting) (x y : List Posting) → length x ≡ length y → x ≡ p ∷ y → ⊥
longer p x y long e = let lengths : length x ≡ length (p ∷ y) = ap length e in omega (arith, lengths, long)

same_fee : (accounts : Accounts) (a b : Row) (x y : List Posting)
    → plain accounts.fees (pos a.fee) a.currency ∷ x ≡ plain accounts.fees (pos b.fee) b.currency ∷ y → a.fee ≡ b.fee
same_fee accounts a b x y e =
    let first : plain accounts.fees (pos a.fee) a.currency ≡ plain accounts.fees (pos b.fee) b.currency = cc in
    let amount = same_amount accounts.fees accounts.fees _ _ first in
    let units : pos a.fee ≡ pos b.fee = ap (λ (z : Amount). z.units) amount in
    cc

same_fees : (accounts : Accounts) (a b : Row) (x y : List Posting) → length x ≡ length y
    → fee_posting accounts a ++ x ≡ fee_posting accounts b ++ y → a.fee ≡ b.fee
same_fees accounts a b x y long e =
    elim (cases_Bool (a.fee == 0)) [
      | inl p ↦ elim (cases_Bool (b.fee == 0)) [
        | inl q ↦ eqb-true a.fee 0 p ∙ sym (eqb-true b.fee 0 q)
        | inr q ↦ absurd (longer _ x y long (sym (without_fee accounts a x p) ∙ e ∙ with_fee accounts b y q))
      ]
      | inr p ↦ elim (cases_Bool (b.fee == 0)) [
        | inl q ↦ absurd (longer _ y x (sym long) (sym (without_fee accounts b y q) ∙ sym e ∙ with_fee accounts a x p))
        | inr q ↦ same_fee accounts a b x y (sym (with_fee accounts a x p) ∙ e ∙ with_fee accounts b y q)
      ]
    ]

same_deal : (accounts : Accounts) (a b : Row) (p q : ℤ) (x y : Action) → postings x accounts a p ≡ postings y accounts b q → IsSameDeal a b x y
same_deal accounts a b p q Buy Buy e =
    let first : bought accounts a ≡ bought accounts b = cc in
    let others : fee_posting accounts a ++ cash_posting accounts a p ∷ [] ≡ fee_posting accounts b ++ cash_posting accounts b q ∷ [] = cc in
    same_bought accounts a b first (same_fees accounts a b (cash_posting accounts a p ∷ []) (cash_posting accounts b q ∷ []) refl others)
same_deal accounts a b p q Buy Sell e = let first : bought accounts a ≡ sold accounts b = cc in absurd (not_both accounts a b first)
same_deal accounts a b p q Sell Buy e = let first : bought accounts b ≡ sold accounts a = cc in absurd (not_both accounts b a first)
same_deal accounts a b p q Sell Sell e =
    let first : sold accounts a ≡ sold accounts b = cc in
    let others : fee_posting accounts a ++ cash_posting accounts a p ∷ elided accounts.gains ∷ []
    ≡ fee_posting accounts b ++ cash_posting accounts b q ∷ elided accounts.gains ∷ [] = cc
    in
    same_sold accounts a b first
    (same_fees accounts a b (cash_posting accounts a p ∷ elided accounts.gains ∷ []) (cash_posting accounts b q ∷ elided accounts.gains ∷ []) refl others)

same_transaction : (x y : Transaction) → Commands.Transaction x ≡ Commands.Transaction y → x ≡ y
same_transaction x y e = cc

same_rows : (accounts : Accounts) (a b : Row) (p q : ℤ) → command_with accounts a p ≡ command_with accounts b q → a ≡ b
same_rows accounts a b p q e =
    let transaction = same_transaction _ _ e in
    let narration = same_Some _ _ (ap (λ (t : Transaction). t.narration) transaction) in
    let deal = same_deal accounts a b p q a.action b.action (ap (λ (t : Transaction). t.postings) transaction) in
    same_fields a.name b.name a.day b.day a.action b.action a.symbol b.symbol a.units b.units a.price b.price a.currency b.currency a.fee b.fee a.lot b.lot
    (ap (λ (n : Narration). n.text) narration) (ap (λ (t : Transaction). t.day) transaction)
    deal.action deal.symbol deal.units deal.price deal.currency deal.fee deal.lot

pub one_row_of : (accounts : Accounts) (decimals others : Option ℕ) (a b : Row) (command : Command)
    → IsCommandOf accounts decimals a command → IsCommandOf accounts others b command → a ≡ b
one_row_of accounts decimals others a b command h k = same_rows accounts a b h.cash k.cash (sym h.is ∙ k.is)
