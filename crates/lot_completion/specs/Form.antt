-- Completions by form: what can be seen of a completion in its text, whatever the book said when it was accepted.
use Rattle.std.specs.Prelude.{◌≡◌, ◌*◌, ◌&&◌, ◌||◌, ℕ, Bool, true, false, List, [], ◌∷◌, ◌++◌, flat_map, Option, None, Some, ℤ, nat_le, unsigned_abs}
use Rattle.std.specs.List.{list_all, list_any}
use Rattle.lot_num.specs.Amount.{one}
use Rattle.lot_base.specs.Text.{same_text}
use Rattle.lot_cost.specs.declared.cost.Cost.{Cost}
use Rattle.lot_cost.specs.declared.cost.Cost.TheVariants as cost
use Rattle.lot_command.specs.declared.transaction.Amount.{Amount}
use Rattle.lot_command.specs.declared.transaction.Posting.{Posting}
use Rattle.lot_command.specs.declared.transaction.Transaction.{Transaction as TransactionOf}
use Rattle.lot_completion.specs.Completion.{weighs_at_price}
use Rattle.lot_completion.specs.Crumbs.{crumb_postings}
use Rattle.lot_completion.specs.Rates.{RatesAll, postings_of}
use Rattle.lot_completion.specs.declared.rates.RatedPosting.{RatedPosting}
use Rattle.lot_rounding.specs.Asked.{IsAtSomeDecimals}
use Rattle.lot_rounding.specs.declared.asked.RowCash.{RowCash}

-- ---- Currencies in which a product may weigh.

-- whether a cost may be in the currency: it names that, or none
abbrev pub may_name : List ℕ → Option (List ℕ) → Bool
may_name currency None = true
may_name currency (Some named) = same_text currency named

abbrev pub may_cost_in : List ℕ → Option Cost → Bool
may_cost_in currency None = false
may_cost_in currency (Some (cost.Each spec)) = may_name currency spec.currency
may_cost_in currency (Some (cost.Whole whole)) = may_name currency whole.1.currency

-- whether a posting with that amount may weigh in the currency by a product
abbrev pub may_weigh_in : List ℕ → Option Amount → Bool
may_weigh_in currency None = false
may_weigh_in currency (Some amount) = may_cost_in currency amount.cost || weighs_at_price currency (Some amount)

abbrev pub may_have_products_in : List Posting → List ℕ → Bool
may_have_products_in postings currency = list_any (λ (p : Posting). may_weigh_in currency p.amount) postings

-- ---- Crumbs that an account may have taken.

-- no two are in one currency
abbrev pub AreApart : List (List ℕ × ℤ) → Type 0
AreApart [] = Unit {0}
AreApart (c ∷ cs) = (list_any (λ (d : List ℕ × ℤ). same_text c.0 d.0) cs ≡ false) × AreApart cs

-- the most that a crumb may be, at scale 16: one
abbrev pub most_of_crumb : ℕ
most_of_crumb = one * one

-- whether an account may have taken a crumb behind these postings: it is at most one, in a currency in which a product may weigh
abbrev pub may_be_taken : List Posting → List ℕ × ℤ → Bool
may_be_taken postings crumb = nat_le (unsigned_abs crumb.1) most_of_crumb && may_have_products_in postings crumb.0

-- ---- Completions by form.

-- A transaction is a completion of another by form: its postings are those of the other, each total that no rate comes to a
-- rate, with the cash of a row at any decimals. Behind them nothing stands, or the postings that make up for crumbs of one
-- account, each in a currency of its own.
pub record IsByForm (cash : Option RowCash) (t stands : TransactionOf) : Type 0 where
  pub written : TransactionOf
  pub at : IsAtSomeDecimals cash t written
  pub rated : List RatedPosting
  pub rates : RatesAll written.postings rated
  pub account : List ℕ
  pub crumbs : List (List ℕ × ℤ)
  pub apart : AreApart crumbs
  pub taken : list_all (may_be_taken (postings_of rated)) crumbs ≡ true
  pub is : stands ≡ record written { postings = postings_of rated ++ flat_map (crumb_postings account) crumbs }
