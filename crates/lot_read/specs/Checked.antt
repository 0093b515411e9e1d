-- What the parts of a line mean before anything of it is kept; for the code alone.
use Rattle.std.specs.Prelude.{ℕ, ◌==◌, ◌||◌, Bool, not, if◌then◌else◌, List, [], ◌∷◌, Option, None, option_map}
use Rattle.std.specs.Option.{option_or}
use Rattle.lot_base.specs.Name.{is_commodity, is_label}
use Rattle.lot_cost.specs.declared.cost_spec.CostSpec.{CostSpec}
use Rattle.lot_cost.specs.declared.cost.Cost.{Cost}
use Rattle.lot_cost.specs.declared.cost.Cost.TheVariants as Costs
use Rattle.lot_command.specs.declared.price.Price.{Price}
use Rattle.lot_command.specs.declared.price.Price.TheVariants as Prices
use Rattle.lot_command.specs.declared.transaction.Amount.{Amount}
use Rattle.lot_command.specs.declared.transaction.Posting.{Posting}
use Rattle.lot_syntax.specs.Form.{CostPart}
use Rattle.lot_read.specs.declared.cost.CheckedCost.{CheckedCost}
use Rattle.lot_read.specs.declared.cost.CheckedCost.TheVariants as CheckedCosts
use Rattle.lot_read.specs.declared.price.CheckedPrice.{CheckedPrice}
use Rattle.lot_read.specs.declared.price.CheckedPrice.TheVariants as CheckedPrices
use Rattle.lot_read.specs.declared.posting_line.CheckedAmount.{CheckedAmount}
use Rattle.lot_read.specs.declared.posting_line.CheckedPosting.{CheckedPosting}
use Rattle.lot_read.specs.declared.given.Given.{Given}
use Rattle.lot_read.specs.Meaning.{MeansPerhaps, MeansDay, Names, Quotes, number_in, currency_in, day_in, label_in}

-- the parts give that, the number by its kind
pub record MeansGiven {N : Type 0} (Means : List ℕ → N → Type 0) (parts : List CostPart) (given : Given N) : Type 0 where
  pub number : MeansPerhaps Means (number_in parts) given.number
  pub currency : MeansPerhaps (Names is_commodity) (currency_in parts) given.currency
  pub day : MeansPerhaps MeansDay (day_in parts) given.day
  pub label : MeansPerhaps (Quotes is_label) (label_in parts) given.label

-- what either gives, the first before the second
abbrev pub either : {N : Type 0} → Given N → Given N → Given N
either a b = record {
  number = option_or a.number b.number;
  currency = option_or a.currency b.currency;
  day = option_or a.day b.day;
  label = option_or a.label b.label;
}

-- what is given beside the number, with that number
abbrev pub spec_of : {N : Type 0} → Option ℕ → Given N → CostSpec
spec_of number given = record { number = number; currency = given.currency; day = given.day; label = given.label }

-- ---- What is kept of each.

abbrev pub cost_of : CheckedCost → Cost
cost_of (CheckedCosts.Each given) = Costs.Each (spec_of given.number given)
cost_of (CheckedCosts.Whole total given) = Costs.Whole (total, spec_of None given)

abbrev pub price_of : CheckedPrice → Price
price_of (CheckedPrices.Each rate currency) = Prices.Each (record { rate = rate; currency = currency })
price_of (CheckedPrices.Whole total currency) = Prices.Whole (total, currency)

abbrev pub amount_of : CheckedAmount → Amount
amount_of a = record {
  units = a.units;
  commodity = a.commodity;
  cost = option_map cost_of a.cost;
  price = option_map price_of a.price;
}

abbrev pub posting_of : CheckedPosting → Posting
posting_of p = record { account = p.account; amount = option_map amount_of p.amount }

-- ---- Notes.

-- no quote and no backslash
abbrev pub is_plain : ℕ → Bool
is_plain byte = not ((byte == 34) || (byte == 92))

-- the text of which this is the escape
unfoldable pub text_of : List ℕ → List ℕ
text_of [] = []
text_of (b ∷ []) = b ∷ []
text_of (b ∷ c ∷ rest) = if b == 92 then c ∷ text_of rest else b ∷ text_of (c ∷ rest)
