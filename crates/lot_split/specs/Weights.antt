-- What the postings of a split weigh, for the law that it balances (docs/RULES.md, Weight).
use Rattle.std.specs.Prelude.{ℕ, List, [], ◌∷◌, map, filter, flat_map, Option, None, Some, ℤ, pos, ◌*ℤ◌, neg_ℤ}
use Rattle.lot_base.specs.Text.{same_text}
use Rattle.lot_num.specs.Amount.{one}
use Rattle.lot_num.specs.Sum.{sum_of}
use Rattle.lot_cost.specs.declared.cost.Cost.{Cost}
use Rattle.lot_cost.specs.declared.cost.Cost.TheVariants as cost
use Rattle.lot_cost.specs.declared.method.Method.{Method}
use Rattle.lot_cost.specs.declared.method.Method.TheVariants.{Strict, Fifo, Lifo, Hifo, Unmatched}
use Rattle.lot_command.specs.declared.price.Price.{Price}
use Rattle.lot_command.specs.declared.price.Price.TheVariants as price
use Rattle.lot_command.specs.declared.transaction.Amount.{Amount}
use Rattle.lot_command.specs.declared.transaction.Posting.{Posting}
use Rattle.lot_split.specs.Lots.{cost_in}
use Rattle.lot_split.specs.declared.lot.HeldLot.{HeldLot}

-- units at the number and in the currency that braces give; without one of them the braces take lots, and these weigh
abbrev pub weight_at_cost : ℤ → Option ℕ → Option (List ℕ) → List (List ℕ × ℤ)
weight_at_cost units None currency = []
weight_at_cost units (Some number) None = []
weight_at_cost units (Some number) (Some currency) = (currency, units *ℤ pos number) ∷ []

-- where a posting weighs by its text alone, and how much; of no split it has a total in braces or a price of all units
abbrev pub weight_by : Option Cost → Option Price → List ℕ → ℤ → List (List ℕ × ℤ)
weight_by None None commodity units = (commodity, units *ℤ pos one) ∷ []
weight_by None (Some (price.Each each)) commodity units = (each.currency, units *ℤ pos each.rate) ∷ []
weight_by None (Some (price.Whole whole)) commodity units = []
weight_by (Some (cost.Each spec)) at commodity units = weight_at_cost units spec.number spec.currency
weight_by (Some (cost.Whole whole)) at commodity units = []

abbrev pub weight_at : Option Amount → List (List ℕ × ℤ)
weight_at None = []
weight_at (Some amount) = weight_by amount.cost amount.price amount.commodity amount.units

abbrev pub weights_of : List Posting → List (List ℕ × ℤ)
weights_of postings = flat_map (λ (p : Posting). weight_at p.amount) postings

-- what weights come to in a currency
abbrev pub weigh_in : List ℕ → List (List ℕ × ℤ) → ℤ
weigh_in currency weights =
    sum_of (map (λ (w : List ℕ × ℤ). w.1) (filter (λ (w : List ℕ × ℤ). same_text currency w.0) weights))

-- What the lots weigh in a currency that a posting takes by `{}`: what they cost, with the other sign, since it takes each whole.
-- Under NONE there is no such posting.
abbrev pub taken_in : Method → List HeldLot → List ℕ → ℤ
taken_in Strict lots currency = neg_ℤ (cost_in currency lots)
taken_in Fifo lots currency = neg_ℤ (cost_in currency lots)
taken_in Lifo lots currency = neg_ℤ (cost_in currency lots)
taken_in Hifo lots currency = neg_ℤ (cost_in currency lots)
taken_in Unmatched lots currency = pos 0
