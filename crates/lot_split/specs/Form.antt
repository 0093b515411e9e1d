-- Splits by form: what can be seen of a split in its text, whatever the book said when it was accepted.
use Rattle.std.specs.Prelude.{◌≡◌, ℕ, ◌≤◌, ◌&&◌, ◌||◌, ◌/◌, Bool, true, false, if◌then◌else◌, is_none, is_some, List, [], ◌∷◌, filter, length, map, take, drop, Option, None, Some, ℤ, pos, ◌*ℤ◌, neg_ℤ}
use Rattle.std.specs.List.{list_all}
use Rattle.lot_num.specs.Amount.{IsUnits}
use Rattle.lot_num.specs.Sum.{sum_of}
use Rattle.lot_base.specs.Text.{same_text}
use Rattle.lot_cost.specs.declared.cost.Cost.{Cost}
use Rattle.lot_cost.specs.declared.cost.Cost.TheVariants.{Each, Whole}
use Rattle.lot_cost.specs.declared.cost_spec.CostSpec.{CostSpec}
use Rattle.lot_command.specs.declared.transaction.Amount.{Amount}
use Rattle.lot_command.specs.declared.transaction.Flag.TheVariants.{Complete}
use Rattle.lot_command.specs.declared.transaction.Posting.{Posting}
use Rattle.lot_command.specs.declared.transaction.Transaction.{Transaction}
use Rattle.lot_rounding.specs.declared.ratio.Change.{Change}
use Rattle.lot_rounding.specs.declared.ratio.Ratio.{Ratio}
use Rattle.lot_rounding.specs.Ratio.{IsLowest, amounts_of}
use Rattle.lot_split.specs.Split.{most_postings}
use Rattle.lot_split.specs.declared.transaction.Split.{Split}

-- ---- The postings of a split.

abbrev pub has_braces_for : List ℕ → Option Amount → Bool
has_braces_for commodity None = false
has_braces_for commodity (Some amount) = is_some amount.cost && same_text commodity amount.commodity

-- whether a posting takes or opens lots of the commodity in the account: it has braces
abbrev pub moves_lots : Split → Posting → Bool
moves_lots asked posting = same_text asked.account posting.account && has_braces_for asked.commodity posting.amount

abbrev pub is_without_braces : Option Amount → Bool
is_without_braces None = true
is_without_braces (Some amount) = is_none amount.cost

-- whether it moves such lots, or has no braces
abbrev pub is_of_split : Split → Posting → Bool
is_of_split asked posting = moves_lots asked posting || is_without_braces posting.amount

-- those that move lots
abbrev pub moving : Split → List Posting → List Posting
moving asked postings = filter (moves_lots asked) postings

abbrev pub units_of : Option Amount → ℤ
units_of None = pos 0
units_of (Some amount) = amount.units

-- the units of postings together
abbrev pub units_in : List Posting → ℤ
units_in postings = sum_of (map (λ (p : Posting). units_of p.amount) postings)

-- ---- Which of them take lots.

-- whether braces have no part, so that they fit each lot
abbrev pub is_empty_spec : CostSpec → Bool
is_empty_spec spec = is_none spec.number && is_none spec.currency && is_none spec.day && is_none spec.label

abbrev pub fits_each_at : Option Cost → Bool
fits_each_at None = false
fits_each_at (Some (Each spec)) = is_empty_spec spec
fits_each_at (Some (Whole whole)) = false

abbrev pub fits_each : Option Amount → Bool
fits_each None = false
fits_each (Some amount) = fits_each_at amount.cost

-- how many of the postings that move lots take them: the first, where its braces fit each lot, else the first half
abbrev pub count_taking : List Posting → ℕ
count_taking [] = 0
count_taking (p ∷ ps) = if fits_each p.amount then 1 else length (p ∷ ps) / 2

-- ---- Splits by form.

-- so many units become so many in the ratio of a change, in lowest terms
pub record Changes (change : Change) (held split : ℤ) : Type 0 where
  pub in_range : IsUnits held
  pub ratio : Ratio
  pub lowest : IsLowest (amounts_of change held) ratio
  pub become : split *ℤ pos ratio.old ≡ held *ℤ pos ratio.new

-- the units that are taken become those that are opened
abbrev pub ChangesIn : Change → List Posting → Type 0
ChangesIn change moved =
    Changes change (neg_ℤ (units_in (take (count_taking moved) moved))) (units_in (drop (count_taking moved) moved))

-- A transaction is a split by form: of that day, with that narration, and with no more postings than one may have; it takes lots
-- of the commodity in the account and opens others, in that ratio or with so many units more; and what stands beside has no
-- braces.
pub record IsSplitByForm (asked : Split) (stands : Transaction) : Type 0 where
  pub day : stands.day ≡ asked.day
  pub complete : stands.flag ≡ Complete
  pub narration : stands.narration ≡ asked.narration
  pub few : length stands.postings ≤ most_postings
  pub alone : list_all (is_of_split asked) stands.postings ≡ true
  pub changes : ChangesIn asked.change (moving asked stands.postings)
