-- What is known of a book: the facts that a view holds.
use Rattle.std.specs.Prelude.{ℕ, List, Option, ℤ, option_and_then}
use Rattle.std.specs.BTreeMap.{BTreeMap, get}
use Rattle.std.specs.BTreeSet.{contains}
use Rattle.std.specs.Option.{option_map, unwrap_or}
use Rattle.std.specs.String.{string_bytes}
use Rattle.lot_base.specs.Text.{text_cmp}
use Rattle.lot_inv.specs.Inventory.{Held, Stock, nothing, opening_at}
use Rattle.lot_book.specs.Facts.{Facts}
use Rattle.lot_book.specs.Openings.{FactsWithOpenings, Openings}
use Rattle.lot_view.specs.declared.view.View.{View}

-- the day that is kept for an account and a commodity
abbrev pub day_in : BTreeMap (List ℕ) (BTreeMap (List ℕ) ℤ) → List ℕ → List ℕ → Option ℤ
day_in heads account commodity = option_and_then (λ days. get text_cmp days commodity) (get text_cmp heads account)

-- the inventory that is kept for an account; where there is none the account holds nothing
abbrev pub stock_in : BTreeMap (List ℕ) Stock → List ℕ → Stock
stock_in held account = unwrap_or (get text_cmp held account) nothing

-- the units of that inventory
abbrev pub held_in : BTreeMap (List ℕ) Stock → List ℕ → Held
held_in held account = (stock_in held account).held

-- the opening numbers of its lots
abbrev pub openings_in : BTreeMap (List ℕ) Stock → Openings
openings_in held account = opening_at (stock_in held account)

abbrev pub known : View → Facts
known view = record {
  entries = view.entries;
  text = option_map string_bytes view.text;
  standing = get text_cmp view.standings;
  is_declared = contains text_cmp view.declared;
  latest_at_cost = day_in view.heads;
  held = held_in view.held;
}

-- the same, and the opening numbers of the lots that are held
abbrev pub known_with_openings : View → FactsWithOpenings
known_with_openings view = record { facts = known view; opening = openings_in view.held }
