-- Facts as they are put together: none, those of a whole book, one fact more, and those once a command is accepted.
use Rattle.std.specs.Prelude.{ℕ, suc, ◌&&◌, ◌||◌, false, if◌then◌else◌, List, [], ◌∷◌, length, Option, None, Some, ℤ}
use Rattle.std.specs.FinMap as finite
use Rattle.std.specs.Option.{option_map, option_or}
use Rattle.lot_base.specs.Text.{same_text}
use Rattle.lot_inv.specs.Inventory.{Held, added, with_units}
use Rattle.lot_cost.specs.declared.lot_key.LotKey.{LotKey}
use Rattle.lot_command.specs.declared.command.Command.{Command}
use Rattle.lot_command.specs.declared.command.Command.TheVariants.{Opening, Closing, Declaring, Quoting, Transaction}
use Rattle.lot_book.specs.declared.change.Change.{Change}
use Rattle.lot_book.specs.declared.leg.Position.{Position}
use Rattle.lot_book.specs.declared.standing.Standing.{Standing}
use Rattle.lot_book.specs.Change.{day_listed}
use Rattle.lot_book.specs.Facts.{Entry, Facts, declares, is_declared, latest_at_cost, legs_of, standing_by, standing_of}
use Rattle.lot_book.specs.Leg.{inventory_of}

-- so many entries, and nothing else
abbrev pub nothing_but : ℕ → Facts
nothing_but entries = record {
  entries = entries;
  text = None;
  standing = λ account. None;
  is_declared = λ commodity. false;
  latest_at_cost = λ account commodity. None;
  held = λ account. finite.empty;
}

-- what a book says to a command with a key that it doesn't have
abbrev pub facts_in : List Entry → Facts
facts_in entries = record {
  entries = length entries;
  text = None;
  standing = standing_of entries;
  is_declared = is_declared entries;
  latest_at_cost = latest_at_cost entries;
  held = inventory_of (legs_of entries);
}

-- ---- facts with one fact more

abbrev pub with_text : List ℕ → Facts → Facts
with_text text facts = record facts { text = Some text }

abbrev pub without_text : Facts → Facts
without_text facts = record facts { text = None }

abbrev pub with_standing : List ℕ → Standing → Facts → Facts
with_standing account standing facts =
    record facts { standing = λ other. if same_text other account then Some standing else facts.standing other }

abbrev pub with_declared : List ℕ → Facts → Facts
with_declared commodity facts = record facts { is_declared = λ other. same_text other commodity || facts.is_declared other }

-- the latest day at cost of an account and a commodity
abbrev pub with_head : List ℕ → List ℕ → ℤ → Facts → Facts
with_head account commodity day facts =
    record facts {
      latest_at_cost = λ other what.
          if same_text other account && same_text what commodity then Some day else facts.latest_at_cost other what;
    }

-- further units at a position
abbrev pub with_position : List ℕ → List ℕ → Option LotKey → ℤ → Facts → Facts
with_position account commodity lot units facts =
    record facts {
      held = λ other. if same_text other account then added (facts.held other) (commodity, lot) units else facts.held other;
    }

-- ---- facts once a command is accepted

-- closed on a day, unless it is closed already
abbrev pub closed_on : ℤ → Standing → Standing
closed_on day standing = record standing { closed = option_or standing.closed (Some day) }

-- how an account stands after a command
abbrev pub standing_after : List ℕ → Command → Option Standing → Option Standing
standing_after account (Opening o) standing = if same_text account o.account then Some (standing_by None o) else standing
standing_after account (Closing c) standing =
    if same_text account c.account then option_map (closed_on c.day) standing else standing
standing_after account (Declaring d) standing = standing
standing_after account (Quoting q) standing = standing
standing_after account (Transaction t) standing = standing

-- the inventory of an account with what a row lists, where it is a row of the account
abbrev pub with_row : List ℕ → Held → Position × ℤ → Held
with_row account held row = if same_text account row.0.account then with_units held (row.0.commodity, row.0.lot) row.1 else held

-- the inventory of an account with the units that are listed; the other positions stay
abbrev pub with_rows : List ℕ → Held → List (Position × ℤ) → Held
with_rows account held [] = held
with_rows account held (row ∷ rows) = with_row account (with_rows account held rows) row

-- the facts after an accepted command and what it changes
abbrev pub recorded : Facts → Command → Change → Facts
recorded facts command change = record {
  entries = suc facts.entries;
  text = None;
  standing = λ account. standing_after account command (facts.standing account);
  is_declared = λ commodity. declares commodity command || facts.is_declared commodity;
  latest_at_cost = λ account commodity.
      option_or (day_listed change.heads account commodity) (facts.latest_at_cost account commodity);
  held = λ account. with_rows account (facts.held account) change.positions.entries;
}
