-- What a book says of the things that a command looks at. Each fact looks over all entries of the book.
use Rattle.std.specs.Prelude.{ℕ, ◌&&◌, Bool, false, if◌then◌else◌, List, [], ◌∷◌, length, find, flat_map, Option, None, Some, is_some, ℤ, int_lt}
use Rattle.std.specs.List.{list_any}
use Rattle.std.specs.Option.{option_map, option_or}
use Rattle.lot_base.specs.Text.{same_text}
use Rattle.lot_inv.specs.Inventory.{Held}
use Rattle.lot_command.specs.declared.command.Command.{Command}
use Rattle.lot_command.specs.declared.command.Command.TheVariants.{Opening, Closing, Declaring, Quoting, Transaction}
use Rattle.lot_command.specs.declared.command.Opening.{Opening as OpeningOf}
use Rattle.lot_command.specs.declared.key.Key.{Key}
use Rattle.lot_command.specs.declared.transaction.Amount.{Amount}
use Rattle.lot_command.specs.declared.transaction.Posting.{Posting}
use Rattle.lot_command.specs.Canonical.{canonical}
use Rattle.lot_book.specs.declared.leg.Leg.{Leg}
use Rattle.lot_book.specs.declared.standing.Standing.{Standing}
use Rattle.lot_book.specs.Leg.{inventory_of}

-- an accepted command with its key and its legs
pub record Entry : Type 0 where
  pub key : Key
  pub command : Command
  pub legs : List Leg

-- all legs of a book, in the order of its entries
abbrev pub legs_of : List Entry → List Leg
legs_of entries = flat_map (λ (entry : Entry). entry.legs) entries

-- ---- keys

abbrev pub same_key : Key → Key → Bool
same_key a b = same_text a.source b.source && same_text a.name b.name

-- the canonical text that stands under a key
abbrev pub text_under : List Entry → Key → Option (List ℕ)
text_under entries key =
    option_map (λ (entry : Entry). canonical entry.command) (find (λ (entry : Entry). same_key key entry.key) entries)

-- ---- accounts

-- the opening that a command is, if it opens the account
abbrev pub opening_by : List ℕ → Command → Option OpeningOf
opening_by account (Opening o) = if same_text account o.account then Some o else None
opening_by account (Closing c) = None
opening_by account (Declaring d) = None
opening_by account (Quoting q) = None
opening_by account (Transaction t) = None

-- the opening of an account
abbrev pub opening_of : List Entry → List ℕ → Option OpeningOf
opening_of [] account = None
opening_of (entry ∷ entries) account = option_or (opening_by account entry.command) (opening_of entries account)

-- the day on which a command closes the account, if it does
abbrev pub closing_by : List ℕ → Command → Option ℤ
closing_by account (Opening o) = None
closing_by account (Closing c) = if same_text account c.account then Some c.day else None
closing_by account (Declaring d) = None
closing_by account (Quoting q) = None
closing_by account (Transaction t) = None

-- the day on which an account was closed
abbrev pub closing_of : List Entry → List ℕ → Option ℤ
closing_of [] account = None
closing_of (entry ∷ entries) account = option_or (closing_by account entry.command) (closing_of entries account)

abbrev pub standing_by : Option ℤ → OpeningOf → Standing
standing_by closed o = record { opened = o.day; closed = closed; method = o.method; allowed = o.currencies }

-- how an account stands, if it was opened
abbrev pub standing_of : List Entry → List ℕ → Option Standing
standing_of entries account = option_map (standing_by (closing_of entries account)) (opening_of entries account)

-- ---- commodities

abbrev pub declares : List ℕ → Command → Bool
declares commodity (Opening o) = false
declares commodity (Closing c) = false
declares commodity (Declaring d) = same_text commodity d.commodity
declares commodity (Quoting q) = false
declares commodity (Transaction t) = false

abbrev pub is_declared : List Entry → List ℕ → Bool
is_declared entries commodity = list_any (λ (entry : Entry). declares commodity entry.command) entries

-- ---- days of postings with braces

-- whether an amount is of the commodity and has braces
abbrev pub is_at_cost : List ℕ → Option Amount → Bool
is_at_cost commodity None = false
is_at_cost commodity (Some amount) = is_some amount.cost && same_text commodity amount.commodity

-- whether a posting has braces, of the account and the commodity
abbrev pub posts_at_cost : List ℕ → List ℕ → Posting → Bool
posts_at_cost account commodity posting = same_text account posting.account && is_at_cost commodity posting.amount

-- the day of a transaction that posts there with braces
abbrev pub day_at_cost : List ℕ → List ℕ → Command → Option ℤ
day_at_cost account commodity (Opening o) = None
day_at_cost account commodity (Closing c) = None
day_at_cost account commodity (Declaring d) = None
day_at_cost account commodity (Quoting q) = None
day_at_cost account commodity (Transaction t) = if list_any (posts_at_cost account commodity) t.postings then Some t.day else None

-- the later of two days, where both are there
abbrev pub later : Option ℤ → Option ℤ → Option ℤ
later None other = other
later (Some day) None = Some day
later (Some day) (Some other) = Some (if int_lt day other then other else day)

-- the latest day of a transaction that posts with braces to an account and a commodity
abbrev pub latest_at_cost : List Entry → List ℕ → List ℕ → Option ℤ
latest_at_cost [] account commodity = None
latest_at_cost (entry ∷ entries) account commodity =
    later (day_at_cost account commodity entry.command) (latest_at_cost entries account commodity)

-- ---- all of it

-- what a command with some key looks at
pub record Facts : Type 0 where
  -- the number of entries
  pub entries : ℕ
  -- the canonical text that stands under the command's key
  pub text : Option (List ℕ)
  pub standing : List ℕ → Option Standing
  pub is_declared : List ℕ → Bool
  -- by account and commodity
  pub latest_at_cost : List ℕ → List ℕ → Option ℤ
  -- the inventory of each account
  pub held : List ℕ → Held

-- what a book says to a command with that key
abbrev pub facts_of : List Entry → Key → Facts
facts_of entries key = record {
  entries = length entries;
  text = text_under entries key;
  standing = standing_of entries;
  is_declared = is_declared entries;
  latest_at_cost = latest_at_cost entries;
  held = inventory_of (legs_of entries);
}
