-- What a command looks at.
use Rattle.std.specs.Prelude.{ℕ, List, [], ◌∷◌, map, flat_map, Option, None, Some}
use Rattle.lot_command.specs.declared.command.Command.{Command}
use Rattle.lot_command.specs.declared.command.Command.TheVariants.{Opening, Closing, Declaring, Quoting, Transaction}
use Rattle.lot_command.specs.declared.transaction.Amount.{Amount}
use Rattle.lot_command.specs.declared.transaction.Posting.{Posting}
use Rattle.lot_book.specs.declared.change.Pair.{Pair}

-- ---- what postings look at

-- the account and the commodity of a posting with an amount
abbrev pub pair_of : List ℕ → Option Amount → List Pair
pair_of account None = []
pair_of account (Some amount) = record { account = account; commodity = amount.commodity } ∷ []

-- the account of an elided posting
abbrev pub if_elided : List ℕ → Option Amount → List (List ℕ)
if_elided account None = account ∷ []
if_elided account (Some amount) = []

abbrev pub accounts_of : List Posting → List (List ℕ)
accounts_of postings = map (λ (p : Posting). p.account) postings

abbrev pub pairs_of : List Posting → List Pair
pairs_of postings = flat_map (λ (p : Posting). pair_of p.account p.amount) postings

abbrev pub elided_of : List Posting → List (List ℕ)
elided_of postings = flat_map (λ (p : Posting). if_elided p.account p.amount) postings

-- ---- what a command looks at

-- the accounts whose standing it looks at
abbrev pub accounts_in : Command → List (List ℕ)
accounts_in (Opening o) = o.account ∷ []
accounts_in (Closing c) = c.account ∷ []
accounts_in (Declaring d) = []
accounts_in (Quoting q) = []
accounts_in (Transaction t) = accounts_of t.postings

-- the commodities of which it looks whether they are declared
abbrev pub declared_in : Command → List (List ℕ)
declared_in (Opening o) = []
declared_in (Closing c) = []
declared_in (Declaring d) = d.commodity ∷ []
declared_in (Quoting q) = []
declared_in (Transaction t) = []

-- the accounts and commodities whose latest day at cost it looks at, and all that is held there
abbrev pub pairs_in : Command → List Pair
pairs_in (Opening o) = []
pairs_in (Closing c) = []
pairs_in (Declaring d) = []
pairs_in (Quoting q) = []
pairs_in (Transaction t) = pairs_of t.postings

-- the accounts whose plain units it looks at, of every commodity
abbrev pub plain_in : Command → List (List ℕ)
plain_in (Opening o) = []
plain_in (Closing c) = []
plain_in (Declaring d) = []
plain_in (Quoting q) = []
plain_in (Transaction t) = elided_of t.postings
