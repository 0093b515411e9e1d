-- The canonical text of a command (docs/FORMATS.md, Canonical text), in bytes.
use Rattle.std.specs.Prelude.{ℕ, ◌==◌, ◌||◌, if◌then◌else◌, List, [], ◌∷◌, ◌++◌, flat_map, Option, None, Some, option_map, ℤ, pos, codes}
use Rattle.std.specs.List.{join_by}
use Rattle.lot_num.specs.AmountText.{amount_text}
use Rattle.lot_base.specs.Day.{day_text}
use Rattle.lot_cost.specs.declared.cost_spec.CostSpec.{CostSpec}
use Rattle.lot_cost.specs.Method.{word_of}
use Rattle.lot_cost.specs.declared.cost.Cost.{Cost}
use Rattle.lot_cost.specs.declared.cost.Cost.TheVariants as Costs
use Rattle.lot_cost.specs.declared.method.Method.{Method}
use Rattle.lot_cost.specs.declared.method.Method.TheVariants.{Strict}
use Rattle.lot_command.specs.declared.command.Closing.{Closing}
use Rattle.lot_command.specs.declared.command.Command.{Command}
use Rattle.lot_command.specs.declared.command.Command.TheVariants as Commands
use Rattle.lot_command.specs.declared.command.Declaring.{Declaring}
use Rattle.lot_command.specs.declared.command.Opening.{Opening}
use Rattle.lot_command.specs.declared.command.Quoting.{Quoting}
use Rattle.lot_command.specs.declared.price.Price.{Price}
use Rattle.lot_command.specs.declared.price.Price.TheVariants as Prices
use Rattle.lot_command.specs.declared.transaction.Amount.{Amount}
use Rattle.lot_command.specs.declared.transaction.Flag.{Flag}
use Rattle.lot_command.specs.declared.transaction.Flag.TheVariants.{Complete, Incomplete}
use Rattle.lot_command.specs.declared.transaction.Narration.{Narration}
use Rattle.lot_command.specs.declared.transaction.Posting.{Posting}
use Rattle.lot_command.specs.declared.transaction.Transaction.{Transaction}

-- ---- parts of lines

abbrev pub line_end : List ℕ
line_end = codes "\n"

-- the shortest text of units or of a total, and of a rate
abbrev pub units_text : ℤ → List ℕ
units_text units = amount_text 0 8 units

abbrev pub rate_text : ℕ → List ℕ
rate_text rate = amount_text 0 8 (pos rate)

-- parts one behind another
abbrev pub row : List (List ℕ) → List ℕ
row [] = []
row (part ∷ []) = part
row (part ∷ next ∷ parts) = part ++ row (next ∷ parts)

-- texts with a separator between each two
abbrev pub joined : List ℕ → List (List ℕ) → List ℕ
joined separator texts = join_by (λ text. text) separator texts

-- what is there, of parts that may be absent
abbrev pub given : Option (List ℕ) → List (List ℕ)
given None = []
given (Some part) = part ∷ []

-- a text in quotes that holds no quote and no backslash: a label, or a method's word
abbrev pub in_quotes : List ℕ → List ℕ
in_quotes text = row (codes "\"" ∷ text ∷ codes "\"" ∷ [])

-- a byte of a note, with a backslash before it where it is a quote or a backslash
abbrev pub escaped_byte : ℕ → List ℕ
escaped_byte byte = if (byte == 34) || (byte == 92) then 92 ∷ byte ∷ [] else byte ∷ []

abbrev pub escaped : List ℕ → List ℕ
escaped note = flat_map escaped_byte note

-- a note in quotes
abbrev pub quoted : List ℕ → List ℕ
quoted note = row (codes "\"" ∷ escaped note ∷ codes "\"" ∷ [])

-- ---- openings

-- a space and the currencies, joined by commas, where there are some
abbrev pub currencies_part : List (List ℕ) → List ℕ
currencies_part [] = []
currencies_part (first ∷ others) = codes " " ++ joined (codes ",") (first ∷ others)

-- a space and the method's word in quotes, unless it is STRICT
abbrev pub method_part : Method → List ℕ
method_part Strict = []
method_part method = codes " " ++ in_quotes (word_of method)

abbrev pub opening_text : Opening → List ℕ
opening_text opening =
    row (day_text opening.day ∷ codes " open " ∷ opening.account
    ∷ currencies_part opening.currencies ∷ method_part opening.method ∷ line_end ∷ [])

-- ---- closings, declarings and quotings

abbrev pub closing_text : Closing → List ℕ
closing_text closing = row (day_text closing.day ∷ codes " close " ∷ closing.account ∷ line_end ∷ [])

abbrev pub declaring_text : Declaring → List ℕ
declaring_text declaring = row (day_text declaring.day ∷ codes " commodity " ∷ declaring.commodity ∷ line_end ∷ [])

abbrev pub quoting_text : Quoting → List ℕ
quoting_text quoting =
    row (day_text quoting.day ∷ codes " price " ∷ quoting.base
    ∷ codes " " ∷ rate_text quoting.rate ∷ codes " " ∷ quoting.quote ∷ line_end ∷ [])

-- ---- postings

-- a number and a currency, with a space between them where both are given
abbrev pub money : Option (List ℕ) → Option (List ℕ) → Option (List ℕ)
money None None = None
money None (Some currency) = Some currency
money (Some number) None = Some number
money (Some number) (Some currency) = Some (row (number ∷ codes " " ∷ currency ∷ []))

-- the parts of a cost that are there, its number as a text: number and currency, day, label
abbrev pub cost_parts : Option (List ℕ) → CostSpec → List (List ℕ)
cost_parts number spec =
    given (money number spec.currency) ++ (given (option_map day_text spec.day) ++ given (option_map in_quotes spec.label))

-- the same, joined by commas
abbrev pub parts_text : Option (List ℕ) → CostSpec → List ℕ
parts_text number spec = joined (codes ", ") (cost_parts number spec)

-- a space and a cost in braces, or in double braces; for a whole cost the total stands as the number
abbrev pub cost_text : Cost → List ℕ
cost_text (Costs.Each spec) = row (codes " {" ∷ parts_text (option_map rate_text spec.number) spec ∷ codes "}" ∷ [])
cost_text (Costs.Whole whole) = row (codes " {{" ∷ parts_text (Some (units_text whole.0)) whole.1 ∷ codes "}}" ∷ [])

-- a space and a price
abbrev pub price_text : Price → List ℕ
price_text (Prices.Each price) = row (codes " @ " ∷ rate_text price.rate ∷ codes " " ∷ price.currency ∷ [])
price_text (Prices.Whole price) = row (codes " @@ " ∷ units_text price.0 ∷ codes " " ∷ price.1 ∷ [])

-- the part of a line for something that may be absent
abbrev pub part : {X : Type 0} → (X → List ℕ) → Option X → List ℕ
part text None = []
part text (Some x) = text x

-- a space, the units and their commodity, then cost and price, where there are such
abbrev pub amount_part : Amount → List ℕ
amount_part amount =
    row (codes " " ∷ units_text amount.units ∷ codes " " ∷ amount.commodity
    ∷ part cost_text amount.cost ∷ part price_text amount.price ∷ [])

abbrev pub posting_text : Posting → List ℕ
posting_text posting = row (codes "  " ∷ posting.account ∷ part amount_part posting.amount ∷ line_end ∷ [])

-- ---- transactions

abbrev pub flag_text : Flag → List ℕ
flag_text Complete = codes "*"
flag_text Incomplete = codes "!"

-- a space and a note
abbrev pub note_part : List ℕ → List ℕ
note_part note = codes " " ++ quoted note

-- the notes, the payee first
abbrev pub narration_text : Narration → List ℕ
narration_text narration = part note_part narration.payee ++ note_part narration.text

abbrev pub transaction_text : Transaction → List ℕ
transaction_text transaction =
    row (day_text transaction.day ∷ codes " " ∷ flag_text transaction.flag ∷ part narration_text transaction.narration ∷ line_end
    ∷ flat_map posting_text transaction.postings ∷ [])

-- ---- commands

abbrev pub canonical : Command → List ℕ
canonical (Commands.Opening opening) = opening_text opening
canonical (Commands.Closing closing) = closing_text closing
canonical (Commands.Declaring declaring) = declaring_text declaring
canonical (Commands.Quoting quoting) = quoting_text quoting
canonical (Commands.Transaction transaction) = transaction_text transaction
