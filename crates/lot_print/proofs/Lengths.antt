-- How long the parts of a line are at most, in bytes.
use Rattle.std.proofs.Common.{ℕ, ◌+◌, ◌*◌}
use Rattle.lot_base.specs.Name.{longest_commodity, longest_label, longest_note}
use Rattle.lot_command.specs.Currencies.{most_currencies}

-- a number: a sign, ten digits, a point and eight decimals
abbrev pub longest_number : ℕ
longest_number = 20

-- a part of a cost: none is longer than a label in quotes
abbrev pub longest_part : ℕ
longest_part = longest_label + 2

-- the parts of a cost, with a comma and a space behind each
abbrev pub longest_parts : ℕ
longest_parts = 3 * (longest_part + 2)

-- a cost: its parts between two braces and two, behind a space
abbrev pub longest_cost : ℕ
longest_cost = longest_parts + 5

-- a price: a number, a space and a currency behind ` @@ `
abbrev pub longest_price : ℕ
longest_price = 4 + longest_number + 1 + longest_commodity

-- an amount: units and a commodity, each behind a space, a cost and a price
abbrev pub longest_amount : ℕ
longest_amount = 1 + longest_number + 1 + longest_commodity + longest_cost + longest_price

-- the currencies of an opening: a space, and each with a comma
abbrev pub longest_currencies : ℕ
longest_currencies = 1 + most_currencies * (1 + longest_commodity)

-- a note: a space, and a note of the most bytes that need a backslash each, between quotes
abbrev pub longest_note_part : ℕ
longest_note_part = 1 + (2 * longest_note + 2)

-- a payee and a narration
abbrev pub longest_narration : ℕ
longest_narration = longest_note_part + longest_note_part
