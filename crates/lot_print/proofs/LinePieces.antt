-- Each line of a canonical text is UTF-8, has no control byte but the tab, and isn't longer than `longest_printed`.
use Rattle.std.proofs.Common.{ℕ, ◌≤◌, List, [], ◌∷◌, ◌++◌, length, refl, arith, length-append, ℤ}
use Rattle.std.specs.Prelude.{codes, option_map, Option, Some, None, IfSome}
use Rattle.std.specs.List.{AllByRecursion}
use Rattle.lot_num.specs.Amount.{IsRate}
use Rattle.lot_base.specs.Day.{day_text}
use Rattle.lot_base.specs.Name.{IsName, is_account, is_commodity, is_label, is_note, longest_account, longest_commodity}
use Rattle.lot_cost.specs.declared.cost_spec.CostSpec.{CostSpec}
use Rattle.lot_cost.proofs.ListLemmas.{all_weaker}
use Rattle.lot_cost.specs.declared.cost.Cost.{Cost}
use Rattle.lot_cost.specs.declared.cost.Cost.TheVariants as Costs
use Rattle.lot_cost.specs.declared.method.Method.{Method}
use Rattle.lot_cost.specs.declared.method.Method.TheVariants.{Strict, Fifo, Lifo, Hifo, Unmatched}
use Rattle.lot_command.specs.Canonical.{amount_part, cost_parts, cost_text, currencies_part, flag_text, given, in_quotes, method_part, money, narration_text, note_part, part, parts_text, price_text, rate_text, units_text}
use Rattle.lot_command.specs.declared.command.Command.{Command}
use Rattle.lot_command.specs.declared.command.Command.TheVariants as Commands
use Rattle.lot_command.specs.declared.price.Price.{Price}
use Rattle.lot_command.specs.declared.price.Price.TheVariants as Prices
use Rattle.lot_command.specs.declared.transaction.Amount.{Amount}
use Rattle.lot_command.specs.declared.transaction.Flag.{Flag}
use Rattle.lot_command.specs.declared.transaction.Flag.TheVariants.{Complete, Incomplete}
use Rattle.lot_command.specs.declared.transaction.Narration.{Narration}
use Rattle.lot_command.specs.declared.transaction.Posting.{Posting}
use Rattle.lot_print.specs.Length.{longest_printed}
use Rattle.lot_command.specs.Sayable.{AreCurrencies, IsAmount, IsCost, IsNarration, IsPosting, IsPrice, IsSayable, IsSpec}
use Rattle.lot_print.proofs.CanonicalLines.{canonical_lines, posting_line}
use Rattle.lot_print.proofs.Lengths.{longest_amount, longest_cost, longest_currencies, longest_narration, longest_note_part, longest_number, longest_part, longest_parts, longest_price}
use Rattle.lot_print.proofs.ListLemmas.{all_made, both_hold}
use Rattle.lot_print.proofs.PieceLemmas.{IsPiece, both_pieces, joined_piece, printed, wider}
use Rattle.lot_print.proofs.NameLemmas.{account_word, commodity_word}
use Rattle.lot_print.proofs.DayLemmas.{day_piece}
use Rattle.lot_print.proofs.NumberLemmas.{rate_piece, units_piece}
use Rattle.lot_print.proofs.NoteLemmas.{label_piece, method_piece, note_piece}

nothing : IsPiece 0 []
nothing = printed 0 [] refl (omega arith)

account_piece : (account : List ℕ) → IsName is_account account → IsPiece longest_account account
account_piece account h = (account_word account h.1).piece

commodity_piece : (commodity : List ℕ) → IsName is_commodity commodity → IsPiece longest_commodity commodity
commodity_piece commodity h = (commodity_word commodity h.1).piece

space : IsPiece 1 (codes " ")
space = printed 1 (codes " ") refl (omega arith)

-- ---- Postings.

abbrev ArePieces : List (List ℕ) → Type 0
ArePieces texts = AllByRecursion (IsPiece longest_part) texts

money_pieces : (n c : Option (List ℕ)) → IfSome n (IsPiece longest_number) → IfSome c (IsName is_commodity) → ArePieces (given (money n c))
money_pieces None None h k = tt
money_pieces None (Some c) h k = (wider longest_part (omega arith) (commodity_piece c k), tt)
money_pieces (Some n) None h k = (wider longest_part (omega arith) h, tt)
money_pieces (Some n) (Some c) h k = (wider longest_part (omega arith) (both_pieces h (both_pieces space (commodity_piece c k))), tt)

day_pieces : (d : Option ℤ) → ArePieces (given (option_map day_text d))
day_pieces None = tt
day_pieces (Some d) = (wider longest_part (omega arith) (day_piece d), tt)

label_pieces : (l : Option (List ℕ)) → IfSome l (IsName is_label) → ArePieces (given (option_map in_quotes l))
label_pieces None h = tt
label_pieces (Some l) h = (label_piece l h.1 h.0, tt)

given_length : (o : Option (List ℕ)) → length (given o) ≤ 1
given_length None = omega arith
given_length (Some text) = omega arith

parts_length : (n : Option (List ℕ)) (spec : CostSpec) → length (cost_parts n spec) ≤ 3
parts_length n spec =
    let days = given (option_map day_text spec.day) in
    let labels = given (option_map in_quotes spec.label) in
    omega (
      arith,
      length-append (given (money n spec.currency)) (days ++ labels),
      length-append days labels,
      given_length (money n spec.currency),
      given_length (option_map day_text spec.day),
      given_length (option_map in_quotes spec.label),
    )

parts_piece : (n : Option (List ℕ)) (spec : CostSpec) → IfSome n (IsPiece longest_number) → IsSpec spec
    → IsPiece longest_parts (parts_text n spec)
parts_piece n spec h s =
    let pieces : ArePieces (cost_parts n spec) =
    both_hold (IsPiece longest_part) _ _ (money_pieces n spec.currency h s.in_currency)
    (both_hold (IsPiece longest_part) _ _ (day_pieces spec.day) (label_pieces spec.label s.of_label)) in
    wider longest_parts (omega (arith, parts_length n spec))
    (joined_piece longest_part 2 (codes ", ") (cost_parts n spec) (printed 2 (codes ", ") refl (omega arith)) pieces)

rate_given : (rate : Option ℕ) → IfSome rate IsRate → IfSome (option_map rate_text rate) (IsPiece longest_number)
rate_given None h = tt
rate_given (Some rate) h = rate_piece rate h

cost_piece : (cost : Option Cost) → IfSome cost IsCost → IsPiece longest_cost (part cost_text cost)
cost_piece None h = wider longest_cost (omega arith) nothing
cost_piece (Some (Costs.Each spec)) h =
    wider longest_cost (omega arith)
    (both_pieces (printed 2 (codes " {") refl (omega arith))
    (both_pieces (parts_piece (option_map rate_text spec.number) spec (rate_given spec.number h.at_rate) h)
    (printed 1 (codes "}") refl (omega arith))))
cost_piece (Some (Costs.Whole cost)) h =
    both_pieces (printed 3 (codes " {{") refl (omega arith))
    (both_pieces (parts_piece (Some (units_text cost.0)) cost.1 (units_piece cost.0 h.0.units) h.1)
    (printed 2 (codes "}}") refl (omega arith)))

price_piece : (price : Option Price) → IfSome price IsPrice → IsPiece longest_price (part price_text price)
price_piece None h = wider longest_price (omega arith) nothing
price_piece (Some (Prices.Each price)) h =
    wider longest_price (omega arith)
    (both_pieces (printed 3 (codes " @ ") refl (omega arith))
    (both_pieces (rate_piece price.rate h.0) (both_pieces space (commodity_piece price.currency h.1))))
price_piece (Some (Prices.Whole price)) h =
    both_pieces (printed 4 (codes " @@ ") refl (omega arith))
    (both_pieces (units_piece price.0 h.0.units) (both_pieces space (commodity_piece price.1 h.1)))

amount_piece : (amount : Option Amount) → IfSome amount IsAmount → IsPiece longest_amount (part amount_part amount)
amount_piece None h = wider longest_amount (omega arith) nothing
amount_piece (Some a) h =
    both_pieces space
    (both_pieces (units_piece a.units h.of_units)
    (both_pieces space
    (both_pieces (commodity_piece a.commodity h.in_commodity)
    (both_pieces (cost_piece a.cost h.at_cost) (price_piece a.price h.at_price)))))

posting_piece : (p : Posting) → IsPosting p → IsPiece longest_printed (posting_line p)
posting_piece p h =
    wider longest_printed (omega arith)
    (both_pieces (printed 2 (codes "  ") refl (omega arith))
    (both_pieces (account_piece p.account h.of_account) (amount_piece p.amount h.of_amount)))

-- ---- First lines.

currencies_piece : (currencies : List (List ℕ)) → AreCurrencies currencies → IsPiece longest_currencies (currencies_part currencies)
currencies_piece [] h = wider longest_currencies (omega arith) nothing
currencies_piece (c ∷ currencies) h =
    let row = joined_piece 24 1 (codes ",") (c ∷ currencies) (printed 1 (codes ",") refl (omega arith))
    (all_weaker (IsName is_commodity) (IsPiece longest_commodity) commodity_piece (c ∷ currencies) h.names) in
    wider longest_currencies (omega (arith, h.few)) (both_pieces space row)

method_part_piece : (method : Method) → IsPiece 9 (method_part method)
method_part_piece Strict = wider 9 (omega arith) nothing
method_part_piece Fifo = both_pieces space (method_piece Fifo)
method_part_piece Lifo = both_pieces space (method_piece Lifo)
method_part_piece Hifo = both_pieces space (method_piece Hifo)
method_part_piece Unmatched = both_pieces space (method_piece Unmatched)

flag_piece : (flag : Flag) → IsPiece 1 (flag_text flag)
flag_piece Complete = printed 1 (codes "*") refl (omega arith)
flag_piece Incomplete = printed 1 (codes "!") refl (omega arith)

note_part_piece : (note : List ℕ) → IsName is_note note → IsPiece longest_note_part (note_part note)
note_part_piece note h = both_pieces space (note_piece note h.1 h.0)

payee_piece : (payee : Option (List ℕ)) → IfSome payee (IsName is_note) → IsPiece longest_note_part (part note_part payee)
payee_piece None h = wider longest_note_part (omega arith) nothing
payee_piece (Some payee) h = note_part_piece payee h

narration_piece : (narration : Option Narration) → IfSome narration IsNarration → IsPiece longest_narration (part narration_text narration)
narration_piece None h = wider longest_narration (omega arith) nothing
narration_piece (Some narration) h =
    both_pieces (payee_piece narration.payee h.of_payee) (note_part_piece narration.text h.of_text)

pub line_pieces : (command : Command) → IsSayable command → AllByRecursion (IsPiece longest_printed) (canonical_lines command)
line_pieces (Commands.Opening o) h = (
  wider longest_printed (omega arith)
      (both_pieces (day_piece o.day)
      (both_pieces (printed 6 (codes " open ") refl (omega arith))
      (both_pieces (account_piece o.account h.of_account)
      (both_pieces (currencies_piece o.currencies h.in_currencies) (method_part_piece o.method))))),
  tt,
)
line_pieces (Commands.Closing c) h = (
  wider longest_printed (omega arith)
      (both_pieces (day_piece c.day)
      (both_pieces (printed 7 (codes " close ") refl (omega arith)) (account_piece c.account h.of_account))),
  tt,
)
line_pieces (Commands.Declaring d) h = (
  wider longest_printed (omega arith)
      (both_pieces (day_piece d.day)
      (both_pieces (printed 11 (codes " commodity ") refl (omega arith)) (commodity_piece d.commodity h.of_commodity))),
  tt,
)
line_pieces (Commands.Quoting q) h = (
  wider longest_printed (omega arith)
      (both_pieces (day_piece q.day)
      (both_pieces (printed 7 (codes " price ") refl (omega arith))
      (both_pieces (commodity_piece q.base h.of_base)
      (both_pieces space (both_pieces (rate_piece q.rate h.at_rate) (both_pieces space (commodity_piece q.quote h.in_quote))))))),
  tt,
)
line_pieces (Commands.Transaction t) h = (
  both_pieces (day_piece t.day)
      (both_pieces space (both_pieces (flag_piece t.flag) (narration_piece t.narration h.of_narration))),
  all_made IsPosting (IsPiece longest_printed) posting_line posting_piece t.postings h.of_postings,
)
