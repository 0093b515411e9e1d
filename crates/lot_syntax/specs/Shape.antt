-- How the parts of a line are taken from its tokens, from the first token on. That these are the forms of a line, both ways,
-- is proved in proofs/PostingLemmas.antt.
use Rattle.std.specs.Prelude.{ℕ, ◌&&◌, ◌||◌, Bool, true, false, not, if◌then◌else◌, List, [], ◌∷◌, ◌++◌, Option, Some, None, option_and_then, option_map}
use Rattle.std.specs.List.{list_any}
use Rattle.lot_syntax.specs.declared.form.Part.{Part}
use Rattle.lot_syntax.specs.declared.form.Part.TheVariants as Parts'
use Rattle.lot_syntax.specs.declared.form.Parts.{Parts}
use Rattle.lot_syntax.specs.declared.form.CostForm.{CostForm}
use Rattle.lot_syntax.specs.declared.form.CostForm.TheVariants as Costs
use Rattle.lot_syntax.specs.declared.form.PriceForm.{PriceForm}
use Rattle.lot_syntax.specs.declared.form.PriceForm.TheVariants as Prices
use Rattle.lot_syntax.specs.declared.form.AmountForm.{AmountForm}
use Rattle.lot_syntax.specs.declared.form.PostingForm.{PostingForm}
use Rattle.lot_syntax.specs.declared.token.Mark.TheVariants as Marks
use Rattle.lot_syntax.specs.Token.{Lexeme, word, number, date, text, mark}
use Rattle.lot_syntax.specs.Form.{CostPart, money, amount, currency, day, label, is_money, is_day, is_label, has_number, WrittenCost, each, whole, WrittenPrice, each_unit, all_units, WrittenAmount, WrittenPosting}

infixl 10 ◌>>=◌
abbrev pub ◌>>=◌ : {A B : Type 0} → Option A → (A → Option B) → Option B
o >>= f = option_and_then f o

-- ---- What the forms of the program stand for.

abbrev pub part_seen : Part → CostPart
part_seen (Parts'.Money n c) = money n.now c.now
part_seen (Parts'.Number n) = amount n.now
part_seen (Parts'.Currency c) = currency c.now
part_seen (Parts'.Day d) = day d.now
part_seen (Parts'.Label l) = label l.now

abbrev pub listed : Option Part → List CostPart
listed None = []
listed (Some part) = part_seen part ∷ []

abbrev pub parts_seen : Parts → List CostPart
parts_seen parts = listed parts.first ++ (listed parts.second ++ listed parts.third)

abbrev pub cost_seen : CostForm → WrittenCost
cost_seen (Costs.Each parts) = each (parts_seen parts.now)
cost_seen (Costs.Whole parts) = whole (parts_seen parts.now)

abbrev pub price_seen : PriceForm → WrittenPrice
price_seen (Prices.Each n c) = each_unit n.now c.now
price_seen (Prices.Whole n c) = all_units n.now c.now

abbrev pub amount_seen : AmountForm → WrittenAmount
amount_seen a = record {
  units = a.units.now;
  commodity = a.commodity.now;
  cost = option_map cost_seen a.cost;
  price = option_map price_seen a.price;
}

abbrev pub posting_seen : PostingForm → WrittenPosting
posting_seen p = record { account = p.account.now; amount = option_map amount_seen p.amount }

-- ---- One token.

abbrev pub is_empty : List Lexeme → Bool
is_empty [] = true
is_empty (token ∷ rest) = false

abbrev pub as_word : List Lexeme → Option (List ℕ × List Lexeme)
as_word [] = None
as_word (word w ∷ rest) = Some (w, rest)
as_word (number n ∷ rest) = None
as_word (date d ∷ rest) = None
as_word (text t ∷ rest) = None
as_word (mark m ∷ rest) = None

abbrev pub as_number : List Lexeme → Option (List ℕ × List Lexeme)
as_number [] = None
as_number (word w ∷ rest) = None
as_number (number n ∷ rest) = Some (n, rest)
as_number (date d ∷ rest) = None
as_number (text t ∷ rest) = None
as_number (mark m ∷ rest) = None

-- without the mark at the front, where it is that mark
abbrev pub after_comma : List Lexeme → Option (List Lexeme)
after_comma (mark Marks.Comma ∷ rest) = Some rest
after_comma _ = None

abbrev pub after_close : List Lexeme → Option (List Lexeme)
after_close (mark Marks.Close ∷ rest) = Some rest
after_close _ = None

abbrev pub after_close_close : List Lexeme → Option (List Lexeme)
after_close_close (mark Marks.CloseClose ∷ rest) = Some rest
after_close_close _ = None

-- ---- Costs.

-- a number, with the currency behind it where there is one
abbrev pub number_part : List ℕ → List Lexeme → Option (List ℕ × List Lexeme) → CostPart × List Lexeme
number_part n rest None = (amount n, rest)
number_part n rest (Some next) = (money n next.0, next.1)

unfoldable pub part_at : List Lexeme → Option (CostPart × List Lexeme)
part_at [] = None
part_at (word c ∷ rest) = Some (currency c, rest)
part_at (number n ∷ rest) = Some (number_part n rest (as_word rest))
part_at (date d ∷ rest) = Some (day d, rest)
part_at (text l ∷ rest) = Some (label l, rest)
part_at (mark m ∷ rest) = None

-- the third part, behind a comma or none
abbrev pub third_by : CostPart → CostPart → List Lexeme → Option (List Lexeme) → Option (List CostPart × List Lexeme)
third_by first second tokens None = Some (first ∷ second ∷ [], tokens)
third_by first second tokens (Some rest) = part_at rest >>= λ third. Some (first ∷ second ∷ third.0 ∷ [], third.1)

-- the second
abbrev pub second_by : CostPart → List Lexeme → Option (List Lexeme) → Option (List CostPart × List Lexeme)
second_by first tokens None = Some (first ∷ [], tokens)
second_by first tokens (Some rest) = part_at rest >>= λ second. third_by first second.0 second.1 (after_comma second.1)

-- the first
abbrev pub first_by : List Lexeme → Option (CostPart × List Lexeme) → Option (List CostPart × List Lexeme)
first_by tokens None = Some ([], tokens)
first_by tokens (Some first) = second_by first.0 first.1 (after_comma first.1)

-- no part, or one, two or three with commas between them
unfoldable pub parts_at : List Lexeme → Option (List CostPart × List Lexeme)
parts_at tokens = first_by tokens (part_at tokens)

-- two parts that can't stand in one cost
abbrev pub clash : CostPart → CostPart → Bool
clash p q = (is_money p && is_money q) || ((is_day p && is_day q) || (is_label p && is_label q))

-- the same of parts that may be absent
abbrev pub clash_listed : List CostPart → List CostPart → Bool
clash_listed [] others = false
clash_listed (p ∷ parts) others = list_any (clash p) others

abbrev pub are_distinct : List CostPart → Bool
are_distinct [] = true
are_distinct (p ∷ parts) = not (list_any (clash p) parts) && are_distinct parts

-- parts that can stand in one cost
unfoldable pub distinct_at : List Lexeme → Option (List CostPart × List Lexeme)
distinct_at tokens = parts_at tokens >>= λ found. if are_distinct found.0 then Some found else None

abbrev pub each_at : List Lexeme → Option (Option WrittenCost × List Lexeme)
each_at tokens = distinct_at tokens >>= λ found. after_close found.1 >>= λ rest. Some (Some (each found.0), rest)

abbrev pub whole_at : List Lexeme → Option (Option WrittenCost × List Lexeme)
whole_at tokens =
    distinct_at tokens
    >>= λ found. if list_any has_number found.0 then (after_close_close found.1 >>= λ rest. Some (Some (whole found.0), rest)) else None

-- braces with what stands in them, or nothing
unfoldable pub cost_at : List Lexeme → Option (Option WrittenCost × List Lexeme)
cost_at (mark Marks.Open ∷ rest) = each_at rest
cost_at (mark Marks.OpenOpen ∷ rest) = whole_at rest
cost_at tokens = Some (None, tokens)

-- ---- Prices.

-- a number and a word, and nothing behind them
abbrev pub money_of : List Lexeme → Option (List ℕ × List ℕ)
money_of tokens = as_number tokens >>= λ n. as_word n.1 >>= λ c. (if is_empty c.1 then Some (n.0, c.0) else None)

-- @ or @@ with a number and a currency, or nothing, at the end of a line
unfoldable pub price_of : List Lexeme → Option (Option WrittenPrice)
price_of [] = Some None
price_of (mark Marks.At ∷ rest) = money_of rest >>= λ m. Some (Some (each_unit m.0 m.1))
price_of (mark Marks.AtAt ∷ rest) = money_of rest >>= λ m. Some (Some (all_units m.0 m.1))
price_of _ = None

-- ---- Postings.

unfoldable pub amount_of : List Lexeme → Option WrittenAmount
amount_of tokens = do
  units ← as_number tokens
  commodity ← as_word units.1
  cost ← cost_at commodity.1
  price ← price_of cost.1
  Some (record { units = units.0; commodity = commodity.0; cost = cost.0; price = price })

abbrev pub posting_by : List ℕ → List Lexeme → Option WrittenPosting
posting_by account [] = Some (record { account = account; amount = None })
posting_by account (token ∷ rest) = amount_of (token ∷ rest) >>= λ a. Some (record { account = account; amount = Some a })

unfoldable pub posting_of : List Lexeme → Option WrittenPosting
posting_of tokens = as_word tokens >>= λ account. posting_by account.0 account.1
