-- The forms of a line (docs/FORMATS.md, Forms; after Beancount, Language Syntax): the parts that a line gives, as they are
-- written, and the tokens that it then has.
use Rattle.std.specs.Prelude.{◌≡◌, ◌⊎◌, ◌≤◌, ℕ, Bool, true, false, IsTrue, List, [], ◌∷◌, ◌++◌, length, codes, filter, Option, Some, None}
use Rattle.std.specs.List.{join_by, list_any}
use Rattle.lot_command.specs.Currencies.{most_currencies}
use Rattle.lot_command.specs.declared.transaction.Flag.{Flag}
use Rattle.lot_command.specs.declared.transaction.Flag.TheVariants.{Complete, Incomplete}
use Rattle.lot_syntax.specs.declared.token.Mark.TheVariants as Marks
use Rattle.lot_syntax.specs.Token.{Lexeme, word, number, date, text, mark}

-- ---- The parts of a line.

-- a part of a cost
pub data CostPart : Type 0 where
  -- a number and a currency
  money : List ℕ → List ℕ → CostPart
  amount : List ℕ → CostPart
  currency : List ℕ → CostPart
  day : List ℕ → CostPart
  label : List ℕ → CostPart

pub data WrittenCost : Type 0 where
  -- in single braces
  each : List CostPart → WrittenCost
  -- in double braces
  whole : List CostPart → WrittenCost

-- a number and a currency
pub data WrittenPrice : Type 0 where
  -- behind @
  each_unit : List ℕ → List ℕ → WrittenPrice
  -- behind @@
  all_units : List ℕ → List ℕ → WrittenPrice

pub record WrittenAmount : Type 0 where
  pub units : List ℕ
  pub commodity : List ℕ
  pub cost : Option WrittenCost
  pub price : Option WrittenPrice

pub record WrittenPosting : Type 0 where
  pub account : List ℕ
  pub amount : Option WrittenAmount

-- what a line that isn't indented gives beside its day
pub data Directive : Type 0 where
  -- an account, its currencies, and perhaps a method
  opening : List ℕ → List (List ℕ) → Option (List ℕ) → Directive
  closing : List ℕ → Directive
  declaring : List ℕ → Directive
  -- a base, a rate and a quote
  quoting : List ℕ → List ℕ → List ℕ → Directive
  -- a flag, and perhaps a narration with or without a payee before it
  transaction : Flag → Option (Option (List ℕ) × List ℕ) → Directive

-- ---- Costs and prices.

abbrev pub part_tokens : CostPart → List Lexeme
part_tokens (money n c) = number n ∷ word c ∷ []
part_tokens (amount n) = number n ∷ []
part_tokens (currency c) = word c ∷ []
part_tokens (day d) = date d ∷ []
part_tokens (label l) = text l ∷ []

abbrev pub parts_tokens : List CostPart → List Lexeme
parts_tokens parts = join_by part_tokens (mark Marks.Comma ∷ []) parts

abbrev pub is_money : CostPart → Bool
is_money (money n c) = true
is_money (amount n) = true
is_money (currency c) = true
is_money (day d) = false
is_money (label l) = false

abbrev pub is_day : CostPart → Bool
is_day (money n c) = false
is_day (amount n) = false
is_day (currency c) = false
is_day (day d) = true
is_day (label l) = false

abbrev pub is_label : CostPart → Bool
is_label (money n c) = false
is_label (amount n) = false
is_label (currency c) = false
is_label (day d) = false
is_label (label l) = true

abbrev pub has_number : CostPart → Bool
has_number (money n c) = true
has_number (amount n) = true
has_number (currency c) = false
has_number (day d) = false
has_number (label l) = false

-- how many parts pass the test
abbrev pub how_many : (CostPart → Bool) → List CostPart → ℕ
how_many passes parts = length (filter passes parts)

-- in any order, but at most one of a number, a currency or both, at most one date and at most one text
pub record AtMostOneEach (parts : List CostPart) : Type 0 where
  pub moneys : how_many is_money parts ≤ 1
  pub days : how_many is_day parts ≤ 1
  pub labels : how_many is_label parts ≤ 1

abbrev pub FitsCost : WrittenCost → Type 0
FitsCost (each parts) = AtMostOneEach parts
FitsCost (whole parts) = AtMostOneEach parts × IsTrue (list_any has_number parts)

abbrev pub cost_tokens : WrittenCost → List Lexeme
cost_tokens (each parts) = mark Marks.Open ∷ (parts_tokens parts ++ mark Marks.Close ∷ [])
cost_tokens (whole parts) = mark Marks.OpenOpen ∷ (parts_tokens parts ++ mark Marks.CloseClose ∷ [])

abbrev pub price_tokens : WrittenPrice → List Lexeme
price_tokens (each_unit n c) = mark Marks.At ∷ number n ∷ word c ∷ []
price_tokens (all_units n c) = mark Marks.AtAt ∷ number n ∷ word c ∷ []

-- the tokens of what may be absent
abbrev pub perhaps : {X : Type 0} → (X → List Lexeme) → Option X → List Lexeme
perhaps tokens None = []
perhaps tokens (Some x) = tokens x

abbrev pub FitsPerhaps : {X : Type 0} → (X → Type 0) → Option X → Type 0
FitsPerhaps Fits None = Unit {0}
FitsPerhaps Fits (Some x) = Fits x

-- ---- Postings: WORD [NUMBER WORD [cost] [price]]

abbrev pub amount_tokens : WrittenAmount → List Lexeme
amount_tokens a = number a.units ∷ word a.commodity ∷ (perhaps cost_tokens a.cost ++ perhaps price_tokens a.price)

abbrev pub IsPosting : List Lexeme → WrittenPosting → Type 0
IsPosting tokens posting =
    FitsPerhaps (λ (a : WrittenAmount). FitsPerhaps FitsCost a.cost) posting.amount
    × (tokens ≡ word posting.account ∷ perhaps amount_tokens posting.amount)

-- ---- Lines that aren't indented: DATE, and then

-- WORD {, WORD}, or nothing
abbrev pub currency_tokens : List (List ℕ) → List Lexeme
currency_tokens currencies = join_by (λ c. word c ∷ []) (mark Marks.Comma ∷ []) currencies

-- one text is the narration; two are payee and narration
abbrev pub note_tokens : Option (List ℕ) × List ℕ → List Lexeme
note_tokens notes = perhaps (λ payee. text payee ∷ []) notes.0 ++ text notes.1 ∷ []

abbrev pub IsFlag : Lexeme → Flag → Type 0
IsFlag token Complete = (token ≡ mark Marks.Star) ⊎ (token ≡ word (codes "txn"))
IsFlag token Incomplete = token ≡ mark Marks.Exclamation

abbrev pub IsDirective : List Lexeme → Directive → Type 0
-- open WORD [WORD {, WORD}] [TEXT]
IsDirective tokens (opening account currencies method) =
    (length currencies ≤ most_currencies)
    × (tokens ≡ word (codes "open") ∷ word account ∷ (currency_tokens currencies ++ perhaps (λ m. text m ∷ []) method))
-- close WORD
IsDirective tokens (closing account) = tokens ≡ word (codes "close") ∷ word account ∷ []
-- commodity WORD
IsDirective tokens (declaring commodity) = tokens ≡ word (codes "commodity") ∷ word commodity ∷ []
-- price WORD NUMBER WORD
IsDirective tokens (quoting base rate quote) = tokens ≡ word (codes "price") ∷ word base ∷ number rate ∷ word quote ∷ []
-- * [TEXT [TEXT]], or ! or txn in its place
IsDirective tokens (transaction flag notes) = (token : Lexeme) × IsFlag token flag × (tokens ≡ token ∷ perhaps note_tokens notes)

-- a line that isn't indented: its day, and what it gives beside it
abbrev pub IsHeader : List Lexeme → List ℕ → Directive → Type 0
IsHeader tokens when directive = (rest : List Lexeme) × IsDirective rest directive × (tokens ≡ date when ∷ rest)

-- ---- Which lines are directives at all.

-- a token that says which directive it is
abbrev pub NamesDirective : Lexeme → Type 0
NamesDirective token =
    (token ≡ word (codes "open")) ⊎ ((token ≡ word (codes "close")) ⊎ ((token ≡ word (codes "commodity")) ⊎ ((token ≡ word (codes "price"))
    ⊎ ((token ≡ mark Marks.Star) ⊎ ((token ≡ mark Marks.Exclamation) ⊎ (token ≡ word (codes "txn")))))))

-- The first token isn't a date, or the second is no directive. A date alone has no second token.
abbrev pub IsUnknown : List Lexeme → Type 0
IsUnknown [] = ⊥
IsUnknown (date when ∷ []) = ⊥
IsUnknown (date when ∷ second ∷ rest) = NamesDirective second → ⊥
IsUnknown (word w ∷ rest) = Unit {0}
IsUnknown (number n ∷ rest) = Unit {0}
IsUnknown (text t ∷ rest) = Unit {0}
IsUnknown (mark m ∷ rest) = Unit {0}
