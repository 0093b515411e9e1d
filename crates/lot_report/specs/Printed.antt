-- The lines that are printed (docs/FORMATS.md, Printed texts), each as a function of what it reports.
use Rattle.std.specs.Prelude.{ℕ, suc, List, [], ◌∷◌, ◌++◌, ℤ, pos, ◌*ℤ◌, codes, decimal, Option, Some, None}
use Rattle.lot_num.specs.AmountText.{amount_text}
use Rattle.lot_base.specs.Day.{day_text}
use Rattle.lot_cost.specs.declared.lot_key.LotKey.{LotKey}
use Rattle.lot_book.specs.declared.refusal.Refusal.{Refusal}
use Rattle.lot_book.specs.declared.refusal.Refusal.TheVariants.{KeyReused, AlreadyOpen, UnknownAccount, NotOpenYet, Closed, AlreadyDeclared, CurrencyNotAllowed, TooManyPostings, TwoElided, BackDated, NoMatch, Ambiguous, NotEnough, IncompleteCost, InexactCost, ZeroUnits, Range, InexactFill, FillNotAllowed, NotBalanced, TooManyLots, BookFull}
use Rattle.lot_book.specs.declared.verdict.Verdict.{Verdict}
use Rattle.lot_book.specs.declared.verdict.Verdict.TheVariants.{Accepted, Repeated, Refused}
use Rattle.lot_report.specs.declared.reply.Argument.{Argument}
use Rattle.lot_report.specs.declared.reply.Argument.TheVariants.{Posting, Currency}
use Rattle.lot_report.specs.declared.lot.Valuation.{Valuation}
use Rattle.lot_report.specs.declared.lot.Valuation.TheVariants.{Unasked, Missing, At}

abbrev pub line : List ℕ → List ℕ
line text = text ++ 10 ∷ []

-- ---- Replies

-- the place of a posting as an argument
abbrev pub posting_text : ℕ → List ℕ
posting_text posting = codes " posting " ++ decimal posting

-- the place of a posting, or nothing where the command is a closing
abbrev pub place_text : Option ℕ → List ℕ
place_text None = []
place_text (Some posting) = posting_text posting

-- a currency as an argument
abbrev pub currency_text : List ℕ → List ℕ
currency_text currency = codes " " ++ currency

-- the code and the name of a refusal
abbrev pub name_text : Refusal → List ℕ
name_text KeyReused = codes "L1 KeyReused"
name_text AlreadyOpen = codes "L2 AlreadyOpen"
name_text (UnknownAccount posting) = codes "L3 UnknownAccount"
name_text (NotOpenYet posting) = codes "L4 NotOpenYet"
name_text (Closed posting) = codes "L5 Closed"
name_text AlreadyDeclared = codes "L6 AlreadyDeclared"
name_text (CurrencyNotAllowed posting) = codes "L7 CurrencyNotAllowed"
name_text TooManyPostings = codes "L8 TooManyPostings"
name_text TwoElided = codes "L9 TwoElided"
name_text (BackDated posting) = codes "L10 BackDated"
name_text (Range posting) = codes "L11 Range"
name_text (InexactFill currency) = codes "L12 InexactFill"
name_text (FillNotAllowed currency) = codes "L13 FillNotAllowed"
name_text (NotBalanced currency) = codes "L14 NotBalanced"
name_text (TooManyLots posting) = codes "L15 TooManyLots"
name_text BookFull = codes "L16 BookFull"
name_text (NoMatch posting) = codes "B1 NoMatch"
name_text (Ambiguous posting) = codes "B2 Ambiguous"
name_text (NotEnough posting) = codes "B3 NotEnough"
name_text (IncompleteCost posting) = codes "B4 IncompleteCost"
name_text (InexactCost posting) = codes "B5 InexactCost"
name_text (ZeroUnits posting) = codes "B6 ZeroUnits"

-- the argument of a refusal, with the space before it, or nothing where it has none
abbrev pub argument_text : Refusal → List ℕ
argument_text KeyReused = []
argument_text AlreadyOpen = []
argument_text (UnknownAccount posting) = place_text posting
argument_text (NotOpenYet posting) = place_text posting
argument_text (Closed posting) = place_text posting
argument_text AlreadyDeclared = []
argument_text (CurrencyNotAllowed posting) = posting_text posting
argument_text TooManyPostings = []
argument_text TwoElided = []
argument_text (BackDated posting) = posting_text posting
argument_text (Range posting) = posting_text posting
argument_text (InexactFill currency) = currency_text currency
argument_text (FillNotAllowed currency) = currency_text currency
argument_text (NotBalanced currency) = currency_text currency
argument_text (TooManyLots posting) = posting_text posting
argument_text BookFull = []
argument_text (NoMatch posting) = posting_text posting
argument_text (Ambiguous posting) = posting_text posting
argument_text (NotEnough posting) = posting_text posting
argument_text (IncompleteCost posting) = posting_text posting
argument_text (InexactCost posting) = posting_text posting
argument_text (ZeroUnits posting) = posting_text posting

-- an argument as it is printed behind the name
abbrev pub shown : Argument → List ℕ
shown Argument.None = []
shown (Posting posting) = posting_text posting
shown (Currency currency) = currency_text currency.now

abbrev pub accepted_line : ℕ → List ℕ
accepted_line number = line (decimal number ++ codes " accepted")

abbrev pub repeated_line : ℕ → List ℕ
repeated_line number = line (decimal number ++ codes " repeat")

-- why something was refused, behind what names it
abbrev pub refusal_text : Refusal → List ℕ
refusal_text refusal = codes " refused " ++ name_text refusal ++ argument_text refusal

abbrev pub refused_line : ℕ → Refusal → List ℕ
refused_line number refusal = line (decimal number ++ refusal_text refusal)

-- the reply to the command of that number
abbrev pub reply : ℕ → Verdict → List ℕ
reply number Accepted = accepted_line number
reply number Repeated = repeated_line number
reply number (Refused refusal) = refused_line number refusal

-- the replies to commands, the first of which has that number
abbrev pub replies : ℕ → List Verdict → List ℕ
replies number [] = []
replies number (verdict ∷ verdicts) = reply number verdict ++ replies (suc number) verdicts

-- ---- Holdings

-- units that are in no lot: as money
abbrev pub plain_row : List ℕ → List ℕ → ℤ → List ℕ
plain_row account commodity units = line (account ++ codes " " ++ amount_text 2 8 units ++ codes " " ++ commodity)

-- the label of a lot, in quotes, or nothing where it has none
abbrev pub label_text : Option (List ℕ) → List ℕ
label_text None = []
label_text (Some label) = codes ", \"" ++ label ++ codes "\""

-- a lot in braces, with the text of its number: the cost of one unit, its day, and its label
abbrev pub in_braces : List ℕ → LotKey → List ℕ
in_braces number lot =
    codes "{" ++ number ++ codes " " ++ lot.currency ++ codes ", " ++ day_text lot.day ++ label_text lot.label ++ codes "}"

-- units in a lot, behind what stands at the front of their line, with the texts of the units and of the number of the lot
abbrev pub row_with : List ℕ → List ℕ → List ℕ → List ℕ → LotKey → List ℕ
row_with front units commodity number lot = front ++ codes " " ++ units ++ codes " " ++ commodity ++ codes " " ++ in_braces number lot

-- the price that a lot is valued at, if there is one
abbrev pub price_of : Valuation → Option ℕ
price_of Unasked = None
price_of Missing = None
price_of (At price) = Some price

-- the value of units of a lot, with the space before it: nothing where none is asked for
abbrev pub value_text : Valuation → List ℕ → ℤ → List ℕ
value_text Unasked currency units = []
value_text Missing currency units = codes " value none"
value_text (At price) currency units = codes " value " ++ amount_text 2 16 (units *ℤ pos price) ++ codes " " ++ currency

abbrev pub lot_row : List ℕ → List ℕ → LotKey → ℤ → Valuation → List ℕ
lot_row front commodity lot units valuation =
    line (row_with front (amount_text 0 8 units) commodity (amount_text 0 8 (pos lot.number)) lot ++ value_text valuation lot.currency units)

-- ---- Totals

-- a total in a currency, with the word that says of what it is
abbrev pub total_of : List ℕ → List ℕ → ℤ → List ℕ
total_of what currency total = line (codes "total " ++ what ++ codes " " ++ amount_text 2 16 total ++ codes " " ++ currency)
