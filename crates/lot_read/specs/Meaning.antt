-- What the parts of a line mean, where each of them is within its rule (docs/RULES.md), and which is the first that isn't
-- (docs/FORMATS.md, Order of faults).
use Rattle.std.specs.Prelude.{◌≡◌, ℕ, Bool, IsTrue, List, [], ◌∷◌, ◌++◌, flat_map, Option, Some, None, Ok, ℤ}
use Rattle.std.specs.List.{AllZip, AllByRecursion}
use Rattle.lot_num.specs.NumberText.{units_of, rate_of, total_of}
use Rattle.lot_base.specs.Name.{is_account, is_commodity, is_label, is_note}
use Rattle.lot_base.specs.Day.{named_day}
use Rattle.lot_cost.specs.declared.cost_spec.CostSpec.{CostSpec}
use Rattle.lot_cost.specs.Method.{word_of}
use Rattle.lot_cost.specs.declared.cost.Cost.{Cost}
use Rattle.lot_cost.specs.declared.cost.Cost.TheVariants as Costs
use Rattle.lot_cost.specs.declared.method.Method.{Method}
use Rattle.lot_cost.specs.declared.method.Method.TheVariants.{Strict}
use Rattle.lot_command.specs.Canonical.{escaped}
use Rattle.lot_command.specs.declared.command.Command.{Command}
use Rattle.lot_command.specs.declared.command.Command.TheVariants as Commands
use Rattle.lot_command.specs.declared.price.Price.{Price}
use Rattle.lot_command.specs.declared.price.Price.TheVariants as Prices
use Rattle.lot_command.specs.declared.transaction.Amount.{Amount}
use Rattle.lot_command.specs.declared.transaction.Narration.{Narration}
use Rattle.lot_command.specs.declared.transaction.Posting.{Posting}
use Rattle.lot_read.specs.declared.fault.ValueFault.{ValueFault}
use Rattle.lot_read.specs.declared.fault.ValueFault.TheVariants.{BadNumber, BadName, BadDay}
use Rattle.lot_syntax.specs.Form.{CostPart, money, amount, currency, day, label, WrittenCost, each, whole, WrittenPrice, each_unit, all_units, WrittenAmount, WrittenPosting, Directive, opening, closing, declaring, quoting, transaction}

-- ---- What each part means.

-- a name is written as it stands
pub record Names (is_name : List ℕ → Bool) (bytes name : List ℕ) : Type 0 where
  pub spelled : bytes ≡ name
  pub good : IsTrue (is_name name)

-- a text stands between quotes, each quote and each backslash in it behind a backslash
pub record Quotes (is_name : List ℕ → Bool) (bytes name : List ℕ) : Type 0 where
  pub spelled : bytes ≡ escaped name
  pub good : IsTrue (is_name name)

abbrev pub MeansUnits : List ℕ → ℤ → Type 0
MeansUnits bytes units = units_of bytes ≡ Ok units

abbrev pub MeansRate : List ℕ → ℕ → Type 0
MeansRate bytes rate = rate_of bytes ≡ Ok rate

abbrev pub MeansTotal : List ℕ → ℤ → Type 0
MeansTotal bytes total = total_of bytes ≡ Ok total

abbrev pub MeansDay : List ℕ → ℤ → Type 0
MeansDay bytes n = named_day bytes ≡ Some n

-- what is absent means nothing
abbrev pub MeansPerhaps : {A B : Type 0} → (A → B → Type 0) → Option A → Option B → Type 0
MeansPerhaps Means None None = Unit {0}
MeansPerhaps Means None (Some b) = ⊥
MeansPerhaps Means (Some a) None = ⊥
MeansPerhaps Means (Some a) (Some b) = Means a b

-- STRICT where no method is given
abbrev pub MeansMethod : Option (List ℕ) → Method → Type 0
MeansMethod None method = method ≡ Strict
MeansMethod (Some bytes) method = bytes ≡ word_of method

-- ---- Costs and prices: what the parts give of a lot, in whatever order they stand

abbrev pub number_in : List CostPart → Option (List ℕ)
number_in [] = None
number_in (money n c ∷ parts) = Some n
number_in (amount n ∷ parts) = Some n
number_in (currency c ∷ parts) = number_in parts
number_in (day d ∷ parts) = number_in parts
number_in (label l ∷ parts) = number_in parts

abbrev pub currency_in : List CostPart → Option (List ℕ)
currency_in [] = None
currency_in (money n c ∷ parts) = Some c
currency_in (amount n ∷ parts) = currency_in parts
currency_in (currency c ∷ parts) = Some c
currency_in (day d ∷ parts) = currency_in parts
currency_in (label l ∷ parts) = currency_in parts

abbrev pub day_in : List CostPart → Option (List ℕ)
day_in [] = None
day_in (money n c ∷ parts) = day_in parts
day_in (amount n ∷ parts) = day_in parts
day_in (currency c ∷ parts) = day_in parts
day_in (day d ∷ parts) = Some d
day_in (label l ∷ parts) = day_in parts

abbrev pub label_in : List CostPart → Option (List ℕ)
label_in [] = None
label_in (money n c ∷ parts) = label_in parts
label_in (amount n ∷ parts) = label_in parts
label_in (currency c ∷ parts) = label_in parts
label_in (day d ∷ parts) = label_in parts
label_in (label l ∷ parts) = Some l

-- what they give beside the number
pub record MeansRest (parts : List CostPart) (spec : CostSpec) : Type 0 where
  pub in_currency : MeansPerhaps (Names is_commodity) (currency_in parts) spec.currency
  pub on_day : MeansPerhaps MeansDay (day_in parts) spec.day
  pub of_label : MeansPerhaps (Quotes is_label) (label_in parts) spec.label

-- in single braces the number is a rate, in double braces it is a total
abbrev pub MeansCost : WrittenCost → Cost → Type 0
MeansCost (each parts) (Costs.Each spec) = MeansPerhaps MeansRate (number_in parts) spec.number × MeansRest parts spec
MeansCost (each parts) (Costs.Whole cost) = ⊥
MeansCost (whole parts) (Costs.Each spec) = ⊥
MeansCost (whole parts) (Costs.Whole cost) =
    MeansPerhaps MeansTotal (number_in parts) (Some cost.0) × (cost.1.number ≡ None) × MeansRest parts cost.1

abbrev pub MeansPrice : WrittenPrice → Price → Type 0
MeansPrice (each_unit n c) (Prices.Each price) = MeansRate n price.rate × Names is_commodity c price.currency
MeansPrice (each_unit n c) (Prices.Whole price) = ⊥
MeansPrice (all_units n c) (Prices.Each price) = ⊥
MeansPrice (all_units n c) (Prices.Whole price) = MeansTotal n price.0 × Names is_commodity c price.1

-- ---- Postings.

pub record MeansAmount (written : WrittenAmount) (amount : Amount) : Type 0 where
  pub units : MeansUnits written.units amount.units
  pub commodity : Names is_commodity written.commodity amount.commodity
  pub cost : MeansPerhaps MeansCost written.cost amount.cost
  pub price : MeansPerhaps MeansPrice written.price amount.price

pub record MeansPosting (written : WrittenPosting) (posting : Posting) : Type 0 where
  pub account : Names is_account written.account posting.account
  pub amount : MeansPerhaps MeansAmount written.amount posting.amount

-- ---- Lines that aren't indented: the command that begins there; a transaction has no posting yet

pub record MeansNotes (notes : Option (List ℕ) × List ℕ) (meant : Narration) : Type 0 where
  pub payee : MeansPerhaps (Quotes is_note) notes.0 meant.payee
  pub narration : Quotes is_note notes.1 meant.text

abbrev pub MeansHeader : List ℕ → Directive → Command → Type 0
MeansHeader when (opening account currencies method) (Commands.Opening o) =
    MeansDay when o.day × Names is_account account o.account × AllZip (Names is_commodity) currencies o.currencies
    × MeansMethod method o.method
MeansHeader when (closing account) (Commands.Closing c) = MeansDay when c.day × Names is_account account c.account
MeansHeader when (declaring commodity) (Commands.Declaring d) = MeansDay when d.day × Names is_commodity commodity d.commodity
MeansHeader when (quoting base rate quote) (Commands.Quoting q) =
    MeansDay when q.day × Names is_commodity base q.base × MeansRate rate q.rate × Names is_commodity quote q.quote
MeansHeader when (transaction flag notes) (Commands.Transaction t) =
    MeansDay when t.day × (t.flag ≡ flag) × MeansPerhaps MeansNotes notes t.narration × (t.postings ≡ [])
MeansHeader when directive command = ⊥

-- ---- The first part outside its rule.

-- a part of a line, by what it has to be
pub data Item : Type 0 where
  units_item : List ℕ → Item
  rate_item : List ℕ → Item
  total_item : List ℕ → Item
  account_item : List ℕ → Item
  commodity_item : List ℕ → Item
  method_item : List ℕ → Item
  label_item : List ℕ → Item
  note_item : List ℕ → Item
  day_item : List ℕ → Item

-- it is within its rule: there is something that it means
abbrev pub IsInside : Item → Type 0
IsInside (units_item bytes) = (units : ℤ) × MeansUnits bytes units
IsInside (rate_item bytes) = (rate : ℕ) × MeansRate bytes rate
IsInside (total_item bytes) = (total : ℤ) × MeansTotal bytes total
IsInside (account_item bytes) = (name : List ℕ) × Names is_account bytes name
IsInside (commodity_item bytes) = (name : List ℕ) × Names is_commodity bytes name
IsInside (method_item bytes) = (method : Method) × MeansMethod (Some bytes) method
IsInside (label_item bytes) = (name : List ℕ) × Quotes is_label bytes name
IsInside (note_item bytes) = (name : List ℕ) × Quotes is_note bytes name
IsInside (day_item bytes) = (n : ℤ) × MeansDay bytes n

abbrev pub fault_of : Item → ValueFault
fault_of (units_item bytes) = BadNumber
fault_of (rate_item bytes) = BadNumber
fault_of (total_item bytes) = BadNumber
fault_of (account_item bytes) = BadName
fault_of (commodity_item bytes) = BadName
fault_of (method_item bytes) = BadName
fault_of (label_item bytes) = BadName
fault_of (note_item bytes) = BadName
fault_of (day_item bytes) = BadDay

-- all parts are within their rules
abbrev pub AreInside : List Item → Type 0
AreInside items = AllByRecursion IsInside items

-- the fault of the first part that isn't
pub record FirstOutside (items : List Item) (fault : ValueFault) : Type 0 where
  pub before : List Item
  pub item : Item
  pub after : List Item
  pub place : items ≡ before ++ item ∷ after
  pub inside : AreInside before
  pub outside : IsInside item → ⊥
  pub which : fault ≡ fault_of item

-- ---- The parts of a line from left to right.

abbrev pub listed_by : {X : Type 0} → (X → List Item) → Option X → List Item
listed_by items None = []
listed_by items (Some x) = items x

-- its number is one of that kind
abbrev pub part_items : (List ℕ → Item) → CostPart → List Item
part_items number (money n c) = number n ∷ commodity_item c ∷ []
part_items number (amount n) = number n ∷ []
part_items number (currency c) = commodity_item c ∷ []
part_items number (day d) = day_item d ∷ []
part_items number (label l) = label_item l ∷ []

abbrev pub cost_items : WrittenCost → List Item
cost_items (each parts) = flat_map (part_items rate_item) parts
cost_items (whole parts) = flat_map (part_items total_item) parts

abbrev pub price_items : WrittenPrice → List Item
price_items (each_unit n c) = rate_item n ∷ commodity_item c ∷ []
price_items (all_units n c) = total_item n ∷ commodity_item c ∷ []

abbrev pub amount_items : WrittenAmount → List Item
amount_items a =
    units_item a.units ∷ commodity_item a.commodity ∷ (listed_by cost_items a.cost ++ listed_by price_items a.price)

abbrev pub posting_items : WrittenPosting → List Item
posting_items posting = account_item posting.account ∷ listed_by amount_items posting.amount

abbrev pub note_items : Option (List ℕ) × List ℕ → List Item
note_items notes = listed_by (λ payee. note_item payee ∷ []) notes.0 ++ note_item notes.1 ∷ []

abbrev pub directive_items : Directive → List Item
directive_items (opening account currencies method) =
    account_item account ∷ (flat_map (λ c. commodity_item c ∷ []) currencies ++ listed_by (λ m. method_item m ∷ []) method)
directive_items (closing account) = account_item account ∷ []
directive_items (declaring commodity) = commodity_item commodity ∷ []
directive_items (quoting base rate quote) = commodity_item base ∷ rate_item rate ∷ commodity_item quote ∷ []
directive_items (transaction flag notes) = listed_by note_items notes

abbrev pub header_items : List ℕ → Directive → List Item
header_items when directive = day_item when ∷ directive_items directive
