-- A written posting means one posting at most, and it means one exactly where all its parts are within their rules.
use Rattle.std.proofs.Common.{◌≡◌, List, Option, Some, None, sym, ap, ◌∙◌}
use Rattle.lot_base.specs.Name.{is_account, is_commodity, is_label}
use Rattle.lot_cost.specs.declared.cost_spec.CostSpec.{CostSpec}
use Rattle.lot_cost.specs.declared.cost.Cost.TheVariants as Costs
use Rattle.lot_command.specs.declared.price.Price.{Price}
use Rattle.lot_command.specs.declared.price.Price.TheVariants as Prices
use Rattle.lot_command.specs.declared.transaction.Amount.{Amount}
use Rattle.lot_command.specs.declared.transaction.Posting.{Posting}
use Rattle.lot_syntax.specs.Form.{CostPart, each, whole, FitsCost, FitsPerhaps, WrittenPrice, each_unit, all_units, WrittenAmount, WrittenPosting}
use Rattle.lot_syntax.proofs.PostingLemmas.{FitsAmount}
use Rattle.lot_read.specs.Meaning.{Item, AreInside, listed_by, cost_items, price_items, amount_items, posting_items, MeansPerhaps, MeansRate, MeansTotal, MeansDay, Names, Quotes, MeansRest, MeansCost, MeansPrice, MeansAmount, MeansPosting, number_in, currency_in, day_in, label_in}
use Rattle.lot_read.proofs.ItemLemmas.{both_inside, inside_parts}
use Rattle.lot_read.proofs.OneLemmas.{MeansOne, one_perhaps, one_units, one_rate, one_total, one_day, one_name, one_label}
use Rattle.lot_read.proofs.CostLemmas.{some_cost, cost_inside}

-- ---- At most one.

one_rest : (parts : List CostPart) (x y : CostSpec) → x.number ≡ y.number → MeansRest parts x → MeansRest parts y → x ≡ y
one_rest parts x y number h k =
    let currency : x.currency ≡ y.currency =
    one_perhaps (Names is_commodity) (one_name is_commodity) (currency_in parts) x.currency y.currency h.in_currency k.in_currency in
    let day : x.day ≡ y.day = one_perhaps MeansDay one_day (day_in parts) x.day y.day h.on_day k.on_day in
    let label : x.label ≡ y.label = one_perhaps (Quotes is_label) one_label (label_in parts) x.label y.label h.of_label k.of_label in
    λ i. record { number = number i; currency = currency i; day = day i; label = label i }

one_cost : MeansOne MeansCost
one_cost (each parts) (Costs.Each x) (Costs.Each y) h k =
    ap Costs.Each (one_rest parts x y (one_perhaps MeansRate one_rate (number_in parts) x.number y.number h.0 k.0) h.1 k.1)
one_cost (each parts) (Costs.Each x) (Costs.Whole y) h k = absurd k
one_cost (each parts) (Costs.Whole x) y h k = absurd h
one_cost (whole parts) (Costs.Each x) y h k = absurd h
one_cost (whole parts) (Costs.Whole x) (Costs.Each y) h k = absurd k
one_cost (whole parts) (Costs.Whole x) (Costs.Whole y) h k =
    let total = one_perhaps MeansTotal one_total (number_in parts) (Some x.0) (Some y.0) h.0 k.0 in
    let same : x.0 ≡ y.0 = cc in
    let rest = one_rest parts x.1 y.1 (h.1 ∙ sym k.1) h.2 k.2 in
    λ i. Costs.Whole (same i, rest i)

one_price : MeansOne MeansPrice
one_price (each_unit n c) (Prices.Each x) (Prices.Each y) h k =
    let rate : x.rate ≡ y.rate = one_rate n x.rate y.rate h.0 k.0 in
    let currency : x.currency ≡ y.currency = one_name is_commodity c x.currency y.currency h.1 k.1 in
    λ i. Prices.Each (record { rate = rate i; currency = currency i })
one_price (each_unit n c) (Prices.Each x) (Prices.Whole y) h k = absurd k
one_price (each_unit n c) (Prices.Whole x) y h k = absurd h
one_price (all_units n c) (Prices.Each x) y h k = absurd h
one_price (all_units n c) (Prices.Whole x) (Prices.Each y) h k = absurd k
one_price (all_units n c) (Prices.Whole x) (Prices.Whole y) h k =
    let total : x.0 ≡ y.0 = one_total n x.0 y.0 h.0 k.0 in
    let currency : x.1 ≡ y.1 = one_name is_commodity c x.1 y.1 h.1 k.1 in
    λ i. Prices.Whole (total i, currency i)

one_amount : MeansOne MeansAmount
one_amount a x y h k =
    let units : x.units ≡ y.units = one_units a.units x.units y.units h.units k.units in
    let commodity : x.commodity ≡ y.commodity = one_name is_commodity a.commodity x.commodity y.commodity h.commodity k.commodity in
    let cost : x.cost ≡ y.cost = one_perhaps MeansCost one_cost a.cost x.cost y.cost h.cost k.cost in
    let price : x.price ≡ y.price = one_perhaps MeansPrice one_price a.price x.price y.price h.price k.price in
    λ i. record { units = units i; commodity = commodity i; cost = cost i; price = price i }

pub one_posting : (written : WrittenPosting) (a b : Posting) → MeansPosting written a → MeansPosting written b → a ≡ b
one_posting written a b h k =
    let account : a.account ≡ b.account = one_name is_account written.account a.account b.account h.account k.account in
    let amount : a.amount ≡ b.amount = one_perhaps MeansAmount one_amount written.amount a.amount b.amount h.amount k.amount in
    λ i. record { account = account i; amount = amount i }

-- ---- Something is meant where all parts are inside.

some_perhaps : {A B : Type 0} (Fits : A → Type 0) (items : A → List Item) (Means : A → B → Type 0)
    → ((a : A) → Fits a → AreInside (items a) → (b : B) × Means a b) → (o : Option A) → FitsPerhaps Fits o → AreInside (listed_by items o)
    → (b : Option B) × MeansPerhaps Means o b
some_perhaps Fits items Means some None fits h = (None, tt)
some_perhaps Fits items Means some (Some a) fits h =
    let b = some a fits h in
    (Some b.0, b.1)

-- each price has its form
abbrev FitsPrice : WrittenPrice → Type 0
FitsPrice price = Unit {0}

fits_price : (price : Option WrittenPrice) → FitsPerhaps FitsPrice price
fits_price None = tt
fits_price (Some price) = tt

some_price : (price : WrittenPrice) → FitsPrice price → AreInside (price_items price) → (meant : Price) × MeansPrice price meant
some_price (each_unit n c) fits h = (Prices.Each (record { rate = h.0.0; currency = h.1.0.0 }), (h.0.1, h.1.0.1))
some_price (all_units n c) fits h = (Prices.Whole (h.0.0, h.1.0.0), (h.0.1, h.1.0.1))

some_amount : (a : WrittenAmount) → FitsAmount a → AreInside (amount_items a) → (meant : Amount) × MeansAmount a meant
some_amount a fits h =
    let both = inside_parts (listed_by cost_items a.cost) (listed_by price_items a.price) h.1.1 in
    let cost = some_perhaps FitsCost cost_items MeansCost some_cost a.cost fits both.0 in
    let price = some_perhaps FitsPrice price_items MeansPrice some_price a.price (fits_price a.price) both.1 in (
      record { units = h.0.0; commodity = h.1.0.0; cost = cost.0; price = price.0 },
      record { units = h.0.1; commodity = h.1.0.1; cost = cost.1; price = price.1 },
    )

pub some_posting : (written : WrittenPosting) → FitsPerhaps FitsAmount written.amount → AreInside (posting_items written)
    → (posting : Posting) × MeansPosting written posting
some_posting written fits h =
    let amount = some_perhaps FitsAmount amount_items MeansAmount some_amount written.amount fits h.1 in
    (record { account = h.0.0; amount = amount.0 }, record { account = h.0.1; amount = amount.1 })

-- ---- All parts are inside where something is meant.

perhaps_inside : {A B : Type 0} (Fits : A → Type 0) (items : A → List Item) (Means : A → B → Type 0)
    → ((a : A) (b : B) → Fits a → Means a b → AreInside (items a)) → (o : Option A) (p : Option B) → FitsPerhaps Fits o
    → MeansPerhaps Means o p → AreInside (listed_by items o)
perhaps_inside Fits items Means inside None None fits h = tt
perhaps_inside Fits items Means inside None (Some b) fits h = absurd h
perhaps_inside Fits items Means inside (Some a) None fits h = absurd h
perhaps_inside Fits items Means inside (Some a) (Some b) fits h = inside a b fits h

price_inside : (price : WrittenPrice) (meant : Price) → FitsPrice price → MeansPrice price meant → AreInside (price_items price)
price_inside (each_unit n c) (Prices.Each price) fits h = ((price.rate, h.0), ((price.currency, h.1), tt))
price_inside (each_unit n c) (Prices.Whole price) fits h = absurd h
price_inside (all_units n c) (Prices.Each price) fits h = absurd h
price_inside (all_units n c) (Prices.Whole price) fits h = ((price.0, h.0), ((price.1, h.1), tt))

amount_inside : (a : WrittenAmount) (meant : Amount) → FitsAmount a → MeansAmount a meant → AreInside (amount_items a)
amount_inside a meant fits h =
    let cost = perhaps_inside FitsCost cost_items MeansCost cost_inside a.cost meant.cost fits h.cost in
    let price = perhaps_inside FitsPrice price_items MeansPrice price_inside a.price meant.price (fits_price a.price) h.price in (
      (meant.units, h.units),
      (
        (meant.commodity, h.commodity),
        both_inside (listed_by cost_items a.cost) (listed_by price_items a.price) cost price,
      ),
    )

pub posting_inside : (written : WrittenPosting) (posting : Posting) → FitsPerhaps FitsAmount written.amount → MeansPosting written posting
    → AreInside (posting_items written)
posting_inside written posting fits h = (
  (posting.account, h.account),
  perhaps_inside FitsAmount amount_items MeansAmount amount_inside written.amount posting.amount fits h.amount,
)
