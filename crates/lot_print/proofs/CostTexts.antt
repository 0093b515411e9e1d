-- A cost in braces and a price: their tokens, their forms, and what they mean.
use Rattle.std.proofs.Common.{◌≡◌, ℕ, false, List, [], ◌∷◌, ◌++◌, refl, sym, subst, ℤ, append_assoc}
use Rattle.std.specs.Prelude.{option_map, Option, Some, None, IfSome}
use Rattle.lot_num.specs.Amount.{IsRate}
use Rattle.lot_base.specs.Name.{is_commodity}
use Rattle.lot_cost.specs.declared.cost_spec.CostSpec.{CostSpec}
use Rattle.lot_cost.specs.declared.cost.Cost.{Cost}
use Rattle.lot_cost.specs.declared.cost.Cost.TheVariants as Costs
use Rattle.lot_command.specs.Canonical.{cost_text, part, parts_text, price_text, rate_text, units_text}
use Rattle.lot_command.specs.declared.price.Price.{Price}
use Rattle.lot_command.specs.declared.price.Price.TheVariants as Prices
use Rattle.lot_syntax.specs.declared.token.Mark.TheVariants as Marks
use Rattle.lot_syntax.specs.Token.{Lexeme, begins, begins_with, is_word_byte, mark}
use Rattle.lot_syntax.specs.Form.{FitsCost, FitsPerhaps, WrittenCost, WrittenPrice, all_units, cost_tokens, each, each_unit, parts_tokens, perhaps, price_tokens, whole}
use Rattle.lot_read.specs.Meaning.{MeansCost, MeansPerhaps, MeansPrice, MeansRate, MeansTotal, number_in}
use Rattle.lot_command.specs.Sayable.{IsCost, IsPrice, IsSpec, IsTotal}
use Rattle.lot_print.proofs.CutLemmas.{IsCut, no_token, regrouped, space_first, token_first}
use Rattle.lot_print.proofs.MeaningLemmas.{name_means, rate_means, total_means}
use Rattle.lot_print.proofs.CostParts.{number_is, parts_fit, parts_number, rest_means, written_parts}
use Rattle.lot_print.proofs.CostLemmas.{IsNumeral, money_last, parts_are, rate_numeral, row_cut, row_no_brace, units_numeral}

-- ---- Costs.

abbrev pub written_cost : Cost → WrittenCost
written_cost (Costs.Each spec) = each (written_parts (option_map rate_text spec.number) spec)
written_cost (Costs.Whole cost) = whole (written_parts (Some (units_text cost.0)) cost.1)

rate_given : (rate : Option ℕ) → IfSome rate IsRate → IfSome (option_map rate_text rate) IsNumeral
rate_given None h = tt
rate_given (Some rate) h = rate_numeral rate h

rate_meant : (rate : Option ℕ) → IfSome rate IsRate → MeansPerhaps MeansRate (option_map rate_text rate) rate
rate_meant None h = tt
rate_meant (Some rate) h = rate_means rate h

-- what closes a cost, behind its parts
closed_by : (parts : List Lexeme) (last : Lexeme) (tokens : List Lexeme) (bytes ends rest : List ℕ)
    → IsCut (parts ++ last ∷ tokens) (bytes ++ (ends ++ rest)) → IsCut ((parts ++ last ∷ []) ++ tokens) ((bytes ++ ends) ++ rest)
closed_by parts last tokens bytes ends rest cut =
    regrouped (sym (append_assoc parts (last ∷ []) tokens)) (sym (append_assoc bytes ends rest)) cut

each_cut : (spec : CostSpec) (rest : List ℕ) (tokens : List Lexeme) → IsSpec spec → begins_with 125 rest ≡ false
    → IsCut tokens rest → IsCut (cost_tokens (written_cost (Costs.Each spec)) ++ tokens) (cost_text (Costs.Each spec) ++ rest)
each_cut spec rest tokens h ends cut =
    let n : Option (List ℕ) = option_map rate_text spec.number in
    let given = rate_given spec.number h.at_rate in
    let last : IsCut (mark Marks.Close ∷ tokens) (125 ∷ rest) = token_first (mark Marks.Close) ends cut in
    let row = row_cut n spec rest (mark Marks.Close ∷ tokens) given h last in
    space_first
    (token_first (mark Marks.Open) (row_no_brace _ _ rest (parts_are n spec given h))
    (closed_by (parts_tokens (written_parts n spec)) (mark Marks.Close) tokens (parts_text n spec) (125 ∷ []) rest row))

whole_cut : (total : ℤ) (spec : CostSpec) (rest : List ℕ) (tokens : List Lexeme) → IsTotal total → IsSpec spec
    → IsCut tokens rest
    → IsCut (cost_tokens (written_cost (Costs.Whole (total, spec))) ++ tokens) (cost_text (Costs.Whole (total, spec)) ++ rest)
whole_cut total spec rest tokens t h cut =
    let n : Option (List ℕ) = Some (units_text total) in
    let last : IsCut (mark Marks.CloseClose ∷ tokens) (125 ∷ 125 ∷ rest) = token_first (mark Marks.CloseClose) tt cut in
    let row = row_cut n spec (125 ∷ rest) (mark Marks.CloseClose ∷ tokens) (units_numeral total t.units) h last in
    space_first
    (token_first (mark Marks.OpenOpen) tt
    (closed_by (parts_tokens (written_parts n spec)) (mark Marks.CloseClose) tokens _ (125 ∷ 125 ∷ []) rest row))

pub cost_cut : (cost : Option Cost) (rest : List ℕ) (tokens : List Lexeme) → IfSome cost IsCost → begins_with 125 rest ≡ false
    → IsCut tokens rest
    → IsCut (perhaps cost_tokens (option_map written_cost cost) ++ tokens) (part cost_text cost ++ rest)
cost_cut None rest tokens h ends cuts = cuts
cost_cut (Some (Costs.Each spec)) rest tokens h ends cuts = each_cut spec rest tokens h ends cuts
cost_cut (Some (Costs.Whole cost)) rest tokens h ends cuts = whole_cut cost.0 cost.1 rest tokens h.0 h.1 cuts

-- no more of a word stands behind a commodity
pub cost_apart : (cost : Option Cost) (rest : List ℕ) → begins is_word_byte rest ≡ false
    → begins is_word_byte (part cost_text cost ++ rest) ≡ false
cost_apart None rest ends = ends
cost_apart (Some (Costs.Each spec)) rest ends = refl
cost_apart (Some (Costs.Whole cost)) rest ends = refl

pub cost_fits : (cost : Option Cost) → FitsPerhaps FitsCost (option_map written_cost cost)
cost_fits None = tt
cost_fits (Some (Costs.Each spec)) = parts_fit (option_map rate_text spec.number) spec
cost_fits (Some (Costs.Whole cost)) = (parts_fit (Some (units_text cost.0)) cost.1, parts_number (units_text cost.0) cost.1)

pub cost_means : (cost : Option Cost) → IfSome cost IsCost → MeansPerhaps MeansCost (option_map written_cost cost) cost
cost_means None h = tt
cost_means (Some (Costs.Each spec)) h =
    let number : MeansPerhaps MeansRate (number_in (written_parts (option_map rate_text spec.number) spec)) spec.number =
    subst (λ (n : Option (List ℕ)). MeansPerhaps MeansRate n spec.number)
    (sym (number_is (option_map rate_text spec.number) spec))
    (rate_meant spec.number h.at_rate) in
    (number, rest_means (option_map rate_text spec.number) spec h)
cost_means (Some (Costs.Whole cost)) h =
    let number : MeansPerhaps MeansTotal (number_in (written_parts (Some (units_text cost.0)) cost.1)) (Some cost.0) =
    subst (λ (n : Option (List ℕ)). MeansPerhaps MeansTotal n (Some cost.0)) (sym (number_is (Some (units_text cost.0)) cost.1))
    (total_means cost.0 h.0) in
    (number, h.2, rest_means (Some (units_text cost.0)) cost.1 h.1)

-- ---- Prices.

abbrev pub written_price : Price → WrittenPrice
written_price (Prices.Each price) = each_unit (rate_text price.rate) price.currency
written_price (Prices.Whole price) = all_units (units_text price.0) price.1

-- a price stands at the end of a line
pub price_cut : (price : Option Price) → IfSome price IsPrice
    → IsCut (perhaps price_tokens (option_map written_price price)) (part price_text price)
price_cut None h = no_token
price_cut (Some (Prices.Each price)) h =
    let money = money_last (rate_text price.rate) price.currency (rate_numeral price.rate h.0) h.1 in
    space_first (token_first (mark Marks.At) refl (space_first money))
price_cut (Some (Prices.Whole price)) h =
    let money = money_last (units_text price.0) price.1 (units_numeral price.0 h.0.units) h.1 in
    space_first (token_first (mark Marks.AtAt) tt (space_first money))

pub price_apart : (price : Option Price) → begins is_word_byte (part price_text price) ≡ false
price_apart None = refl
price_apart (Some (Prices.Each price)) = refl
price_apart (Some (Prices.Whole price)) = refl

pub price_no_brace : (price : Option Price) → begins_with 125 (part price_text price) ≡ false
price_no_brace None = refl
price_no_brace (Some (Prices.Each price)) = refl
price_no_brace (Some (Prices.Whole price)) = refl

pub price_means : (price : Option Price) → IfSome price IsPrice → MeansPerhaps MeansPrice (option_map written_price price) price
price_means None h = tt
price_means (Some (Prices.Each price)) h = (rate_means price.rate h.0, name_means is_commodity price.currency h.1)
price_means (Some (Prices.Whole price)) h = (total_means price.0 h.0, name_means is_commodity price.1 h.1)
