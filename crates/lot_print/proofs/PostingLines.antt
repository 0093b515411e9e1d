-- The line of a posting: its tokens, its form, and what it means.
use Rattle.std.proofs.Common.{◌≡◌, ℕ, false, List, ◌∷◌, ◌++◌, refl}
use Rattle.std.specs.Prelude.{option_map, Option, Some, None, IfSome}
use Rattle.lot_base.specs.Name.{is_account, is_commodity, longest_account, longest_commodity}
use Rattle.lot_command.specs.Canonical.{amount_part, cost_text, part, price_text, units_text}
use Rattle.lot_command.specs.declared.transaction.Amount.{Amount}
use Rattle.lot_command.specs.declared.transaction.Posting.{Posting}
use Rattle.lot_syntax.specs.Token.{Lexeme, begins, is_word_byte, number, word}
use Rattle.lot_syntax.specs.Form.{FitsCost, FitsPerhaps, WrittenAmount, WrittenPosting, amount_tokens, cost_tokens, perhaps, price_tokens}
use Rattle.lot_read.specs.Meaning.{MeansAmount, MeansPerhaps}
use Rattle.lot_read.specs.Line.{IsPostingLine}
use Rattle.lot_command.specs.Sayable.{IsAmount, IsPosting}
use Rattle.lot_print.proofs.CanonicalLines.{posting_line}
use Rattle.lot_print.proofs.NameLemmas.{account_word, commodity_word}
use Rattle.lot_print.proofs.NumberLemmas.{before_space}
use Rattle.lot_print.proofs.CutLemmas.{IsCut, no_token, space_first, token_first, word_first}
use Rattle.lot_print.proofs.MeaningLemmas.{name_means, units_mean}
use Rattle.lot_print.proofs.CostLemmas.{units_numeral}
use Rattle.lot_print.proofs.CostTexts.{cost_apart, cost_cut, cost_fits, cost_means, price_apart, price_cut, price_means, price_no_brace, written_cost, written_price}

-- ---- Amounts.

abbrev written_amount : Amount → WrittenAmount
written_amount a = record {
  units = units_text a.units;
  commodity = a.commodity;
  cost = option_map written_cost a.cost;
  price = option_map written_price a.price;
}

amount_cut : (amount : Option Amount) → IfSome amount IsAmount
    → IsCut (perhaps amount_tokens (option_map written_amount amount)) (part amount_part amount)
amount_cut None h = no_token
amount_cut (Some a) h =
    let behind : List ℕ = part cost_text a.cost ++ part price_text a.price in
    let price_behind : List Lexeme = perhaps price_tokens (option_map written_price a.price) in
    let tokens : List Lexeme = perhaps cost_tokens (option_map written_cost a.cost) ++ price_behind in
    let cost : IsCut tokens behind =
    cost_cut a.cost (part price_text a.price) price_behind h.at_cost
    (price_no_brace a.price) (price_cut a.price h.at_price) in
    let apart : begins is_word_byte behind ≡ false = cost_apart a.cost (part price_text a.price) (price_apart a.price) in
    let is_word = commodity_word a.commodity h.in_commodity.1 in
    let commodity = word_first longest_commodity a.commodity behind tokens is_word apart cost in
    let units = (units_numeral a.units h.of_units).stands (32 ∷ (a.commodity ++ behind)) (before_space (a.commodity ++ behind)) in
    space_first (token_first (number (units_text a.units)) units (space_first commodity))

amount_apart : (amount : Option Amount) → begins is_word_byte (part amount_part amount) ≡ false
amount_apart None = refl
amount_apart (Some a) = refl

amount_fits : (amount : Option Amount)
    → FitsPerhaps (λ (a : WrittenAmount). FitsPerhaps FitsCost a.cost) (option_map written_amount amount)
amount_fits None = tt
amount_fits (Some a) = cost_fits a.cost

amount_means : (amount : Option Amount) → IfSome amount IsAmount
    → MeansPerhaps MeansAmount (option_map written_amount amount) amount
amount_means None h = tt
amount_means (Some a) h = record {
  units = units_mean a.units h.of_units;
  commodity = name_means is_commodity a.commodity h.in_commodity;
  cost = cost_means a.cost h.at_cost;
  price = price_means a.price h.at_price;
}

-- ---- Postings.

abbrev written : Posting → WrittenPosting
written posting = record { account = posting.account; amount = option_map written_amount posting.amount }

pub posting_says : (posting : Posting) → IsPosting posting → IsPostingLine (posting_line posting) posting
posting_says posting h =
    let account = word_first longest_account posting.account (part amount_part posting.amount) _
    (account_word posting.account h.of_account.1)
    (amount_apart posting.amount) (amount_cut posting.amount h.of_amount) in
    record {
      indented = refl;
      tokens = word posting.account ∷ perhaps amount_tokens (option_map written_amount posting.amount);
      cuts = (space_first (space_first account)).cuts;
      written = written posting;
      form = (amount_fits posting.amount, refl);
      means = record {
        account = name_means is_account posting.account h.of_account;
        amount = amount_means posting.amount h.of_amount;
      };
    }
