-- The first line of a command: its tokens, its form, and what it means.
use Rattle.std.proofs.Common.{◌≡◌, inl, ℕ, true, false, List, [], ◌∷◌, ◌++◌, refl, sym, subst, arith, ℤ}
use Rattle.std.specs.Prelude.{codes, option_map, Option, Some, None, IfSome}
use Rattle.std.specs.List.{AllByRecursion, AllZip}
use Rattle.std.specs.Char.{is_ascii_digit}
use Rattle.std.proofs.lemmas.Bool.Decides.{nat_tests}
use Rattle.std.proofs.lemmas.List.{append-nil}
use Rattle.lot_base.specs.Day.{day_text}
use Rattle.lot_base.specs.Name.{IsName, is_account, is_commodity, is_note, longest_account, longest_commodity}
use Rattle.lot_cost.specs.Method.{word_of}
use Rattle.lot_cost.specs.declared.method.Method.{Method}
use Rattle.lot_cost.specs.declared.method.Method.TheVariants.{Strict, Fifo, Lifo, Hifo, Unmatched}
use Rattle.lot_command.specs.Canonical.{currencies_part, escaped, flag_text, method_part, narration_text, note_part, part, rate_text}
use Rattle.lot_command.specs.declared.command.Closing.{Closing}
use Rattle.lot_command.specs.declared.command.Command.{Command}
use Rattle.lot_command.specs.declared.command.Command.TheVariants as Commands
use Rattle.lot_command.specs.declared.command.Declaring.{Declaring}
use Rattle.lot_command.specs.declared.command.Opening.{Opening}
use Rattle.lot_command.specs.declared.command.Quoting.{Quoting}
use Rattle.lot_command.specs.declared.transaction.Flag.{Flag}
use Rattle.lot_command.specs.declared.transaction.Flag.TheVariants.{Complete, Incomplete}
use Rattle.lot_command.specs.declared.transaction.Narration.{Narration}
use Rattle.lot_command.specs.declared.transaction.Transaction.{Transaction}
use Rattle.lot_syntax.specs.declared.token.Mark.TheVariants as Marks
use Rattle.lot_syntax.specs.Token.{Lexeme, begins, date, is_blank, is_word_byte, mark, text, word}
use Rattle.lot_syntax.specs.Form.{Directive, IsDirective, IsFlag, closing, currency_tokens, declaring, note_tokens, opening, perhaps, quoting, transaction}
use Rattle.lot_read.specs.Meaning.{MeansHeader, MeansMethod, MeansNotes, MeansPerhaps, Names, Quotes}
use Rattle.lot_read.specs.Line.{IsCommand}
use Rattle.lot_read.specs.Text.{without_postings}
use Rattle.lot_command.specs.Sayable.{IsClosing, IsDeclaring, IsNarration, IsOpening, IsQuoting, IsTransaction}
use Rattle.lot_print.proofs.CanonicalLines.{closing_line, declaring_line, opening_line, quoting_line, transaction_line}
use Rattle.lot_print.proofs.ListLemmas.{zip_itself}
use Rattle.lot_print.proofs.NameLemmas.{account_word, commodity_word}
use Rattle.lot_print.proofs.DayLemmas.{day_stands, day_starts}
use Rattle.lot_print.proofs.NoteLemmas.{method_stands, note_stands}
use Rattle.lot_print.proofs.CutLemmas.{IsCut, PartStands, comma_alone, joined_parts, no_token, regrouped, space_first, text_first, token_first, word_first, word_last}
use Rattle.lot_print.proofs.MeaningLemmas.{day_means, name_means, note_means, rate_means}
use Rattle.lot_print.proofs.CostLemmas.{money_last, rate_numeral}

-- ---- A day, and what is done on it.

digit_no_blank : (b : ℕ) → is_ascii_digit b ≡ true → is_blank b ≡ false
digit_no_blank b e = grind (arith, nat_tests)

unindented : (n : ℤ) (rest : List ℕ) → begins is_blank (day_text n ++ rest) ≡ false
unindented n rest =
    let s = day_starts n in
    subst (λ (bytes : List ℕ). begins is_blank (bytes ++ rest) ≡ false) (sym s.whole) (digit_no_blank s.first s.is_digit)

says : (n : ℤ) (rest : List ℕ) (tokens : List Lexeme) (directive : Directive) (command : Command) → IsCut tokens rest
    → IsDirective tokens directive → MeansHeader (day_text n) directive command → IsCommand (day_text n ++ rest) command
says n rest tokens directive command cut form means = record {
  unindented = unindented n rest;
  tokens = date (day_text n) ∷ tokens;
  cuts = (token_first (date (day_text n)) (day_stands n rest) cut).cuts;
  day = day_text n;
  directive = directive;
  form = (tokens, form, refl);
  means = means;
}

-- ---- Closings, declarings and quotings.

pub closing_says : (c : Closing) → IsClosing c → IsCommand (closing_line c) (Commands.Closing c)
closing_says c h =
    let account = word_last longest_account c.account (account_word c.account h.of_account.1) in
    let cut = space_first (token_first (word (codes "close")) (refl, refl, refl) (space_first account)) in
    says c.day _ _ (closing c.account) (Commands.Closing c) cut refl
    (day_means c.day h.on_day, name_means is_account c.account h.of_account)

pub declaring_says : (d : Declaring) → IsDeclaring d → IsCommand (declaring_line d) (Commands.Declaring d)
declaring_says d h =
    let commodity = word_last longest_commodity d.commodity (commodity_word d.commodity h.of_commodity.1) in
    let cut = space_first (token_first (word (codes "commodity")) (refl, refl, refl) (space_first commodity)) in
    says d.day _ _ (declaring d.commodity) (Commands.Declaring d) cut refl
    (day_means d.day h.on_day, name_means is_commodity d.commodity h.of_commodity)

pub quoting_says : (q : Quoting) → IsQuoting q → IsCommand (quoting_line q) (Commands.Quoting q)
quoting_says q h =
    let money = money_last (rate_text q.rate) q.quote (rate_numeral q.rate h.at_rate) h.in_quote in
    let base = word_first longest_commodity q.base _ _ (commodity_word q.base h.of_base.1) refl (space_first money) in
    let cut = space_first (token_first (word (codes "price")) (refl, refl, refl) (space_first base)) in
    says q.day _ _ (quoting q.base (rate_text q.rate) q.quote) (Commands.Quoting q) cut refl (
      day_means q.day h.on_day,
      name_means is_commodity q.base h.of_base,
      rate_means q.rate h.at_rate,
      name_means is_commodity q.quote h.in_quote,
    )

-- ---- Openings.

abbrev written_method : Method → Option (List ℕ)
written_method Strict = None
written_method Fifo = Some (word_of Fifo)
written_method Lifo = Some (word_of Lifo)
written_method Hifo = Some (word_of Hifo)
written_method Unmatched = Some (word_of Unmatched)

abbrev method_tokens : Method → List Lexeme
method_tokens method = perhaps (λ m. text m ∷ []) (written_method method)

method_cut : (method : Method) → IsCut (method_tokens method) (method_part method)
method_cut Strict = no_token
method_cut Fifo = space_first (text_first (word_of Fifo) [] [] (method_stands Fifo []) no_token)
method_cut Lifo = space_first (text_first (word_of Lifo) [] [] (method_stands Lifo []) no_token)
method_cut Hifo = space_first (text_first (word_of Hifo) [] [] (method_stands Hifo []) no_token)
method_cut Unmatched = space_first (text_first (word_of Unmatched) [] [] (method_stands Unmatched []) no_token)

method_means : (method : Method) → MeansMethod (written_method method) method
method_means Strict = refl
method_means Fifo = refl
method_means Lifo = refl
method_means Hifo = refl
method_means Unmatched = refl

method_apart : (method : Method) → begins is_word_byte (method_part method) ≡ false
method_apart Strict = refl
method_apart Fifo = refl
method_apart Lifo = refl
method_apart Hifo = refl
method_apart Unmatched = refl

abbrev AfterWord : List ℕ → Type 0
AfterWord rest = begins is_word_byte rest ≡ false

currencies_stand : (currencies : List (List ℕ)) → AllByRecursion (IsName is_commodity) currencies
    → AllZip (λ bytes c. PartStands AfterWord bytes (word c ∷ [])) currencies currencies
currencies_stand currencies all =
    zip_itself (IsName is_commodity) (λ bytes c. PartStands AfterWord bytes (word c ∷ []))
    (λ c h rest tokens ends cut. word_first longest_commodity c rest tokens (commodity_word c h.1) ends cut) currencies all

currencies_cut : (currencies : List (List ℕ)) (rest : List ℕ) (tokens : List Lexeme)
    → AllByRecursion (IsName is_commodity) currencies
    → AfterWord rest → IsCut tokens rest → IsCut (currency_tokens currencies ++ tokens) (currencies_part currencies ++ rest)
currencies_cut [] rest tokens all ends cut = cut
currencies_cut (c ∷ currencies) rest tokens all ends cut =
    space_first
    (joined_parts AfterWord (44 ∷ []) (λ c. word c ∷ []) (comma_alone AfterWord (λ line. refl)) (c ∷ currencies) (c ∷ currencies)
    (currencies_stand (c ∷ currencies) all) rest tokens ends cut)

account_apart : (currencies : List (List ℕ)) (rest : List ℕ) → AfterWord rest → AfterWord (currencies_part currencies ++ rest)
account_apart [] rest ends = ends
account_apart (c ∷ currencies) rest ends = refl

pub opening_says : (o : Opening) → IsOpening o → IsCommand (opening_line o) (Commands.Opening o)
opening_says o h =
    let names = h.in_currencies.names in
    let ends = method_apart o.method in
    let behind = currencies_cut o.currencies (method_part o.method) (method_tokens o.method) names ends (method_cut o.method) in
    let account = word_first longest_account o.account _ _ (account_word o.account h.of_account.1)
    (account_apart o.currencies (method_part o.method) ends) behind in
    let cut = space_first (token_first (word (codes "open")) (refl, refl, refl) (space_first account)) in
    says o.day _ _ (opening o.account o.currencies (written_method o.method)) (Commands.Opening o) cut
    (h.in_currencies.few, refl) (
      day_means o.day h.on_day,
      name_means is_account o.account h.of_account,
      zip_itself (IsName is_commodity) (Names is_commodity) (name_means is_commodity) o.currencies names,
      method_means o.method,
    )

-- ---- Transactions.

abbrev flag_token : Flag → Lexeme
flag_token Complete = mark Marks.Star
flag_token Incomplete = mark Marks.Exclamation

flag_cut : (flag : Flag) (rest : List ℕ) (tokens : List Lexeme) → IsCut tokens rest
    → IsCut (flag_token flag ∷ tokens) (flag_text flag ++ rest)
flag_cut Complete rest tokens cut = token_first (mark Marks.Star) tt cut
flag_cut Incomplete rest tokens cut = token_first (mark Marks.Exclamation) tt cut

flag_is : (flag : Flag) → IsFlag (flag_token flag) flag
flag_is Complete = inl refl
flag_is Incomplete = refl

abbrev written_notes : Narration → Option (List ℕ) × List ℕ
written_notes narration = (option_map escaped narration.payee, escaped narration.text)

note_cut : (note rest : List ℕ) (tokens : List Lexeme) → IsName is_note note → IsCut tokens rest
    → IsCut (text (escaped note) ∷ tokens) (note_part note ++ rest)
note_cut note rest tokens h cut = space_first (text_first (escaped note) rest tokens (note_stands note rest h.1) cut)

last_note : (note : List ℕ) → IsName is_note note → IsCut (text (escaped note) ∷ []) (note_part note)
last_note note h =
    regrouped refl (append-nil (note_part note)) (note_cut note [] [] h no_token)

payee_cut : (payee : Option (List ℕ)) (rest : List ℕ) (tokens : List Lexeme) → IfSome payee (IsName is_note) → IsCut tokens rest
    → IsCut (perhaps (λ p. text p ∷ []) (option_map escaped payee) ++ tokens) (part note_part payee ++ rest)
payee_cut None rest tokens h cut = cut
payee_cut (Some payee) rest tokens h cut = note_cut payee rest tokens h cut

narration_cut : (narration : Option Narration) → IfSome narration IsNarration
    → IsCut (perhaps note_tokens (option_map written_notes narration)) (part narration_text narration)
narration_cut None h = no_token
narration_cut (Some narration) h =
    payee_cut narration.payee (note_part narration.text) (text (escaped narration.text) ∷ []) h.of_payee
    (last_note narration.text h.of_text)

payee_means : (payee : Option (List ℕ)) → IfSome payee (IsName is_note)
    → MeansPerhaps (Quotes is_note) (option_map escaped payee) payee
payee_means None h = tt
payee_means (Some payee) h = note_means payee h

narration_means : (narration : Option Narration) → IfSome narration IsNarration
    → MeansPerhaps MeansNotes (option_map written_notes narration) narration
narration_means None h = tt
narration_means (Some narration) h =
    record { payee = payee_means narration.payee h.of_payee; narration = note_means narration.text h.of_text }

pub transaction_says : (t : Transaction) → IsTransaction t
    → IsCommand (transaction_line t) (Commands.Transaction (without_postings t))
transaction_says t h =
    let notes = narration_cut t.narration h.of_narration in
    let cut = space_first (flag_cut t.flag _ _ notes) in
    says t.day _ _ (transaction t.flag (option_map written_notes t.narration)) (Commands.Transaction (without_postings t)) cut
    (flag_token t.flag, flag_is t.flag, refl)
    (day_means t.day h.on_day, refl, narration_means t.narration h.of_narration, refl)
