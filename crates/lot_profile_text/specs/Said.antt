-- What is said of a fault of a profile, and of what has to stand under a key.
use Rattle.std.specs.Prelude.{ℕ, if◌then◌else◌, List, [], ◌∷◌, ◌++◌, codes, decimal}
use Rattle.std.specs.List.{flat_map}
use Rattle.lot_base.specs.Text.{same_text}
use Rattle.lot_profile_text.specs.declared.entry.Form.{Form}
use Rattle.lot_profile_text.specs.declared.entry.Form.TheVariants as form
use Rattle.lot_profile_text.specs.declared.fault.ProfileFault.{ProfileFault}
use Rattle.lot_profile_text.specs.declared.fault.ProfileFault.TheVariants.{Memory, Missing, NoToml, Unknown, Wrong}
use Rattle.lot_profile_text.specs.Words as words

-- texts one behind another
abbrev pub joined : List (List ℕ) → List ℕ
joined texts = flat_map (λ text. text) texts

-- ---- What has to stand under a key.

abbrev pub form_says : Form → List ℕ
form_says form.Text = codes "a text"
form_says form.SomeText = codes "a text that isn't empty"
form_says form.List = codes "a list"
form_says form.Texts = codes "a list of texts"
form_says form.Table = codes "a table"
form_says form.Tables = codes "a list of tables, one or more"
form_says form.Character = codes "one character or none; no digit, sign, parenthesis or mark"
form_says form.CurrencySigns = codes "a list of signs, without digits, points, commas and blanks"
form_says form.Day = codes "made of YYYY, MM or Mon, DD and the signs between them"
form_says form.Header = codes "how the line begins, or its number from 1, or 0"
form_says form.Column = codes "the name of a column, or its number from 1"
form_says form.Sources = codes "a table: under each role a column, or a list of them"
form_says form.OneColumn = codes "one column alone"
form_says form.ColumnNumber = codes "the number of a column: the table has no header"
form_says form.Test = codes "a text, begins: X, has: X, > 0, < 0, nothing or something"
form_says form.Conditions = codes "a table: under each column a test, or a list of them"
form_says form.Account = codes "an account; {currency}, {symbol}, {account} not in rounding"
form_says form.Accounts = codes "a table: under each purpose an account"
form_says form.Bound = codes "a number in quotes, from 0 to 1"
form_says form.Decimals = codes "0 to 8"
form_says form.RoundedRoles = codes "a table: under amount, fee, price, rate or units 0 to 8"
form_says form.Commodity = codes "a commodity"
form_says form.Symbols = codes "a table: under each field a commodity"
form_says form.Encoding = codes "one of "
form_says form.Delimiter = codes "one of "
form_says form.DecimalMark = codes "one of "
form_says form.Order = codes "one of "
form_says form.CostBasis = codes "one of "
form_says form.Rewards = codes "one of "
form_says form.Kind = codes "one of "
form_says form.AccountRole = codes "one of "
form_says form.Role = codes "one of "
form_says form.TurnedRole = codes "a role: amount, booked, cost, fee, other, price, tax, units"
form_says form.TurnedRoles = codes "a list of amount, booked, cost, fee, other, price, tax, units"

-- a word as TOML writes it, without its quotes
abbrev pub word_written : List ℕ → List ℕ
word_written word = if same_text word (9 ∷ []) then codes "\\t" else word

abbrev pub word_behind : {W : Type 0} → (W → List ℕ) → W → List ℕ
word_behind word value = joined (codes ", \"" ∷ word_written (word value) ∷ codes "\"" ∷ [])

-- words in quotes, with commas between
abbrev pub words_text : {W : Type 0} → (W → List ℕ) → List W → List ℕ
words_text word [] = []
words_text word (first ∷ more) =
    joined (codes "\"" ∷ word_written (word first) ∷ codes "\"" ∷ []) ++ flat_map (word_behind word) more

-- the words that may stand there
abbrev pub form_words : Form → List ℕ
form_words form.Encoding = words_text words.encoding_word words.encoding_all
form_words form.Delimiter = words_text words.delimiter_word words.delimiter_all
form_words form.DecimalMark = words_text words.decimal_mark_word words.decimal_mark_all
form_words form.Order = words_text words.order_word words.order_all
form_words form.CostBasis = words_text words.cost_basis_word words.cost_basis_all
form_words form.Rewards = words_text words.rewards_word words.rewards_all
form_words form.Kind = words_text words.kind_word words.kind_all
form_words form.AccountRole = words_text words.account_role_word words.account_role_all
form_words form.Role = words_text words.role_word words.role_all
form_words _ = []

unfoldable pub form_text : Form → List ℕ
form_text form = form_says form ++ form_words form

-- ---- Faults.

-- what is said of a fault, on one line
unfoldable pub fault_text : ProfileFault → List ℕ
fault_text (NoToml line) = joined (codes "line " ∷ decimal line ∷ codes " is no TOML" ∷ [])
fault_text (Unknown key) = joined (codes "no profile has the key " ∷ key ∷ [])
fault_text (Missing key) = joined (key ∷ codes " is missing" ∷ [])
fault_text (Wrong key form) = joined (key ∷ codes ": has to be " ∷ []) ++ form_text form
fault_text Memory = codes "out of memory"
