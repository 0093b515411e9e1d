-- What a book says beside the facts that commands are judged on: the days of declarings, the prices, the legs of a posting
-- and the sales. Each looks over all entries.
use Rattle.std.specs.Prelude.{◌≡◌, ℕ, suc, ◌==◌, ◌&&◌, Bool, if◌then◌else◌, List, [], ◌∷◌, length, filter, map, Option, None, Some, ℤ}
use Rattle.std.specs.Option.{option_or}
use Rattle.std.specs.Ordering.{int_eq}
use Rattle.lot_base.specs.Text.{same_text}
use Rattle.lot_command.specs.declared.command.Command.{Command}
use Rattle.lot_command.specs.declared.command.Command.TheVariants.{Opening, Closing, Declaring, Quoting, Transaction}
use Rattle.lot_command.specs.declared.command.Opening.{Opening as OpeningOf}
use Rattle.lot_book.specs.declared.leg.Leg.{Leg}
use Rattle.lot_book.specs.Edition.{Migration, edition_on, ties_in}
use Rattle.lot_book.specs.Facts.{Entry, facts_of, opening_of}
use Rattle.lot_book.specs.Sale.{SaleParts, AreSalesUnder}
use Rattle.lot_laws.specs.Collects.{Collects}

-- ---- currencies

abbrev pub currencies_in : Option OpeningOf → List (List ℕ)
currencies_in None = []
currencies_in (Some opening) = opening.currencies

-- the currencies with which an account was opened, as written
abbrev pub currencies_of : List Entry → List ℕ → List (List ℕ)
currencies_of entries account = currencies_in (opening_of entries account)

-- ---- declarings

-- the day on which a command declares the commodity, if it does
abbrev pub declaring_by : List ℕ → Command → Option ℤ
declaring_by commodity (Opening o) = None
declaring_by commodity (Closing c) = None
declaring_by commodity (Declaring d) = if same_text commodity d.commodity then Some d.day else None
declaring_by commodity (Quoting q) = None
declaring_by commodity (Transaction t) = None

-- the day on which a commodity was declared
abbrev pub declared_on : List Entry → List ℕ → Option ℤ
declared_on [] commodity = None
declared_on (entry ∷ entries) commodity = option_or (declaring_by commodity entry.command) (declared_on entries commodity)

-- ---- prices

-- the rate that a command quotes for the pair on that day, if it does
abbrev pub rate_by : List ℕ → List ℕ → ℤ → Command → Option ℕ
rate_by base quote day (Opening o) = None
rate_by base quote day (Closing c) = None
rate_by base quote day (Declaring d) = None
rate_by base quote day (Quoting q) =
    if same_text base q.base && (same_text quote q.quote && int_eq day q.day) then Some q.rate else None
rate_by base quote day (Transaction t) = None

-- the last rate that was quoted for the pair on that day
abbrev pub rate_on : List Entry → List ℕ → List ℕ → ℤ → Option ℕ
rate_on [] base quote day = None
rate_on (entry ∷ entries) base quote day = option_or (rate_on entries base quote day) (rate_by base quote day entry.command)

-- ---- legs

abbrev pub is_of_posting : ℕ → ℕ → Leg → Bool
is_of_posting entry posting leg = (leg.entry == entry) && (leg.posting == posting)

-- the legs of a posting of an entry, in their order
abbrev pub legs_of_posting : ℕ → ℕ → List Leg → List Leg
legs_of_posting entry posting legs = filter (is_of_posting entry posting) legs

-- ---- sales

-- sales with the number of their entry
abbrev pub numbered : ℕ → List (ℕ × SaleParts) → List (ℕ × (ℕ × SaleParts))
numbered number sales = map (λ (sale : ℕ × SaleParts). (number, sale)) sales

-- the sales of an entry behind those before it, by the edition that judged it, each with the number of
-- the entry and the place of its posting
abbrev pub AreSalesOfEntry : Migration → List Entry → Entry → List (ℕ × (ℕ × SaleParts)) → Type 0
AreSalesOfEntry migration before entry sales =
    (own : List (ℕ × SaleParts))
    × AreSalesUnder (ties_in (edition_on migration before) before) (facts_of before entry.key)
    entry.command own
    × (sales ≡ numbered (suc (length before)) own)

-- the sales of a book with that migration
abbrev pub SalesOf : Migration → List Entry → List (ℕ × (ℕ × SaleParts)) → Type 0
SalesOf migration entries sales = Collects (AreSalesOfEntry migration) [] entries sales
