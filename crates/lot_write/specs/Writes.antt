-- The writes of an accepted command: its entry, and what it changes (docs/FORMATS.md, Tables).
use Rattle.std.specs.Prelude.{All, ℕ, ℤ, pos, suc, if◌then◌else◌, List, [], ◌∷◌, ◌++◌, flat_map, map, IfSome, Option, Some, None}
use Rattle.std.specs.BTreeMap.{BTreeMap, IsOrdered, get}
use Rattle.std.specs.Map.{lookup}
use Rattle.std.specs.Option.{unwrap_or}
use Rattle.std.specs.Ordering.{int_eq}
use Rattle.lot_cost.specs.declared.lot_key.LotKey.{LotKey}
use Rattle.lot_command.specs.declared.command.Closing.{Closing as ClosingOf}
use Rattle.lot_command.specs.declared.command.Command.{Command}
use Rattle.lot_command.specs.declared.command.Command.TheVariants.{Opening, Closing, Declaring, Quoting, Transaction}
use Rattle.lot_command.specs.declared.key.Key.{Key}
use Rattle.lot_book.specs.Book.{entry_of}
use Rattle.lot_book.specs.Change.{pair_cmp, units_before}
use Rattle.lot_book.specs.Facts.{Facts, standing_by}
use Rattle.lot_book.specs.Leg.{position_cmp, same_position}
use Rattle.lot_book.specs.Sale.{SaleParts}
use Rattle.lot_book.specs.declared.change.Change.{Change}
use Rattle.lot_book.specs.declared.change.Pair.{Pair}
use Rattle.lot_book.specs.declared.leg.Leg.{Leg}
use Rattle.lot_book.specs.declared.leg.Position.{Position}
use Rattle.lot_book.specs.declared.standing.Standing.{Standing}
use Rattle.lot_stored.specs.Rows.{account_row, allowed_rows, commodity_row, entry_row, head_row, leg_row, lot_row, opening_row, plain_row, price_row, sale_row}
use Rattle.lot_table.specs.Cell.{IsOpeningNumber, IsOrdinal, IsPlace}
use Rattle.lot_write.specs.declared.write.Write.{Write}
use Rattle.lot_write.specs.declared.write.Write.TheVariants as write

-- ---- a transaction

-- plain units, of which there is a row where there were some before
abbrev pub plain_write : List ℕ → List ℕ → ℤ → ℤ → Write
plain_write account commodity before units =
    if int_eq before (pos 0) then write.Plain (plain_row account commodity units)
    else write.SetPlain (plain_row account commodity units)

-- units of a lot, of which there is a row where there were some before
abbrev pub lot_write : List ℕ → List ℕ → LotKey → ℤ → ℤ → Write
lot_write account commodity lot before units =
    if int_eq before (pos 0) then write.Lot (lot_row account commodity lot units)
    else write.SetLot (lot_row account commodity lot units)

-- the units of a position, and those before, which holds none where they are zero
abbrev pub position_write : List ℕ → List ℕ → Option LotKey → ℤ → ℤ → Write
position_write account commodity None before units =
    if int_eq units (pos 0) then write.NoPlain account commodity else plain_write account commodity before units
position_write account commodity (Some lot) before units =
    if int_eq units (pos 0) then write.NoLot account commodity lot else lot_write account commodity lot before units

-- the opening number that is listed of a lot; one that is added to keeps its row
abbrev pub number_written : List ℕ → List ℕ → LotKey → Option ℕ → List Write
number_written account commodity lot None = []
number_written account commodity lot (Some number) = write.Opening (opening_row account commodity lot number) ∷ []

-- the opening number of a lot with those units, which has none where they are zero
abbrev pub opening_written : List ℕ → List ℕ → Option LotKey → ℤ → Option ℕ → List Write
opening_written account commodity None units listed = []
opening_written account commodity (Some lot) units listed =
    if int_eq units (pos 0) then write.NoOpening account commodity lot ∷ []
    else number_written account commodity lot listed

-- what a position holds once a change is made: what is listed of it, or else what it held before
abbrev pub units_listed : Facts → Change → Position → ℤ
units_listed facts change position =
    unwrap_or (lookup (same_position position) change.positions.entries) (units_before facts position)

-- a position that a change touches: its units, and of a lot its opening number
abbrev pub listed_write : Facts → Change → Position → List Write
listed_write facts change position =
    position_write position.account position.commodity position.lot (units_before facts position) (units_listed facts change position)
    ∷ opening_written position.account position.commodity position.lot
    (units_listed facts change position) (get position_cmp change.openings position)

-- the position of each of these legs
abbrev pub positions_written : Facts → Change → List Leg → List Write
positions_written facts change legs = flat_map (λ (leg : Leg). listed_write facts change leg.position) legs

abbrev pub legs_written : List Leg → List Write
legs_written legs = map (λ (leg : Leg). write.Leg (leg_row leg)) legs

abbrev pub sales_written : ℕ → List (ℕ × SaleParts) → List Write
sales_written number sales = map (λ (sale : ℕ × SaleParts). write.Sale (sale_row (number, sale))) sales

-- the latest day of a pair, of which there is a row where there was one before; that row stays where the day does
abbrev pub head_written : Option ℤ → List ℕ → List ℕ → ℤ → List Write
head_written None account commodity day = write.Head (head_row account commodity day) ∷ []
head_written (Some before) account commodity day =
    if int_eq before day then [] else write.SetHead (head_row account commodity day) ∷ []

abbrev pub heads_written : Facts → List (Pair × ℤ) → List Write
heads_written facts heads =
    flat_map
    (λ (head : Pair × ℤ). head_written (facts.latest_at_cost head.0.account head.0.commodity) head.0.account head.0.commodity head.1)
    heads

-- ---- any command

-- an account that stands so is closed on a day
abbrev pub closing_written : ClosingOf → Option Standing → List Write
closing_written closing None = []
closing_written closing (Some standing) =
    write.Account (account_row closing.account (record standing { closed = Some closing.day })) ∷ []

abbrev pub own_writes : Facts → Command → Change → List Write
own_writes facts (Opening o) change =
    write.Account (account_row o.account (standing_by None o)) ∷ map write.Allowed (allowed_rows o.account 0 o.currencies)
own_writes facts (Closing c) change = closing_written c (facts.standing c.account)
own_writes facts (Declaring d) change = write.Commodity (commodity_row d.commodity d.day) ∷ []
own_writes facts (Quoting q) change = write.Price (price_row q.base q.quote q.day q.rate) ∷ []
own_writes facts (Transaction t) change =
    legs_written change.legs
    ++ (sales_written (suc facts.entries) change.sales
    ++ (positions_written facts change change.legs ++ heads_written facts change.heads.entries))

-- an accepted command, by what was known of the book
abbrev pub writes_of : Facts → Key → Command → Change → List Write
writes_of facts key command change =
    write.Entry (entry_row (suc facts.entries) (entry_of key command change.legs)) ∷ own_writes facts command change

-- the days that a transaction lists come in the order of their pairs, as the entries of every map do
abbrev pub ListsInOrder : Command → Change → Type 0
ListsInOrder (Opening o) change = Unit {0}
ListsInOrder (Closing c) change = Unit {0}
ListsInOrder (Declaring d) change = Unit {0}
ListsInOrder (Quoting q) change = Unit {0}
ListsInOrder (Transaction t) change = IsOrdered pair_cmp change.heads

-- ---- numbers that fit their columns

-- those of a leg
pub record IsNumbered (leg : Leg) : Type 0 where
  pub entry : IsOrdinal leg.entry
  pub posting : IsOrdinal leg.posting
  pub place : IsPlace leg.place

-- those of a sale
abbrev pub IsPlaced : ℕ × SaleParts → Type 0
IsPlaced sale = IsOrdinal sale.0

-- those of the lots that are opened
abbrev pub AreOpened : BTreeMap Position ℕ → Type 0
AreOpened openings = (account commodity : List ℕ) (lot : LotKey)
    → IfSome (get position_cmp openings (record { account = account; commodity = commodity; lot = Some lot }))
    IsOpeningNumber

-- those of a change
pub record AreNumbered (change : Change) : Type 0 where
  pub legs : All IsNumbered change.legs
  pub sales : All IsPlaced change.sales
  pub openings : AreOpened change.openings
