-- What the rows of lots, of their opening numbers and of plain units say: what a book holds.
use Rattle.std.specs.Prelude.{◌≡◌, ◌≢◌, ℕ, ◌==◌, ◌&&◌, true, cond, List, [], ◌∷◌, Option, None, Some, option_map, ℤ, pos}
use Rattle.std.specs.FinMap as finite
use Rattle.std.specs.Option.{unwrap_or}
use Rattle.std.proofs.Common.{refl, sym, ap, subst, ◌∙◌, inl, inr}
use Rattle.std.proofs.lemmas.Bool.Decides.{Decides-eqb}
use Rattle.std.proofs.lemmas.List.Elements.{recursion_from_All}
use Rattle.sqlite_rules.specs.Lists.{Has}
use Rattle.sqlite_rules.proofs.ListLemmas.{all_has, has_filtered, has_kept}
use Rattle.lot_inv.specs.Inventory.{Position as Place, non_zero}
use Rattle.lot_cost.specs.declared.lot_key.LotKey.{LotKey}
use Rattle.lot_book.specs.Facts.{Entry, legs_of}
use Rattle.lot_book.specs.Leg.{inventory_of, same_position, sum_at}
use Rattle.lot_book.specs.OpeningNumber.{opening_in, opening_number}
use Rattle.lot_book.specs.Recorded.{facts_in}
use Rattle.lot_book.specs.declared.leg.Leg.{Leg}
use Rattle.lot_book.specs.declared.leg.Position.{Position}
use Rattle.lot_book.proofs.CaseLemmas.{by_bool}
use Rattle.lot_book.proofs.HeldLemmas.{no_zeros-empty, no_zeros-legs}
use Rattle.lot_book.proofs.OrderLemmas.{one_position}
use Rattle.lot_book.proofs.SumLemmas.{sum_where_apart}
use Rattle.lot_laws.specs.Laws.{lot_at}
use Rattle.lot_laws.proofs.LawHoldings.{holds_sum}
use Rattle.lot_laws.proofs.OpeningLemmas.{not_zero, number_has, number_is, where_held}
use Rattle.lot_table.specs.Rows.{has_key, with_key}
use Rattle.lot_table.proofs.KeyLemmas.{mapped_has}
use Rattle.lot_rows.specs.Leg.{IsLegRow, leg_cells}
use Rattle.lot_rows.specs.Lot.{IsLotRow, lot_cells}
use Rattle.lot_rows.specs.LotKey.{IsLotKey, IsLotOrPlain}
use Rattle.lot_rows.specs.Opening.{IsOpeningRow, opening_cells}
use Rattle.lot_rows.specs.Plain.{plain_cells}
use Rattle.lot_rows.specs.Tables.{Tables, plain_table}
use Rattle.lot_rows.specs.declared.leg.LegRow.{LegRow}
use Rattle.lot_rows.specs.declared.lot.LotRow.{LotRow}
use Rattle.lot_rows.specs.declared.opening.OpeningRow.{OpeningRow}
use Rattle.lot_rows.specs.declared.plain.PlainRow.{PlainRow}
use Rattle.lot_stored.specs.Kept.{is_of_posting, legs_of_posting}
use Rattle.lot_stored.specs.Rows.{leg_row, lot_key, lot_row, opening_row, pair_key, plain_row, posting_key, row_at}
use Rattle.lot_stored.specs.StandFor.{StandFor, sum_in}
use Rattle.lot_stored.proofs.LookupLemmas.{has_own_key, row-only, row-there}

-- ---- options

pub mapped_some : {X Y : Type 0} (f : X → Y) (o : Option X) (y : Y) → Some y ≡ option_map f o → (x : X) × (o ≡ Some x) × (y ≡ f x)
mapped_some f None y e = cc
mapped_some f (Some x) y e = let same : y ≡ f x = cc in (x, refl, same)

pub mapped_none : {X Y : Type 0} (f : X → Y) (o : Option X) → None ≡ option_map f o → o ≡ None
mapped_none f None e = refl
mapped_none f (Some x) e = cc

pub by_option : {X : Type 0} {P : Type 0} (o : Option X) → (o ≡ None → P) → ((x : X) → o ≡ Some x → P) → P
by_option None none some = none refl
by_option (Some x) none some = some x refl

-- ---- what is held

-- what a position has is the sum of its legs, where it isn't zero
held_as_sum : (entries : List Entry) (p : Position)
    → finite.get (inventory_of (legs_of entries) p.account) (p.commodity, p.lot) ≡ non_zero (sum_in entries p)
held_as_sum entries p =
    no_zeros-legs p.account finite.empty (legs_of entries) no_zeros-empty (p.commodity, p.lot)
    ∙ ap non_zero (holds_sum (legs_of entries) p)

abbrev pub held_in_book : List Entry → List ℕ → Place → Option ℤ
held_in_book entries account place = finite.get ((facts_in entries).held account) place

-- ---- plain units

-- a row of plain units is what the book says
pub plain_true : (tables : Tables) (entries : List Entry) → StandFor tables entries → (row : PlainRow) → Has tables.plain row → held_in_book entries row.account (row.commodity, None) ≡ Some row.units
plain_true tables entries stand row has =
    let key = pair_key row.account row.commodity in
    let own : has_key 2 key (plain_cells row) ≡ true = has_own_key 2 (plain_cells row) in
    let found = sym (row-only plain_cells 2 key tables.plain row stand.ordered.plain has own) ∙ stand.plain row.account row.commodity in
    let p : Position = record { account = row.account; commodity = row.commodity; lot = None } in
    let at = mapped_some (plain_row row.account row.commodity) (non_zero (sum_in entries p)) row found in
    held_as_sum entries p ∙ at.1 ∙ ap (λ (r : PlainRow). Some r.units) (sym at.2)

pub plain_there : (tables : Tables) (entries : List Entry) → StandFor tables entries → (account commodity : List ℕ) (units : ℤ)
    → held_in_book entries account (commodity, None) ≡ Some units → Has tables.plain (plain_row account commodity units)
plain_there tables entries stand account commodity units held =
    let p : Position = record { account = account; commodity = commodity; lot = None } in
    (row-there plain_cells 2 (pair_key account commodity) tables.plain (plain_row account commodity units)
    (stand.plain account commodity ∙ ap (option_map (plain_row account commodity)) (sym (held_as_sum entries p) ∙ held))).0

-- ---- lots

-- a leg of the book has its row
pub leg_there : (tables : Tables) (entries : List Entry) → StandFor tables entries → (leg : Leg)
    → Has (legs_of entries) leg → Has tables.leg (leg_row leg)
leg_there tables entries stand leg has =
    let entry = leg.entry in
    let posting = leg.posting in
    let own : is_of_posting entry posting leg ≡ true =
    ap (λ b. b && (leg.posting == posting)) ((Decides-eqb entry entry).1 refl) ∙ (Decides-eqb posting posting).1 refl in
    let among : Has (legs_of_posting entry posting (legs_of entries)) leg = has_kept (is_of_posting entry posting) (legs_of entries) leg has own in
    let rows = mapped_has leg_row (legs_of_posting entry posting (legs_of entries)) leg among in
    let found : Has (with_key leg_cells 2 (posting_key entry posting) tables.leg) (leg_row leg) =
    subst (λ (all : List LegRow). Has all (leg_row leg)) (sym (stand.leg entry posting)) rows in
    (has_filtered (λ (r : LegRow). has_key 2 (posting_key entry posting) (leg_cells r)) tables.leg (leg_row leg) found).0

-- a lot with legs is one that a book can have
leg_lot : (tables : Tables) (entries : List Entry) → StandFor tables entries → (leg : Leg) → Has (legs_of entries) leg → IsLotOrPlain leg.position.lot
leg_lot tables entries stand leg has =
    (all_has IsLegRow tables.leg (leg_row leg) (recursion_from_All IsLegRow tables.leg stand.good.leg)
    (leg_there tables entries stand leg has)).lot

some_leg : (legs : List Leg) (p : Position) → sum_at legs p ≢ pos 0 → (leg : Leg) × Has legs leg × (leg.position ≡ p)
some_leg [] p some = absurd (some refl)
some_leg (leg ∷ legs) p some =
    by_bool (same_position p leg.position)
    (λ here. (leg, inl refl, sym (one_position p leg.position here)))
    (λ apart.
    let more = some_leg legs p
    (λ zero. some (sum_where_apart (λ (l : Leg). same_position p l.position) (λ (l : Leg). l.units) leg legs apart ∙ zero)) in
    (more.0, inr more.1, more.2))

some_is_held : (units : ℤ) → units ≢ pos 0 → non_zero units ≡ Some units
some_is_held units some = ap (λ b. cond b None (Some units)) (not_zero units some)

zero_is_none : (units other : ℤ) → non_zero units ≡ Some other → units ≢ pos 0
zero_is_none units other e zero = let none : non_zero (pos 0) ≡ Some other = ap non_zero (sym zero) ∙ e in cc

-- so is a lot that holds some
lot_can_be : (tables : Tables) (entries : List Entry) → StandFor tables entries → (account commodity : List ℕ) (lot : LotKey)
    → sum_in entries (lot_at account commodity lot) ≢ pos 0 → IsLotKey lot
lot_can_be tables entries stand account commodity lot some =
    let leg = some_leg (legs_of entries) (lot_at account commodity lot) some in
    subst (λ (q : Position). IsLotOrPlain q.lot) leg.2 (leg_lot tables entries stand leg.0 leg.1)

held_lot : (tables : Tables) (entries : List Entry) → StandFor tables entries → (account commodity : List ℕ) (lot : LotKey) (units : ℤ)
    → held_in_book entries account (commodity, Some lot) ≡ Some units → IsLotKey lot
held_lot tables entries stand account commodity lot units held =
    let p = lot_at account commodity lot in
    lot_can_be tables entries stand account commodity lot
    (zero_is_none (sum_in entries p) units (sym (held_as_sum entries p) ∙ held))

-- a row of a lot is what the book says
pub lot_true : (tables : Tables) (entries : List Entry) → StandFor tables entries → (row : LotRow) → IsLotRow row → Has tables.lot row → held_in_book entries row.account (row.commodity, Some row.lot) ≡ Some row.units
lot_true tables entries stand row good has =
    let key = lot_key row.account row.commodity row.lot in
    let own : has_key 6 key (lot_cells row) ≡ true = has_own_key 6 (lot_cells row) in
    let found = sym (row-only lot_cells 6 key tables.lot row stand.ordered.lot has own) ∙ stand.lot row.account row.commodity row.lot good.lot in
    let p : Position = record { account = row.account; commodity = row.commodity; lot = Some row.lot } in
    let at = mapped_some (lot_row row.account row.commodity row.lot) (non_zero (sum_in entries p)) row found in
    held_as_sum entries p ∙ at.1 ∙ ap (λ (r : LotRow). Some r.units) (sym at.2)

pub lot_there : (tables : Tables) (entries : List Entry) → StandFor tables entries → (account commodity : List ℕ) (lot : LotKey) (units : ℤ)
    → held_in_book entries account (commodity, Some lot) ≡ Some units → Has tables.lot (lot_row account commodity lot units)
lot_there tables entries stand account commodity lot units held =
    let p : Position = record { account = account; commodity = commodity; lot = Some lot } in
    (row-there lot_cells 6 (lot_key account commodity lot) tables.lot (lot_row account commodity lot units)
    (stand.lot account commodity lot (held_lot tables entries stand account commodity lot units held)
    ∙ ap (option_map (lot_row account commodity lot)) (sym (held_as_sum entries p) ∙ held))).0

-- ---- opening numbers of lots

-- the opening number of a lot that holds some, and none of one that doesn't
abbrev pub opening_in_book : List Entry → List ℕ → List ℕ → LotKey → Option ℕ
opening_in_book entries account commodity lot = opening_number (legs_of entries) (lot_at account commodity lot)

-- a row of an opening number is what the book says
pub opening_true : (tables : Tables) (entries : List Entry) → StandFor tables entries → (row : OpeningRow) → IsOpeningRow row
    → Has tables.opening row → opening_in_book entries row.account row.commodity row.lot ≡ Some row.opening
opening_true tables entries stand row good has =
    let key = lot_key row.account row.commodity row.lot in
    let own : has_key 6 key (opening_cells row) ≡ true = has_own_key 6 (opening_cells row) in
    let found = sym (row-only opening_cells 6 key tables.opening row stand.ordered.opening has own) ∙ stand.opening row.account row.commodity row.lot good.lot in
    let at = mapped_some (opening_row row.account row.commodity row.lot) (opening_in_book entries row.account row.commodity row.lot) row found in
    at.1 ∙ ap (λ (r : OpeningRow). Some r.opening) (sym at.2)

-- so it has the number by which edition 2 decides ties
pub opening_in_true : (tables : Tables) (entries : List Entry) → StandFor tables entries → (row : OpeningRow) → IsOpeningRow row
    → Has tables.opening row → opening_in (legs_of entries) row.account row.commodity row.lot ≡ row.opening
opening_in_true tables entries stand row good has =
    ap (λ (o : Option ℕ). unwrap_or o 0) (opening_true tables entries stand row good has)

pub opening_there : (tables : Tables) (entries : List Entry) → StandFor tables entries → (account commodity : List ℕ) (lot : LotKey) (number : ℕ)
    → opening_in_book entries account commodity lot ≡ Some number → Has tables.opening (opening_row account commodity lot number)
opening_there tables entries stand account commodity lot number numbered =
    let has = number_has (legs_of entries) (lot_at account commodity lot) number numbered in
    (row-there opening_cells 6 (lot_key account commodity lot) tables.opening (opening_row account commodity lot number)
    (stand.opening account commodity lot (lot_can_be tables entries stand account commodity lot has.last.some_left)
    ∙ ap (option_map (opening_row account commodity lot)) numbered)).0

-- a lot has an opening number exactly where it holds some
pub held_is_opened : (entries : List Entry) (account commodity : List ℕ) (lot : LotKey) (units : ℤ)
    → held_in_book entries account (commodity, Some lot) ≡ Some units
    → (number : ℕ) × (opening_in_book entries account commodity lot ≡ Some number)
held_is_opened entries account commodity lot units held =
    let p = lot_at account commodity lot in
    let some = zero_is_none (sum_in entries p) units (sym (held_as_sum entries p) ∙ held) in
    let has = (where_held (legs_of entries) account commodity lot).0 (λ none. some (sym (holds_sum (legs_of entries) p) ∙ none)) in
    (has.0, number_is (legs_of entries) p has.0 has.1)

pub opened_is_held : (entries : List Entry) (account commodity : List ℕ) (lot : LotKey) (number : ℕ)
    → opening_in_book entries account commodity lot ≡ Some number
    → (units : ℤ) × (held_in_book entries account (commodity, Some lot) ≡ Some units)
opened_is_held entries account commodity lot number numbered =
    let p = lot_at account commodity lot in
    let has = number_has (legs_of entries) p number numbered in
    (sum_in entries p, held_as_sum entries p ∙ some_is_held (sum_in entries p) has.last.some_left)

-- so there is a row of an opening number exactly where there is one of a lot
pub lot_has_opening : (tables : Tables) (entries : List Entry) → StandFor tables entries → (row : LotRow) → IsLotRow row
    → Has tables.lot row → (number : ℕ) × Has tables.opening (opening_row row.account row.commodity row.lot number)
lot_has_opening tables entries stand row good has =
    let opened = held_is_opened entries row.account row.commodity row.lot row.units (lot_true tables entries stand row good has) in
    (opened.0, opening_there tables entries stand row.account row.commodity row.lot opened.0 opened.1)

pub opening_has_lot : (tables : Tables) (entries : List Entry) → StandFor tables entries → (row : OpeningRow) → IsOpeningRow row
    → Has tables.opening row → (units : ℤ) × Has tables.lot (lot_row row.account row.commodity row.lot units)
opening_has_lot tables entries stand row good has =
    let held = opened_is_held entries row.account row.commodity row.lot row.opening (opening_true tables entries stand row good has) in
    (held.0, lot_there tables entries stand row.account row.commodity row.lot held.0 held.1)

-- ---- what is found

pub plain_found : (tables : Tables) (entries : List Entry) → StandFor tables entries → (account commodity : List ℕ) (row : PlainRow)
    → row_at plain_table (pair_key account commodity) tables ≡ Some row → held_in_book entries account (commodity, None) ≡ Some row.units
plain_found tables entries stand account commodity row found =
    let p : Position = record { account = account; commodity = commodity; lot = None } in
    let at = mapped_some (plain_row account commodity) (non_zero (sum_in entries p)) row (sym found ∙ stand.plain account commodity) in
    held_as_sum entries p ∙ at.1 ∙ ap (λ (r : PlainRow). Some r.units) (sym at.2)

pub plain_missing : (tables : Tables) (entries : List Entry) → StandFor tables entries → (account commodity : List ℕ)
    → row_at plain_table (pair_key account commodity) tables ≡ None → held_in_book entries account (commodity, None) ≡ None
plain_missing tables entries stand account commodity found =
    let p : Position = record { account = account; commodity = commodity; lot = None } in
    held_as_sum entries p ∙ mapped_none (plain_row account commodity) (non_zero (sum_in entries p)) (sym found ∙ stand.plain account commodity)
