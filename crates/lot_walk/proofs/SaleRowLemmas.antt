-- Rows of sales and of their legs, which their columns tell.
use Rattle.std.proofs.Common.{◌≡◌, ◌≢◌, ◌∙◌, ℕ, zero, suc, ◌<◌, length, get_or, arith, ℤ, All, List, [], ◌∷◌, map, None, Some, Ok, Err, Option, Result, refl, sym, ap, ap₂, subst}
use Rattle.std.specs.List.{AllByRecursion}
use Rattle.std.proofs.lemmas.List.Elements.{All-from_recursion, recursion_from_All}
use Rattle.sqlite.specs.State.{State}
use Rattle.sqlite_rules.proofs.ListLemmas.{all_from, all_has, has_filtered}
use Rattle.lot_cost.specs.declared.lot_key.LotKey.{LotKey}
use Rattle.lot_command.specs.declared.price.Price.{Price}
use Rattle.lot_command.specs.declared.price.Price.TheVariants.{Each, Whole}
use Rattle.lot_book.specs.Leg.{legs_at_lots}
use Rattle.lot_book.specs.Sale.{AreLegsOf, SaleParts}
use Rattle.lot_rows.specs.Leg.{IsLegRow, leg_cells}
use Rattle.lot_rows.specs.LotKey.{IsLotOrPlain, cost_currency, cost_day, cost_label, cost_number}
use Rattle.lot_rows.specs.Sale.{amount_of, currency_of, kind_of, sale_cells}
use Rattle.lot_rows.specs.Tables.{Tables, layout}
use Rattle.lot_rows.specs.declared.leg.LegRow.{LegRow}
use Rattle.lot_rows.specs.declared.sale.SaleRow.{SaleRow}
use Rattle.lot_table.specs.Call.{ListsColumns}
use Rattle.lot_table.specs.Cell.{label_text}
use Rattle.lot_table.specs.Rows.{has_key, with_key}
use Rattle.lot_table.specs.declared.fault.Fault.{Fault}
use Rattle.lot_table.specs.declared.fault.Fault.TheVariants.{Damaged, Device}
use Rattle.std.specs.Global.{Vec}
use Rattle.lot_stored.proofs.KeyLemmas.{one_label}
use Rattle.lot_stored.specs.Rows.{leg_row, posting_key}
use Rattle.lot_walk.specs.Gains.{at_lot, sale_with, taken}
use Rattle.lot_walk.specs.SaleStep.{HasRowsOf, TellsSale}
use Rattle.lot_walk.proofs.StepLemmas.{unchanged_left, undone_by}

-- ---- a row of `sale`

one_price : (a b : Option Price) → kind_of a ≡ kind_of b → amount_of a ≡ amount_of b → currency_of a ≡ currency_of b → a ≡ b
one_price None None k m c = refl
one_price None (Some (Each p)) k m c = absurd cc
one_price None (Some (Whole p)) k m c = absurd cc
one_price (Some (Each p)) None k m c = absurd cc
one_price (Some (Whole p)) None k m c = absurd cc
one_price (Some (Each p)) (Some (Whole q)) k m c = absurd cc
one_price (Some (Whole p)) (Some (Each q)) k m c = absurd cc
one_price (Some (Each p)) (Some (Each q)) k m c =
    let rate : p.rate ≡ q.rate = cc in
    let currency : p.currency ≡ q.currency = cc in λ i. Some (Each (record { rate = rate i; currency = currency i }))
one_price (Some (Whole p)) (Some (Whole q)) k m c =
    let total : p.0 ≡ q.0 = cc in
    let currency : p.1 ≡ q.1 = cc in λ i. Some (Whole (total i, currency i))

pub one_sale_row : (a b : SaleRow) → sale_cells a ≡ sale_cells b → a ≡ b
one_sale_row a b same =
    let entry : a.entry ≡ b.entry = cc in
    let posting : a.posting ≡ b.posting = cc in
    let day : a.day ≡ b.day = cc in
    let account : a.account ≡ b.account = cc in
    let commodity : a.commodity ≡ b.commodity = cc in
    let units : a.units ≡ b.units = cc in
    let kind : kind_of a.price ≡ kind_of b.price = cc in
    let amount : amount_of a.price ≡ amount_of b.price = cc in
    let currency : currency_of a.price ≡ currency_of b.price = cc in
    let price = one_price a.price b.price kind amount currency in
    λ i. record { entry = entry i; posting = posting i; day = day i; account = account i; commodity = commodity i; units = units i; price = price i }

-- ---- rows of `leg`

one_lot : (a b : Option LotKey) → IsLotOrPlain a → IsLotOrPlain b → cost_number a ≡ cost_number b → cost_currency a ≡ cost_currency b → cost_day a ≡ cost_day b → cost_label a ≡ cost_label b → a ≡ b
one_lot None None p q n c d t = refl
one_lot None (Some lot) p q n c d t = absurd cc
one_lot (Some lot) None p q n c d t = absurd cc
one_lot (Some lot) (Some other) p q n c d t =
    let number : lot.number ≡ other.number = cc in
    let currency : lot.currency ≡ other.currency = cc in
    let day : lot.day ≡ other.day = cc in
    let text : label_text lot.label ≡ label_text other.label = cc in
    let label = one_label lot.label other.label p.label q.label text in
    λ i. Some (record { day = day i; currency = currency i; number = number i; label = label i })

one_taken : (a b : LegRow) → IsLegRow a → IsLegRow b → leg_cells a ≡ leg_cells b → taken a ≡ taken b
one_taken a b p q same =
    let units : a.units ≡ b.units = cc in
    let number : cost_number a.lot ≡ cost_number b.lot = cc in
    let currency : cost_currency a.lot ≡ cost_currency b.lot = cc in
    let day : cost_day a.lot ≡ cost_day b.lot = cc in
    let label : cost_label a.lot ≡ cost_label b.lot = cc in
    let lot = one_lot a.lot b.lot p.lot q.lot number currency day label in λ i. (lot i, units i)

all_taken : (xs ys : List LegRow) → AllByRecursion IsLegRow xs → AllByRecursion IsLegRow ys → map leg_cells xs ≡ map leg_cells ys → map taken xs ≡ map taken ys
all_taken [] [] p q same = refl
all_taken [] (y ∷ ys) p q same = absurd cc
all_taken (x ∷ xs) [] p q same = absurd cc
all_taken (x ∷ xs) (y ∷ ys) p q same =
    let head : leg_cells x ≡ leg_cells y = cc in
    let tail : map leg_cells xs ≡ map leg_cells ys = cc in
    ap₂ (λ a l. a ∷ l) (one_taken x y p.0 q.0 head) (all_taken xs ys p.1 q.1 tail)

taken_lots : (entry posting : ℕ) (account commodity : List ℕ) (place : ℕ) (legs : List (LotKey × ℤ)) → map taken (map leg_row (legs_at_lots entry posting account commodity place legs)) ≡ map at_lot legs
taken_lots entry posting account commodity place [] = refl
taken_lots entry posting account commodity place (leg ∷ legs) = ap (λ l. at_lot leg ∷ l) (taken_lots entry posting account commodity (suc place) legs)

pub one_legs : (xs ys : List (LotKey × ℤ)) → map at_lot xs ≡ map at_lot ys → xs ≡ ys
one_legs [] [] same = refl
one_legs [] (y ∷ ys) same = absurd cc
one_legs (x ∷ xs) [] same = absurd cc
one_legs (x ∷ xs) (y ∷ ys) same =
    let head : at_lot x ≡ at_lot y = cc in
    let lots : ◌≡◌ {A = Option LotKey} (Some x.0) (Some y.0) = ap (λ (p : Option LotKey × ℤ). p.0) head in
    let lot : x.0 ≡ y.0 = cc in
    let units : x.1 ≡ y.1 = ap (λ (p : Option LotKey × ℤ). p.1) head in
    let tail : map at_lot xs ≡ map at_lot ys = cc in
    λ i. (lot i, units i) ∷ one_legs xs ys tail i

-- a leg that is at no lot is none of these
pub no_lot : (rows : List LegRow) (i : ℕ) (row : LegRow) (legs : List (LotKey × ℤ)) → i < length rows → row ≡ get_or rows i row → row.lot ≡ None → map taken rows ≡ map at_lot legs → ⊥
no_lot [] i row legs low is none same = omega (arith, low)
no_lot (r ∷ rows) i row [] low is none same = absurd cc
no_lot (r ∷ rows) zero row (leg ∷ legs) low is none same =
    let head : taken r ≡ at_lot leg = cc in
    let lot : r.lot ≡ Some leg.0 = ap (λ (p : Option LotKey × ℤ). p.0) head in
    let at : r.lot ≡ None = ap (λ (x : LegRow). x.lot) (sym is) ∙ none in cc
no_lot (r ∷ rows) (suc i) row (leg ∷ legs) low is none same =
    let tail : map taken rows ≡ map at_lot legs = cc in no_lot rows i row legs (omega (arith, low)) is none tail

abbrev unread : Fault → Result (Vec LegRow) Fault
unread fault = Err fault

-- what is read of the legs of a row's posting is what they take
module _ (row : SaleRow) where
  abbrev key : List LegRow → List LegRow
  key rows = with_key leg_cells 2 (posting_key row.entry row.posting) rows

  keyed_good : (rows : List LegRow) → All IsLegRow rows → AllByRecursion IsLegRow (key rows)
  keyed_good rows good =
      all_from IsLegRow (key rows) (λ x has. all_has IsLegRow rows x (recursion_from_All IsLegRow rows good) (has_filtered (λ (y : LegRow). has_key 2 (posting_key row.entry row.posting) (leg_cells y)) rows x has).0)

  pub read_taken : (tables : Tables) (legs : List (LotKey × ℤ)) (found : List LegRow) → HasRowsOf row tables legs → All IsLegRow found → map leg_cells found ≡ map leg_cells (key tables.leg)
      → map taken found ≡ map at_lot legs
  read_taken tables legs found has good same =
      all_taken found (key tables.leg) (recursion_from_All IsLegRow found good) (keyed_good tables.leg has.good) same
      ∙ ap (map taken) has.rows
      ∙ taken_lots row.entry row.posting has.account has.commodity 0 legs

  module _ (old new : State) where
    abbrev pub ReadsLegs : Result (Vec LegRow) Fault → Type 0
    ReadsLegs = ListsColumns layout leg_cells IsLegRow (λ (b : Tables). key b.leg) old new

    abbrev pub Tells : Result SaleParts Fault → Type 0
    Tells = TellsSale row old new

    pub legs_unread : (fault : Fault) → ReadsLegs (Err fault) → Tells (Err fault)
    legs_unread fault read = record {
      says = λ clean. tt;
      of_row = tt;
      good = tt;
      same = λ clean. tt;
      damaged = λ clean is limit tables has legs are rows.
          let of : unread fault ≡ Err Damaged = cc in
          read.damaged clean of limit tables has (all_good tables.leg rows.good);
      device = λ clean is. let of : unread fault ≡ Err Device = cc in read.device clean of;
      left = λ clean. undone_by old new (read.undone clean);
      crash = read.crash;
    }
      where
        all_good : (rows : List LegRow) → All IsLegRow rows → All IsLegRow (key rows)
        all_good rows good = All-from_recursion IsLegRow (key rows) (keyed_good rows good)

    -- the legs that were read are those of no sale
    pub legs_refused : (found : Vec LegRow) (fault : Fault) → fault ≢ Device → (fault ≡ Damaged → (legs : List (LotKey × ℤ)) → AreLegsOf row.units legs → map taken found.items ≢ map at_lot legs)
        → ReadsLegs (Ok found) → Tells (Err fault)
    legs_refused found fault apart refused read = record {
      says = λ clean. tt;
      of_row = tt;
      good = tt;
      same = λ clean. tt;
      damaged = λ clean is limit tables has legs are rows.
          let of : fault ≡ Damaged = cc in refused of legs are (read_taken tables legs found.items rows read.good (read.says clean tables has));
      device = λ clean is. let of : fault ≡ Device = cc in absurd (apart of);
      left = λ clean. unchanged_left old new (read.same clean);
      crash = read.crash;
    }

    pub legs_told : (found : Vec LegRow) (legs : List (LotKey × ℤ)) (sale : SaleParts) → map taken found.items ≡ map at_lot legs → AreLegsOf row.units legs → sale ≡ sale_with row legs
        → ReadsLegs (Ok found) → Tells (Ok sale)
    legs_told found legs sale takes are is read = record {
      says = λ clean tables has others rows.
          is ∙ ap (sale_with row) (one_legs legs others (sym takes ∙ read_taken tables others found.items rows read.good (read.says clean tables has)));
      of_row = (legs, is);
      good = subst (λ (s : SaleParts). AreLegsOf s.units s.legs) (sym is) are;
      same = read.same;
      damaged = λ clean bad. cc;
      device = λ clean bad. cc;
      left = λ clean. tt;
      crash = read.crash;
    }

    -- the legs that were read aren't those of the units
    pub legs_unmade : (found : Vec LegRow) (legs : List (LotKey × ℤ)) → map taken found.items ≡ map at_lot legs → ¬ AreLegsOf row.units legs → ReadsLegs (Ok found) → Tells (Err Damaged)
    legs_unmade found legs takes none read =
        legs_refused found Damaged (λ is. cc) (λ is others are same. none (subst (AreLegsOf row.units) (one_legs others legs (sym same ∙ takes)) are)) read
