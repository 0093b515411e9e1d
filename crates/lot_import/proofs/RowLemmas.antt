-- The fields of a record, and its first faulty column.
use Rattle.std.specs.Prelude.{◌==◌, false, Result, Ok, Err, IsErrAnd, MatchResult, codes}
use Rattle.std.proofs.Common.{◌≡◌, ℕ, zero, suc, List, [], ◌∷◌, length, get_or, Option, Some, None, ℤ, refl, sym, ◌∙◌, ap, subst, inl, inr, arith}
use Rattle.std.proofs.lemmas.Option.{same_Some}
use Rattle.csv.specs.Records as csv
use Rattle.lot_import.specs.Column.{GivesField, row_of}
use Rattle.lot_import.specs.Row.{Passes, FirstFailing, HasLot, IsFaulty, IsRow, SaysAction, SaysCommodity, SaysDay, SaysFee, SaysLabel, SaysRate, at_column, columns}
use Rattle.lot_import.specs.declared.fault.Cause.{Cause}
use Rattle.lot_import.specs.declared.fault.Cause.TheVariants as Causes
use Rattle.lot_import.specs.declared.row.Action.{Action}
use Rattle.lot_import.specs.declared.row.Action.TheVariants.{Buy, Sell}
use Rattle.lot_import.specs.declared.version.Version.{Version}
use Rattle.lot_import.specs.declared.written.SaidRow.{SaidRow}

-- ---- The field at a place.

pub found : (fields : List (List ℕ)) (i : ℕ) (f : List ℕ) → Some f ≡ csv.field_at fields i → f ≡ get_or fields i []
unfolding csv.field_at
found [] i f e = cc
found (x ∷ xs) zero f e = same_Some f x e
found (x ∷ xs) (suc i) f e = found xs i f e

pub not_found : (fields : List (List ℕ)) (i : ℕ) → ◌≡◌ {A = Option (List ℕ)} None (csv.field_at fields i) → ◌≡◌ {A = List ℕ} [] (get_or fields i [])
unfolding csv.field_at
not_found [] i e = refl
not_found (x ∷ xs) zero e = cc
not_found (x ∷ xs) (suc i) e = not_found xs i e

-- ---- The first of the causes that doesn't pass.

-- the causes from that one on
abbrev pub from_lot : List Cause
from_lot = Causes.Lot ∷ []

abbrev pub from_fee : List Cause
from_fee = Causes.Fee ∷ from_lot

abbrev pub from_currency : List Cause
from_currency = Causes.Currency ∷ from_fee

abbrev pub from_price : List Cause
from_price = Causes.Price ∷ from_currency

abbrev pub from_units : List Cause
from_units = Causes.Units ∷ from_price

abbrev pub from_symbol : List Cause
from_symbol = Causes.Symbol ∷ from_units

abbrev pub from_action : List Cause
from_action = Causes.Action ∷ from_symbol

abbrev pub from_date : List Cause
from_date = Causes.Date ∷ from_action

abbrev pub from_ref : List Cause
from_ref = Causes.Ref ∷ from_date

pub pass : (Passing : Cause → Type 0) (c : Cause) (cs : List Cause) (cause : Cause) → Passing c → FirstFailing Passing cs cause
    → FirstFailing Passing (c ∷ cs) cause
pass Passing c cs cause p h = inr (p, h)

pub stop : {A : Type 0} (Says : A → Type 0) (Passing : Cause → Type 0) (c : Cause) (cs : List Cause) (cause : Cause)
    → (Passing c → (value : A) × Says value) → (cause ≡ c) × ((value : A) → Says value → ⊥) → FirstFailing Passing (c ∷ cs) cause
stop Says Passing c cs cause value h = inl (h.0, λ p. h.1 (value p).0 (value p).1)

-- the same of a column whose field was read
pub stop_at : {A : Type 0} (Says : List ℕ → A → Type 0) (Passing : Cause → Type 0) (c : Cause) (cs : List Cause) (cause : Cause) (f g : List ℕ)
    → f ≡ g → (Passing c → (value : A) × Says g value) → (cause ≡ c) × ((value : A) → Says f value → ⊥) → FirstFailing Passing (c ∷ cs) cause
stop_at {A} Says Passing c cs cause f g e value h =
    stop (Says g) Passing c cs cause value (subst (λ (x : List ℕ). (cause ≡ c) × ((v : A) → Says x v → ⊥)) e h)

pub said : {A : Type 0} (Says : List ℕ → A → Type 0) (f g : List ℕ) → f ≡ g → (value : A) → Says f value → (value : A) × Says g value
said Says f g e value h = (value, subst (λ (x : List ℕ). Says x value) e h)

-- the columns up to `symbol` pass
pub symbol_passes : (version : Version) (written : List (List ℕ)) (cause : Cause) (f0 f1 f2 f3 : List ℕ) (name : List ℕ) (day : ℤ) (action : Action) (symbol : List ℕ)
    → length written ≡ length (columns version)
    → f0 ≡ at_column written 0 → SaysLabel f0 name → f1 ≡ at_column written 1 → SaysDay f1 day
    → f2 ≡ at_column written 2 → SaysAction f2 action → f3 ≡ at_column written 3 → SaysCommodity f3 symbol
    → FirstFailing (Passes version written) from_units cause → IsFaulty version written cause
symbol_passes version written cause f0 f1 f2 f3 name day action symbol whole e0 h0 e1 h1 e2 h2 e3 h3 rest =
    pass (Passes version written) Causes.Length from_ref cause whole
    (pass (Passes version written) Causes.Ref from_date cause (said SaysLabel f0 (at_column written 0) e0 name h0)
    (pass (Passes version written) Causes.Date from_action cause (said SaysDay f1 (at_column written 1) e1 day h1)
    (pass (Passes version written) Causes.Action from_symbol cause (said SaysAction f2 (at_column written 2) e2 action h2)
    (pass (Passes version written) Causes.Symbol from_units cause (said SaysCommodity f3 (at_column written 3) e3 symbol h3) rest))))

-- ---- A fee that is given is a rate.

pub fee_said : (field : List ℕ) (cause : Cause) (result : Result ℕ Cause) → (length field == 0) ≡ false
    → GivesField (SaysRate field) cause result → GivesField (SaysFee field) cause result
fee_said [] cause result e h = cc
fee_said (b ∷ bytes) cause (Ok fee) e h = h
fee_said (b ∷ bytes) cause (Err c) e h = h

-- ---- The label of a lot goes by the one action that the record says.

pub one_action : (field : List ℕ) (a b : Action) → SaysAction field a → SaysAction field b → a ≡ b
one_action field Buy Buy h k = refl
one_action field Buy Sell h k = let e : length (codes "BUY") ≡ length (codes "SELL") = ap length (sym h ∙ k) in absurd (omega (arith, e))
one_action field Sell Buy h k = let e : length (codes "SELL") ≡ length (codes "BUY") = ap length (sym h ∙ k) in absurd (omega (arith, e))
one_action field Sell Sell h k = refl

pub lot_of : (version : Version) (written : List (List ℕ)) (f : List ℕ) (action : Action) → f ≡ at_column written 2 → SaysAction f action
    → Passes version written Causes.Lot → (lot : Option (List ℕ)) × HasLot version action written lot
lot_of version written f action e h p =
    let same = one_action (at_column written 2) p.0 action p.1 (subst (λ (x : List ℕ). SaysAction x action) e h) in
    (p.2, subst (λ (a : Action). HasLot version a written p.2) same p.3)

-- ---- A fault that is handed on.

pub row_fault : (version : Version) (written : List (List ℕ)) (cause : Cause) (result : Result SaidRow Cause) → IsErrAnd result (λ e. e ≡ cause)
    → IsFaulty version written cause → MatchResult result (λ said. IsRow version written (row_of said)) (λ e. IsFaulty version written e)
row_fault version written cause (Ok row) is h = absurd is
row_fault version written cause (Err e) is h = rw (is) h
