-- What the elided posting takes.
use Rattle.std.specs.Prelude.{◌≡◌, ℕ, suc, ◌+◌, ◌<◌, Bool, true, false, if◌then◌else◌, List, [], ◌∷◌, ◌++◌, length, map, Option, None, Some, ℤ, Result, Ok, Err}
use Rattle.std.specs.Option.{is_none, option_map, option_or}
use Rattle.std.specs.Result.{IfErr, IsErrAnd}
use Rattle.std.proofs.Common.{arith, refl, sym, ap, subst, ◌∙◌}
use Rattle.std.proofs.lemmas.Bool.{true≢false}
use Rattle.lot_inv.specs.Inventory.{Held}
use Rattle.lot_book.specs.declared.leg.Leg.{Leg}
use Rattle.lot_book.specs.declared.refusal.Refusal.{Refusal}
use Rattle.lot_book.specs.declared.refusal.Refusal.TheVariants.{FillNotAllowed, Range}
use Rattle.lot_book.specs.declared.refusal.Stop.{Stop}
use Rattle.lot_book.specs.declared.refusal.Stop.TheVariants.{Refused, Memory}
use Rattle.lot_command.specs.declared.transaction.Posting.{Posting}
use Rattle.lot_book.specs.Balance.{elided_postings, fill_from, left_over, opposite}
use Rattle.lot_ledger.specs.Decide.{filled, first_barred}
use Rattle.lot_book.specs.Leg.{leave_range, leg_at}
use Rattle.lot_book.specs.Facts.{Facts}
use Rattle.lot_book.specs.OpeningNumber.{HasNumber}
use Rattle.lot_book.specs.Refusals.{Stops, fill_not_allowed, holds_as}
use Rattle.lot_posting.specs.Tally.{AreOf, HaveNumbers, StopsAt}

-- ---- where the elided posting stands

-- the first posting is the elided one, or it is among the others
elided-within-step : (is_elided : Bool) (place : ℕ) (account : List ℕ) (others : List (ℕ × List ℕ)) (count : ℕ) (elided : ℕ × List ℕ)
    → (if is_elided then (place, account) ∷ others else others) ≡ elided ∷ []
    → (others ≡ elided ∷ [] → elided.0 < suc place + count) → elided.0 < place + suc count
elided-within-step true place account others count elided is among =
    let here : (place, account) ≡ elided = cc in
    let same : place ≡ elided.0 = ap (λ (e : ℕ × List ℕ). e.0) here in
    omega arith
elided-within-step false place account others count elided is among = omega (arith, among is)

-- it is one of so many postings
pub elided-within : (place : ℕ) (postings : List Posting) (elided : ℕ × List ℕ) → elided_postings place postings ≡ elided ∷ []
    → elided.0 < place + length postings
elided-within place [] elided is = cc
elided-within place (posting ∷ postings) elided is =
    elided-within-step (is_none posting.amount) place posting.account (elided_postings (suc place) postings) (length postings) elided is
    (elided-within (suc place) postings elided)

-- ---- the currencies that an account bars

-- an account that was never opened bars nothing
pub none_barred : (rs : List (List ℕ × ℤ)) → first_barred None rs ≡ None
none_barred [] = refl
none_barred (r ∷ rs) = none_barred rs

-- an account that bars no currency that is left over allows the fill
pub fill-allowed : (facts : Facts) (account : List ℕ) (elided : ℕ × List ℕ) (rs : List (List ℕ × ℤ)) → account ≡ elided.1
    → first_barred (facts.standing account) (left_over rs) ≡ None → fill_not_allowed facts (elided ∷ []) rs ≡ None
fill-allowed facts account elided rs same none =
    ap (option_map FillNotAllowed) (subst (λ a. first_barred (facts.standing a) (left_over rs) ≡ None) same none)

-- what isn't some is none
pub none-is : {X : Type 0} (o : Option X) (b : Bool) → b ≡ is_none o → b ≡ true → o ≡ None
none-is None b same is = cc
none-is (Some x) b same is = absurd (true≢false (sym is ∙ same))

-- ---- the legs of the fills

-- they are those of the residuals that the fills take
pub filled-fills : (entry posting : ℕ) (account : List ℕ) (place : ℕ) (rs : List (List ℕ × ℤ))
    → filled entry posting account place (map (λ (r : List ℕ × ℤ). (r.0, opposite r.1)) rs)
    ≡ fill_from entry posting account place rs
filled-fills entry posting account place [] = refl
filled-fills entry posting account place (r ∷ rs) =
    ap (λ legs. leg_at entry posting place account r.0 None (opposite r.1) ∷ legs)
    (filled-fills entry posting account (suc place) rs)

-- each has the number of its posting
pub filled-numbered : (entry posting : ℕ) (account : List ℕ) (place : ℕ) (fills : List (List ℕ × ℤ)) → HasNumber entry posting
    → HaveNumbers (filled entry posting account place fills)
filled-numbered entry posting account place [] has = tt
filled-numbered entry posting account place (fill ∷ fills) has =
    (has, filled-numbered entry posting account (suc place) fills has)

-- so have the first of them
pub numbered-front : (legs more : List Leg) → HaveNumbers (legs ++ more) → HaveNumbers legs
numbered-front [] more all = tt
numbered-front (leg ∷ legs) more all = (all.0, numbered-front legs more all.1)

-- they are those of one posting to one account
pub filled-own : (entry posting : ℕ) (account : List ℕ) (place : ℕ) (rs : List (List ℕ × ℤ))
    → AreOf account posting (fill_from entry posting account place rs)
filled-own entry posting account place [] = tt
filled-own entry posting account place (r ∷ rs) = ((refl, refl), filled-own entry posting account (suc place) rs)

-- ---- where filling stops

pub passed_on : {T E : Type 0} (r : Result T E) (stop : E) (P : E → Type 0)
    → IsErrAnd r (λ e. e ≡ stop) → P stop → IfErr r P
passed_on (Ok x) stop P is h = tt
passed_on (Err e) stop P is h = subst P (sym is) h

-- at a barred currency, where every fill is exact
pub stops-barred : (inexact barred rest : Option Refusal) (stop : Stop) → inexact ≡ None → Stops barred stop
    → Stops (option_or inexact (option_or barred rest)) stop
stops-barred inexact barred rest (Refused refusal) exact at = rw (exact, at) refl
stops-barred inexact barred rest Memory exact at = tt

-- where a sum leaves the range, and every fill is exact and none is barred
pub stops-range : (inexact barred : Option Refusal) (held : Held) (posting : ℕ) (legs : List Leg) (stop : Stop)
    → inexact ≡ None → barred ≡ None → StopsAt held posting legs stop
    → Stops (option_or inexact (option_or barred (holds_as (leave_range held legs) (Range posting)))) stop
stops-range inexact barred held posting legs (Refused refusal) exact allowed at = rw (exact, allowed, at.0, at.1) refl
stops-range inexact barred held posting legs Memory exact allowed at = tt
