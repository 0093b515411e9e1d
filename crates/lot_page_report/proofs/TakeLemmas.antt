-- What takes rows takes one more.
use Rattle.std.specs.Prelude.{◌&&◌, ◌||◌, Bool, false, true, IfErr, IsTrue, OnOk, not, Result, Ok, Err}
use Rattle.std.proofs.Common.{◌≡◌, ◌∙◌, List, [], ◌∷◌, ◌++◌, Option, None, Some, ap, append-nil, append_assoc, refl, sym}
use Rattle.std.proofs.lemmas.Bool.{true≢false}
use Rattle.lot_legs.specs.declared.leg.DatedLeg.{DatedLeg}
use Rattle.lot_months.specs.Lots.{HasFlows, HasTooMuch}
use Rattle.lot_months.specs.declared.flows.MonthFlows.{MonthFlows}
use Rattle.lot_months.specs.declared.range.MonthRange.{MonthRange}
use Rattle.lot_report.specs.declared.fault.ReportFault.{ReportFault}
use Rattle.lot_report.specs.declared.fault.ReportFault.TheVariants.{Memory, Range, Write}
use Rattle.lot_tally.specs.Rows.{Adds}
use Rattle.lot_page_report.specs.Read.{FlowsOf, MoveTooMuch}

-- memory ended
pub memory_adds : (fits : Bool) (IsAdded : Type 0) (fault : ReportFault) → fault ≡ Memory → Adds fits IsAdded (Err fault)
memory_adds fits IsAdded Memory is = tt
memory_adds fits IsAdded Range is = cc
memory_adds fits IsAdded Write is = cc

-- ---- sums in three tables

pub first_unfit : (a b : Bool) (IsOne IsAll : Type 0) (fault : ReportFault) → Adds a IsOne (Err fault) → Adds (a && b) IsAll (Err fault)
first_unfit a b IsOne IsAll Memory adds = tt
first_unfit a b IsOne IsAll Write adds = adds
first_unfit false b IsOne IsAll Range adds = refl
first_unfit true b IsOne IsAll Range adds = absurd (true≢false (sym adds))

pub later_adds : (a b : Bool) (IsOne IsAll : Type 0) (result : Result (Unit {0}) ReportFault) → IsTrue a → (IsOne → IsAll) → Adds b IsOne result
    → Adds (a && b) IsAll result
later_adds true b IsOne IsAll (Ok done) fits all adds = (adds.0, all adds.1)
later_adds true b IsOne IsAll (Err Memory) fits all adds = tt
later_adds true b IsOne IsAll (Err Write) fits all adds = adds
later_adds true b IsOne IsAll (Err Range) fits all adds = adds
later_adds false b IsOne IsAll result fits all adds = absurd (true≢false (sym fits))

-- ---- flows

pub flows_some : (leg : DatedLeg) (old new : MonthFlows)
    → ((range : MonthRange) (legs : List DatedLeg) → HasFlows range legs old → HasFlows range (legs ++ leg ∷ []) new)
    → (range : Option MonthRange) (legs : List DatedLeg) → FlowsOf range legs (Some old) → FlowsOf range (legs ++ leg ∷ []) (Some new)
flows_some leg old new added None legs flows = flows
flows_some leg old new added (Some range) legs flows = added range legs flows

-- a sum of some leg more has left its range
pub moved_out : (leg : DatedLeg) (old : MonthFlows)
    → ((range : MonthRange) (legs : List DatedLeg) → HasFlows range legs old → HasTooMuch range (legs ++ leg ∷ []))
    → (range : Option MonthRange) (legs : List DatedLeg) → FlowsOf range legs (Some old) → MoveTooMuch range (legs ++ leg ∷ [])
moved_out leg old out None legs flows = flows
moved_out leg old out (Some range) legs flows = (legs ++ leg ∷ [], [], sym (append-nil (legs ++ leg ∷ [])), out range legs flows)

-- it is so with more legs
out_more : (range : Option MonthRange) (legs : List DatedLeg) (leg : DatedLeg) → MoveTooMuch range legs → MoveTooMuch range (legs ++ leg ∷ [])
out_more None legs leg out = out
out_more (Some range) legs leg (given, rest, split, out) =
    (given, rest ++ leg ∷ [], ap (λ (ls : List DatedLeg). ls ++ leg ∷ []) split ∙ append_assoc given rest (leg ∷ []), out)

pub some_out : (range : Option MonthRange) (legs : List DatedLeg) (leg : DatedLeg) (is_out fits : Bool) → (is_out || not fits) ≡ true
    → (is_out ≡ true → MoveTooMuch range legs) → (is_out ≡ false → fits ≡ false → MoveTooMuch range (legs ++ leg ∷ []))
    → MoveTooMuch range (legs ++ leg ∷ [])
some_out range legs leg true fits is before here = out_more range legs leg (before refl)
some_out range legs leg false false is before here = here refl refl
some_out range legs leg false true is before here = absurd (true≢false (sym is))

-- no sum has left its range
pub none_out : (is_out fits : Bool) → (is_out || not fits) ≡ false → (is_out ≡ false) × (fits ≡ true)
none_out false true is = (refl, refl)
none_out false false is = absurd (true≢false is)
none_out true fits is = absurd (true≢false is)

-- ---- prices

pub taken_or_memory : (AddsTo Taken : Type 0) (result : Result (Unit {0}) ReportFault) → (AddsTo → Taken) → OnOk result AddsTo
    → IfErr result (λ fault. fault ≡ Memory) → Adds true Taken result
taken_or_memory AddsTo Taken (Ok done) taken adds cause = (refl, taken adds)
taken_or_memory AddsTo Taken (Err fault) taken adds cause = memory_adds true Taken fault cause
