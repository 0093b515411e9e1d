-- A leg that stays in range leaves the rest to decide; the first that doesn't is where the legs leave it.
use Rattle.std.proofs.Common.{◌≡◌, ◌⊎◌, ℕ, Err, Result, inl, inr, List, [], ◌∷◌, ◌++◌, sym, ap, subst, ◌∙◌, ◌+ℤ◌, append_assoc, arith}
use Rattle.std.proofs.lemmas.List.{nil_from_length}
use Rattle.std.proofs.lemmas.Grind.{common_steps}
use Rattle.std.specs.Result.{IsErrAnd}
use Rattle.lot_num.specs.Amount.{IsUnits}
use Rattle.lot_inv.specs.Inventory.{Held, units_at}
use Rattle.lot_book.specs.declared.leg.Leg.{Leg}
use Rattle.lot_book.specs.declared.refusal.Refusal.TheVariants.{Range}
use Rattle.lot_book.specs.declared.refusal.Stop.{Stop}
use Rattle.lot_book.specs.declared.refusal.Stop.TheVariants.{Refused, Memory}
use Rattle.lot_book.specs.Leg.{leave_range, with_legs}
use Rattle.lot_posting.specs.Tally.{AreOf, BeginInRange, HaveNumbers, StopsAt, StopsAtLeg}
use Rattle.lot_view.specs.View.{known}
use Rattle.lot_book.specs.Facts.{Facts}
use Rattle.lot_book.proofs.StopLemmas.{passed_on}
use Rattle.lot_book.proofs.LegLemmas.{leave_range-passes, leave_range-stops, with_legs-push}
use Rattle.lot_posting.proofs.tally.Tally.post_all.Goals as goal

-- a sum of an account in range, told of the account of the leg
abbrev IsSumOf : Facts → List Leg → Leg → List ℕ → Type 0
IsSumOf facts before leg account =
    IsUnits (units_at (with_legs account (facts.held account) before) (leg.position.commodity, leg.position.lot) +ℤ leg.units)

-- where all legs are left, one that stays in range is the first
begins : (facts : Facts) (start before left all rest : List Leg) (leg : Leg) (a : List ℕ) → leg.position.account ≡ a
    → IsSumOf facts before leg leg.position.account → left ≡ leg ∷ rest
    → ((left ≡ all) × (before ≡ start)) ⊎ BeginInRange (with_legs a (facts.held a) start) all
    → BeginInRange (with_legs a (facts.held a) start) all
begins facts start before left all rest leg a is within steps (inl first) =
    subst (BeginInRange (with_legs a (facts.held a) start)) (sym steps ∙ first.0)
    (leave_range-passes (with_legs a (facts.held a) start) leg []
    (subst (λ legs. IsSumOf facts legs leg a) first.1 (subst (IsSumOf facts before leg) is within)))
begins facts start before left all rest leg a is within steps (inr begun) = begun

pub post-requires-clause-number : goal.post-requires-clause-number
post-requires-clause-number c = (subst HaveNumbers c.in-Some.ensures.steps.0 c.loop-leg.invariant.numbers).0

pub loop-leg-preserved : goal.loop-leg-preserved
loop-leg-preserved c =
    let facts = known c.args.view.now in
    let all = c.args.legs.items in
    let leg = c.in-Some.leg in
    let left = c.loop-leg.leg-iterator.rest.items in
    let rest = c.next.new.self.rest.items in
    let steps : left ≡ leg ∷ rest = c.in-Some.ensures.steps.0 in
    let before = c.loop-leg.self.legs in
    let pushed : c.post.new.self.legs ≡ before ++ leg ∷ [] = c.in_ok-post.ensures.legs in
    let numbers : HaveNumbers (leg ∷ rest) = subst HaveNumbers steps c.loop-leg.invariant.numbers in
    let own_now : (a : List ℕ) (p : ℕ) → AreOf a p all → AreOf a p (leg ∷ rest) = λ a p of. subst (AreOf a p) steps (c.loop-leg.invariant.own a p of) in
    record {
      begun = λ a p of.
          inr
          (begins facts c.args.self.now.legs before left all rest leg a (own_now a p of).0.0 c.in_ok-post.ensures.in_range steps
          (c.loop-leg.invariant.begun a p of));
      lists = c.in_ok-post.ensures.lists;
      numbers = numbers.1;
      legs = ap (λ ls. ls ++ rest) pushed ∙ append_assoc before (leg ∷ []) rest ∙ ap (λ ls. before ++ ls) (sym steps) ∙ c.loop-leg.invariant.legs;
      own = λ a p of. (own_now a p of).1;
      range = λ a p of.
          let is : leg.position.account ≡ a = (own_now a p of).0.0 in
          let within : IsUnits (units_at (with_legs a (facts.held a) before) (leg.position.commodity, leg.position.lot) +ℤ leg.units) =
          subst (λ account. IsUnits (units_at (with_legs account (facts.held account) before) (leg.position.commodity, leg.position.lot) +ℤ leg.units)) is c.in_ok-post.ensures.in_range in
          ap (λ ls. leave_range (with_legs a (facts.held a) ls) rest) pushed
          ∙ ap (λ (h : Held). leave_range h rest) (with_legs-push a (facts.held a) before leg is)
          ∙ sym (leave_range-passes (with_legs a (facts.held a) before) leg rest within)
          ∙ ap (leave_range (with_legs a (facts.held a) before)) (sym steps)
          ∙ c.loop-leg.invariant.range a p of;
    }

-- a leg that stops stops the legs that begin with it
stops_all : (facts : Facts) (before : List Leg) (leg : Leg) (rest all : List Leg) (start : Held) (stop : Stop) (a : List ℕ) (p : ℕ)
    → leg.position.account ≡ a → leg.posting ≡ p
    → leave_range (with_legs a (facts.held a) before) (leg ∷ rest) ≡ leave_range start all
    → StopsAtLeg facts before leg stop → StopsAt start p all stop
stops_all facts before leg rest all start (Refused refusal) a p is at same h = (
  sym same ∙ leave_range-stops (with_legs a (facts.held a) before) leg rest
      (subst (λ account. IsUnits (units_at (with_legs account (facts.held account) before) (leg.position.commodity, leg.position.lot) +ℤ leg.units) → ⊥) is h.0),
  h.1 ∙ ap Range at,
)
stops_all facts before leg rest all start Memory a p is at same h = h

pub returns-in_err-post-clause-stops : goal.returns-in_err-post-clause-stops
returns-in_err-post-clause-stops c =
    let facts = known c.args.view.now in
    let leg = c.in-Some.leg in
    let left = c.loop-leg.leg-iterator.rest.items in
    let rest = c.next.new.self.rest.items in
    let steps : left ≡ leg ∷ rest = c.in-Some.ensures.steps.0 in
    let before = c.loop-leg.self.legs in
    let stops : (a : List ℕ) (p : ℕ) → AreOf a p c.args.legs.items → StopsAt (with_legs a (facts.held a) c.args.self.now.legs) p c.args.legs.items c.in_err-post.field-0.0 = λ a p of.
    let now : AreOf a p (leg ∷ rest) = subst (AreOf a p) steps (c.loop-leg.invariant.own a p of) in
    stops_all facts before leg rest c.args.legs.items (with_legs a (facts.held a) c.args.self.now.legs) c.in_err-post.field-0.0 a p now.0.0 now.0.1
    (ap (leave_range (with_legs a (facts.held a) before)) (sym steps) ∙ c.loop-leg.invariant.range a p of)
    c.in_err-post.ensures.stops in
    passed_on c.from_residual.result c.in_err-post.field-0.0 _ c.from_residual.ensures.1 stops

pub returns-clause-in_range : goal.returns-clause-in_range
returns-clause-in_range c = λ a p of.
    let facts = known c.args.view.now in
    let none : c.loop-leg.leg-iterator.rest.items ≡ [] = nil_from_length c.loop-leg.leg-iterator.rest.items (grind (arith, common_steps)) in
    sym (c.loop-leg.invariant.range a p of) ∙ ap (leave_range (with_legs a (facts.held a) c.loop-leg.self.legs)) none

pub returns-in_err-post-clause-memory : goal.returns-in_err-post-clause-memory
returns-in_err-post-clause-memory c = λ lacks a p of.
    let leg = c.in-Some.leg in
    let left = c.loop-leg.leg-iterator.rest.items in
    let rest = c.next.new.self.rest.items in
    let stop = c.in_err-post.field-0.0 in
    let memory : Memory ≡ stop = subst (λ (r : Result _ Stop). IsErrAnd r (λ e. e ≡ stop)) lacks c.from_residual.ensures.1 in
    let steps : left ≡ leg ∷ rest = c.in-Some.ensures.steps.0 in
    let now : AreOf a p (leg ∷ rest) = subst (AreOf a p) steps (c.loop-leg.invariant.own a p of) in
    begins (known c.args.view.now) c.args.self.now.legs c.loop-leg.self.legs left c.args.legs.items rest leg a now.0.0
    (c.in_err-post.ensures.memory (ap Err (sym memory))) steps (c.loop-leg.invariant.begun a p of)
