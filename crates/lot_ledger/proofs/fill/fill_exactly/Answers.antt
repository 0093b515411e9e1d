-- The fills are exact and allowed, and their legs are those of the elided posting.
use Rattle.std.proofs.Common.{◌≡◌, ◌++◌, ◌∷◌, [], ℕ, suc, List, ℤ, None, map, subst, sym, ap, ◌∙◌}
use Rattle.std.specs.Option.{option_map}
use Rattle.std.proofs.lemmas.Result.{MatchResult-weaker}
use Rattle.lot_book.specs.declared.refusal.Refusal.TheVariants.{FillNotAllowed, InexactFill, Range}
use Rattle.lot_book.specs.declared.refusal.Stop.{Stop}
use Rattle.lot_book.specs.declared.refusal.Stop.TheVariants.{Refused}
use Rattle.lot_book.specs.Balance.{fill_from, left_over, opposite}
use Rattle.lot_ledger.specs.Decide.{filled, first_barred}
use Rattle.lot_book.specs.Leg.{leave_range, with_legs}
use Rattle.lot_book.specs.Refusals.{Stops, fill_not_allowed, holds_as}
use Rattle.lot_posting.specs.Tally.{AreOf, BeginInRange, StopsAt}
use Rattle.lot_view.specs.View.{known}
use Rattle.lot_ledger.proofs.FillLemmas.{fill-allowed, filled-fills, filled-own, passed_on, stops-barred, stops-range}
use Rattle.lot_ledger.proofs.fill.fill_exactly.Goals.{After-post_all}
use Rattle.lot_ledger.proofs.fill.fill_exactly.Goals as goal

pub returns-in_err-every_fill_allowed-clause-stops : goal.returns-in_err-every_fill_allowed-clause-stops
returns-in_err-every_fill_allowed-clause-stops c =
    let account : c.elided.inside.account.now ≡ c.args.elided.1 = ap (λ (e : ℕ × List ℕ). e.1) c.elided.view_is in
    let left = left_over c.args.draft.now.residuals in
    let standing = (known c.args.view.now).standing in
    let stop : Stop = Refused c.in_err-every_fill_allowed.field-0.0 in
    let stops : Stops (option_map FillNotAllowed (first_barred (standing c.args.elided.1) left)) stop =
    subst (λ a. Stops (option_map FillNotAllowed (first_barred (standing a) left)) stop) account
    c.in_err-every_fill_allowed.ensures.refused in
    passed_on c.from_residual.result stop _ c.from_residual.ensures.1
    (stops-barred _ _ _ stop (ap (option_map InexactFill) c.requires.exact) stops)

-- the legs of the fills are those of the residuals
legs_are : (c : After-post_all) → c.in_ok-legs.legs.items
    ≡ fill_from (suc c.args.view.now.entries) c.args.elided.0 c.args.elided.1 0 (left_over c.args.draft.now.residuals)
legs_are c =
    c.in_ok-legs.ensures.legs
    ∙ ap (filled (suc c.args.view.now.entries) c.args.elided.0 c.args.elided.1 0)
    (c.in_ok-fills.ensures.fills ∙ ap (λ rs. map (λ (r : List ℕ × ℤ). (r.0, opposite r.1)) (left_over rs)) c.in_ok-every_fill_allowed.ensures.same)
    ∙ filled-fills (suc c.args.view.now.entries) c.args.elided.0 c.args.elided.1 0 (left_over c.args.draft.now.residuals)

legs_own : (c : After-post_all) → AreOf c.args.elided.1 c.args.elided.0 c.in_ok-legs.legs.items
legs_own c =
    subst (AreOf c.args.elided.1 c.args.elided.0) (sym (legs_are c))
    (filled-own (suc c.args.view.now.entries) c.args.elided.0 c.args.elided.1 0 (left_over c.args.draft.now.residuals))

none_barred : (c : After-post_all) → fill_not_allowed (known c.args.view.now) (c.args.elided ∷ []) c.args.draft.now.residuals ≡ None
none_barred c =
    fill-allowed (known c.args.view.now) c.elided.inside.account.now c.args.elided c.args.draft.now.residuals
    (ap (λ (e : ℕ × List ℕ). e.1) c.elided.view_is) c.in_ok-every_fill_allowed.ensures.ok

pub returns-clause-legs : goal.returns-clause-legs
returns-clause-legs c =
    MatchResult-weaker c.post_all.result c.post_all.ensures.legs
    (λ x h. h ∙ ap (λ legs. c.args.draft.now.tally.legs ++ legs) (legs_are c)) (λ x h. h)

pub returns-clause-allowed : goal.returns-clause-allowed
returns-clause-allowed c =
    MatchResult-weaker c.post_all.result c.post_all.ensures.legs (λ x h. none_barred c)
    (λ x h. h)

pub returns-clause-in_range : goal.returns-clause-in_range
returns-clause-in_range c =
    let held = with_legs c.args.elided.1 ((known c.args.view.now).held c.args.elided.1) c.args.draft.now.tally.legs in
    MatchResult-weaker c.post_all.result c.post_all.ensures.in_range
    (λ x h. ap (λ b. holds_as b (Range c.args.elided.0))
    (ap (leave_range held) (sym (legs_are c)) ∙ h c.args.elided.1 c.args.elided.0 (legs_own c)))
    (λ x h. h)

pub returns-clause-stops : goal.returns-clause-stops
returns-clause-stops c =
    let held = with_legs c.args.elided.1 ((known c.args.view.now).held c.args.elided.1) c.args.draft.now.tally.legs in
    MatchResult-weaker c.post_all.result c.post_all.ensures.stops (λ x h. h)
    (λ stop h. stops-range _ _ held c.args.elided.0 _ stop
    (ap (option_map InexactFill) c.requires.exact) (none_barred c)
    (subst (λ legs. StopsAt held c.args.elided.0 legs stop) (legs_are c) (h c.args.elided.1 c.args.elided.0 (legs_own c))))

pub returns-in_err-fills-clause-memory : goal.returns-in_err-fills-clause-memory
returns-in_err-fills-clause-memory c = λ _. (
  ap (option_map InexactFill) c.requires.exact,
  fill-allowed (known c.args.view.now) c.elided.inside.account.now c.args.elided c.args.draft.now.residuals
      (ap (λ (e : ℕ × List ℕ). e.1) c.elided.view_is) c.in_ok-every_fill_allowed.ensures.ok,
  λ none. c.in_err-fills.ensures.memory (ap left_over c.in_ok-every_fill_allowed.ensures.same ∙ none),
)

pub returns-in_err-legs-clause-memory : goal.returns-in_err-legs-clause-memory
returns-in_err-legs-clause-memory c = λ _. (
  ap (option_map InexactFill) c.requires.exact,
  fill-allowed (known c.args.view.now) c.elided.inside.account.now c.args.elided c.args.draft.now.residuals
      (ap (λ (e : ℕ × List ℕ). e.1) c.elided.view_is) c.in_ok-every_fill_allowed.ensures.ok,
  λ none.
      c.in_err-legs.ensures.memory
      (c.in_ok-fills.ensures.fills
      ∙ ap (map (λ (r : List ℕ × ℤ). (r.0, opposite r.1))) (ap left_over c.in_ok-every_fill_allowed.ensures.same ∙ none)),
)

pub returns-clause-memory : goal.returns-clause-memory
returns-clause-memory c = λ lacks. (
  ap (option_map InexactFill) c.requires.exact,
  none_barred c,
  λ none.
      let held = with_legs c.args.elided.1 ((known c.args.view.now).held c.args.elided.1) c.args.draft.now.tally.legs in
      subst (λ (left : List (List ℕ × ℤ)). BeginInRange held (fill_from (suc c.args.view.now.entries) c.args.elided.0 c.args.elided.1 0 left)) none
      (subst (BeginInRange held) (legs_are c) (c.post_all.ensures.memory lacks c.args.elided.1 c.args.elided.0 (legs_own c))),
)
