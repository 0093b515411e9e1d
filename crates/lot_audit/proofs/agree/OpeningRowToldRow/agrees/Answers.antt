-- The number that is kept of the lot is that of the row.
use Rattle.std.proofs.Common.{Some, ap, sym, ◌∙◌}
use Rattle.std.proofs.lemmas.Bool.{true≢false}
use Rattle.lot_audit.proofs.OpeningLemmas.{is_number, nothing_told, opening_tells}
use Rattle.lot_audit.proofs.agree.OpeningRowToldRow.agrees.Goals as goal

pub returns-in_default : goal.returns-in_default
returns-in_default c = (
  (λ out. absurd (true≢false (sym out))),
  (λ tells. absurd (nothing_told c.args.known.now.replay.view c.args.self (rw c.view.ensures at c.in_default.ensures.value) tells)),
)

pub returns : goal.returns
returns c =
    let row = c.args.self in
    let openings = rw c.view.ensures at c.in-Some.ensures.openings in
    let tells =
    opening_tells c.args.known.now.replay.view row c.in-Some.held.now (rw c.view.ensures at c.in-Some.ensures.value)
    (openings row.commodity) (rw c.view.ensures at c.in-Some.ensures.no_zeros) c.in-Some.ensures.numbered in
    let is = is_number c.opening.result c.number.result in (
      (λ same. tells.0 (sym c.opening.ensures ∙ is.0 (sym c.eq.ensures ∙ same) ∙ ap Some c.number.ensures.value)),
      (λ told. c.eq.ensures ∙ is.1 (c.opening.ensures ∙ tells.1 told ∙ ap Some (sym c.number.ensures.value))),
    )
