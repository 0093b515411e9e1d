use Rattle.std.proofs.Common.{◌≡◌, None, Some, subst, sym}
use Rattle.std.proofs.lemmas.Result.{err_from_is_err_and}
use Rattle.lot_recall.specs.Noted.{IsNarrated}
use Rattle.lot_recall.proofs.NotedLemmas.{its_text}
use Rattle.lot_recall.proofs.noted.NotedPlace.narration.Goals as goal
use Rattle.lot_recall.proofs.noted.NotedPlace.narration.Goals.{in-Some+else-last-entry, in_default}

-- the entry has no text
pub returns-in_default-text-clause-damaged : goal.returns-in_default-text-clause-damaged
returns-in_default-text-clause-damaged c = λ is tables behind.
    let same : c.match-self.self ≡ c.args.self.now = elim c.match-self.branch [ in-Some+else-last-entry w ↦ w.self-is | in_default w ↦ w.self-is ] in
    absurd (its_text c.match-self.self c.args.self.now same tables c.args.entry None c.in_default-text.ensures behind)

-- or one that is that of no command
pub returns-in_err-narration-clause-damaged : goal.returns-in_err-narration-clause-damaged
returns-in_err-narration-clause-damaged c =
    let same : c.match-self.self ≡ c.args.self.now = elim c.match-self.branch [ in-Some+else-last-entry w ↦ w.self-is | in_default w ↦ w.self-is ] in
    let fault = err_from_is_err_and c.from_residual-in_err-narration.result c.from_residual-in_err-narration.ensures.1 in
    let text = c.in-Some-text.text.now in
    rw (fault.1, fault.2)
    (λ is tables behind. (
      text,
      its_text c.match-self.self c.args.self.now same tables c.args.entry (Some text) c.in-Some-text.ensures behind,
      c.in_err-narration.ensures.damaged is,
    ))

pub returns-clause-tells : goal.returns-clause-tells
returns-clause-tells c = λ tables behind kept.
    let same : c.match-self.self ≡ c.args.self.now = elim c.match-self.branch [ in-Some+else-last-entry w ↦ w.self-is | in_default w ↦ w.self-is ] in
    let text = c.in-Some-text.text.now in
    let narrated : IsNarrated tables c.args.entry c.in_ok-narration.narration =
    record {
      text = text;
      body = its_text c.match-self.self c.args.self.now same tables c.args.entry (Some text) c.in-Some-text.ensures behind;
      narrates = c.in_ok-narration.ensures.says;
    } in
    (narrated, subst (IsNarrated tables c.args.entry) (sym c.in_ok-copy_of-2.ensures) narrated)
