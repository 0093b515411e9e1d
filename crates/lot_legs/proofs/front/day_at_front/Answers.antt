use Rattle.lot_legs.proofs.TextLemmas.{front_of, no_day, no_front, no_text}
use Rattle.std.proofs.Common.{◌∙◌, sym}
use Rattle.lot_legs.proofs.front.day_at_front.Goals as goal

pub returns-in_default-clause-none : goal.returns-in_default-clause-none
returns-in_default-clause-none c _ command said =
    no_front c.args.text.now c.as_bytes.result.now c.as_bytes.ensures.value c.in_default.ensures.lookup.0 command

pub returns-in_default-from_utf8-clause-none : goal.returns-in_default-from_utf8-clause-none
returns-in_default-from_utf8-clause-none c _ command said =
    no_text c.args.text.now c.in-Some.front.now command
    (front_of c.args.text.now c.as_bytes.result.now c.in-Some.front.now c.as_bytes.ensures.value c.in-Some.ensures.lookup.0.2) c.in_default-from_utf8.ensures.cases.0

pub returns-clause-none : goal.returns-clause-none
returns-clause-none c none command said =
    no_day c.args.text.now c.in-Ok.front.now command said
    (c.in-Ok.ensures.cases.0 ∙ front_of c.args.text.now c.as_bytes.result.now c.in-Some.front.now c.as_bytes.ensures.value c.in-Some.ensures.lookup.0.2)
    (sym c.parse.ensures ∙ sym c.ok.ensures.value ∙ none)
