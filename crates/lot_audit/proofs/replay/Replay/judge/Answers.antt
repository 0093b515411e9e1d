-- What is decided on the view is what the step on the book comes to, by the edition of the entry.
use Rattle.std.specs.Prelude.{◌≡◌, List}
use Rattle.std.proofs.Common.{ap, subst, ◌∙◌}
use Rattle.lot_book.specs.Facts.{Facts}
use Rattle.lot_book.specs.Openings.{ties_for}
use Rattle.lot_book.specs.Step.{Accept, Refuse, Repeat}
use Rattle.lot_book.specs.declared.leg.Leg.{Leg}
use Rattle.lot_laws.proofs.RecordedBook.{room_where_decided}
use Rattle.lot_ledger.specs.Decide.{Comes, StopsStep}
use Rattle.lot_view.specs.View.{known, known_with_openings}
use Rattle.lot_audit.proofs.ReplayLemmas.{accepts_none, follows}
use Rattle.lot_audit.proofs.replay.Replay.judge.Goals as goal

pub record-requires : goal.record-requires
record-requires c =
    let view = c.args.self.view in
    let ties = ties_for c.edition_behind-edition.result (known_with_openings view) in
    room_where_decided ties (known view) c.args.command.now c.in-Ok-Accept.change.legs
    (subst (Comes ties (known view) c.args.command.now) c.in-Ok-Accept.field-0-is c.in-Ok-Accept.ensures.decided).0

pub returns-in-Ok-Accept-clause-follows : goal.returns-in-Ok-Accept-clause-follows
returns-in-Ok-Accept-clause-follows c = λ entries key replays none.
    let view = c.args.self.view in
    let edition = c.edition_behind-edition.result in
    let count = c.entries.ensures ∙ ap (λ (f : Facts). f.entries) replays.facts in
    let recorded = c.in_ok-view-in-Ok-Accept in
    follows c.args.self.place view entries key c.args.command.now replays none edition
    (c.edition_behind-edition.ensures entries count) c.in-Ok-Accept.change recorded.view
    (subst (Comes (ties_for edition (known_with_openings view)) (known view) c.args.command.now) c.in-Ok-Accept.field-0-is
    c.in-Ok-Accept.ensures.decided)
    recorded.ensures.facts recorded.ensures.openings

pub returns-in-Ok-Repeat-clause-refused : goal.returns-in-Ok-Repeat-clause-refused
returns-in-Ok-Repeat-clause-refused c = λ is entries key legs replays.
    let view = c.args.self.view in
    let edition = c.edition_behind-edition.result in
    let count = c.entries.ensures ∙ ap (λ (f : Facts). f.entries) replays.facts in
    accepts_none c.args.self.place view edition c.args.command.now Repeat
    (λ (ls : List Leg) same. let apart : Repeat ≡ Accept ls = same in cc)
    (subst (Comes (ties_for edition (known_with_openings view)) (known view) c.args.command.now) c.in-Ok-Repeat.field-0-is
    c.in-Ok-Repeat.ensures.decided)
    entries key legs replays (c.edition_behind-edition.ensures entries count)

pub returns-in-Err-Refused-clause-refused : goal.returns-in-Err-Refused-clause-refused
returns-in-Err-Refused-clause-refused c = λ is entries key legs replays.
    let view = c.args.self.view in
    let edition = c.edition_behind-edition.result in
    let refusal = c.in-Err-Refused.field-0-0 in
    let count = c.entries.ensures ∙ ap (λ (f : Facts). f.entries) replays.facts in
    accepts_none c.args.self.place view edition c.args.command.now (Refuse refusal)
    (λ (ls : List Leg) same. let apart : Refuse refusal ≡ Accept ls = same in cc)
    (subst (StopsStep (ties_for edition (known_with_openings view)) (known view) c.args.command.now) c.in-Err-Refused.field-0-is
    c.in-Err-Refused.ensures.stops)
    entries key legs replays (c.edition_behind-edition.ensures entries count)
