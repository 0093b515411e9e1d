-- The bytes are a label where they are UTF-8, and of its grammar.
use Rattle.std.proofs.Common.{◌≡◌, ◌∙◌, Some, ap, sym, true}
use Rattle.std.proofs.lemmas.Bool.{false≢true}
use Rattle.lot_base.specs.Name.{is_label}
use Rattle.lot_dump.proofs.HeadingLemmas.{label_found, label_none}
use Rattle.lot_dump.proofs.heading.label_text.Goals as goal
use Rattle.lot_dump.proofs.heading.label_text.Goals.{in_default-via-in-Ok+else-is_name, in_default-via-in_default}

pub returns-in-Ok-clause-value : goal.returns-in-Ok-clause-value
returns-in-Ok-clause-value c =
    let label : is_label c.args.bytes.now ≡ true =
    ap is_label (sym c.in-Ok.ensures.cases.0) ∙ sym c.is_name.ensures ∙ c.if-is_name.true in
    label_found c.args.bytes.now (c.in-Ok.ensures.cases.1, label) ∙ ap Some (sym c.in-Ok.ensures.cases.0)

pub returns-in_default-clause-value : goal.returns-in_default-clause-value
returns-in_default-clause-value c =
    label_none c.args.bytes.now (λ is.
    elim c.in_default.branch [
      | in_default-via-in-Ok+else-is_name w ↦
          false≢true (sym w.if-is_name.false ∙ w.is_name.ensures ∙ ap is_label w.in-Ok.ensures.cases.0 ∙ is.1)
      | in_default-via-in_default w ↦ w.in_default.ensures.cases.0 is.0
    ])
