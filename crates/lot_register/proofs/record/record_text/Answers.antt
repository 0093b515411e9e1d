use Rattle.std.specs.String.{string_bytes}
use Rattle.std.proofs.Common.{◌++◌, ◌∙◌, ap}
use Rattle.lot_base.specs.Day.{day_text}
use Rattle.lot_csv.specs.Record.{field_text}
use Rattle.lot_register.specs.Text.{end_fields, lot_fields, moved_fields}
use Rattle.lot_register.proofs.TextLemmas.{one_record}
use Rattle.lot_register.proofs.record.record_text.Goals as goal

pub returns : goal.returns
returns c =
    let leg = c.args.leg.now in
    one_record (string_bytes c.push_field.new.text) (string_bytes c.push_moved.new.text) (string_bytes c.push_lot.new.text) (string_bytes c.push_end.new.text)
    (string_bytes c.push_str.new.self) (day_text leg.day) (moved_fields leg) (lot_fields leg.lot) (end_fields leg c.args.left)
    (c.in_ok-push_field.ensures
    ∙ (λ i. c.new-text.ensures.bytes i ++ field_text ((c.as_str.ensures.value ∙ c.in_ok-day.ensures) i)))
    c.in_ok-push_moved.ensures c.in_ok-push_lot.ensures c.in_ok-push_end.ensures c.in_ok-push_str.ensures.bytes
