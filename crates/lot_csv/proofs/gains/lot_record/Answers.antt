use Rattle.std.specs.Prelude.{decimal}
use Rattle.std.specs.String.{string_bytes}
use Rattle.std.proofs.Common.{◌∙◌, ◌∷◌, ◌++◌, [], ap}
use Rattle.lot_csv.specs.Gains.{gain_fields, taken_fields, term_fields}
use Rattle.lot_csv.specs.Record.{cost_fields, field_text, others_text}
use Rattle.lot_csv.proofs.RecordLemmas.{one_record}
use Rattle.lot_csv.proofs.gains.lot_record.Goals as goal

pub returns : goal.returns
returns c =
    let sale = c.args.sale.now in
    let leg = c.args.leg.now in
    let entry = decimal c.args.seller.entry in
    let posting = decimal c.args.seller.posting in
    one_record (string_bytes c.push_seller.new.text) (string_bytes c.push_others.new.text) (string_bytes c.push_taken.new.text)
    (string_bytes c.push_cost.new.text) (string_bytes c.push_gain.new.text) (string_bytes c.push_term.new.text) (string_bytes c.push_str.new.self)
    entry posting sale.account sale.commodity (taken_fields sale.day leg) (cost_fields leg.0) (gain_fields leg c.args.gain.now) (term_fields sale.day leg)
    (c.in_ok-push_seller.ensures ∙ ap (λ bytes. bytes ++ (field_text entry ++ others_text (posting ∷ []))) c.new-text.ensures.bytes)
    (c.in_ok-push_others.ensures
    ∙ ap (λ fields. string_bytes c.push_seller.new.text ++ others_text fields)
    (λ i. (c.as_str.ensures.value ∙ c.account.ensures) i ∷ (c.as_str-2.ensures.value ∙ c.commodity.ensures) i ∷ []))
    (c.in_ok-push_taken.ensures ∙ ap (λ day. string_bytes c.push_others.new.text ++ others_text (taken_fields day leg)) c.day-day.ensures)
    c.in_ok-push_cost.ensures
    c.in_ok-push_gain.ensures
    (c.in_ok-push_term.ensures ∙ ap (λ day. string_bytes c.push_gain.new.text ++ others_text (term_fields day leg)) c.day-day.ensures)
    c.in_ok-push_str.ensures.bytes
