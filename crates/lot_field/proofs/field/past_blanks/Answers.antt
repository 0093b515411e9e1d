-- Blanks are ASCII, so a text may be cut behind them.
use Rattle.std.proofs.Common.{◌≡◌, ◌-◌, ℕ, List, drop, length, ◌∙◌, ap}
use Rattle.lot_field.specs.Field.{without_leading}
use Rattle.lot_field.proofs.FieldLemmas.{leading-boundary, leading-rest}
use Rattle.lot_field.proofs.field.past_blanks.Goals as goal

pub split_at-requires : goal.split_at-requires
split_at-requires c =
    let text = c.args.text.now in
    let inner : c.without_leading.result.now ≡ without_leading text = cc in
    let bytes : length text ≡ length c.as_bytes-bytes.result.now = cc in
    rw (← bytes) (leading-boundary text c.without_leading.result.now c.utf8.text inner)

pub returns : goal.returns
returns c =
    let text = c.args.text.now in
    let led : c.without_leading.result.now ≡ without_leading text = cc in
    let bytes : c.as_bytes-bytes.result.now ≡ text = cc in
    c.split_at.ensures.back
    ∙ ap (λ (t : List ℕ). drop (length t - length c.without_leading.result.now) text) bytes
    ∙ ap (λ (t : List ℕ). drop (length text - length t) text) led
    ∙ leading-rest text
