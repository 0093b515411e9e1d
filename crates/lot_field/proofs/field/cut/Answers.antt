-- Blanks are ASCII, so a text may be cut beside them.
use Rattle.std.proofs.Common.{◌≡◌, List, ℕ, take, length, ◌∙◌, ap}
use Rattle.lot_field.specs.Field.{without_trailing}
use Rattle.lot_field.proofs.FieldLemmas.{trailing-boundary, trailing-front}
use Rattle.lot_field.proofs.field.cut.Goals as goal

pub split_at-requires : goal.split_at-requires
split_at-requires c =
    let rest = c.past_blanks-rest.result.now in
    let inner : c.without_trailing.result.now ≡ without_trailing rest = cc in
    trailing-boundary rest c.without_trailing.result.now inner

pub returns : goal.returns
returns c =
    let rest = c.past_blanks-rest.result.now in
    let inner : c.without_trailing.result.now ≡ without_trailing rest = cc in
    c.split_at.ensures.front ∙ ap (λ (t : List ℕ). take (length t) rest) inner ∙ trailing-front rest
    ∙ ap without_trailing c.past_blanks-rest.ensures
