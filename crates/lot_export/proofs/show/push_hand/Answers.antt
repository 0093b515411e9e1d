-- A row that is posted by hand is shown.
use Rattle.std.proofs.Common.{ℕ, List, ◌++◌, ap, ◌∙◌}
use Rattle.std.specs.String.{string_bytes}
use Rattle.lot_export.proofs.show.push_hand.Goals as goal

pub returns : goal.returns
returns c =
    let written = rw c.as_str-name.ensures.value at c.in_ok-row.ensures.ok in
    c.in_ok-push_str.ensures.bytes ∙ ap (λ (t : List ℕ). string_bytes c.args.text.now ++ t) (c.as_str.ensures.value ∙ written)
