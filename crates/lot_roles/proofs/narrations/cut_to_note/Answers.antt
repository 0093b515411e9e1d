use Rattle.std.proofs.Common.{◌<◌, ◌≤◌, ℕ, ap, arith, length, sym, take, ◌∙◌}
use Rattle.std.specs.String.{string_bytes}
use Rattle.lot_roles.proofs.NoteLemmas.{cut_long, cut_short}
use Rattle.lot_roles.proofs.narrations.cut_to_note.Goals as goal

pub returns-then-len-gt-LONGEST : goal.returns-then-len-gt-LONGEST
returns-then-len-gt-LONGEST c =
    let more : 1000 < length (string_bytes c.args.text.now) = omega (arith, c.if-len-gt-LONGEST.true, c.len.ensures) in
    c.truncate.ensures.bytes ∙ ap (λ (n : ℕ). take n (string_bytes c.args.text.now)) c.character_place.ensures.value
    ∙ sym (cut_long (string_bytes c.args.text.now) more)

pub returns-else-len-gt-LONGEST : goal.returns-else-len-gt-LONGEST
returns-else-len-gt-LONGEST c =
    let few : length (string_bytes c.args.text.now) ≤ 1000 = omega (arith, c.if-len-gt-LONGEST.false, c.len.ensures) in
    sym (cut_short (string_bytes c.args.text.now) few)
