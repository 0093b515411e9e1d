-- What is written is a note.
use Rattle.std.proofs.Common.{◌≡◌, ℕ, List, true, subst, sym, ◌∙◌, ap}
use Rattle.lot_base.specs.Name.{is_note}
use Rattle.lot_roles.specs.Narration.{cut_to_note}
use Rattle.lot_roles.proofs.NoteLemmas.{is_written}
use Rattle.lot_roles.proofs.narrations.narration.Goals as goal

pub note-requires : goal.note-requires
note-requires c =
    subst (λ (text : List ℕ). is_note text ≡ true)
    (sym (c.as_str-2.ensures.value ∙ c.cut_to_note.ensures ∙ ap cut_to_note c.in_ok-written.ensures)) (is_written c.as_str.result.now)
