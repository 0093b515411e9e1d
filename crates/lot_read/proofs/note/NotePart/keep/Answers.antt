-- A plain part is the note.
use Rattle.std.proofs.Common.{lit<, ℕ, List, ◌≡◌, sym, ap, subst, ◌∙◌}
use Rattle.std.specs.Prelude.{IfOk}
use Rattle.lot_base.specs.Name.{is_note}
use Rattle.lot_read.proofs.EscapeLemmas.{plain_escaped, text_is}
use Rattle.lot_read.proofs.note.NotePart.keep.Goals as goal

pub keep-requires : goal.keep-requires
keep-requires c =
    let part = c.self.inside.part.now in
    let same = text_is part part (plain_escaped part (sym c.is_plain.ensures ∙ c.if-is_plain.true)) in
    (lit< tt, ap is_note (sym same) ∙ c.self.invariant.good)

pub returns-then-is_plain : goal.returns-then-is_plain
returns-then-is_plain c =
    let part = c.self.inside.part.now in
    let same = text_is part part (plain_escaped part (sym c.is_plain.ensures ∙ c.if-is_plain.true)) in
    subst (λ (text : List ℕ). IfOk c.keep.result (λ note. note ≡ text)) (sym same ∙ c.self.view_is) c.keep.ensures
