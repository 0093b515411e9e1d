-- The text of which the part is the escape.
use Rattle.std.proofs.Common.{lit<, ℕ, List, ◌≡◌, sym, ap, subst, ◌∙◌}
use Rattle.std.specs.Prelude.{IfOk}
use Rattle.lot_base.specs.Name.{is_note}
use Rattle.lot_read.proofs.EscapeLemmas.{text_is, note_length}
use Rattle.lot_read.proofs.note.NotePart.keep_unescaped.Goals as goal

pub keep-requires : goal.keep-requires
keep-requires c =
    let same = text_is c.self.inside.part.now c.in-Some.text.bytes c.in-Some.ensures in
    (lit< tt, ap is_note (c.as_str.ensures.value ∙ sym same) ∙ c.self.invariant.good)

pub unreachable-requires : goal.unreachable-requires
unreachable-requires c =
    c.in-None.ensures _ c.self.invariant.spelled (note_length _ c.self.invariant.good)

pub returns : goal.returns
returns c =
    let same = text_is c.self.inside.part.now c.in-Some.text.bytes c.in-Some.ensures in
    subst (λ (text : List ℕ). IfOk c.keep.result (λ note. note ≡ text)) (c.as_str.ensures.value ∙ sym same ∙ c.self.view_is)
    c.keep.ensures
