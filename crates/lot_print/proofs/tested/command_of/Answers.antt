-- A text says one command at most, and the canonical text of that command tells whether it is the text.
use Rattle.std.proofs.Common.{◌≡◌, ◌∙◌, ◌∷◌, [], List, None, Some, ap, false, slice_get, string_bytes, subst, sym, true}
use Rattle.std.proofs.lemmas.Slice.Eq.{bytes_eq-Decides}
use Rattle.lot_command.specs.Canonical.{canonical}
use Rattle.lot_command.specs.declared.command.Command.{Command}
use Rattle.lot_read.specs.Text.{Reads}
use Rattle.lot_print.proofs.TestedLemmas.{on_error, runs_out}
use Rattle.lot_print.proofs.tested.command_of.Goals as goal

pub returns-in-Err-Line-clause-value : goal.returns-in-Err-Line-clause-value
returns-in-Err-Line-clause-value c = λ it.
    let says = subst (λ t. Reads t (it.0 ∷ [])) (sym it.2) (c.canonical_text_reads_as_its_command.ensures it.0 it.1) in
    absurd (c.a_text_says_one_thing.ensures.either c.args.text.now (it.0 ∷ []) c.in-Err-Line.field-0-0 c.in-Err-Line.field-0-1 says (rw (c.as_bytes.ensures.value, c.in-Err-Line.field-0-is) at c.in-Err-Line.ensures.fault))

pub returns-in_default-clause-value : goal.returns-in_default-clause-value
returns-in_default-clause-value c = λ it.
    let says = subst (λ t. Reads t (it.0 ∷ [])) (sym it.2) (c.canonical_text_reads_as_its_command.ensures it.0 it.1) in
    let one = c.a_text_says_one_thing.ensures.commands c.args.text.now c.in-Ok.commands.items (it.0 ∷ []) (rw c.as_bytes.ensures.value at c.in-Ok.ensures.commands) says in
    let got : slice_get (it.0 ∷ []) 0 ≡ None = ap (λ (cs : List Command). slice_get cs 0) (sym one) ∙ sym c.first.ensures ∙ c.in_default.is in
    absurd cc

pub returns-else-eq-clause-value : goal.returns-else-eq-clause-value
returns-else-eq-clause-value c = λ it.
    let decides = bytes_eq-Decides c.as_str.result.now c.args.text.now in
    let says = subst (λ t. Reads t (it.0 ∷ [])) (sym it.2) (c.canonical_text_reads_as_its_command.ensures it.0 it.1) in
    let one = c.a_text_says_one_thing.ensures.commands c.args.text.now c.in-Ok.commands.items (it.0 ∷ []) (rw c.as_bytes.ensures.value at c.in-Ok.ensures.commands) says in
    let got : Some c.in-Some.command ≡ Some it.0 = sym c.in-Some.is ∙ c.first.ensures ∙ ap (λ (cs : List Command). slice_get cs 0) one in
    let found : c.in-Some.command ≡ it.0 = cc in
    let text : string_bytes c.in_ok-canonical.canonical ≡ c.args.text.now = c.in_ok-canonical.ensures.value ∙ ap canonical found ∙ sym it.2 in
    let contrary : true ≡ false = sym (c.eq.ensures ∙ decides.1 (c.as_str.ensures.value ∙ text)) ∙ c.if-eq.false in
    absurd cc

pub returns-in-Err-Memory-clause-memory : goal.returns-in-Err-Memory-clause-memory
returns-in-Err-Memory-clause-memory c =
    (c.in-Err-Memory.field-0-0, rw (c.as_bytes.ensures.value, c.in-Err-Memory.field-0-is) at c.in-Err-Memory.ensures.fault)

pub returns-in_err-canonical-clause-memory : goal.returns-in_err-canonical-clause-memory
returns-in_err-canonical-clause-memory c =
    on_error c.from_residual.result _
    (runs_out c.in-Ok.commands.items c.args.text.now c.first.result c.in-Some.command c.first.ensures c.in-Some.is
    (rw c.as_bytes.ensures.value at c.in-Ok.ensures.commands))
