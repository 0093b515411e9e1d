-- One command has the text: it is a split by form, or no split has it.
use Rattle.std.proofs.Common.{◌≡◌, ◌∙◌, false, subst, sym, true}
use Rattle.lot_command.specs.Canonical.{canonical}
use Rattle.lot_command.specs.Sayable.{IsSayable}
use Rattle.lot_command.specs.declared.command.Command.TheVariants.{Transaction}
use Rattle.lot_completion.proofs.FormLemmas.{one_transaction}
use Rattle.lot_split.specs.Form.{IsSplitByForm}
use Rattle.lot_completion.proofs.split.standing.Goals as goal

pub returns-in_default : goal.returns-in_default
returns-in_default c = λ stands it.
    let says : c.args.text.now ≡ canonical (Transaction stands) = cc (it.says) in
    (rw c.in_default.is at c.in_ok-command.ensures.value) (Transaction stands, it.sayable, says)

pub returns-in_default-command : goal.returns-in_default-command
returns-in_default-command c = λ stands it.
    let says : c.args.text.now ≡ canonical (Transaction stands) = cc (it.says) in
    let is : IsSayable c.in-Some.command × (c.args.text.now ≡ canonical c.in-Some.command) = rw c.in-Some.is at c.in_ok-command.ensures.value in
    c.in_default-command.not-Transaction stands
    (c.canonical_texts_tell_commands_apart.ensures.one c.in-Some.command (Transaction stands) is.0 it.sayable (sym is.1 ∙ says))

pub returns : goal.returns
returns c = λ stands it.
    let text = c.args.text.now in
    let found = c.in-Transaction.stands in
    let says : text ≡ canonical (Transaction stands) = cc (it.says) in
    let is : IsSayable (Transaction found) × (text ≡ canonical (Transaction found)) = rw (c.in-Some.is, c.in-Transaction.is) at c.in_ok-command.ensures.value in
    let same = one_transaction text found stands c.canonical_texts_tell_commands_apart.ensures.one is.0 it.sayable is.1 says in
    let contrary : true ≡ false =
    sym (c.is_split_by_form.ensures.1 (subst (λ s. IsSplitByForm c.args.split.now s) (sym same) it.form)) ∙ c.if-is_split_by_form.false in
    absurd cc
