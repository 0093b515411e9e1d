-- The first line is cut off, and read as a command.
use Rattle.std.specs.Prelude.{◌≡◌}
use Rattle.std.specs.String.{string_bytes}
use Rattle.std.proofs.Common.{◌∷◌, ◌++◌, ◌∙◌, [], List, ap, lit<, sym, ℕ}
use Rattle.lot_noted.specs.Book.{first_line}
use Rattle.lot_noted.proofs.HeadLemmas.{no_end, no_head}
use Rattle.lot_noted.proofs.narration.narration_in.Goals as goal

pub returns-in_default-clause-damaged : goal.returns-in_default-clause-damaged
returns-in_default-clause-damaged c = λ is command sayable. no_end c.args.text.now (c.in_default.ensures.byte (lit< tt) (λ w o h. h)) command sayable

pub returns-in_default-2-clause-damaged : goal.returns-in_default-2-clause-damaged
returns-in_default-2-clause-damaged c = λ is command sayable.
    let cut = c.in-Some.ensures.byte (lit< tt) (λ w o h. h) in
    let line : c.as_str.result.now ≡ first_line c.args.text.now =
    c.as_str.ensures.value ∙ c.in_ok-whole.ensures ∙ ap (λ (l : List ℕ). l ++ 10 ∷ []) cut.0 in
    no_head c.args.text.now c.as_str.result.now line (rw c.in_default-2.is at c.in_ok-command.ensures.value) command sayable

pub returns-clause-says : goal.returns-clause-says
returns-clause-says c =
    let cut = c.in-Some.ensures.byte (lit< tt) (λ w o h. h) in
    let line : c.as_str.result.now ≡ first_line c.args.text.now =
    c.as_str.ensures.value ∙ c.in_ok-whole.ensures ∙ ap (λ (l : List ℕ). l ++ 10 ∷ []) cut.0 in
    let found = rw c.in-Some-2.is at c.in_ok-command.ensures.value in
    (c.in-Some-2.command, found.0, sym line ∙ found.1, c.in_ok-narration_of.ensures)
