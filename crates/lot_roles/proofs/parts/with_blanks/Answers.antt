use Rattle.std.proofs.Common.{◌≡◌, ◌∙◌, ℕ, List, subst}
use Rattle.std.specs.Prelude.{IfOk}
use Rattle.lot_roles.proofs.TextLemmas.{join_bytes}
use Rattle.lot_roles.proofs.parts.with_blanks.Goals as goal

pub returns : goal.returns
returns c =
    subst (λ (bytes : List ℕ). IfOk c.new.result (λ text. text ≡ bytes))
    (c.as_str.ensures.value ∙ c.in_ok-joined.ensures.ok ∙ join_bytes c.args.texts.now) c.new.ensures
