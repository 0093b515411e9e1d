-- The first token of a line that can be cut, and the tokens behind it.
use Rattle.std.proofs.Common.{List, ap, sym, ◌∙◌, arith}
use Rattle.std.proofs.lemmas.Bool.{both_ways}
use Rattle.std.proofs.lemmas.List.{nil_from_length}
use Rattle.lot_syntax.specs.declared.token.Token.{Token}
use Rattle.lot_syntax.specs.Cutting.{cut_behind}
use Rattle.lot_syntax.proofs.CutLemmas.{splits, ends, cut_false}
use Rattle.lot_syntax.proofs.tokens.Tokens.split_first.Goals as goal

pub invariant_of-result-in-Ok-Some : goal.invariant_of-result-in-Ok-Some
invariant_of-result-in-Ok-Some c =
    (splits c.self.inside.rest.now _ c.self.invariant (rw c.in-Ok-Some.field-0-is at c.in-Ok-Some.ensures)).cut

pub unreachable-requires : goal.unreachable-requires
unreachable-requires c = both_ways _ (cut_false c.self.inside.rest.now c.in-Err.ensures) c.self.invariant

pub returns-in-Ok-Some : goal.returns-in-Ok-Some
returns-in-Ok-Some c =
    let none = nil_from_length c.self.inside.first.now (omega (arith, c.in_default.len_below)) in
    sym c.self.view_is ∙ ap (λ (first : List Token). cut_behind first c.self.inside.rest.now) none
    ∙ (splits c.self.inside.rest.now _ c.self.invariant (rw c.in-Ok-Some.field-0-is at c.in-Ok-Some.ensures)).whole

pub returns-in-Ok-None : goal.returns-in-Ok-None
returns-in-Ok-None c =
    let none = nil_from_length c.self.inside.first.now (omega (arith, c.in_default.len_below)) in
    sym c.self.view_is ∙ ap (λ (first : List Token). cut_behind first c.self.inside.rest.now) none
    ∙ ends c.self.inside.rest.now (rw c.in-Ok-None.field-0-is at c.in-Ok-None.ensures)
