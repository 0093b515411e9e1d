-- The first row that is the position has what it holds; where none is, it holds what it held before.
use Rattle.std.proofs.Common.{◌≡◌, ◌∷◌, [], Option, Some, None, Bool, List, cond, ℤ, sym, ap, ◌∙◌, rules}
use Rattle.std.specs.Map.{lookup}
use Rattle.std.specs.Option.{unwrap_or}
use Rattle.lot_book.specs.declared.leg.Position.{Position}
use Rattle.lot_book.specs.Change.{units_before}
use Rattle.lot_book.specs.Leg.{same_position}
use Rattle.lot_posting.specs.Tally.{plain}
use Rattle.lot_view.specs.View.{known}
use Rattle.lot_posting.proofs.TallyLemmas.{same_plain}
use Rattle.lot_posting.proofs.tally.Tally.plain_units.Goals as goal

-- what is listed of a position in rows, told of the first of them
first_listed : (at : Position) (rows left rest : List (Position × ℤ)) (row : Position × ℤ) (here : Bool) → left ≡ row ∷ rest
    → lookup (same_position at) left ≡ lookup (same_position at) rows → same_position at row.0 ≡ here
    → lookup (same_position at) rows ≡ cond here (Some row.1) (lookup (same_position at) rest)
first_listed at rows left rest row here steps so_far is =
    sym so_far ∙ ap (lookup (same_position at)) steps ∙ ap (λ b. cond b (Some row.1) (lookup (same_position at) rest)) is

pub loop-position-preserved : goal.loop-position-preserved
loop-position-preserved c =
    let account = c.args.account.now in
    let commodity = c.args.commodity.now in
    let row : Position × ℤ = (c.in-Some.position.now, c.in-Some.units.now) in
    let other = sym (same_plain account commodity row.0) ∙ sym c.is_plain_of.ensures ∙ c.if-is_plain_of.false in
    sym (first_listed (plain account commodity) c.args.self.now.positions.entries c.loop-position.position-iterator c.next.new.self row _
    c.in-Some.ensures.steps c.loop-position.invariant other)

pub returns-then-is_plain_of : goal.returns-then-is_plain_of
returns-then-is_plain_of c =
    let account = c.args.account.now in
    let commodity = c.args.commodity.now in
    let at = plain account commodity in
    let row : Position × ℤ = (c.in-Some.position.now, c.in-Some.units.now) in
    let here = sym (same_plain account commodity row.0) ∙ sym c.is_plain_of.ensures ∙ c.if-is_plain_of.true in
    let listed = first_listed at c.args.self.now.positions.entries c.loop-position.position-iterator c.next.new.self row _
    c.in-Some.ensures.steps c.loop-position.invariant here in
    sym (ap (λ (o : Option ℤ). unwrap_or o (units_before (known c.args.view.now) at)) listed) ∙ c.requires.sums at

pub returns : goal.returns
returns c =
    let at = plain c.args.account.now c.args.commodity.now in
    let none : c.loop-position.position-iterator ≡ [] = search rules in
    let unlisted : lookup (same_position at) c.args.self.now.positions.entries ≡ None =
    sym c.loop-position.invariant ∙ ap (lookup (same_position at)) none in
    c.units.ensures ∙ sym (ap (λ (o : Option ℤ). unwrap_or o (units_before (known c.args.view.now) at)) unlisted) ∙ c.requires.sums at
