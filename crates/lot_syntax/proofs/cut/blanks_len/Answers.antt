-- By the place at which the search ends.
use Rattle.std.proofs.Common.{◌≡◌, ℕ, rules, not, ap, ◌∙◌, length}
use Rattle.std.specs.List.{position}
use Rattle.std.specs.Prelude.{Option, unwrap_or}
use Rattle.std.proofs.lemmas.Iterator.{YieldsList-from_slice}
use Rattle.std.proofs.lemmas.Iterator.Search.{position_from_yields_List}
use borrow.Author.Tests.{tests}
use Rattle.lot_syntax.specs.Token.{is_blank}
use Rattle.lot_syntax.proofs.RunLemmas.{run_at}
use Rattle.lot_syntax.proofs.cut.blanks_len.Goals as goal

pub returns-clause-value : goal.returns-clause-value
returns-clause-value c =
    let place : c.position.result ≡ position (λ b. not (is_blank b)) c.args.bytes.now =
    position_from_yields_List (λ b. not (is_blank b)) _ _ c.position.result c.position.ensures.ran
    (YieldsList-from_slice c.args.bytes.now cc) (λ x b q k. search (rules, tests)) in
    run_at is_blank c.args.bytes.now _
    (c.unwrap_or.ensures ∙ ap (λ (o : Option ℕ). unwrap_or o (length c.args.bytes.now)) place)
