-- By the place at which the search ends.
use Rattle.std.proofs.Common.{◌≡◌, ℕ, Option, rules, tests, ap, ◌∙◌, length}
use Rattle.std.specs.List.{position, position_or_len}
use Rattle.std.specs.Prelude.{unwrap_or}
use Rattle.std.proofs.lemmas.Iterator.{YieldsList-from_slice}
use Rattle.std.proofs.lemmas.Iterator.Search.{position_from_yields_List}
use Rattle.lot_num.specs.NumberText.{is_point}
use Rattle.lot_num.proofs.GrammarLemmas.{point_or_end}
use Rattle.lot_num.proofs.number_text.point_or_end.Goals as goal

pub returns-clause-value : goal.returns-clause-value
returns-clause-value c =
    let bytes = c.as_bytes-bytes.result.now in
    let place : c.position.result ≡ position is_point bytes =
    position_from_yields_List is_point _ _ c.position.result c.position.ensures.ran (YieldsList-from_slice bytes cc)
    (λ x b q k. search (rules, tests)) in
    c.unwrap_or.ensures
    ∙ ap (λ (found : Option ℕ). unwrap_or found (length bytes)) place
    ∙ point_or_end bytes
    ∙ ap (position_or_len is_point) c.as_bytes-bytes.ensures.value
