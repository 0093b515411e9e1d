-- One source more.
use Rattle.std.proofs.Common.{ℕ, List, [], ◌∷◌, Bor, ap, map, ◌∙◌}
use Rattle.std.proofs.lemmas.List.{map-append}
use Rattle.lot_roles.specs.Parts.{part_of}
use Rattle.lot_roles.specs.Rules.{sources_of}
use Rattle.lot_roles.proofs.StepLemmas.{no_part, one_part}
use Rattle.lot_roles.proofs.parts.parts.Goals as goal
use Rattle.lot_roles.proofs.parts.parts.Goals.{in-Some+in_ok-push, in_default}

pub loop-source-preserved : goal.loop-source-preserved
loop-source-preserved c =
    let texts = λ (parts : List (Bor (List ℕ))). map (λ (part : Bor (List ℕ)). part.now) parts in
    let all = sources_of c.args.rules.now c.args.role in
    let i = c.loop-source.source-index in
    let f = part_of c.args.rules.now.profile.now.file c.args.row.now in
    let items = c.sources-source-items.result.now in elim c.match-part.branch [
      | in-Some+in_ok-push w ↦
          ap texts (ap (λ v. v.items) w.parts-is ∙ w.in_ok-push.ensures.items) ∙ map-append (λ (part : Bor (List ℕ)). part.now) c.loop-source.parts.items (w.in-Some.part ∷ [])
          ∙ one_part f all items i c.source-item.result c.sources-source-items.ensures c.loop-source-test.true c.source-item.is (texts c.loop-source.parts.items)
          w.in-Some.part.now w.in-Some.ensures c.loop-source.invariant
      | in_default w ↦
          ap texts (ap (λ v. v.items) w.parts-is) ∙ no_part f all items i c.source-item.result c.sources-source-items.ensures c.loop-source-test.true c.source-item.is
          (texts c.loop-source.parts.items) w.in_default.ensures c.loop-source.invariant
    ]
