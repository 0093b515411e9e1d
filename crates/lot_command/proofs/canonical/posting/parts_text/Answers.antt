use Rattle.std.specs.String.{string_bytes}
use Rattle.std.proofs.Common.{◌≡◌, map, codes, option_map, arith}
use Rattle.std.proofs.lemmas.Grind.{common_steps}
use Rattle.lot_command.specs.Canonical.{cost_parts}
use Rattle.lot_command.proofs.CanonicalLemmas.{joins_parts}
use Rattle.lot_command.proofs.canonical.posting.parts_text.Goals as goal

pub returns : goal.returns
returns c =
    let are : map string_bytes c.deref.result.now ≡ cost_parts (option_map string_bytes c.args.number) c.args.spec.now =
    grind (arith, common_steps, c.deref.ensures.value) in
    joins_parts string_bytes string_bytes (codes ", ") c.deref.result.now _ c.join.result are c.join.ensures.ok
