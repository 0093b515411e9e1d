-- Where it stands in the field.
use Rattle.std.proofs.lemmas.Str.Pattern.{contains_text}
use Rattle.lot_field.proofs.tests.has.Goals as goal

pub returns : goal.returns
returns c =
    let stands = contains_text c.contains.result c.as_str.result.now c.cut.result.now c.contains.ensures.cases in
    rw (c.cut.ensures, c.as_str.ensures) at stands
