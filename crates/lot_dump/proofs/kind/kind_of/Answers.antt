-- What the line begins with stands there.
use Rattle.std.proofs.Common.{drop, refl}
use Rattle.std.proofs.lemmas.Bool.Decides.{Decides-eqb}
use Rattle.std.proofs.lemmas.Slice.Eq.{starts_is}
use Rattle.lot_dump.specs.Form.{head_front}
use Rattle.lot_dump.proofs.kind.kind_of.Goals as goal

pub returns-then-starts_with-clause-head : goal.returns-then-starts_with-clause-head
returns-then-starts_with-clause-head c = (
  λ is. (drop 15 c.args.line.now, (starts_is Decides-eqb c.args.line.now head_front c.starts_with.result c.starts_with.ensures.value).0 c.if-starts_with.true),
  λ begins. refl,
)
