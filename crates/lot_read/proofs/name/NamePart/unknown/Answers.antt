-- By the laws of the grammar.
use Rattle.std.proofs.Common.{sym, ◌∙◌}
use Rattle.lot_read.proofs.name.NamePart.unknown.Goals as goal

pub returns-then-not-accepts-clause-outside : goal.returns-then-not-accepts-clause-outside
returns-then-not-accepts-clause-outside g c =
    g.met.G.PartGrammar.outside c.args.part.now (sym c.accepts.ensures ∙ c.if-not-accepts.true)

pub returns-clause-means : goal.returns-clause-means
returns-clause-means g c =
    g.met.G.PartGrammar.as_it_stands c.args.part.now (sym c.accepts.ensures ∙ c.if-not-accepts.false)
