-- A known name is of its grammar.
use Rattle.lot_read.proofs.name.NamePart.new.Goals as goal

pub returns-in-Some-clause-means : goal.returns-in-Some-clause-means
returns-in-Some-clause-means g c = g.met.G.PartGrammar.as_it_stands c.args.part.now c.in-Some.ensures.grammar
