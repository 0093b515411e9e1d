-- Legs that aren't asked for were passed over.
use Rattle.std.proofs.Common.{◌≡◌}
use Rattle.sqlite.specs.Held.{state}
use Rattle.lot_recall.specs.Scope.{owned}
use Rattle.lot_recall.proofs.OrderedLemmas.{Went}
use Rattle.lot_recall.proofs.ordered.OrderedPlacePlace.next.Given as goal

abbrev pub invariant-legs : goal.invariant-legs
invariant-legs g l = record {
  scope : owned l.self.scope ≡ owned l.initial.self.scope;
  last : l.self.last ≡ l.initial.self.last;
  went : Went (owned l.initial.self.scope) l.initial.self.noted l.self.noted (state g.S.Store l.initial.conn) (state g.S.Store l.conn);
}
