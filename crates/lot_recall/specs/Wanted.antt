-- The place of a walk over the legs of a register: those at keys, or those that the book has in the order of days.
use Rattle.std.specs.Prelude.{List}
use Rattle.std.proofs.Common.{◌⊎◌, inl, inr}
use Rattle.lot_book.specs.Facts.{Entry}
use Rattle.lot_noted.specs.Book.{Asked}
use Rattle.lot_noted.specs.declared.key.LegKey.{LegKey}
use Rattle.lot_register.specs.declared.leg.NotedLeg.{NotedLeg}
use Rattle.lot_rows.specs.Tables.{Tables}
use Rattle.lot_recall.specs.Ordered.{AreOrdered, AreOrderedRows, IsBehindOrdered, IsBehindOrderedRows}
use Rattle.lot_recall.specs.Place.{AreAt, AreRowsAt, IsBehindRecalled, IsBehindRecalledRows}
use Rattle.lot_recall.specs.declared.register.RegisterPlace.{RegisterPlace}
use Rattle.lot_recall.specs.declared.register.RegisterPlace.TheVariants.{AtKeys, InOrder}

-- the keys of the legs, or what is asked for
abbrev pub Wanted : Type 0
Wanted = List LegKey ⊎ Asked

abbrev pub AreWanted : Wanted → List Entry → List NotedLeg → Type 0
AreWanted (inl keys) entries given = AreAt keys entries given
AreWanted (inr asked) entries given = AreOrdered asked entries given

abbrev pub AreWantedRows : Wanted → Tables → List NotedLeg → Type 0
AreWantedRows (inl keys) tables given = AreRowsAt keys tables given
AreWantedRows (inr asked) tables given = AreOrderedRows asked tables given

abbrev pub IsBehindWanted : RegisterPlace → Tables → Wanted → List Entry → List NotedLeg → Type 0
IsBehindWanted (AtKeys place) tables (inl keys) entries given = IsBehindRecalled place tables keys entries given
IsBehindWanted (AtKeys place) tables (inr asked) entries given = ⊥
IsBehindWanted (InOrder place) tables (inl keys) entries given = ⊥
IsBehindWanted (InOrder place) tables (inr asked) entries given = IsBehindOrdered place tables asked entries given

abbrev pub IsBehindWantedRows : RegisterPlace → Tables → Wanted → List NotedLeg → Type 0
IsBehindWantedRows (AtKeys place) tables (inl keys) given = IsBehindRecalledRows place tables keys given
IsBehindWantedRows (AtKeys place) tables (inr asked) given = ⊥
IsBehindWantedRows (InOrder place) tables (inl keys) given = ⊥
IsBehindWantedRows (InOrder place) tables (inr asked) given = IsBehindOrderedRows place tables asked given
