-- The word names a code of the tables so far or of those that are left where it names one of all, and the texts of those so far are written.
use Rattle.std.proofs.Common.{◌≡◌, ◌||◌, drop, take}
use Rattle.std.specs.Io.KnownBytes.{Appends}
use Rattle.lot_explain.specs.Codes.{some_named}
use Rattle.lot_explain.specs.Explained.{texts_among}
use Rattle.lot_explain.proofs.explained.explain_among.Given as goal

abbrev pub invariant-loop-table : goal.invariant-loop-table
invariant-loop-table g l =
    ((l.names_one || some_named l.word (drop l.table-index l.tables)) ≡ some_named l.word l.tables)
    × Appends (g.W.Write.contents l.initial.writer) (g.W.Write.contents l.writer) (texts_among l.word (take l.table-index l.tables))
