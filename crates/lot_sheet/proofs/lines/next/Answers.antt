use Rattle.std.proofs.Common.{subst}
use Rattle.csv.specs.Records.{fields_of}
use Rattle.lot_sheet.proofs.ReadLemmas.{IsUtf8Kind, no_text, read_none, read_some}
use Rattle.lot_sheet.proofs.lines.next.Goals as goal

pub returns-clause-some : goal.returns-clause-some
returns-clause-some c found =
    (read_some c.args.reader.now c.read_record.new.self (fields_of c.read_record.new.row) c.in-Ok.found found c.requires.known
    (c.in-Ok.ensures.reads c.requires.trim c.requires.ready)).0

pub returns-clause-none : goal.returns-clause-none
returns-clause-none c none =
    read_none c.args.reader.now c.read_record.new.self (fields_of c.read_record.new.row) c.in-Ok.found none c.requires.known
    (c.in-Ok.ensures.reads c.requires.trim c.requires.ready)

pub returns-in-Utf8-clause-fault : goal.returns-in-Utf8-clause-fault
returns-in-Utf8-clause-fault c is =
    no_text c.args.reader.now c.read_record.new.self c.in-Err.error.kind c.requires.known (c.in-Err.ensures.why c.requires.trim c.requires.ready)
    (subst IsUtf8Kind (c.in-Utf8.ensures) tt)
