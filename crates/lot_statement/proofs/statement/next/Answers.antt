use Rattle.std.proofs.Common.{◌∙◌}
use Rattle.csv.specs.Records.{fields_of}
use Rattle.lot_import.proofs.ReadLemmas.{read_none, read_some}
use Rattle.lot_statement.proofs.statement.next.Goals as goal

pub returns-in-Ok-clause-open : goal.returns-in-Ok-clause-open
returns-in-Ok-clause-open c found =
    let on = c.in-Ok.ensures.reads_on found in
    record {
      config = on.0 ∙ c.requires.config;
      trim = on.1 ∙ c.requires.trim;
      flexible = on.2 ∙ c.requires.flexible;
      ready = (on.4 c.requires.ready).0;
      known = (read_some c.args.reader.now c.read_byte_record.new.self (fields_of c.read_byte_record.new.row) c.in-Ok.found found c.requires.config c.requires.known
          (c.in-Ok.ensures.reads c.requires.trim c.requires.ready)).1;
    }

pub returns-in-Ok-clause-some : goal.returns-in-Ok-clause-some
returns-in-Ok-clause-some c found =
    (read_some c.args.reader.now c.read_byte_record.new.self (fields_of c.read_byte_record.new.row) c.in-Ok.found found c.requires.config c.requires.known
    (c.in-Ok.ensures.reads c.requires.trim c.requires.ready)).0

pub returns-in-Ok-clause-none : goal.returns-in-Ok-clause-none
returns-in-Ok-clause-none c none =
    read_none c.args.reader.now c.read_byte_record.new.self (fields_of c.read_byte_record.new.row) c.in-Ok.found none c.requires.config c.requires.known
    (c.in-Ok.ensures.reads c.requires.trim c.requires.ready)
