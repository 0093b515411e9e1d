-- One more record says a line, or is the first faulty one.
use Rattle.std.proofs.Common.{◌++◌, ◌∷◌, [], refl}
use Rattle.csv.specs.Records.{fields_of}
use Rattle.lot_import.specs.Reading.{records_left}
use Rattle.lot_import.proofs.FileLemmas.{handed, moved}
use Rattle.lot_statement.specs.Reading.{HasRowFault}
use Rattle.lot_statement.proofs.LineLemmas.{apart_more, none_said}
use Rattle.lot_statement.proofs.StatementLemmas.{all_said, bad_row, more_lines}
use Rattle.lot_statement.proofs.statement.rows_behind.Goals as goal

pub records-init : goal.records-init
records-init c =
    record {
      is_open = c.requires;
      done = [];
      lines = [];
      all = refl;
      say = tt;
      apart = tt;
      kept = none_said c.new-said.result c.new-said.ensures.empty;
    }

pub records-preserved : goal.records-preserved
records-preserved c =
    let l = c.records in
    let written = fields_of c.next.new.written in
    let (line, is, none, has) = c.in_ok-take_row.ensures l.invariant.lines l.invariant.kept in
    record {
      is_open = c.in_ok-next.ensures.open c.if-branch.true;
      done = l.invariant.done ++ written ∷ [];
      lines = l.invariant.lines ++ line ∷ [];
      all = moved (records_left c.args.reader.now) l.invariant.done (records_left l.reader) (records_left c.next.new.reader) written
          l.invariant.all (c.in_ok-next.ensures.some c.if-branch.true);
      say = more_lines l.invariant.done l.invariant.lines written line l.invariant.say is;
      apart = apart_more [] l.invariant.lines line l.invariant.apart none;
      kept = has;
    }

pub returns-in_err-take_row-clause-fault : goal.returns-in_err-take_row-clause-fault
returns-in_err-take_row-clause-fault c =
    let l = c.records in
    let all = records_left c.args.reader.now in
    let fault = c.in_err-take_row.field-0.0 in
    handed c.from_residual-in_err-take_row.result (HasRowFault all) fault c.from_residual-in_err-take_row.ensures.1
    (bad_row all l.invariant.done (records_left l.reader) (records_left c.next.new.reader) (fields_of c.next.new.written) l.invariant.lines
    c.take_row.new.said fault l.invariant.all (c.in_ok-next.ensures.some c.if-branch.true) l.invariant.say l.invariant.apart
    (c.in_err-take_row.ensures l.invariant.lines l.invariant.kept))

pub returns-clause-said : goal.returns-clause-said
returns-clause-said c =
    let l = c.records in
    all_said (records_left c.args.reader.now) l.invariant.done (records_left l.reader) l.invariant.lines l.said l.invariant.all
    (c.in_ok-next.ensures.none c.if-branch.false) l.invariant.say l.invariant.apart l.invariant.kept
