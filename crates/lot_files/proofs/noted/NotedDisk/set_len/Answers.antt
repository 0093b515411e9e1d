-- It stays as it is where the file does whose failures it keeps.
use Rattle.std.proofs.Common.{sym}
use Rattle.lot_files.proofs.noted.NotedDisk.set_len.Goals as goal

pub returns-clause-frozen : goal.returns-clause-frozen
returns-clause-frozen g c = λ frozen.
    let stays = c.set_len.ensures.frozen frozen in
    let fails = stays.0 in (
      rw (sym c.pass.ensures.same) at fails,
      record {
        frozen = stays.1.frozen;
        same = stays.1.same;
        clean = stays.1.clean;
        no_more = stays.1.no_more;
        no_fewer = stays.1.no_fewer;
      },
    )
