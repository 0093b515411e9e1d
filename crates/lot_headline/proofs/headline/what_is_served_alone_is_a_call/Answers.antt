use Rattle.std.proofs.Common.{refl}
use Rattle.lot_headline.proofs.headline.what_is_served_alone_is_a_call.Goals as goal

pub returns : goal.returns
returns c start action input opened before calls to serves on_book clean = (
  _,
  record {
    action = action;
    on_book = on_book;
    input = input;
    before = before;
    written = to.written;
    calls = record { before = calls; after = to.calls };
    told = to.told;
    serves = serves;
    clean = clean;
    sends = refl;
  },
)
