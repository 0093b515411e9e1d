-- The amounts are in the same ratios.
use Rattle.lot_split.specs.Lots.{held_of}
use Rattle.lot_split.proofs.OneLemmas.{lowest_by_ratio, lowest_by_units}
use Rattle.lot_split.proofs.laws.a_ratio_and_its_units_are_one_split.Goals as goal

pub returns : goal.returns
returns c asked method lots t ratio added some some_old same = (
  λ is. record {
    split = is.split;
    splits = record {
      ratio = is.splits.ratio;
      can = record {
        can = is.splits.can.can;
        lowest = lowest_by_units (held_of lots) added ratio is.splits.ratio some some_old same is.splits.can.lowest;
      };
      become = is.splits.become;
    };
    few = is.few;
    is = is.is;
  },
  λ is. record {
    split = is.split;
    splits = record {
      ratio = is.splits.ratio;
      can = record {
        can = is.splits.can.can;
        lowest = lowest_by_ratio (held_of lots) added ratio is.splits.ratio some some_old same is.splits.can.lowest;
      };
      become = is.splits.become;
    };
    few = is.few;
    is = is.is;
  },
)
