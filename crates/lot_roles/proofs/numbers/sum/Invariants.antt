-- What the parts so far come to, and the others behind it; it is far from the limits.
use Rattle.std.proofs.Common.{◌≡◌, ◌*◌, ◌≤◌, drop, pos}
use Rattle.std.specs.Prelude.{unsigned_abs, unwrap_or}
use Rattle.std.specs.List.{filter_map}
use Rattle.lot_num.specs.Amount.{units_limit}
use Rattle.lot_roles.specs.Numbers.{total_of}
use Rattle.lot_roles.proofs.SumLemmas.{sum_behind}
use Rattle.lot_roles.specs.Parts.{part_of, parts_of}
use Rattle.lot_roles.specs.Rules.{sources_of}
use Rattle.lot_roles.proofs.numbers.sum.Given as goal

abbrev pub invariant-loop-source : goal.invariant-loop-source
invariant-loop-source l =
    let file = l.rules.profile.now.file in record {
      behind : total_of file.numbers l.decimals l.role (parts_of l.rules l.row l.role)
          ≡ sum_behind file.numbers l.decimals l.role l.sum (filter_map (part_of file l.row) (drop l.source-index (sources_of l.rules l.role)));
      bound : unsigned_abs (unwrap_or l.sum (pos 0)) ≤ l.source-index * units_limit;
    }
