-- The last of some decimals is at most one.
use Rattle.std.proofs.Common.{◌^◌, ◌-◌, ◌≤◌, ◌<◌, arith}
use Rattle.std.proofs.Math.Nat.{pow-le-pow_right}
use Rattle.lot_deal_read.proofs.figures.place_of.Goals as goal

pub rate_of-requires : goal.rate_of-requires
rate_of-requires c =
    let fewer : 8 - c.count_of.result ≤ 8 = omega arith in
    let some : 0 < 10 = omega arith in
    let most : 10 ^ (8 - c.count_of.result) ≤ 10 ^ 8 = pow-le-pow_right some fewer in
    omega (arith, most, c.pow.ensures)
