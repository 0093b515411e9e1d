-- a power of ten is positive
use Rattle.std.proofs.Common.{arith}
use Rattle.std.proofs.Math.Nat.{one-le-pow}
use Rattle.lot_num.proofs.printed.Decimals.one.Goals as goal

pub returns-clause-positive : goal.returns-clause-positive
returns-clause-positive c = omega (arith, one-le-pow c.args.self.scale 10 (omega arith))
