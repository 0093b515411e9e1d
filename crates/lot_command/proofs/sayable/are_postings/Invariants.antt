use Rattle.std.proofs.Common.{take}
use Rattle.std.specs.List.{AllByRecursion}
use Rattle.lot_command.specs.Sayable.{IsPosting}
use Rattle.lot_command.proofs.sayable.are_postings.Given as goal

abbrev pub invariant-loop-posting : goal.invariant-loop-posting
invariant-loop-posting l = AllByRecursion IsPosting (take l.posting-index l.postings)
