use Rattle.std.proofs.Common.{◌≡◌, ◌++◌, take}
use Rattle.lot_completion.proofs.form.push_all.Given as goal

-- the postings so far stand behind
abbrev pub invariant-loop-posting : goal.invariant-loop-posting
invariant-loop-posting l = l.postings ≡ l.fn.postings ++ take l.posting-index l.more
