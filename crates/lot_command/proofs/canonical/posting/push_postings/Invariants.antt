use Rattle.std.proofs.Common.{◌≡◌, ◌++◌, take, flat_map}
use Rattle.std.specs.String.{string_bytes}
use Rattle.lot_command.specs.Canonical.{posting_text}
use Rattle.lot_command.proofs.canonical.posting.push_postings.Given as goal

-- the lines of the first postings are appended
abbrev pub invariant-loop-posting : goal.invariant-loop-posting
invariant-loop-posting l = string_bytes l.text ≡ string_bytes l.fn.text ++ flat_map posting_text (take l.posting-index l.postings)
