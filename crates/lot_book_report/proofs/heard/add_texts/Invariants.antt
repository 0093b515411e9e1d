use Rattle.std.proofs.Common.{drop}
use Rattle.sha2.specs.Hashers.{Holds256}
use Rattle.lot_book_report.proofs.HeardLemmas.{HasHeard}
use Rattle.lot_book_report.proofs.heard.add_texts.Given as goal

-- the texts so far are part of the message
abbrev pub invariant-loop-text : goal.invariant-loop-text
invariant-loop-text l = HasHeard (λ t. t.now) (Holds256 l.initial.hasher) (Holds256 l.hasher) l.texts (drop l.text-index l.texts)
