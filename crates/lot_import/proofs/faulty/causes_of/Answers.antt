use Rattle.std.proofs.Common.{inl}
use Rattle.std.proofs.lemmas.Result.{IfOk-weaker}
use Rattle.csv.specs.Records.{fields_of}
use Rattle.lot_import.proofs.FaultyLemmas.{first_told}
use Rattle.lot_import.proofs.faulty.causes_of.Goals as goal

pub returns-then-passes-clause-all : goal.returns-then-passes-clause-all
returns-then-passes-clause-all c =
    IfOk-weaker c.failing.result _ _ (λ causes failing. inl (c.passes.ensures.0 c.if-passes.true, failing)) c.failing.ensures

pub returns-then-passes-clause-first : goal.returns-then-passes-clause-first
returns-then-passes-clause-first c =
    IfOk-weaker c.failing.result _ _
    (λ causes failing. first_told c.args.version (fields_of c.args.written.now) causes.items (inl (c.passes.ensures.0 c.if-passes.true, failing)))
    c.failing.ensures
