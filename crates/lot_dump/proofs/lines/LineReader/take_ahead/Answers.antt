-- What is ahead is cut at the line end.
use Rattle.std.proofs.Common.{◌≡◌, ◌∙◌, ℕ, ◌-◌, List, [], ◌∷◌, ◌++◌, length, take, drop, ap, sym, subst, append-nil, arith}
use Rattle.std.specs.Prelude.{Err, option_map}
use Rattle.std.proofs.lemmas.Result.{err_from_is_err_and}
use Rattle.lot_dump.specs.Cutting.{cut_of, parts}
use Rattle.lot_dump.proofs.LineLemmas.{cut_nowhere, cut_there, moved, moved_within, none_ahead, takes_none}
use Rattle.lot_dump.proofs.lines.LineReader.take_ahead.Goals as goal

pub returns-in_err-append-in-Some-clause-takes : goal.returns-in_err-append-in-Some-clause-takes
returns-in_err-append-in-Some-clause-takes c =
    let whole = ap (λ (t : List ℕ). take (c.self.inside.end - c.self.inside.start) (drop c.self.inside.start t)) c.deref.ensures.value ∙ c.self.view_is in
    let cuts = subst (λ (t : List ℕ). cut_of 10 t ≡ option_map parts c.cut.result) whole c.cut.ensures in
    let there = cut_there c.args.self.now c.cut.result cuts (c.in-Some.part, c.in-Some.field-0-1) c.in-Some.is in
    let fault = err_from_is_err_and c.from_residual.result c.from_residual.ensures.1 in
    rw (fault.1, fault.2)
    (takes_none _ c.args.line.now.items _ c.in-Some.part.now (10 ∷ c.in-Some.field-0-1.now) c.in_err-append-in-Some.field-0.0
    c.in_err-append-in-Some.ensures.err (λ is. omega (arith, c.args.line.now.ok.0, c.in_err-append-in-Some.ensures.too_long.0 (ap Err is)))
    c.in_err-append-in-Some.ensures.cause there.1 there.0)

pub returns-in_err-append-in-None-clause-takes : goal.returns-in_err-append-in-None-clause-takes
returns-in_err-append-in-None-clause-takes c =
    let whole = ap (λ (t : List ℕ). take (c.self.inside.end - c.self.inside.start) (drop c.self.inside.start t)) c.deref.ensures.value ∙ c.self.view_is in
    let cuts = subst (λ (t : List ℕ). cut_of 10 t ≡ option_map parts c.cut.result) whole c.cut.ensures in
    let line = cut_nowhere c.args.self.now c.cut.result cuts c.in-None.is in
    let fault = err_from_is_err_and c.from_residual-in_err-append-in-None.result c.from_residual-in_err-append-in-None.ensures.1 in
    rw (fault.1, fault.2)
    (takes_none _ c.args.line.now.items _ c.args.self.now [] c.in_err-append-in-None.field-0.0
    c.in_err-append-in-None.ensures.err (λ is. omega (arith, c.args.line.now.ok.0, ap length whole, c.in_err-append-in-None.ensures.too_long.0 (ap Err is)))
    c.in_err-append-in-None.ensures.cause line (sym (append-nil c.args.self.now)))

pub invariant_of-self : goal.invariant_of-self
invariant_of-self c =
    let cuts = cut_there _ c.cut.result c.cut.ensures (c.in-Some.part, c.in-Some.field-0-1) c.in-Some.is in (
      moved_within c.deref.result.now c.self.inside.start c.self.inside.end c.in-Some.part.now c.in-Some.field-0-1.now c.self.invariant.0 cuts.0,
      c.self.invariant.1,
      c.self.invariant.2,
    )

pub returns-in_ok-append-in-Some-clause-takes : goal.returns-in_ok-append-in-Some-clause-takes
returns-in_ok-append-in-Some-clause-takes c =
    let whole = ap (λ (t : List ℕ). take (c.self.inside.end - c.self.inside.start) (drop c.self.inside.start t)) c.deref.ensures.value ∙ c.self.view_is in
    let there = cut_there _ c.cut.result c.cut.ensures (c.in-Some.part, c.in-Some.field-0-1) c.in-Some.is in
    let left =
    moved c.self.inside.chunk.items c.self.inside.start c.self.inside.end c.in-Some.part.now c.in-Some.field-0-1.now c.self.invariant.0
    (c.self.view_is ∙ sym whole ∙ there.0) in
    (c.in-Some.part.now, there.1, sym whole ∙ there.0 ∙ ap (λ (t : List ℕ). c.in-Some.part.now ++ 10 ∷ t) (sym left), c.in_ok-append-in-Some.ensures.ok)

pub returns-in_ok-append-in-None-clause-takes : goal.returns-in_ok-append-in-None-clause-takes
returns-in_ok-append-in-None-clause-takes c =
    let whole = ap (λ (t : List ℕ). take (c.self.inside.end - c.self.inside.start) (drop c.self.inside.start t)) c.deref.ensures.value ∙ c.self.view_is in
    let cuts = subst (λ (t : List ℕ). cut_of 10 t ≡ option_map parts c.cut.result) whole c.cut.ensures in (
      cut_nowhere c.args.self.now c.cut.result cuts c.in-None.is,
      none_ahead c.self.inside.end c.self.inside.chunk.items,
      c.in_ok-append-in-None.ensures.ok ∙ ap (λ (t : List ℕ). c.args.line.now.items ++ t) whole,
    )
