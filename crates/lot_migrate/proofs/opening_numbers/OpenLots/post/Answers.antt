-- The position of a leg at a lot is kept anew or no more, and no other, unless an error leaves all as it was.
use Rattle.std.proofs.Common.{◌≡◌, ◌∷◌, [], ◌++◌, List, None, Some, true, false, pos, refl, sym, ap, subst, ◌∙◌, rules}
use Rattle.std.specs.Prelude.{IsSome, OnErr, OnOk}
use Rattle.std.specs.BTreeMap.{get}
use Rattle.std.specs.Ordering.{int_eq}
use Rattle.lot_book.specs.declared.leg.Leg.{Leg}
use Rattle.lot_book.specs.Leg.{position_cmp}
use Rattle.lot_migrate.specs.declared.opening_numbers.OpenLots.{OpenLots}
use Rattle.lot_migrate.specs.LotOpenings.{Keeps}
use Rattle.lot_migrate.proofs.OpenLotLemmas.{after_with, changes-inserted, kept_emptied, kept_here, stays_within, keeps_plain, keeps_push, keeps_same, leaves_range, lot_before}
use Rattle.lot_laws.proofs.OpeningLemmas.{some_units, zero_is}
use Rattle.lot_migrate.proofs.opening_numbers.OpenLots.post.Goals.{in-Ok-insert, in-Err}
use Rattle.lot_migrate.proofs.opening_numbers.OpenLots.post.Goals as goal

pub returns-then-is_none-clause-adds : goal.returns-then-is_none-clause-adds
returns-then-is_none-clause-adds c legs keeps =
    let plain : c.args.leg.now.position.lot ≡ None = search rules in
    keeps_plain legs c.args.leg.now c.args.self.now plain keeps

pub returns-in_default-clause-range : goal.returns-in_default-clause-range
returns-in_default-clause-range c legs keeps =
    let leg = c.args.leg.now in
    let is_lot : IsSome leg.position.lot = search rules in
    let at : c.unwrap_or.result ≡ lot_before (get position_cmp c.args.self.now.lots leg.position) =
    c.unwrap_or.ensures ∙ ap lot_before (c.copied-before.ensures ∙ c.get.ensures.value) in
    (λ e. leaves_range legs leg c.args.self.now c.unwrap_or.result at is_lot keeps (c.in_default.ensures), λ leaves. refl)

pub returns-in_default-copy-clause-range : goal.returns-in_default-copy-clause-range
returns-in_default-copy-clause-range c legs keeps =
    let leg = c.args.leg.now in
    let is_lot : IsSome leg.position.lot = search rules in
    let at : c.unwrap_or.result ≡ lot_before (get position_cmp c.args.self.now.lots leg.position) =
    c.unwrap_or.ensures ∙ ap lot_before (c.copied-before.ensures ∙ c.get.ensures.value) in (
      λ e. absurd cc,
      λ leaves. absurd (stays_within legs leg c.args.self.now c.unwrap_or.result at keeps c.in-Some.ensures.0 leaves),
    )

pub returns-then-eq-clause-adds : goal.returns-then-eq-clause-adds
returns-then-eq-clause-adds c legs keeps =
    let leg = c.args.leg.now in
    let old = c.args.self.now in
    let new : OpenLots = record { lots = c.remove.new.self } in
    let is_lot : IsSome leg.position.lot = search rules in
    let kept = get position_cmp old.lots leg.position in
    let at : c.unwrap_or.result ≡ lot_before kept =
    c.unwrap_or.ensures ∙ ap lot_before (c.copied-before.ensures ∙ c.get.ensures.value) in
    let zero : int_eq c.in-Some.after.units (pos 0) ≡ true = search rules in
    keeps_push legs leg old new None is_lot
    (kept_emptied legs leg kept c.in-Some.after
    (after_with leg kept c.unwrap_or.result c.in-Some.after at c.in-Some.ensures.1)
    (zero_is c.in-Some.after.units zero))
    c.remove.ensures.updates.0
    keeps

pub returns-then-eq-clause-range : goal.returns-then-eq-clause-range
returns-then-eq-clause-range c legs keeps =
    let leg = c.args.leg.now in
    let at : c.unwrap_or.result ≡ lot_before (get position_cmp c.args.self.now.lots leg.position) =
    c.unwrap_or.ensures ∙ ap lot_before (c.copied-before.ensures ∙ c.get.ensures.value) in (
      λ e. absurd cc,
      λ leaves. absurd (stays_within legs leg c.args.self.now c.unwrap_or.result at keeps c.in-Some.ensures.0 leaves),
    )

pub returns-clause-adds : goal.returns-clause-adds
returns-clause-adds c =
    let leg = c.args.leg.now in
    let old = c.args.self.now in
    let new : OpenLots = record { lots = c.insert.new.self } in
    let is_lot : IsSome leg.position.lot = search rules in
    let kept = get position_cmp old.lots leg.position in
    let at : c.unwrap_or.result ≡ lot_before kept =
    c.unwrap_or.ensures ∙ ap lot_before (c.copied-before.ensures ∙ c.get.ensures.value) in
    let some : int_eq c.in-Some.after.units (pos 0) ≡ false = search rules in
    elim c.match-insert.branch [
      | in-Ok-insert w ↦
          subst (λ r. OnOk r ((legs : List Leg) → Keeps legs old → Keeps (legs ++ leg ∷ []) new)) (sym w.result-is)
          (λ legs keeps.
          keeps_push legs leg old new (Some c.in-Some.after) is_lot
          (kept_here legs leg kept c.in-Some.after
          (after_with leg kept c.unwrap_or.result c.in-Some.after at c.in-Some.ensures.1)
          (some_units c.in-Some.after.units some))
          (changes-inserted old.lots old.lots new.lots leg.position c.in-Ok.position c.in-Some.after
          c.in-Ok.ensures refl w.in-Ok-insert.ensures.updates.0)
          keeps)
      | in-Err w ↦
          subst (λ r. OnOk r ((legs : List Leg) → Keeps legs old → Keeps (legs ++ leg ∷ []) new)) (sym w.result-is) tt
    ]

pub returns-clause-range : goal.returns-clause-range
returns-clause-range c legs keeps =
    let leg = c.args.leg.now in
    let at : c.unwrap_or.result ≡ lot_before (get position_cmp c.args.self.now.lots leg.position) =
    c.unwrap_or.ensures ∙ ap lot_before (c.copied-before.ensures ∙ c.get.ensures.value) in (
      λ e. elim c.match-insert.branch [
        | in-Ok-insert w ↦ let no = sym w.result-is ∙ e in absurd cc
        | in-Err w ↦ let no = sym w.result-is ∙ e in absurd cc
      ],
      λ leaves. absurd (stays_within legs leg c.args.self.now c.unwrap_or.result at keeps c.in-Some.ensures.0 leaves),
    )

pub returns-clause-unchanged : goal.returns-clause-unchanged
returns-clause-unchanged c =
    let old = c.args.self.now in
    let new : OpenLots = record { lots = c.insert.new.self } in
    elim c.match-insert.branch [
      | in-Ok-insert w ↦
          subst (λ r. OnErr r ((legs : List Leg) → Keeps legs old → Keeps legs new)) (sym w.result-is) tt
      | in-Err w ↦
          subst (λ r. OnErr r ((legs : List Leg) → Keeps legs old → Keeps legs new)) (sym w.result-is)
          (λ legs keeps. keeps_same legs old new w.in-Err.ensures.err keeps)
    ]
