-- The leg's position is listed anew, and the number of the lot that it opens, and no other.
use Rattle.std.proofs.Common.{◌≡◌, ℕ, Bool, Option, Some, cond, true, false, refl, ap, ap₂, sym, subst, ◌∙◌, ◌+ℤ◌, ◌∷◌, [], ◌++◌, List, ℤ, pos}
use Rattle.std.specs.Map.{lookup}
use Rattle.std.specs.Ordering.{int_eq}
use Rattle.lot_book.specs.declared.leg.Leg.{Leg}
use Rattle.lot_book.specs.declared.leg.Position.{Position}
use Rattle.lot_book.specs.Change.{ListsOpened, ListsSums, units_after}
use Rattle.lot_book.specs.Facts.{Facts}
use Rattle.lot_book.specs.Leg.{same_position}
use Rattle.lot_book.specs.OpeningNumber.{posting_number}
use Rattle.lot_book.specs.Openings.{FactsWithOpenings}
use Rattle.lot_posting.specs.declared.kept.KeptLots.{KeptLots}
use Rattle.lot_posting.specs.declared.tally.Tally.{Tally}
use Rattle.lot_posting.specs.Tally.{KeepsLots, ListsTally}
use Rattle.lot_book.proofs.LegLemmas.{ListsSums-push}
use Rattle.lot_posting.proofs.TallyOpenings.{lists-held, lists-new, lists-plain}
use Rattle.lot_posting.proofs.tally.Tally.put.Goals as goal
use Rattle.lot_posting.proofs.tally.Tally.put.Goals.{then-eq+then-is_some+in_ok-copy+in_ok-insert, else-eq, else-eq-via-then-eq+else-is_some, else-eq-via-else-eq}

-- a tally once the lot of the leg is opened, if it is
record IsOpened (facts : Facts) (leg : Leg) (old new : Tally) : Type 0 where
  legs : new.legs ≡ old.legs
  positions : new.positions ≡ old.positions
  kept : new.kept ≡ old.kept
  openings : ListsOpened facts (old.legs ++ leg ∷ []) new.openings

is_opened : (c : goal.In_ok-push) (known : FactsWithOpenings) → ListsTally known c.args.self.now
    → c.args.before ≡ units_after known.facts c.args.self.now.legs c.args.leg.position
    → IsOpened known.facts c.args.leg c.args.self.now c.if-eq.self
is_opened c known all held =
    let facts = known.facts in
    let leg : Leg = c.args.leg in
    let tally : Tally = c.args.self.now in
    let lists = all.openings in
    let number = posting_number leg in
    let had : (b : Bool) → c.eq.result ≡ b → int_eq (units_after facts tally.legs leg.position) (pos 0) ≡ b =
    λ b e. ap (λ z. int_eq z (pos 0)) (sym held) ∙ sym c.eq.ensures ∙ e in
    let left : ListsOpened facts (tally.legs ++ leg ∷ []) tally.openings → c.if-eq.self ≡ tally → IsOpened facts leg tally c.if-eq.self =
    λ openings same. subst (λ (now : Tally). IsOpened facts leg tally now) (sym same)
    (record { legs = refl; positions = refl; kept = refl; openings = openings }) in
    elim c.if-eq.branch [
      | then-eq+then-is_some+in_ok-copy+in_ok-insert w ↦
          let copied : w.in_ok-copy.field-0 ≡ leg.position = w.in_ok-copy.ensures in
          let updates : (q : Position) → lookup (same_position q) w.insert.new.self.entries
          ≡ cond (same_position w.in_ok-copy.field-0 q) (Some w.number.result) (lookup (same_position q) tally.openings.entries) =
          w.in_ok-insert.ensures.updates.0 in
          let listed : (q : Position) → lookup (same_position q) w.insert.new.self.entries
          ≡ cond (same_position leg.position q) (Some number) (lookup (same_position q) tally.openings.entries) =
          λ q. updates q
          ∙ ap₂ (λ (p : Position) (n : ℕ). cond (same_position p q) (Some n) (lookup (same_position q) tally.openings.entries))
          copied w.number.ensures in
          subst (λ (now : Tally). IsOpened facts leg tally now) (sym w.self-is)
          (record {
            legs = refl;
            positions = refl;
            kept = refl;
            openings = lists-new facts tally.legs leg tally.openings w.insert.new.self lists (had true w.if-eq.true) listed;
          })
      | else-eq w ↦ elim w.else-eq.branch [
        | else-eq-via-then-eq+else-is_some v ↦
            left (lists-plain facts tally.legs leg tally.openings lists (sym v.is_some.ensures ∙ v.if-is_some.false)) w.self-is
        | else-eq-via-else-eq v ↦
            left (lists-held facts tally.legs leg tally.openings lists (had false v.if-eq.false)) w.self-is
      ]
    ]

pub returns-clause-lists : goal.returns-clause-lists
returns-clause-lists c = λ known all held sum.
    let facts = known.facts in
    let leg = c.args.leg in
    let tally = c.args.self.now in
    let opened = is_opened c known all held in
    let rows : List (Position × ℤ) = c.insert-2.new.self.entries in
    let copied : c.in_ok-copy-2.field-0 ≡ leg.position = c.in_ok-copy-2.ensures in
    let updates : (q : Position) → lookup (same_position q) rows
    ≡ cond (same_position c.in_ok-copy-2.field-0 q) (Some c.args.after) (lookup (same_position q) c.if-eq.self.positions.entries) = c.in_ok-insert-2.ensures.updates.0 in
    let same = rw (copied, opened.positions) at updates in
    let after : c.args.after ≡ units_after facts tally.legs leg.position +ℤ leg.units = sum ∙ ap (λ z. z +ℤ leg.units) held in
    let now : Tally = c.add_to_kept.new.self in
    let others = c.add_to_kept.ensures.others in
    let pushed : c.push.new.self ≡ tally.legs ++ leg ∷ [] =
    c.in_ok-push.ensures.ok ∙ ap (λ (t : Tally). t.legs ++ leg ∷ []) others ∙ ap (λ (legs : List Leg). legs ++ leg ∷ []) opened.legs in
    let kept : KeepsLots known (tally.legs ++ leg ∷ []) now.kept =
    c.add_to_kept.ensures.kept known tally.legs
    (subst (λ (lots : Option KeptLots). KeepsLots known tally.legs lots) (sym opened.kept) all.kept) in
    record {
      sums = subst (λ (legs : List Leg). ListsSums facts legs now.positions.entries) (sym pushed)
          (subst (λ (t : Tally). ListsSums facts (tally.legs ++ leg ∷ []) t.positions.entries) (sym others)
          (ListsSums-push facts tally.legs leg tally.positions.entries rows c.args.after all.sums after same));
      openings = subst (λ (legs : List Leg). ListsOpened facts legs now.openings) (sym pushed)
          (subst (λ (t : Tally). ListsOpened facts (tally.legs ++ leg ∷ []) t.openings) (sym others) opened.openings);
      kept = subst (λ (legs : List Leg). KeepsLots known legs now.kept) (sym pushed) kept;
    }
