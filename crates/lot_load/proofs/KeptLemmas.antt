-- What is known between commands: at first, under another key, and once more is learned.
use Rattle.std.specs.Prelude.{◌≡◌, ℕ, List, [], Option, Some, ℤ, pos}
use Rattle.std.specs.FinMap as finite
use Rattle.std.specs.Option.{unwrap_or}
use Rattle.std.specs.List.{AllByRecursion}
use Rattle.std.proofs.Common.{ap, inl, refl, subst, sym, ◌∙◌}
use Rattle.lot_inv.specs.Inventory.{position_cmp, units_at}
use Rattle.lot_book.specs.Facts.{Entry, Facts}
use Rattle.lot_book.specs.Openings.{FactsWithOpenings}
use Rattle.lot_book.specs.Recorded.{facts_in, nothing_but}
use Rattle.lot_view.specs.declared.touched.Touched.{Touched}
use Rattle.lot_load.specs.Kept.{Covers, Keeps, seen, seen_with_openings}
use Rattle.lot_load.specs.Known.{IsPart, KnowsOpenings, KnowsTouched, Learns, said_by, turned_to}
use Rattle.lot_load.specs.declared.kept.Kept.{Kept}
use Rattle.lot_load.proofs.LearnLemmas.{fills_then}
use Rattle.lot_load.proofs.PutLemmas.{both_put}
use Rattle.lot_load.proofs.WholeLemmas.{Gains, Lacks, knows_added, knows_touched, touched_stays}

-- ---- nothing but the number of entries

pub nothing_is_part : (book : Facts) (entries : ℕ) → IsPart book (nothing_but entries)
nothing_is_part book entries = record {
  standing = λ account. inl refl;
  is_declared = λ commodity. inl refl;
  latest_at_cost = λ account commodity. inl refl;
  held = λ account position. inl refl;
}

-- nothing is held, so no lot is known
pub nothing_opened : (book known : FactsWithOpenings) (entries : ℕ) → known.facts ≡ nothing_but entries → KnowsOpenings book known
nothing_opened book known entries is account commodity lot some =
    absurd (some (ap (λ (f : Facts). units_at (f.held account) (commodity, Some lot)) is
    ∙ ap (λ (o : Option ℤ). unwrap_or o (pos 0)) (finite.get-empty position_cmp (commodity, Some lot))))

each_of_none : {K : Type 0} (P : K → Type 0) (keys : List K) → keys ≡ [] → AllByRecursion P keys
each_of_none P keys none = subst (AllByRecursion P) (sym none) tt

pub nothing_whole : (whole : Touched) (book known : Facts) → whole.accounts.keys ≡ [] → whole.declared.keys ≡ [] → whole.pairs.keys ≡ []
    → whole.plain.keys ≡ [] → KnowsTouched whole book known
nothing_whole whole book known accounts declared pairs plain = (
  each_of_none _ whole.accounts.keys accounts,
  each_of_none _ whole.declared.keys declared,
  each_of_none _ whole.pairs.keys pairs,
  each_of_none _ whole.plain.keys plain,
)

-- ---- another text

part_turned : (text : Option (List ℕ)) (book facts : Facts) → IsPart book facts → IsPart book (turned_to text facts)
part_turned text book facts part = record {
  standing = part.standing;
  is_declared = part.is_declared;
  latest_at_cost = part.latest_at_cost;
  held = part.held;
}

pub keeps_turned : (before after : Kept) (text : Option (List ℕ)) (entries : List Entry) → seen after ≡ turned_to text (seen before)
    → (seen_with_openings after).opening ≡ (seen_with_openings before).opening → after.whole ≡ before.whole → Keeps before entries
    → Keeps after entries
keeps_turned before after text entries turned numbers whole keeps = record {
  count = ap (λ (f : Facts). f.entries) turned ∙ keeps.count;
  part = subst (IsPart (facts_in entries)) (sym turned) (part_turned text (facts_in entries) (seen before) keeps.part);
  openings = subst (KnowsOpenings (said_by entries)) (sym (both_put (seen_with_openings after) (seen_with_openings before).opening
      (turned_to text (seen before)) turned numbers)) keeps.openings;
  whole = subst (λ (t : Touched). KnowsTouched t (facts_in entries) (seen after)) (sym whole)
      (subst (KnowsTouched before.whole (facts_in entries)) (sym turned) keeps.whole);
}

-- ---- more is learned

pub covers_learned : (before after : Kept) (touched others : Touched) (entries : List Entry) → Lacks before.whole touched others
    → Gains before.whole others after.whole
    → Learns (KnowsTouched others) (said_by entries) (seen_with_openings before) (seen_with_openings after)
    → Keeps before entries → Covers touched entries before after
covers_learned before after touched others entries lacks gains learns keeps =
    let book = facts_in entries in
    let old = touched_stays before.whole book (seen before) (seen after) learns.fills keeps.whole in
    let new = learns.knows keeps.part in record {
      text = learns.text;
      knows = knows_touched book (seen after) before.whole touched others lacks old new;
      keeps = record {
        count = learns.entries ∙ keeps.count;
        part = fills_then book (nothing_but 0) (seen before) (seen after) keeps.part learns.fills;
        openings = learns.openings keeps.openings;
        whole = knows_added book (seen after) before.whole others after.whole gains old new;
      };
    }
