-- Steps by which more is known of a book: one after another, and over the keys of a set or the rows of a table.
use Rattle.std.specs.Prelude.{◌≡◌, ℕ, List, [], ◌∷◌, Option, Some, None}
use Rattle.std.proofs.Common.{refl, ◌∙◌, inl, inr}
use Rattle.lot_inv.specs.Inventory.{Position}
use Rattle.lot_cost.specs.declared.lot_key.LotKey.{LotKey}
use Rattle.lot_book.specs.Facts.{Facts}
use Rattle.lot_book.specs.Openings.{FactsWithOpenings}
use Rattle.lot_book.specs.declared.change.Pair.{Pair}
use Rattle.lot_load.specs.Known.{Fills, IsKept, IsPart, KnowsAt, KnowsDeclared, KnowsEach, KnowsHead, KnowsLots, KnowsOpenings, KnowsPair, KnowsPlain, KnowsStanding, Learns}

-- ---- facts that are kept

kept_then : {X : Type 0} (book a b c : X) → IsKept book a b → IsKept book b c → IsKept book a c
kept_then book a b c one (inr new) = inr new
kept_then book a b c (inl old) (inl same) = inl (same ∙ old)
kept_then book a b c (inr old) (inl same) = inr (same ∙ old)

-- what is as the book says stays so
known_still : {X : Type 0} (book a b : X) → IsKept book a b → a ≡ book → b ≡ book
known_still book a b (inl same) known = same ∙ known
known_still book a b (inr new) known = new

pub fills_none : (book known : Facts) → Fills book known known
fills_none book known = record {
  standing = λ account. inl refl;
  is_declared = λ commodity. inl refl;
  latest_at_cost = λ account commodity. inl refl;
  held = λ account position. inl refl;
}

pub fills_then : (book a b c : Facts) → Fills book a b → Fills book b c → Fills book a c
fills_then book a b c one two = record {
  standing = λ account. kept_then _ _ _ _ (one.standing account) (two.standing account);
  is_declared = λ commodity. kept_then _ _ _ _ (one.is_declared commodity) (two.is_declared commodity);
  latest_at_cost = λ account commodity. kept_then _ _ _ _ (one.latest_at_cost account commodity) (two.latest_at_cost account commodity);
  held = λ account position. kept_then _ _ _ _ (one.held account position) (two.held account position);
}

-- ---- what is known stays known

-- what is known of a book is known later too
abbrev pub Stays : (Facts → Facts → Type 0) → Type 0
Stays Knows = (book known later : Facts) → Fills book known later → Knows book known → Knows book later

pub standing_stays : (account : List ℕ) → Stays (KnowsStanding account)
standing_stays account book known later fills knows = known_still _ _ _ (fills.standing account) knows

pub declared_stays : (commodity : List ℕ) → Stays (KnowsDeclared commodity)
declared_stays commodity book known later fills knows = known_still _ _ _ (fills.is_declared commodity) knows

pub head_stays : (account commodity : List ℕ) → Stays (KnowsHead account commodity)
head_stays account commodity book known later fills knows = known_still _ _ _ (fills.latest_at_cost account commodity) knows

pub at_stays : (account : List ℕ) (position : Position) → Stays (KnowsAt account position)
at_stays account position book known later fills knows = known_still _ _ _ (fills.held account position) knows

pub lots_stay : (account commodity : List ℕ) → Stays (KnowsLots account commodity)
lots_stay account commodity book known later fills knows lot = at_stays account (commodity, Some lot) book known later fills (knows lot)

pub pair_stays : (pair : Pair) → Stays (KnowsPair pair)
pair_stays pair book known later fills knows = (
  head_stays pair.account pair.commodity book known later fills knows.0,
  (λ lot. at_stays pair.account (pair.commodity, lot) book known later fills (knows.1 lot)),
)

pub plain_stays : (account : List ℕ) → Stays (KnowsPlain account)
plain_stays account book known later fills knows commodity = at_stays account (commodity, None) book known later fills (knows commodity)

pub each_stays : {K : Type 0} (Knows : K → Facts → Facts → Type 0) → ((key : K) → Stays (Knows key)) → (keys : List K) → Stays (KnowsEach Knows keys)
each_stays Knows stay [] book known later fills knows = tt
each_stays Knows stay (key ∷ keys) book known later fills knows =
    (stay key book known later fills knows.0, each_stays Knows stay keys book known later fills knows.1)

-- ---- steps

-- what is known of some is known of others
pub learns_as : (Knows Others : Facts → Facts → Type 0) (book before after : FactsWithOpenings)
    → (IsPart book.facts before.facts → IsPart book.facts after.facts → Knows book.facts after.facts → Others book.facts after.facts) → Learns Knows book before after → Learns Others book before after
learns_as Knows Others book before after more step = record {
  entries = step.entries;
  text = step.text;
  fills = step.fills;
  openings = step.openings;
  knows = λ part. more part (fills_then book.facts _ before.facts after.facts part step.fills) (step.knows part);
}

pub learns_both : (Knows Others : Facts → Facts → Type 0) (book a b c : FactsWithOpenings) → Stays Knows → Learns Knows book a b → Learns Others book b c
    → Learns (λ what known. Knows what known × Others what known) book a c
learns_both Knows Others book a b c stay one two = record {
  entries = two.entries ∙ one.entries;
  text = two.text ∙ one.text;
  fills = fills_then book.facts a.facts b.facts c.facts one.fills two.fills;
  openings = λ had. two.openings (one.openings had);
  knows = λ part.
      (stay book.facts b.facts c.facts two.fills (one.knows part), two.knows (fills_then book.facts _ a.facts b.facts part one.fills));
}

-- ---- loops

-- once those that are left are known, all are
pub record IsLeft {K : Type 0} (Knows : K → Facts → Facts → Type 0) (keys left : List K) (book before now : FactsWithOpenings) : Type 0 where
  pub entries : now.facts.entries ≡ before.facts.entries
  pub text : now.facts.text ≡ before.facts.text
  pub fills : Fills book.facts before.facts now.facts
  pub openings : KnowsOpenings book before → KnowsOpenings book now
  pub rest : IsPart book.facts before.facts → (later : Facts) → Fills book.facts now.facts later → KnowsEach Knows left book.facts later
      → KnowsEach Knows keys book.facts later

module _ {K : Type 0} (Knows : K → Facts → Facts → Type 0) where
  pub left_all : (keys : List K) (book before : FactsWithOpenings) → IsLeft Knows keys keys book before before
  left_all keys book before = record {
    entries = refl;
    text = refl;
    fills = fills_none book.facts before.facts;
    openings = λ had. had;
    rest = λ part later fills all. all;
  }

  pub left_more : ((key : K) → Stays (Knows key)) → (keys rest : List K) (key : K) (book before now next : FactsWithOpenings)
      → IsLeft Knows keys (key ∷ rest) book before now → Learns (Knows key) book now next → IsLeft Knows keys rest book before next
  left_more stay keys rest key book before now next was step = record {
    entries = step.entries ∙ was.entries;
    text = step.text ∙ was.text;
    fills = fills_then book.facts before.facts now.facts next.facts was.fills step.fills;
    openings = λ had. step.openings (was.openings had);
    rest = λ part later fills all.
        was.rest part later (fills_then book.facts now.facts next.facts later step.fills fills)
        (stay key book.facts next.facts later fills (step.knows (fills_then book.facts _ before.facts now.facts part was.fills)), all);
  }

  pub left_none : (keys : List K) (book before now : FactsWithOpenings) → IsLeft Knows keys [] book before now → Learns (KnowsEach Knows keys) book before now
  left_none keys book before now was = record {
    entries = was.entries;
    text = was.text;
    fills = was.fills;
    openings = was.openings;
    knows = λ part. was.rest part now.facts (fills_none book.facts now.facts) tt;
  }

-- ---- an account and a commodity

pub pair_known : (pair : Pair) (book known : Facts) → KnowsHead pair.account pair.commodity book known → KnowsLots pair.account pair.commodity book known
    → KnowsAt pair.account (pair.commodity, None) book known → KnowsPair pair book known
pair_known pair book known head lots plain = (head, each)
  where
    each : (lot : Option LotKey) → KnowsAt pair.account (pair.commodity, lot) book known
    each None = plain
    each (Some lot) = lots lot

pub both_stay : (Knows Others : Facts → Facts → Type 0) → Stays Knows → Stays Others → Stays (λ book known. Knows book known × Others book known)
both_stay Knows Others one two book known later fills knows = (one book known later fills knows.0, two book known later fills knows.1)
