-- The legs of a book as a register lists them: in the order of days, each with the narration of its entry (docs/FORMATS.md,
-- Register).
use denote.Ref.{Bor}
use Rattle.std.specs.Prelude.{◌≡◌, ℕ, ℤ, ◌==◌, ◌&&◌, Bool, true, IsTrue, if◌then◌else◌, codes, List, [], ◌∷◌, ◌++◌, filter, flat_map, map, Option, None, Some, option_map}
use Rattle.std.specs.List.{before_first, ends_with, starts_with}
use Rattle.std.specs.Ordering.{int_cmp, is_eq}
use Rattle.std.specs.declared.cmp.Ordering.{Ordering}
use Rattle.sqlite.specs.Tree.{IsAscending}
use Rattle.sqlite_keyed.specs.Lists.{sort_by}
use Rattle.lot_base.specs.Text.{same_text}
use Rattle.lot_num.specs.Sum.{sum_of}
use Rattle.lot_command.specs.Canonical.{canonical}
use Rattle.lot_command.specs.Sayable.{IsSayable}
use Rattle.lot_command.specs.declared.command.Command.{Command}
use Rattle.lot_command.specs.declared.command.Command.TheVariants.{Closing, Declaring, Opening, Quoting, Transaction}
use Rattle.lot_command.specs.declared.transaction.Narration.{Narration}
use Rattle.lot_book.specs.Change.{pair_cmp}
use Rattle.lot_book.specs.Facts.{Entry, legs_of}
use Rattle.lot_book.specs.declared.change.Pair.{Pair}
use Rattle.lot_book.specs.declared.leg.Leg.{Leg}
use Rattle.lot_legs.specs.Legs.{dated_legs_of, day_of, is_by}
use Rattle.lot_legs.specs.declared.leg.DatedLeg.{DatedLeg}
use Rattle.lot_register.specs.declared.leg.NotedLeg.{NotedLeg}
use Rattle.lot_walk.specs.Gains.{is_up_to}
use Rattle.lot_noted.specs.declared.scope.RegisterScope.{RegisterScope}

-- ---- legs with what their entry says

-- the narration of a command: only a transaction has one
abbrev pub narration_of : Command → Option (List ℕ)
narration_of (Opening o) = None
narration_of (Closing c) = None
narration_of (Declaring d) = None
narration_of (Quoting q) = None
narration_of (Transaction t) = option_map (λ (n : Narration). n.text) t.narration

abbrev pub is_line_end : ℕ → Bool
is_line_end b = b == 10

-- the first line of a text, with its end
abbrev pub first_line : List ℕ → List ℕ
first_line text = before_first is_line_end text ++ 10 ∷ []

-- the first line of a text is the canonical text of a command with that narration: of a transaction it is that without postings
abbrev pub Narrates : List ℕ → Option (List ℕ) → Type 0
Narrates text narration = (command : Command) × IsSayable command × (first_line text ≡ canonical command) × (narration ≡ narration_of command)

abbrev pub noted : Option (List ℕ) → DatedLeg → NotedLeg
noted narration leg = record {
  day = leg.day;
  entry = leg.entry;
  posting = leg.posting;
  place = leg.place;
  account = leg.account;
  commodity = leg.commodity;
  units = leg.units;
  lot = leg.lot;
  narration = narration;
}

-- the leg without the narration
abbrev pub bare : NotedLeg → DatedLeg
bare leg = record {
  entry = leg.entry;
  day = leg.day;
  posting = leg.posting;
  place = leg.place;
  account = leg.account;
  commodity = leg.commodity;
  units = leg.units;
  lot = leg.lot;
}

-- the legs of an entry, in the order of its postings
abbrev pub noted_legs_of : Entry → List NotedLeg
noted_legs_of entry = map (noted (narration_of entry.command)) (dated_legs_of entry)

-- the legs of all entries, in their order
abbrev pub noted_legs : List Entry → List NotedLeg
noted_legs entries = flat_map noted_legs_of entries

-- ---- which are asked for

-- a text names an account; with a colon at its end it names all whose names begin with it
abbrev pub is_of : List ℕ → List ℕ → Bool
is_of asked account = if ends_with ◌==◌ asked (codes ":") then starts_with ◌==◌ account asked else same_text account asked

-- the accounts that a text names, a commodity or all of them, and the last day
pub record Asked : Type 0 where
  pub account : List ℕ
  pub commodity : Option (List ℕ)
  pub last : Option ℤ

abbrev pub asked_in : RegisterScope → Asked
asked_in scope = record {
  account = scope.account.now;
  commodity = option_map (λ (text : Bor (List ℕ)). text.now) scope.commodity;
  last = scope.last;
}

abbrev pub is_commodity : Option (List ℕ) → List ℕ → Bool
is_commodity None commodity = true
is_commodity (Some asked) commodity = same_text commodity asked

abbrev pub has : Asked → List ℕ → List ℕ → ℤ → Bool
has asked account commodity day = is_of asked.account account && (is_commodity asked.commodity commodity && is_up_to asked.last day)

abbrev pub is_asked : Asked → NotedLeg → Bool
is_asked asked leg = has asked leg.account leg.commodity leg.day

-- ---- in which order

abbrev pub day_cmp : NotedLeg → NotedLeg → Ordering
day_cmp a b = int_cmp a.day b.day

-- in the order of days; those of one day stay in the order of entries
abbrev pub by_day : List NotedLeg → List NotedLeg
by_day legs = sort_by day_cmp legs

-- the legs of a register
abbrev pub register_legs : Asked → List Entry → List NotedLeg
register_legs asked entries = by_day (filter (is_asked asked) (noted_legs entries))

-- ---- days that never fall

-- the days of entries, in the order of the entries
abbrev pub days_of : List Entry → List ℤ
days_of entries = map (λ (entry : Entry). day_of entry.command) entries

-- no day is before one that stands before it
abbrev pub NeverFall : List ℤ → Type 0
NeverFall days = IsAscending (λ (day later : ℤ). IsTrue (is_by later day)) days

-- ---- laws

-- all legs of an account and a commodity, whenever and whyever they were booked
abbrev pub pair_of : Leg → Pair
pair_of leg = record { account = leg.position.account; commodity = leg.position.commodity }

abbrev pub units_booked : List Entry → Pair → ℤ
units_booked entries pair =
    sum_of (map (λ (leg : Leg). leg.units) (filter (λ (leg : Leg). is_eq (pair_cmp pair (pair_of leg))) (legs_of entries)))
