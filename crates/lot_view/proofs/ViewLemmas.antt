-- What a view knows once one of its maps has changed.
use Rattle.std.specs.Prelude.{◌≡◌, ℕ, Bool, true, false, cond, ◌&&◌, ◌||◌, List, [], ◌∷◌, Option, None, Some, ℤ, option_and_then, IsSome, is_some, ◌+ℤ◌}
use Rattle.std.specs.BTreeMap.{BTreeMap, get, is_at}
use Rattle.std.specs.Map.{keys_of, lookup}
use Rattle.std.specs.BTreeSet.{BTreeSet, contains}
use Rattle.std.specs.Cmp.Lexicographic.{texts_ties}
use Rattle.std.specs.List.Sorted.{IsStrictlySortedBy}
use Rattle.std.specs.Option.{option_map, option_or, unwrap_or}
use Rattle.std.specs.Ordering.{is_eq}
use Rattle.std.proofs.Common.{refl, sym, ap, ◌∙◌}
use Rattle.lot_base.specs.Text.{same_text, text_cmp}
use Rattle.std.proofs.lemmas.Map.Keys.{sorted_head}
use Rattle.lot_base.proofs.MapLemmas.{none_below}
use Rattle.lot_base.proofs.TextLemmas.{one_text, same_text-ordered}
use Rattle.lot_cost.proofs.OrderLemmas.{eq_then}
use Rattle.lot_command.specs.declared.command.Opening.{Opening}
use Rattle.lot_book.specs.declared.change.Pair.{Pair}
use Rattle.lot_inv.specs.Inventory.{Position, Stock, added, nothing, units_at, with_lot, with_units}
use Rattle.lot_book.specs.declared.standing.Standing.{Standing}
use Rattle.lot_book.specs.Facts.{standing_by}
use Rattle.lot_view.specs.View.{day_in, held_in, stock_in}
use Rattle.lot_book.specs.Recorded.{closed_on}
use Rattle.lot_book.specs.Change.{pair_cmp}

pub found-some : {X : Type 0} (o : Option X) (x : X) → Some x ≡ o → IsSome o
found-some o x e = ap is_some (sym e)

-- one key of a map has another value
abbrev pub Sets : {X : Type 0} → BTreeMap (List ℕ) X → BTreeMap (List ℕ) X → List ℕ → X → Type 0
Sets old new key value =
    (other : List ℕ) → get text_cmp new other ≡ cond (is_eq (text_cmp key other)) (Some value) (get text_cmp old other)

pub sets-inserted : {X : Type 0} (old mid new : BTreeMap (List ℕ) X) (key copied : List ℕ) (value : X) → copied ≡ key → mid ≡ old
    → Sets mid new copied value → Sets old new key value
sets-inserted old mid new key copied value e m sets other =
    sets other
    ∙ ap (λ k. cond (is_eq (text_cmp k other)) (Some value) (get text_cmp mid other)) e
    ∙ ap (λ map. cond (is_eq (text_cmp key other)) (Some value) (get text_cmp map other)) m

pub sets-seen : {X : Type 0} (old new : BTreeMap (List ℕ) X) (key : List ℕ) (value : X) → Sets old new key value
    → (other : List ℕ) → get text_cmp new other ≡ cond (same_text other key) (Some value) (get text_cmp old other)
sets-seen old new key value sets other =
    sets other ∙ ap (λ b. cond b (Some value) (get text_cmp old other)) (same_text-ordered key other)

-- ---- days at cost

-- the day of a commodity among those of an account, where there are some
abbrev pub day_at : Option (BTreeMap (List ℕ) ℤ) → List ℕ → Option ℤ
day_at days commodity = option_and_then (λ ds. get text_cmp ds commodity) days

pub day_set : (old new : BTreeMap (List ℕ) (BTreeMap (List ℕ) ℤ)) (account commodity : List ℕ) (day : ℤ)
    (days : BTreeMap (List ℕ) ℤ) (at : Option (BTreeMap (List ℕ) ℤ))
    → at ≡ get text_cmp old account
    → ((what : List ℕ) → get text_cmp days what ≡ cond (is_eq (text_cmp commodity what)) (Some day) (day_at at what))
    → Sets old new account days
    → (other what : List ℕ)
    → day_in new other what ≡ cond (same_text other account && same_text what commodity) (Some day) (day_in old other what)
day_set old new account commodity day days at is sets changes other what =
    ap (λ o. day_at o what) (sets-seen old new account days changes other) ∙ by (same_text other account) refl
  where
    by : (b : Bool) → same_text other account ≡ b
        → day_at (cond b (Some days) (get text_cmp old other)) what
        ≡ cond (b && same_text what commodity) (Some day) (day_in old other what)
    by true e =
        sets what
        ∙ ap (λ b. cond b (Some day) (day_at at what)) (same_text-ordered commodity what)
        ∙ ap (λ o. cond (same_text what commodity) (Some day) (day_at o what))
        (is ∙ ap (get text_cmp old) (sym (one_text other account e)))
    by false e = refl

pub day_kept : (old new : BTreeMap (List ℕ) (BTreeMap (List ℕ) ℤ)) (account : List ℕ) (days : BTreeMap (List ℕ) ℤ)
    (at : Option (BTreeMap (List ℕ) ℤ))
    → at ≡ get text_cmp old account
    → ((what : List ℕ) → get text_cmp days what ≡ day_at at what)
    → Sets old new account days
    → (other what : List ℕ) → day_in new other what ≡ day_in old other what
day_kept old new account days at is same changes other what =
    ap (λ o. day_at o what) (sets-seen old new account days changes other) ∙ by (same_text other account) refl
  where
    by : (b : Bool) → same_text other account ≡ b
        → day_at (cond b (Some days) (get text_cmp old other)) what ≡ day_in old other what
    by true e = same what ∙ ap (λ o. day_at o what) (is ∙ ap (get text_cmp old) (sym (one_text other account e)))
    by false e = refl

-- an account's days with another day for one commodity
pub days_set : (old new : BTreeMap (List ℕ) ℤ) (commodity copied : List ℕ) (day : ℤ) → copied ≡ commodity
    → Sets old new copied day
    → (what : List ℕ) → get text_cmp new what ≡ cond (is_eq (text_cmp commodity what)) (Some day) (day_at (Some old) what)
days_set old new commodity copied day e sets = sets-inserted old old new commodity copied day e refl sets

pub days_kept : (old new : BTreeMap (List ℕ) ℤ) → new.entries ≡ old.entries → (what : List ℕ)
    → get text_cmp new what ≡ day_at (Some old) what
days_kept old new same what = ap (lookup (is_at (text_cmp what))) same

pub days_new : (old new : BTreeMap (List ℕ) ℤ) (commodity copied : List ℕ) (day : ℤ) → old.entries ≡ [] → copied ≡ commodity
    → Sets old new copied day
    → (what : List ℕ) → get text_cmp new what ≡ cond (is_eq (text_cmp commodity what)) (Some day) (day_at None what)
days_new old new commodity copied day nothing e sets what =
    sets-inserted old old new commodity copied day e refl sets what
    ∙ ap (λ rows. cond (is_eq (text_cmp commodity what)) (Some day) (lookup (is_at (text_cmp what)) rows)) nothing

-- ---- inventories

-- one position of one account has other units, and a lot there that opening number
abbrev pub SetsLot : BTreeMap (List ℕ) Stock → BTreeMap (List ℕ) Stock → List ℕ → Position → ℤ → ℕ → Type 0
SetsLot old new account position units opening =
    (other : List ℕ) → stock_in new other
    ≡ cond (same_text other account) (with_lot (stock_in old other) position units opening) (stock_in old other)

pub stock_set : (old new : BTreeMap (List ℕ) Stock) (account : List ℕ) (position : Position) (units : ℤ) (opening : ℕ)
    (inventory : Stock) (at : Option Stock)
    → at ≡ get text_cmp old account
    → inventory ≡ with_lot (unwrap_or at nothing) position units opening
    → Sets old new account inventory
    → SetsLot old new account position units opening
stock_set old new account position units opening inventory at is sets changes other =
    ap (λ (o : Option Stock). unwrap_or o nothing) (sets-seen old new account inventory changes other)
    ∙ by (same_text other account) refl
  where
    by : (b : Bool) → same_text other account ≡ b
        → unwrap_or (cond b (Some inventory) (get text_cmp old other)) nothing
        ≡ cond b (with_lot (stock_in old other) position units opening) (stock_in old other)
    by true e = sets ∙ ap (λ (o : Option Stock). with_lot (unwrap_or o nothing) position units opening)
        (is ∙ ap (get text_cmp old) (sym (one_text other account e)))
    by false e = refl

pub stock_kept : (old new : BTreeMap (List ℕ) Stock) (account : List ℕ) (inventory : Stock) (at : Option Stock)
    → at ≡ get text_cmp old account
    → inventory ≡ unwrap_or at nothing
    → Sets old new account inventory
    → (other : List ℕ) → stock_in new other ≡ stock_in old other
stock_kept old new account inventory at is same changes other =
    ap (λ (o : Option Stock). unwrap_or o nothing) (sets-seen old new account inventory changes other)
    ∙ by (same_text other account) refl
  where
    by : (b : Bool) → same_text other account ≡ b
        → unwrap_or (cond b (Some inventory) (get text_cmp old other)) nothing ≡ stock_in old other
    by true e = same ∙ ap (λ (o : Option Stock). unwrap_or o nothing) (is ∙ ap (get text_cmp old) (sym (one_text other account e)))
    by false e = refl

-- the units that are held then
pub held_set : (old new : BTreeMap (List ℕ) Stock) (account : List ℕ) (position : Position) (units : ℤ) (opening : ℕ)
    → SetsLot old new account position units opening
    → (other : List ℕ) → held_in new other
    ≡ cond (same_text other account) (with_units (held_in old other) position units) (held_in old other)
held_set old new account position units opening sets other =
    ap (λ (stock : Stock). stock.held) (sets other) ∙ by (same_text other account)
  where
    by : (b : Bool) → (cond b (with_lot (stock_in old other) position units opening) (stock_in old other)).held
        ≡ cond b (with_units (held_in old other) position units) (held_in old other)
    by true = refl
    by false = refl

-- units are added where their sum is set
pub held_added : (old new : BTreeMap (List ℕ) Stock) (account : List ℕ) (position : Position) (units sum : ℤ) (opening : ℕ)
    → sum ≡ units_at (held_in old account) position +ℤ units
    → SetsLot old new account position sum opening
    → (other : List ℕ) → held_in new other
    ≡ cond (same_text other account) (added (held_in old other) position units) (held_in old other)
held_added old new account position units sum opening is sets other =
    held_set old new account position sum opening sets other ∙ by (same_text other account) refl
  where
    by : (b : Bool) → same_text other account ≡ b
        → cond b (with_units (held_in old other) position sum) (held_in old other)
        ≡ cond b (added (held_in old other) position units) (held_in old other)
    by true e = ap (with_units (held_in old other) position)
        (is ∙ ap (λ a. units_at (held_in old a) position +ℤ units) (sym (one_text other account e)))
    by false e = refl

-- ---- commodities that are declared

pub declared_set : (old new : BTreeSet (List ℕ)) (commodity copied : List ℕ) → copied ≡ commodity
    → ((other : List ℕ) → contains text_cmp new other ≡ cond (is_eq (text_cmp copied other)) true (contains text_cmp old other))
    → (other : List ℕ) → contains text_cmp new other ≡ (same_text other commodity || contains text_cmp old other)
declared_set old new commodity copied e sets other =
    sets other
    ∙ ap (λ k. cond (is_eq (text_cmp k other)) true (contains text_cmp old other)) e
    ∙ ap (λ b. cond b true (contains text_cmp old other)) (same_text-ordered commodity other)
    ∙ by (same_text other commodity)
  where
    by : (b : Bool) → cond b true (contains text_cmp old other) ≡ (b || contains text_cmp old other)
    by true = refl
    by false = refl

-- ---- standings

pub opened_set : (old new : BTreeMap (List ℕ) Standing) (o : Opening) (account : List ℕ) (allowed : List (List ℕ))
    → account ≡ o.account → allowed ≡ o.currencies
    → Sets old new account (record { opened = o.day; closed = None; method = o.method; allowed = allowed })
    → (other : List ℕ) → get text_cmp new other
    ≡ cond (same_text other o.account) (Some (standing_by None o)) (get text_cmp old other)
opened_set old new o account allowed named same sets other =
    let with_allowed : List (List ℕ) → Standing = λ a. record { opened = o.day; closed = None; method = o.method; allowed = a } in
    sets-seen old new account (with_allowed allowed) sets other
    ∙ ap (λ a. cond (same_text other a) (Some (with_allowed allowed)) (get text_cmp old other)) named
    ∙ ap (λ a. cond (same_text other o.account) (Some (with_allowed a)) (get text_cmp old other)) same

pub closed_set : (old new : BTreeMap (List ℕ) Standing) (account : List ℕ) (day : ℤ) (was now : Standing)
    → Some was ≡ get text_cmp old account → now ≡ closed_on day was → Sets old new account now
    → (other : List ℕ) → get text_cmp new other
    ≡ cond (same_text other account) (option_map (closed_on day) (get text_cmp old other)) (get text_cmp old other)
closed_set old new account day was now at is sets other =
    sets-seen old new account now sets other ∙ by (same_text other account) refl
  where
    by : (b : Bool) → same_text other account ≡ b
        → cond b (Some now) (get text_cmp old other)
        ≡ cond b (option_map (closed_on day) (get text_cmp old other)) (get text_cmp old other)
    by true e = ap Some is ∙ ap (option_map (closed_on day)) (at ∙ ap (get text_cmp old) (sym (one_text other account e)))
    by false e = refl

-- ---- the days that are listed

pub pair-seen : (p q : Pair) → is_eq (pair_cmp p q) ≡ (same_text p.account q.account && same_text p.commodity q.commodity)
pair-seen p q =
    eq_then (text_cmp p.account q.account) (text_cmp p.commodity q.commodity)
    ∙ (λ i. sym (texts_ties p.account q.account) i && sym (texts_ties p.commodity q.commodity) i)

one_pair : (p q : Pair) → (same_text p.account q.account && same_text p.commodity q.commodity) ≡ true → p ≡ q
one_pair p q e =
    let account : p.account ≡ q.account =
    one_text p.account q.account (first_true (same_text p.account q.account) (same_text p.commodity q.commodity) e) in
    let commodity : p.commodity ≡ q.commodity =
    one_text p.commodity q.commodity (second_true (same_text p.account q.account) (same_text p.commodity q.commodity) e) in
    λ i. record { account = account i; commodity = commodity i }
  where
    first_true : (a b : Bool) → (a && b) ≡ true → a ≡ true
    first_true true b e = refl
    first_true false b e = e

    second_true : (a b : Bool) → (a && b) ≡ true → b ≡ true
    second_true true b e = e
    second_true false b e = cc

-- once the first day is kept, the others are still to be
pub days-turn : (k : Pair) (day : ℤ) (rows : List (Pair × ℤ)) (had now : Option ℤ) (p : Pair)
    → IsStrictlySortedBy pair_cmp (k ∷ keys_of rows)
    → now ≡ cond (same_text p.account k.account && same_text p.commodity k.commodity) (Some day) had
    → option_or (lookup (is_at (pair_cmp p)) rows) now ≡ option_or (lookup (is_at (pair_cmp p)) ((k, day) ∷ rows)) had
days-turn k day rows had now p sorted is = by (same_text p.account k.account && same_text p.commodity k.commodity) refl
  where
    by : (b : Bool) → (same_text p.account k.account && same_text p.commodity k.commodity) ≡ b
        → option_or (lookup (is_at (pair_cmp p)) rows) now
        ≡ option_or (cond (is_eq (pair_cmp p k)) (Some day) (lookup (is_at (pair_cmp p)) rows)) had
    by true e =
        let gone : lookup (is_at (pair_cmp p)) rows ≡ None =
        ap (λ q. lookup (is_at (pair_cmp q)) rows) (one_pair p k e)
        ∙ none_below pair_cmp k rows (sorted_head pair_cmp k (keys_of rows) sorted) in
        let here : is_eq (pair_cmp p k) ≡ true = pair-seen p k ∙ e in
        rw (gone, is, e, here) refl
    by false e =
        let apart : is_eq (pair_cmp p k) ≡ false = pair-seen p k ∙ e in
        rw (is, e, apart) refl
