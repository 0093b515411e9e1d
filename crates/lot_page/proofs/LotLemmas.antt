-- The pages of the table `lot`.
use Rattle.std.proofs.Common.{inl, inr, ◌⊎◌, ◌≡◌, ◌≤◌, ℕ, zero, suc, Bool, false, true, not, None, Result, Vec, filter, length, map, ◌+ℤ◌, pos, List, [], ◌∷◌, ◌++◌, ◌&&◌, codes, refl, ap, ◌∙◌, arith, is_eq}
use Rattle.std.specs.List.{list_all}
use Rattle.std.specs.declared.alloc.Global.{Global}
use Rattle.sqlite.specs.Command.TheVariants.{Select}
use Rattle.sqlite.specs.Listing.{reads_listing, understood}
use Rattle.sqlite.specs.Order.{Row}
use Rattle.sqlite.specs.State.{State}
use Rattle.sqlite.specs.Term.{Term, holds}
use Rattle.sqlite.specs.Tree.{Trees}
use Rattle.sqlite.specs.declared.types.Value.TheVariants.{Int, Text}
use Rattle.sqlite.specs.declared.types.Value.{Value}
use Rattle.sqlite.proofs.Callers.{IsPlain, command_of}
use Rattle.sqlite_typing.specs.Types.{accepts_program}
use Rattle.sqlite_sql.specs.declared.ops.CompareOp.TheVariants.{Ge, Gt}
use Rattle.sqlite_tied.specs.Compute.{everything}
use Rattle.sqlite_value.specs.Keys.{rising}
use Rattle.sqlite_value.specs.Order.{value_cmp}
use Rattle.lot_page.specs.Page.{Pages, PagesOf, page_rows, is_from, level}
use Rattle.lot_page.specs.Rise.{lots_rise}
use Rattle.lot_page.proofs.LevelLemmas.{Mounts, mounts, terms, terms_level, terms_reach}
use Rattle.lot_page.proofs.NextLemmas.{not_shorter, past_number, past_text}
use Rattle.lot_page.proofs.PageLemmas.{Asks, TakesBy, answers, asking, paged}
use Rattle.lot_page.proofs.WalkLemmas.{from_all, pages_so}
use Rattle.lot_rows.proofs.LotLemmas.{names, order, shows}
use Rattle.lot_rows.specs.Lot.{lot_cells}
use Rattle.lot_rows.specs.Tables.{Tables, layout, lot_table}
use Rattle.lot_rows.specs.declared.lot.LotRow.{LotRow}
use Rattle.lot_table.specs.Book.{Holds}
use Rattle.lot_table.specs.Statement.{IsSelect}
use Rattle.lot_table.proofs.RefusalLemmas.{IsWhole}
use Rattle.lot_table.specs.declared.fault.Fault.{Fault}
use Rattle.lot_table.specs.Cell.{label_text}

-- a text that asks for lots in the order of their key
asks : {K : Type 0} (key : K → Row) (passes : K → Row → Bool) (tests : List Term) (text : List ℕ)
    → command_of (understood layout.schema text) ≡ Select (record { lets = []; body = paged lot_table.table.tree tests shows order }) names
    → reads_listing layout.schema text ≡ false → IsPlain (understood layout.schema text) → ((k : K) → IsWhole text (length (asking page_rows (key k))) (understood layout.schema text)) → IsSelect text
    → ((k : K) (v : Value) (x : LotRow) → list_all (holds (asking page_rows (key k) ∷ (v ∷ lot_cells x) ∷ [])) tests ≡ passes k (lot_cells x))
    → ((k : K) → accepts_program layout.schema [] (paged lot_table.table.tree tests shows order) (asking page_rows (key k)) ≡ true)
    → Asks lot_table key passes page_rows tests shows order names text
asks key passes tests text means unlisted bare whole selects picks typed = record {
  means = means;
  unlisted = unlisted;
  bare = bare;
  whole = whole;
  selects = selects;
  held = λ _ _ holds. holds.held.1.1.1.1.1.1.1.1.0;
  present = λ _. (refl, (refl, (refl, (refl, (refl, (refl, tt))))));
  picks = picks;
  blind = λ _ _ _ _. refl;
  shown = λ _ _. refl;
  sorts = λ _ _ _ _. refl;
  typed = typed;
}

-- ---- from a value of one column on

-- where so many columns before it are equal
abbrev pub from_text : ℕ → List ℕ
from_text zero = codes "SELECT account, commodity, cost_day, cost_currency, cost_number, cost_label, units FROM lot WHERE account >= ?2 ORDER BY account, commodity, cost_day, cost_currency, cost_number, cost_label LIMIT ?1"
from_text (suc zero) = codes "SELECT account, commodity, cost_day, cost_currency, cost_number, cost_label, units FROM lot WHERE account = ?2 AND commodity >= ?3 ORDER BY account, commodity, cost_day, cost_currency, cost_number, cost_label LIMIT ?1"
from_text (suc (suc zero)) = codes "SELECT account, commodity, cost_day, cost_currency, cost_number, cost_label, units FROM lot WHERE account = ?2 AND commodity = ?3 AND cost_day >= ?4 ORDER BY account, commodity, cost_day, cost_currency, cost_number, cost_label LIMIT ?1"
from_text (suc (suc (suc zero))) = codes "SELECT account, commodity, cost_day, cost_currency, cost_number, cost_label, units FROM lot WHERE account = ?2 AND commodity = ?3 AND cost_day = ?4 AND cost_currency >= ?5 ORDER BY account, commodity, cost_day, cost_currency, cost_number, cost_label LIMIT ?1"
from_text (suc (suc (suc (suc n)))) = codes "SELECT account, commodity, cost_day, cost_currency, cost_number, cost_label, units FROM lot WHERE account = ?2 AND commodity = ?3 AND cost_day = ?4 AND cost_currency = ?5 AND cost_number >= ?6 ORDER BY account, commodity, cost_day, cost_currency, cost_number, cost_label LIMIT ?1"

-- the columns of a lot, so many, and the first value behind that of the next
abbrev pub next_key : ℕ → LotRow → Row
next_key zero k = Text (k.account ++ 0 ∷ []) ∷ []
next_key (suc zero) k = Text k.account ∷ Text (k.commodity ++ 0 ∷ []) ∷ []
next_key (suc (suc zero)) k = Text k.account ∷ Text k.commodity ∷ Int (k.lot.day +ℤ pos 1) ∷ []
next_key (suc (suc (suc zero))) k = Text k.account ∷ Text k.commodity ∷ Int k.lot.day ∷ Text (k.lot.currency ++ 0 ∷ []) ∷ []
next_key (suc (suc (suc (suc n)))) k = Text k.account ∷ Text k.commodity ∷ Int k.lot.day ∷ Text k.lot.currency ∷ Int (pos k.lot.number +ℤ pos 1) ∷ []

abbrev pub first_key : List ℕ → Row
first_key k = Text k ∷ []

pub asks_first : Asks lot_table first_key (λ k. is_from (Text k)) page_rows (terms Ge 0 0) shows order names (from_text 0)
unfolding understood everything
asks_first =
    asks first_key (λ k. is_from (Text k)) (terms Ge 0 0) (from_text 0) refl refl (refl, refl) (λ _. (omega arith, refl)) (_, refl, refl)
    (λ k v x. terms_reach (Int (pos page_rows)) v (lot_cells x) (first_key k) 0 0 (refl, tt) (refl, tt)) (λ _. refl)

pub asks_from : (n : ℕ) → n ≤ 4 → Asks lot_table (next_key n) (λ k. level n 0 (lot_cells k)) page_rows (terms Ge n 0) shows order names (from_text n)
unfolding understood everything
asks_from zero _ =
    asks (next_key 0) (λ k. level 0 0 (lot_cells k)) (terms Ge 0 0) (from_text 0) refl refl (refl, refl) (λ _. (omega arith, refl)) (_, refl, refl)
    (λ k v x. terms_reach (Int (pos page_rows)) v (lot_cells x) (next_key 0 k) 0 0 (refl, tt) (refl, tt) ∙ past_text x.account k.account) (λ _. refl)
asks_from (suc zero) _ =
    asks (next_key 1) (λ k. level 1 0 (lot_cells k)) (terms Ge 1 0) (from_text 1) refl refl (refl, refl) (λ _. (omega arith, refl)) (_, refl, refl)
    (λ k v x. terms_reach (Int (pos page_rows)) v (lot_cells x) (next_key 1 k) 1 0 (refl, (refl, tt)) (refl, (refl, tt)) ∙ ap (λ b. (is_eq (value_cmp (Text x.account) (Text k.account)) && b)) (past_text x.commodity k.commodity)) (λ _. refl)
asks_from (suc (suc zero)) _ =
    asks (next_key 2) (λ k. level 2 0 (lot_cells k)) (terms Ge 2 0) (from_text 2) refl refl (refl, refl) (λ _. (omega arith, refl)) (_, refl, refl)
    (λ k v x. terms_reach (Int (pos page_rows)) v (lot_cells x) (next_key 2 k) 2 0 (refl, (refl, (refl, tt))) (refl, (refl, (refl, tt))) ∙ ap (λ b. (is_eq (value_cmp (Text x.account) (Text k.account)) && (is_eq (value_cmp (Text x.commodity) (Text k.commodity)) && b))) (past_number x.lot.day k.lot.day)) (λ _. refl)
asks_from (suc (suc (suc zero))) _ =
    asks (next_key 3) (λ k. level 3 0 (lot_cells k)) (terms Ge 3 0) (from_text 3) refl refl (refl, refl) (λ _. (omega arith, refl)) (_, refl, refl)
    (λ k v x. terms_reach (Int (pos page_rows)) v (lot_cells x) (next_key 3 k) 3 0 (refl, (refl, (refl, (refl, tt)))) (refl, (refl, (refl, (refl, tt)))) ∙ ap (λ b. (is_eq (value_cmp (Text x.account) (Text k.account)) && (is_eq (value_cmp (Text x.commodity) (Text k.commodity)) && (is_eq (value_cmp (Int x.lot.day) (Int k.lot.day)) && b)))) (past_text x.lot.currency k.lot.currency)) (λ _. refl)
asks_from (suc (suc (suc (suc zero)))) _ =
    asks (next_key 4) (λ k. level 4 0 (lot_cells k)) (terms Ge 4 0) (from_text 4) refl refl (refl, refl) (λ _. (omega arith, refl)) (_, refl, refl)
    (λ k v x. terms_reach (Int (pos page_rows)) v (lot_cells x) (next_key 4 k) 4 0 (refl, (refl, (refl, (refl, (refl, tt))))) (refl, (refl, (refl, (refl, (refl, tt))))) ∙ ap (λ b. (is_eq (value_cmp (Text x.account) (Text k.account)) && (is_eq (value_cmp (Text x.commodity) (Text k.commodity)) && (is_eq (value_cmp (Int x.lot.day) (Int k.lot.day)) && (is_eq (value_cmp (Text x.lot.currency) (Text k.lot.currency)) && b))))) (past_number (pos x.lot.number) (pos k.lot.number))) (λ _. refl)
asks_from (suc (suc (suc (suc (suc n))))) few = absurd (omega (arith, few))

pub level_takes : (n : ℕ) → n ≤ 4 → (old new : State) (k : LotRow)
    → TakesBy lot_table (next_key n) (λ k. level n 0 (lot_cells k)) page_rows (from_text n) old new k
level_takes n few = answers lot_table (next_key n) (λ k. level n 0 (lot_cells k)) page_rows (terms Ge n 0) shows order names (from_text n) (asks_from n few)

-- each of these numbers of columns
pub cases_4 : (n : ℕ) → n ≤ 4 → (n ≡ 0) ⊎ ((n ≡ 1) ⊎ ((n ≡ 2) ⊎ ((n ≡ 3) ⊎ (n ≡ 4))))
cases_4 zero _ = inl refl
cases_4 (suc zero) _ = inr (inl refl)
cases_4 (suc (suc zero)) _ = inr (inr (inl refl))
cases_4 (suc (suc (suc zero))) _ = inr (inr (inr (inl refl)))
cases_4 (suc (suc (suc (suc zero)))) _ = inr (inr (inr (inr refl)))
cases_4 (suc (suc (suc (suc (suc n))))) few = absurd (omega (arith, few))

-- ---- behind the last column

abbrev pub cost_label_text : List ℕ
cost_label_text = codes "SELECT account, commodity, cost_day, cost_currency, cost_number, cost_label, units FROM lot WHERE account = ?2 AND commodity = ?3 AND cost_day = ?4 AND cost_currency = ?5 AND cost_number = ?6 AND cost_label > ?7 ORDER BY account, commodity, cost_day, cost_currency, cost_number, cost_label LIMIT ?1"

abbrev pub cost_label_key : LotRow → Row
cost_label_key k = Text k.account ∷ Text k.commodity ∷ Int k.lot.day ∷ Text k.lot.currency ∷ Int (pos k.lot.number) ∷ Text (label_text k.lot.label) ∷ []

pub asks_cost_label : Asks lot_table cost_label_key (λ k. level 5 0 (lot_cells k)) page_rows (terms Gt 5 0) shows order names cost_label_text
unfolding understood everything
asks_cost_label =
    asks cost_label_key (λ k. level 5 0 (lot_cells k)) (terms Gt 5 0) cost_label_text refl refl (refl, refl) (λ _. (omega arith, refl)) (_, refl, refl)
    (λ k v x. terms_level (Int (pos page_rows)) v (lot_cells x) (cost_label_key k) 5 0 (refl, (refl, (refl, (refl, (refl, (refl, tt)))))) (refl, (refl, (refl, (refl, (refl, (refl, tt))))))) (λ _. refl)

-- ---- all rows

pub all_lots : (old new : State) (result : Result (Vec Row Global) Fault) → PagesOf lot_cells (λ b. b.lot) page_rows (filter (is_from (Text []))) old new result → Pages lot_cells (λ b. b.lot) 6 page_rows None old new result
all_lots = pages_so lot_cells (λ b. b.lot) page_rows (omega arith) (filter (is_from (Text []))) (λ rows. rows) (from_all lot_cells (λ b. b.lot) page_rows (omega arith) (Text []) (λ x. ap not (not_shorter x.account)))

-- ---- the order by fewer columns

pub mounts_at : (n : ℕ) → n ≤ 5 → (trees : Trees) (tables : Tables) → Holds layout trees tables → Mounts n (map lot_cells tables.lot)
mounts_at zero _ trees tables held = mounts 0 (rising 6 []) (map lot_cells tables.lot) (lots_rise trees tables held)
mounts_at (suc zero) _ trees tables held = mounts 1 (rising 5 []) (map lot_cells tables.lot) (lots_rise trees tables held)
mounts_at (suc (suc zero)) _ trees tables held = mounts 2 (rising 4 []) (map lot_cells tables.lot) (lots_rise trees tables held)
mounts_at (suc (suc (suc zero))) _ trees tables held = mounts 3 (rising 3 []) (map lot_cells tables.lot) (lots_rise trees tables held)
mounts_at (suc (suc (suc (suc zero)))) _ trees tables held = mounts 4 (rising 2 []) (map lot_cells tables.lot) (lots_rise trees tables held)
mounts_at (suc (suc (suc (suc (suc zero))))) _ trees tables held = mounts 5 (rising 1 []) (map lot_cells tables.lot) (lots_rise trees tables held)
mounts_at (suc (suc (suc (suc (suc (suc n)))))) few trees tables held = absurd (omega (arith, few))
