use Rattle.std.proofs.Common.{◌≡◌, ◌≤◌, ◌∙◌, length, ap, arith, drop, false, sym, take, true}
use Rattle.std.specs.Prelude.{IsTrue, ◌↔◌}
use Rattle.std.specs.List.{list_all}
use Rattle.lot_completion.specs.Form.{IsByForm, may_be_taken}
use Rattle.lot_completion.specs.Formed.{IsFormedAtSome, crumbs_behind, made_by}
use Rattle.lot_completion.proofs.FormLemmas.{by_form_alone, by_form_count, by_form_taken, if_ok}
use Rattle.lot_completion.proofs.ReadLemmas.{taken_in_range}
use Rattle.lot_completion.proofs.form.is_by_form.Goals as goal

pub returns-then-postings-count : goal.returns-then-postings-count
returns-then-postings-count c = (
  λ no. absurd cc,
  λ it.
      let t = c.args.transaction.now in
      let stands = c.args.stands.now in
      let counted : length c.as_slice-count.result.now ≡ length t.postings = ap length c.as_slice-count.ensures in
      let standing : length c.as_slice-postings.result.now ≡ length stands.postings = ap length c.as_slice-postings.ensures in
      let fits : length t.postings ≤ length stands.postings = by_form_count c.args.text.now c.args.cash t stands c.requires.says c.requires.sayable it in
      absurd (omega (arith, c.if-postings-count.true)),
)

pub returns-then-not-may_all_be_taken : goal.returns-then-not-may_all_be_taken
returns-then-not-may_all_be_taken c = (
  λ no. absurd cc,
  λ it.
      let t = c.args.transaction.now in
      let stands = c.args.stands.now in
      let count = length t.postings in
      let first = c.split_at.result.0.now in
      let front : first ≡ take count stands.postings = rw (c.as_slice-count.ensures, c.as_slice-postings.ensures) at c.split_at.ensures.front in
      let back : c.split_at.result.1.now ≡ drop count stands.postings = rw (c.as_slice-count.ensures, c.as_slice-postings.ensures) at c.split_at.ensures.back in
      let crumbs : c.as_slice.result.now ≡ crumbs_behind (drop count stands.postings) = c.as_slice.ensures ∙ c.in_ok-crumbs.ensures ∙ ap crumbs_behind back in
      let contrary : false ≡ true =
      sym c.if-not-may_all_be_taken.true ∙ c.may_all_be_taken.ensures ∙ ap (λ ps. list_all (may_be_taken ps) c.as_slice.result.now) front
      ∙ ap (list_all (may_be_taken (take count stands.postings))) crumbs
      ∙ by_form_taken c.args.text.now c.args.cash t stands c.requires.says c.requires.sayable it in
      absurd cc,
)

pub made_by-requires : goal.made_by-requires
made_by-requires c =
    let first = c.split_at.result.0.now in
    let same : c.as_slice-2.result.now ≡ c.as_slice.result.now = c.as_slice-2.ensures ∙ sym c.as_slice.ensures in
    let taken : list_all (may_be_taken first) c.as_slice-2.result.now ≡ true =
    ap (list_all (may_be_taken first)) same ∙ sym c.may_all_be_taken.ensures ∙ c.if-not-may_all_be_taken.false in
    taken_in_range first c.as_slice-2.result.now taken

pub returns : goal.returns
returns c =
    let text = c.args.text.now in
    let cash = c.args.cash in
    let t = c.args.transaction.now in
    let stands = c.args.stands.now in
    let first = c.split_at.result.0.now in
    let behind = c.split_at.result.1.now in
    let made = c.as_slice-3.result.now in
    let fits : length t.postings ≤ length stands.postings = rw (c.as_slice-count.ensures, c.as_slice-postings.ensures) at c.if-postings-count.false in
    let front : first ≡ take (length t.postings) stands.postings = rw (c.as_slice-count.ensures, c.as_slice-postings.ensures) at c.split_at.ensures.front in
    let back : behind ≡ drop (length t.postings) stands.postings = rw (c.as_slice-count.ensures, c.as_slice-postings.ensures) at c.split_at.ensures.back in
    let crumbs : c.in_ok-crumbs.crumbs ≡ crumbs_behind behind = c.in_ok-crumbs.ensures in
    let taken : list_all (may_be_taken first) (crumbs_behind behind) ≡ true =
    ap (list_all (may_be_taken first)) (sym (c.as_slice.ensures ∙ crumbs)) ∙ sym c.may_all_be_taken.ensures ∙ c.if-not-may_all_be_taken.false in
    let is : made ≡ made_by behind (crumbs_behind behind) =
    c.as_slice-3.ensures ∙ c.in_ok-made.ensures ∙ ap (made_by behind) (c.as_slice-2.ensures ∙ crumbs) in
    if_ok c.is_formed_at_some.result (λ b. IsTrue b ↔ IsFormedAtSome text cash t made) (λ b. IsTrue b ↔ IsByForm cash t stands)
    (by_form_alone text cash t stands c.requires.says c.requires.sayable first behind made c.canonical_texts_tell_commands_apart.ensures.one fits front back taken is)
    c.is_formed_at_some.ensures
