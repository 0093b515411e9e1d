use Rattle.std.proofs.Common.{subst, sym, take, ◌∷◌, [], ◌+◌, List}
use Rattle.sqlite.specs.Held.{state}
use Rattle.lot_command.specs.declared.transaction.Posting.{Posting}
use Rattle.lot_rows.specs.Tables.{Tables}
use Rattle.lot_audit.specs.Checks.{always}
use Rattle.lot_audit.specs.Entries.{HaveHeads}
use Rattle.lot_audit.proofs.HasLemmas.{heads_more, taken}
use Rattle.lot_audit.proofs.SeenLemmas.{seen_as, told_yes}
use Rattle.lot_audit.proofs.has.have_heads.Goals as goal

pub postings-preserved : goal.postings-preserved
postings-preserved g c =
    let postings = c.args.postings.now in
    let n = c.postings.posting-index in
    let posting = c.posting-item.result in
    let old = state g.S.Store c.args.conn.now in
    let new = state g.S.Store c.has_head.new.conn in
    seen_as always _ (λ (tables : Tables). HaveHeads (take (n + 1) postings) tables) old new
    (told_yes always (λ (tables : Tables). HaveHeads (take n postings) tables) (λ (tables : Tables). HaveHeads (posting ∷ []) tables) old
    (state g.S.Store c.postings.conn) new c.postings.invariant c.in_ok-has_head.field-0 c.if-not-branch.false c.in_ok-has_head.ensures.checks)
    (λ tables has both.
    subst (λ (all : List Posting). HaveHeads all tables) (sym (taken postings n posting c.postings-test.true c.posting-item.is))
    (heads_more tables (take n postings) posting both.0 both.1))
