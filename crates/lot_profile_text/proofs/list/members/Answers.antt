-- A member that was read is behind those before it.
use Rattle.std.proofs.Common.{◌≡◌, ℕ, List, Ok, ap, sym, ◌∙◌, string_bytes}
use Rattle.toml.specs.Data.{Data}
use Rattle.toml.specs.View.{members_view, view}
use Rattle.lot_profile_text.specs.Reading.{each, keyed_members}
use Rattle.lot_profile_text.proofs.EachLemmas.{behind, each_more}
use Rattle.lot_profile_text.proofs.list.members.Goals as goal

pub loop-key-preserved : goal.loop-key-preserved
loop-key-preserved g c =
    let f = λ (m : List ℕ × Data). g.M.Member.said_at c.args.place.now m.0 m.1 in
    let a : List ℕ × Data = (string_bytes c.in-Some.key.now, view c.in-Some.value.now) in
    let more = keyed_members (members_view c.next.new.self) in
    let said : f a ≡ Ok c.in_ok-read.field-0 =
    ap (λ k. g.M.Member.said_at c.args.place.now k (view c.in-Some.value.now)) (sym c.as_str.ensures.value) ∙ c.in_ok-read.ensures in (
      tt,
      tt,
      c.loop-key.invariant.2 ∙ ap (λ es. behind c.loop-key.all (each f (keyed_members (members_view es)))) c.in-Some.ensures.steps
          ∙ each_more f c.loop-key.all a more _ said ∙ ap (λ all. behind all (each f more)) (sym c.in_ok-push.ensures.ok),
    )
