use Rattle.std.proofs.Common.{rules, ◌≡◌, ◌∙◌, ◌<◌, ℕ, length, List, ◌++◌, append_assoc, ap, sym, codes, refl, false}
use Rattle.std.specs.List.{after_first, before_first, flat_map, position_or_len}
use Rattle.std.proofs.Output.{has_written_append, has_written_of_eq}
use Rattle.lot_explain.specs.Shell.{in_single_quotes, is_plain, quoted}
use Rattle.lot_explain.proofs.ShellLemmas.{is_quote, no_quote, up_to_quote}
use Rattle.lot_explain.proofs.quoted.QuotedDisplay.fmt.Goals as goal

pub loop-before-preserved : goal.loop-before-preserved
loop-before-preserved g c = (
  search rules,
  λ plain.
      let so_far = c.loop-before.invariant.1 plain in
      let rest = c.loop-before.rest.now in
      let before : c.in-Some.before.now ≡ before_first is_quote rest = search rules in
      let after : c.in-Some.after.now ≡ after_first is_quote rest = search rules in
      let lt : position_or_len is_quote rest < length rest = search rules in
      let parts : c.in-Some.before.now ++ (codes "'\\''" ++ flat_map in_single_quotes c.in-Some.after.now) ≡ flat_map in_single_quotes rest = rw (before, after) (up_to_quote rest lt) in
      let first = c.write_str-in-Some.ensures.writes so_far.1.plain (search rules) in
      let second = c.write_str-in-Some-2.ensures.writes first.plain (search rules) in (
        (so_far.0 ++ c.in-Some.before.now) ++ codes "'\\''",
        has_written_append _ _ _ _ _ _ (has_written_append _ _ _ _ _ _ so_far.1 first) second,
        append_assoc (so_far.0 ++ c.in-Some.before.now) _ _ ∙ append_assoc so_far.0 _ _ ∙ ap (λ (t : List ℕ). so_far.0 ++ t) parts ∙ so_far.2,
      ),
)

pub returns-clause-writes : goal.returns-clause-writes
returns-clause-writes g c plain is_ok =
    let text = c.args.self.now.0.now in
    let rest = c.loop-before.rest.now in
    let opened = c.write_str-2.ensures.writes plain (search rules) in
    let so_far = c.loop-before.invariant.1 opened.plain in
    let ended = c.write_str-3.ensures.writes so_far.1.plain (search rules) in
    let closed = c.write_str-4.ensures.writes ended.plain is_ok in
    let none : position_or_len is_quote rest ≡ length rest = search rules in
    let inner : so_far.0 ++ rest ≡ flat_map in_single_quotes text = ap (λ (t : List ℕ). so_far.0 ++ t) (sym (no_quote rest none)) ∙ so_far.2 in
    let quotes : is_plain text ≡ false = search rules in
    let whole : (codes "'" ++ (so_far.0 ++ rest)) ++ codes "'" ≡ quoted text = rw (quotes, inner) refl in
    has_written_of_eq _ _ _ _ _ whole
    (has_written_append _ _ _ _ _ _ (has_written_append _ _ _ _ _ _ opened (has_written_append _ _ _ _ _ _ so_far.1 ended)) closed)
