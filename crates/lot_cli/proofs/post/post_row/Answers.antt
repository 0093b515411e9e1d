use Rattle.std.proofs.Common.{inl, inr, refl}
use Rattle.std.specs.Option.{option_copied}
use Rattle.lot_input.specs.Text.{RowMeans}
use Rattle.lot_cli.proofs.InputLemmas.{gives_nothing, row_given, untouched}
use Rattle.lot_cli.proofs.post.post_row.Goals as goal

pub returns-in-Ok-Some-clause-posts : goal.returns-in-Ok-Some-clause-posts
returns-in-Ok-Some-clause-posts g c =
    inr (row_given c.args.batch.now c.args.reference.now (option_copied c.args.rounding) _ _ _ _ _ _ (record { status = c.run.result.status; halt = c.run.result.halt })
    c.in-Ok-Some.field-0 c.in-Ok-Some.keyed c.in-Ok-Some.field-0-is c.in-Ok-Some.ensures.ok c.run.ensures.runs)

pub returns-in-Ok-None-clause-posts : goal.returns-in-Ok-None-clause-posts
returns-in-Ok-None-clause-posts g c =
    inl (record {
      given = gives_nothing (RowMeans c.args.batch.now c.args.reference.now) _ c.in-Ok-None.field-0 c.in-Ok-None.field-0-is c.in-Ok-None.ensures.ok;
      untouched = untouched _;
      silent = (refl, refl);
      ends = (refl, refl);
    })
