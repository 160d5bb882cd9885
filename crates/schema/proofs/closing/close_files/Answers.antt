use Rattle.std.proofs.Common.{subst}
use Rattle.image_laws.specs.Image.{image}
use Rattle.sql_rows.specs.Image.{IsImage}
use Rattle.schema.proofs.closing.close_files.Goals as goal

pub returns-in-Ok-clause-closed : goal.returns-in-Ok-clause-closed
returns-in-Ok-clause-closed g c =
    let it = c.in-Ok.ensures in
    record {
      last = it.ok.0;
      files = c.in-Ok.field-0;
      given = it.ok.1;
      quiet = it.ok.2;
      copied = it.copied;
      rows = λ clean d held. let live = (it.copied clean).was_open in subst (IsImage (image d)) (c.is_committed.ensures live) (held.1 live);
    }
