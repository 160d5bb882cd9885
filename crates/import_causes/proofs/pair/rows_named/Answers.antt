use Rattle.batch_import.specs.Batch.{coming_of}
use Rattle.batch_import.proofs.WalkLemmas.{coming_of-few}
use Rattle.import_causes.proofs.pair.rows_named.Goals as goal

pub add_named-requires-clause-few : goal.add_named-requires-clause-few
add_named-requires-clause-few c = (
  coming_of c.args.product.now.check c.args.raw.now,
  c.rows.ensures,
  coming_of-few c.args.product.now.check c.args.raw.now,
)

pub returns-clause-value : goal.returns-clause-value
returns-clause-value c = c.in_ok-add_named.ensures.value (coming_of c.args.product.now.check c.args.raw.now) c.rows.ensures
