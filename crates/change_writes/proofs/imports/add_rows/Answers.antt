use Rattle.change_writes.proofs.imports.add_rows.Goals as goal

pub add_stream-requires-clause-start : goal.add_stream-requires-clause-start
add_stream-requires-clause-start g c = (c.new-names.ensures.empty, (c.args.product.now.check, (c.args.raw.now, c.rows-stream.ensures)))

pub returns : goal.returns
returns g c = c.add_stream.ensures c.args.product.now.check c.args.raw.now c.rows-stream.ensures
