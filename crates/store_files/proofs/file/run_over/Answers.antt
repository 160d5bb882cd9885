use Rattle.sqlite.specs.Files.{file_state}
use Rattle.over_tables.proofs.Stores.{refused_early}
use Rattle.store_files.proofs.file.run_over.Goals as goal

pub returns-in-Ok-store_over-clause-done : goal.returns-in-Ok-store_over-clause-done
returns-in-Ok-store_over-clause-done g c = record {
  found = record { is_new = c.begins-is_new.result; has_log = c.args.has_log; older = c.in-Ok.older };
  store = c.in-Ok-store_over.store;
  is_new = c.begins-is_new.ensures;
  older = c.in-Ok.ensures.exact;
  has_log = λ clean. ((λ is. is), (λ is. is));
  clean = c.in-Ok-store_over.ensures.clean;
  opened = c.in-Ok-store_over.ensures.taken;
  ran = c.perform.ensures;
}

pub returns-in-Err-store_over-clause-turned_down : goal.returns-in-Err-store_over-clause-turned_down
returns-in-Err-store_over-clause-turned_down g c = (c.in-Err-store_over.field-0-0, c.in-Err-store_over.ensures.refused)

pub returns-in-Err-clause-turned_down : goal.returns-in-Err-clause-turned_down
returns-in-Err-clause-turned_down g c = (c.args.conn, refused_early c.args.wanted (file_state c.args.conn) c.in-Err.fault c.in-Err.ensures.failed)
