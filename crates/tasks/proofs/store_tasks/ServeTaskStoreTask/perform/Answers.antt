use Rattle.std.proofs.Common.{◌≡◌, ◌∙◌, ap, inl, inr, sym, refl, subst}
use Rattle.std.specs.Prelude.{ℕ, List, [], ◌∷◌, length, false, None, Result, ⊤}
use Rattle.std.specs.IoError.{error_kind}
use Rattle.sqlite.specs.Files.{over_files}
use Rattle.job_facts.specs.Store.{State}
use Rattle.job_facts.specs.declared.store.StoreFault.{StoreFault}
use Rattle.schema.specs.Stores.{stands_for}
use Rattle.event_lines.specs.Notes.{NotesAll}
use Rattle.event_lines.specs.declared.level.Level.{Level}
use Rattle.server.specs.Exchanges.{Exchange, ServesAll}
use Rattle.server_run.specs.ObservedRuns.{NotesRun}
use Rattle.server_run.specs.ServerLines.{WritesLines}
use Rattle.server_run.specs.declared.opening.Opened.{Opened}
use Rattle.server_run.specs.declared.stopping.ServeStop.{ServeStop}
use Rattle.reply_store.proofs.Handling.{Stays-refl}
use Rattle.store_files.specs.declared.file.FileState.{FileState}
use Rattle.subcommands.specs.Joins.{end_of_close}
use Rattle.subcommands.specs.Unstarted.{unstarted_line}
use Rattle.subcommands.specs.declared.end.End.{End}
use Rattle.tasks.specs.Tasks.{IsOpening, ServesFile, end_of_serve}
use Rattle.tasks.specs.declared.store_tasks.ServeTask.{ServeTask}
use Rattle.tasks.proofs.store_tasks.ServeTaskStoreTask.perform.Goals as goal

-- The contract of a server over tables gives the result of the task, which has the same port and
-- the same level of event lines.
served : (task : ServeTask) (found : FileState) (old last : State) (whole : Type 0) (Unclosed : StoreFault → Type 0) (opened : Opened) (es : List Exchange) (result : Result (Unit {0}) ServeStop) (port : ℕ) (level : Level) (end : End)
    → IsOpening task found opened → ServesAll old last es → WritesLines whole (λ _. ⊤) port task.turns (length es) None None result → port ≡ task.port
    → NotesRun whole Unclosed old last false opened es result level None None → level ≡ task.level → end ≡ end_of_serve result → ServesFile task found old last whole Unclosed end
served task found old last whole Unclosed opened es result port level end opening serves writes listens notes is ends = record {
  opened = opened;
  exchanges = es;
  result = result;
  opening = opening;
  serves = serves;
  writes = subst (λ port. WritesLines whole (λ _. ⊤) port task.turns (length es) None None result) listens writes;
  notes = subst (λ level. NotesRun whole Unclosed old last false opened es result level None None) is notes;
  ends = ends;
}

pub returns-in-Err : goal.returns-in-Err
returns-in-Err g c = (
  c.args.store,
  inr (record {
    why = error_kind c.in-Err.error;
    stays = Stays-refl (stands_for over_files c.args.store);
    notes = subst (λ level. NotesAll level None None (unstarted_line (error_kind c.in-Err.error) c.args.self.port ∷ [])) c.new-events.ensures.level c.note_unstarted-end.ensures.noted;
    ends = (c.finish.result, c.finish.ensures.closed, c.finish.ensures.fault, subst (λ end. c.end_of_close.result ≡ end_of_close end c.finish.result) c.note_unstarted-end.ensures.end c.end_of_close.ensures);
  }),
)

pub returns-in-Ok-serve_over_tables : goal.returns-in-Ok-serve_over_tables
returns-in-Ok-serve_over_tables g c =
    let run = c.serve_over_tables.ensures in
    let opened : Opened = record { path = c.as_bytes.result; is_new = c.args.found.is_new; has_log = c.args.found.has_log; older = c.args.found.older } in
    (run.0, inl (served _ _ _ _ _ _ opened run.1 c.serve_over_tables.result c.port-port.result c.new.result.level _ (c.as_bytes.ensures.value, refl, refl, refl) run.3 run.4 (c.port-port.ensures ∙ c.in-Ok.ensures) run.5 c.new.ensures.level (sym (ap end_of_serve c.in-Ok-serve_over_tables.is))))

pub returns : goal.returns
returns g c =
    let run = c.serve_over_tables.ensures in
    let opened : Opened = record { path = c.as_bytes.result; is_new = c.args.found.is_new; has_log = c.args.found.has_log; older = c.args.found.older } in
    (run.0, inl (served _ _ _ _ _ _ opened run.1 c.serve_over_tables.result c.port-port.result c.new.result.level _ (c.as_bytes.ensures.value, refl, refl, refl) run.3 run.4 (c.port-port.ensures ∙ c.in-Ok.ensures) run.5 c.new.ensures.level (c.from.ensures ∙ sym (ap end_of_serve c.in-Err-serve_over_tables.is))))
