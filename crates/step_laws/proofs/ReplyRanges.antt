-- The reply to a request in its ranges is in its own ranges.
use Rattle.std.proofs.Common.{◌≡◌, ◌≤◌, ◌<◌, ◌+◌, ◌^◌, ◌==◌, ℕ, List, length, Some, ap, ◌∙◌, arith}
use Rattle.std.specs.List.{enumerate_from}
use Rattle.std.proofs.lemmas.Bool.{cond_both}
use Rattle.std.proofs.lemmas.List.FromFn.{length-enumerate_from}
use Rattle.store_data.specs.declared.row.Row.{Row}
use Rattle.store_data.proofs.IsPlanLemmas.{length-grouped}
use Rattle.batch_import.specs.Batch.{records_of_rows}
use Rattle.batch_import.proofs.RangedRows.{batch_fault_row, batch_typed}
use Rattle.job_facts.specs.declared.reply.Reply.{Reply}
use Rattle.job_facts.specs.declared.request.Request.{Request}
use Rattle.job_facts.specs.Facts.{Batch, Facts, Session}
use Rattle.job_facts.specs.Sound.{IsBatch, IsSound}
use Rattle.job_facts.specs.States.{batch_named, commands_for, goes_at, product_named, rows_of, rows_or_none, rows_under, running_session, session_numbered}
use Rattle.job_facts.specs.Steps.{Outcome, step}
use Rattle.job_facts.proofs.Lists.{find-All}
use Rattle.job_facts.proofs.RunningLemmas.{waiting_there}
use Rattle.step_laws.specs.Ranges.{IsRanged, IsRangedReply}
use Rattle.step_laws.proofs.Commands.{command_at_bytes, record_named}
use Rattle.step_laws.proofs.Numbered.{numbered_within, session_sound}
use Rattle.step_laws.proofs.SoundSteps.{few_sessions}
use Rattle.step_laws.proofs.StepCases.{own_there, step_by}
use Rattle.std.specs.Prelude.{bytes_eq}

-- A batch has at most as many records as rows.
records_few : (rows : List Row) → length rows ≤ 4096 → length (records_of_rows rows) ≤ 4096
records_few rows few = omega (arith, few, length-grouped (λ (e : ℕ × Row). e.1.rec) (enumerate_from 2 rows), length-enumerate_from 2 rows)

-- A batch has at most 4,096 rows.
rows_few : (f : Facts) (b : List ℕ) (batch : Batch) → IsSound f → batch_named f.batches b ≡ Some batch → length (rows_of f.products batch) ≤ 4096
unfolding rows_of
rows_few f b batch sound there =
    let is : IsBatch f.products batch = find-All (λ (x : Batch). bytes_eq x.name b) (IsBatch f.products) f.batches batch sound.named.batches.each there in
    let own : rows_under (product_named f.products batch.product) batch.raw ≡ is.rows = ap (λ o. rows_under o batch.raw) is.there ∙ ap rows_or_none is.read in
    let few = is.ranged.few in
    omega (arith, few, ap length own)

pub step_in_range : (f : Facts) (client : List ℕ) (r : Request) → IsSound f → IsRanged r → IsRangedReply (step f client r).1
step_in_range f client r sound ranged =
    let few = few_sessions f sound in
    let small : (s : ℕ) (x : Session) → session_numbered f.sessions s ≡ Some x → s < 2 ^ 32 = λ s x there. omega (arith, few, numbered_within f.sessions s x there) in
    let runs_small : (s : ℕ) → running_session f client ≡ Some s → s < 2 ^ 32 = λ s runs. let x = own_there f client s runs in small s x.0 x.1.there in
    let P : Request → Outcome → Type 0 = λ r o. IsRanged r → IsRangedReply o.1 in
    step_by f client P
    (record {
      refuses = λ r why ranged. tt;
      faulty = λ b p raw kept fault is ranged. batch_fault_row kept raw fault is;
      product = λ p kept is ranged. ranged.0;
      lot = λ l kept is ranged. ranged.0;
      batch = λ b p raw kept is ranged. let most = rows_few f b kept sound is in (ranged.0, records_few (rows_of f.products kept) most, most);
      busy = λ b blank s runs ranged. runs_small s runs;
      idle = λ none ranged. omega arith;
    })
    (record {
      product = λ p new few ranged. ranged.0;
      lot = λ l p new there apart few ranged. ranged.0;
      batch = λ b p raw kept rows new there less read ranged. let most = (batch_typed kept raw rows read).1.few in (ranged.0, records_few rows most, most);
      opens = λ b blank r opens ranged.
          let is = waiting_there f b r opens.waits in
          (ranged.0, ranged.1, command_at_bytes f b r 0 sound is, record_named f b r sound is, omega (arith, few));
      word = λ s k sw x own turn ranged.
          let is = (session_sound f s x sound own.there).there in
          let number = small s x own.there in
          let commands = commands_for f x.batch x.rec in
          cond_both {A = Reply} (goes_at commands k sw) _ _ IsRangedReply
          (λ goes. cond_both {A = Reply} (k + 1 == length commands) _ _ IsRangedReply (λ last. number)
          (λ more. (command_at_bytes f x.batch x.rec (k + 1) sound is, omega (arith, ranged.2), number)))
          (λ stops. number);
      abort = λ s x own ranged. small s x own.there;
      reset = λ s runs ranged. runs_small s runs;
      discard = λ blank l there free ranged. ranged;
      remake = λ b r more failed ranged. ranged;
      withdraw = λ b r failed more stands ranged. ranged;
      close = λ b batch more there done ranged. ranged;
    }) r ranged
