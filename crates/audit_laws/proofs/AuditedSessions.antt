-- The rows of sessions in the image of sound facts pass the audit: the plan of its record
-- determines the state and the cursor of each session, and a lot contains its blank.
use Rattle.std.proofs.Common.{◌≡◌, ◌≤◌, ℕ, suc, ◌+◌, ◌-◌, List, length, count_by, All, Option, Some, inl, inr, refl, sym, ap, ◌∙◌, subst, arith}
use Rattle.std.specs.Prelude.{bytes_eq, option_and_then, option_map, slice_get, unwrap_or}
use Rattle.std.proofs.lemmas.Bool.{cases_Bool, cond-false, cond-true}
use Rattle.std.proofs.lemmas.List.Elements.{All-map}
use Rattle.std.proofs.lemmas.Option.{same_Some}
use Rattle.store_data.specs.declared.row.Product.{Product}
use Rattle.store_data.specs.Cursor.{cursor_at, cursors_of, select_cursor}
use Rattle.store_data.specs.Sequence.{Command, IsPlan, Plan, commands_of, plan_of}
use Rattle.store_data.proofs.CursorLemmas.{length-cursors_of, length-sequence}
use Rattle.job_facts.specs.Contents.{Contents}
use Rattle.job_facts.specs.Facts.{Batch, Facts, Session}
use Rattle.job_facts.specs.Sound.{AreWords, IsBatch, IsSound}
use Rattle.job_facts.specs.States.{batch_named, commands_for, commands_under, going, last_stops, lot_of, plan_for, product_named, rows_of, rows_of_record, session_cursor, session_state, state_with}
use Rattle.job_facts.proofs.Lists.{find-All, item_there}
use Rattle.job_facts.proofs.PlanLemmas.{plan_there}
use Rattle.step_laws.proofs.Numbered.{session_sound}
use Rattle.step_laws.proofs.Permuted.{at_most_one}
use Rattle.image_laws.specs.Image.{batch_id, image, stored_batch, stored_record, stored_session, stored_sessions, stored_words}
use Rattle.table_rows.specs.Keys.{is_running_on}
use Rattle.row_laws.proofs.BatchRows.{id_row}
use Rattle.row_laws.proofs.BlankRows.{lots_are}
use Rattle.row_laws.proofs.RecordRows.{place_row}
use Rattle.row_laws.proofs.SessionRows.{running_once}
use Rattle.audit_laws.specs.Audited.{IsAuditedSession, words_of}
use Rattle.audit_laws.proofs.AuditedFiles.{own_words}
use Rattle.audit_laws.proofs.AuditedPlaces.{All-placed}

few_going : (commands : List Command) (words : List ℕ) → going commands words ≤ length words
few_going commands words = elim (cases_Bool (last_stops commands words)) [
  | inl stops ↦
      let is : going commands words ≡ length words - 1 = cond-true (last_stops commands words) (length words - 1) (length words) stops in
      omega arith
  | inr goes ↦
      let is : going commands words ≡ length words = cond-false (last_stops commands words) (length words - 1) (length words) goes in
      omega arith
]

module _ (f : Facts) (b r : List ℕ) (batch : Batch) (product : Product)
    (there : batch_named f.batches b ≡ Some batch) (named : product_named f.products batch.product ≡ Some product) where
  abbrev own_plan : Plan
  own_plan = plan_of product (rows_of_record (rows_of f.products batch) r)

  plan_is : plan_for f b r ≡ Some own_plan
  unfolding plan_for
  plan_is =
      let under : Batch → Option Product → Option Plan =
      λ x o. option_map (λ (p : Product). plan_of p (rows_of_record (rows_of f.products x) r)) o in
      ap (option_and_then (λ (x : Batch). under x (product_named f.products x.product))) there ∙ ap (under batch) named

module _ (f : Facts) (x : Session) (plan : Plan) (is : plan_for f x.batch x.rec ≡ Some plan) where
  state_is : session_state f x ≡ state_with (commands_of plan) x
  unfolding session_state
  state_is = ap (λ o. state_with (commands_under o) x) is

  cursor_is : IsPlan plan → length x.words ≤ length (commands_of plan)
      → cursor_at plan (going (commands_of plan) x.words) ≡ Some (session_cursor f x)
  unfolding session_cursor
  cursor_is sound few =
      let many : ℕ = going (commands_of plan) x.words in
      let at = item_there (cursors_of plan) many
      (omega (arith, few, few_going (commands_of plan) x.words, length-cursors_of plan sound, length-sequence plan)) in
      at.1
      ∙ ap Some (sym
      (ap (λ o. unwrap_or (option_and_then (λ (p : Plan). cursor_at p (going (commands_of p) x.words)) o) (select_cursor 0)) is
      ∙ ap (λ o. unwrap_or o (select_cursor 0)) at.1))

module _ (c : Contents) (sound : IsSound c.facts) where
  abbrev f : Facts
  f = c.facts

  audited : (k : ℕ) (x : Session) → slice_get f.sessions k ≡ Some x → IsAuditedSession (image c) (stored_session f (1 + k, x))
  audited k x there =
      let is = session_sound f (suc k) x sound there in
      let of = find-All (λ (b : Batch). bytes_eq b.name x.batch) (IsBatch f.products) f.batches is.batch
      sound.named.batches.each is.batch_is in
      let id : ℕ = batch_id f.batches x.batch in
      let plan : Plan = own_plan f x.batch x.rec is.batch of.product is.batch_is of.there in
      let planned : plan_for f x.batch x.rec ≡ Some plan = plan_is f x.batch x.rec is.batch of.product is.batch_is of.there in
      let commands : commands_for f x.batch x.rec ≡ commands_of plan = ap commands_under planned in
      let ranged = plan_there f x.batch x.rec sound is.there in
      let is_plan : IsPlan plan = subst IsPlan (same_Some ranged.0 plan (sym ranged.1 ∙ planned)) ranged.2 in
      let own : AreWords (commands_of plan) x.words = subst (λ cs. AreWords cs x.words) commands is.words in
      let words : x.words ≡ words_of (stored_words f) (1 + k) = sym (own_words c k x there) in
      record {
        machine = is.machine;
        batch = stored_batch f (id, is.batch);
        batch_is = id_row f x.batch is.batch is.batch_is;
        rec = stored_record f (id, is.batch) (_, x.rec);
        rec_is = place_row f x.batch x.rec is.batch is.batch_is is.there;
        product = of.product;
        product_is = of.there;
        plan = plan;
        plan_is = refl;
        words = subst (AreWords (commands_of plan)) words own;
        count = ap length words;
        state = state_is f x plan planned ∙ ap (λ ws. state_with (commands_of plan) (record x { words = ws })) words;
        cursor = ap (λ ws. cursor_at plan (going (commands_of plan) ws)) (sym words) ∙ cursor_is f x plan planned is_plan own.few;
        lot = is.lot;
        lot_is = ap (λ lots. lot_of lots x.blank) (lots_are f) ∙ is.lot_is;
        fits = is.product;
      }

  pub sessions_audited : All (IsAuditedSession (image c)) (stored_sessions f)
  unfolding stored_sessions
  sessions_audited =
      All-map (IsAuditedSession (image c)) (stored_session f) _
      (All-placed (λ e. IsAuditedSession (image c) (stored_session f e)) 1 f.sessions audited)

  pub machines_audited : (machine : List ℕ) → count_by (is_running_on machine) (stored_sessions f) ≤ 1
  machines_audited machine = at_most_one (is_running_on machine) (stored_sessions f) (running_once f sound machine)
