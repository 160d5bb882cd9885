-- The checks of the row of a session against its status words.
use Rattle.std.proofs.Common.{◌≡◌, Bool, length, Some, sym, ap, ◌∙◌, subst}
use Rattle.std.proofs.lemmas.Option.{same_Some}
use Rattle.store_data.specs.declared.cursor.Cursor.{Cursor}
use Rattle.store_data.specs.Cursor.{cursor_at}
use Rattle.store_data.specs.Sequence.{Plan, commands_of, plan_of}
use Rattle.job_facts.specs.Sound.{AreWords, IsName}
use Rattle.job_facts.specs.States.{going, product_named, rows_of_record, state_with}
use Rattle.table_rows.specs.Tables.{StoredBatch, StoredRecord, StoredSession, Tables}
use Rattle.audit_laws.specs.Audited.{IsAuditedSession, file_rows, named_session, words_of}
use Rattle.audit_cards.specs.Cards.{Leaves}
use Rattle.audit_cards.specs.Sessions.{HasPlan, IsFor}

module _ (t : Tables) (s : StoredSession) (b : StoredBatch) (plan : Plan) (has : HasPlan t s.batch s.place b plan) where
  pub audited_session : (c : Cursor) (stops : Bool) → Leaves plan (words_of t.words s.id) c stops → IsName s.machine → s.words ≡ length (words_of t.words s.id)
      → s.state ≡ state_with (commands_of plan) (named_session t s) → s.cursor ≡ c → IsFor t s.serial b.product → IsAuditedSession t s
  audited_session c stops left named count state at fits = record {
    machine = named;
    batch = b;
    batch_is = has.batch_is;
    rec = has.rec;
    rec_is = has.rec_is;
    product = has.product;
    product_is = has.product_is;
    plan = plan;
    plan_is = has.plan_is;
    words = left.words_are;
    count = count;
    state = state;
    cursor = left.at ∙ ap Some (sym at);
    lot = fits.0;
    lot_is = fits.1;
    fits = fits.2;
  }

  -- the conditions of `IsAuditedSession`, for this plan
  pub record Says : Type 0 where
    pub words : AreWords (commands_of plan) (words_of t.words s.id)
    pub state : s.state ≡ state_with (commands_of plan) (named_session t s)
    pub cursor : cursor_at plan (going (commands_of plan) (words_of t.words s.id)) ≡ Some s.cursor
    pub fits : IsFor t s.serial b.product

  says_of : (a : IsAuditedSession t s) → a.batch ≡ b → a.plan ≡ plan → Says
  says_of a same_batch same_plan = record {
    words = subst (λ p. AreWords (commands_of p) (words_of t.words s.id)) same_plan a.words;
    state = a.state ∙ ap (λ p. state_with (commands_of p) (named_session t s)) same_plan;
    cursor = subst (λ p. cursor_at p (going (commands_of p) (words_of t.words s.id)) ≡ Some s.cursor) same_plan a.cursor;
    fits = (a.lot, a.lot_is, a.fits ∙ ap (λ (x : StoredBatch). x.product) same_batch);
  }

  pub says : IsAuditedSession t s → Says
  says a =
      let batch : a.batch ≡ b = same_Some a.batch b (sym a.batch_is ∙ has.batch_is) in
      let rec : a.rec ≡ has.rec = same_Some a.rec has.rec (sym a.rec_is ∙ has.rec_is) in
      let product : a.product ≡ has.product = same_Some a.product has.product (sym a.product_is ∙ ap (λ (x : StoredBatch). product_named t.products x.product) batch ∙ has.product_is) in
      let plan_is : a.plan ≡ plan =
      a.plan_is
      ∙ ap (λ p. plan_of p (rows_of_record (file_rows t a.batch) a.rec.name)) product
      ∙ ap (λ (x : StoredBatch). plan_of has.product (rows_of_record (file_rows t x) a.rec.name)) batch
      ∙ ap (λ (r : StoredRecord). plan_of has.product (rows_of_record (file_rows t b) r.name)) rec
      ∙ sym has.plan_is in
      says_of a batch plan_is

  -- The cursor in the row is the cursor after the status words.
  pub cursor_says : (c : Cursor) (stops : Bool) → Leaves plan (words_of t.words s.id) c stops → Says → s.cursor ≡ c
  cursor_says c stops left said = same_Some s.cursor c (sym said.cursor ∙ left.at)
