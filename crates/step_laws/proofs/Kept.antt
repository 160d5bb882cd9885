-- Facts that are known stay known: everything with a name, and therefore the commands of a record
-- and the state of a session.
use Rattle.std.proofs.Common.{◌≡◌, ℕ, List, [], ◌∷◌, ◌++◌, Option, Some, refl, sym, ap, ◌∙◌, append-nil}
use Rattle.std.specs.Prelude.{bytes_eq, option_and_then, option_map}
use Rattle.store_data.specs.declared.row.Product.{Product}
use Rattle.store_data.specs.declared.row.Row.{Row}
use Rattle.store_data.specs.Sequence.{Plan, plan_of}
use Rattle.job_facts.specs.declared.facts.Lot.{Lot}
use Rattle.job_facts.specs.Facts.{Batch, Facts, Session, at_session, ended, new_session, with_batch, with_close, with_discard, with_lot, with_product, with_remake, with_withdrawal, worded}
use Rattle.job_facts.specs.Sound.{IsBatch, IsSession, IsSound}
use Rattle.job_facts.specs.States.{batch_named, commands_for, commands_under, plan_for, product_named, rows_of, rows_of_record, rows_under, session_state, state_with}
use Rattle.job_facts.specs.Steps.{step}
use Rattle.job_facts.specs.declared.request.Request.{Request}
use Rattle.job_facts.proofs.Lists.{find-All, find_kept}
use Rattle.step_laws.specs.Later.{IsMore, KnowsMore}
use Rattle.step_laws.proofs.StepCases.{facts_by, named_batch}

module _ {X : Type 0} (xs : List X) where
  pub no_more : IsMore xs xs
  no_more = ([], sym (append-nil xs))

  pub one_more : (x : X) → IsMore xs (xs ++ x ∷ [])
  one_more x = (x ∷ [], refl)

-- ---- one step

known : (f g : Facts) → IsMore f.products g.products → IsMore f.lots g.lots → IsMore f.batches g.batches → IsMore f.discarded g.discarded
    → IsMore f.remakes g.remakes → IsMore f.withdrawn g.withdrawn → IsMore f.closed g.closed → KnowsMore f g
known f g products lots batches discarded remakes withdrawn closed =
    record { products = products; lots = lots; batches = batches; discarded = discarded; remakes = remakes; withdrawn = withdrawn; closed = closed }

module _ (f : Facts) where
  -- more products, lots or batches
  more_named : (products : List Product) (lots : List Lot) (batches : List Batch) → IsMore f.products products → IsMore f.lots lots → IsMore f.batches batches
      → KnowsMore f (record f { products = products; lots = lots; batches = batches })
  more_named products lots batches ps ls bs =
      known f (record f { products = products; lots = lots; batches = batches }) ps ls bs (no_more f.discarded) (no_more f.remakes) (no_more f.withdrawn) (no_more f.closed)

  pub product_knows : (p : Product) → KnowsMore f (with_product f p)
  product_knows p = more_named (f.products ++ p ∷ []) f.lots f.batches (one_more f.products p) (no_more f.lots) (no_more f.batches)

  pub lot_knows : (l : Lot) → KnowsMore f (with_lot f l)
  lot_knows l = more_named f.products (f.lots ++ l ∷ []) f.batches (no_more f.products) (one_more f.lots l) (no_more f.batches)

  pub batch_knows : (b : Batch) → KnowsMore f (with_batch f b)
  batch_knows b = more_named f.products f.lots (f.batches ++ b ∷ []) (no_more f.products) (no_more f.lots) (one_more f.batches b)

pub step_knows : (f : Facts) (client : List ℕ) (r : Request) → KnowsMore f (step f client r).0
step_knows f client r =
    let ps = no_more f.products in
    let ls = no_more f.lots in
    let bs = no_more f.batches in
    let ds = no_more f.discarded in
    let rs = no_more f.remakes in
    let ws = no_more f.withdrawn in
    let cs = no_more f.closed in
    let same : (sessions : List Session) → KnowsMore f (record f { sessions = sessions }) = λ sessions. known f (record f { sessions = sessions }) ps ls bs ds rs ws cs in
    facts_by f client (λ r g. KnowsMore f g)
    (record {
      stays = λ r. same f.sessions;
      product = λ p new few. product_knows f p;
      lot = λ l p new there apart few. lot_knows f l;
      batch = λ b p raw kept rows new there few read. batch_knows f (named_batch b p raw);
      opens = λ b blank r opens. same (f.sessions ++ new_session client b r blank ∷ []);
      word = λ s k sw x own turn. same (at_session s (worded sw) f.sessions);
      ends = λ r s x own why. same (at_session s ended f.sessions);
      discard = λ blank l there free. known f (with_discard f blank) ps ls bs (one_more f.discarded blank) rs ws cs;
      remake = λ b r more failed. known f (with_remake f b r) ps ls bs ds (one_more f.remakes (record { batch = b; rec = r })) ws cs;
      withdraw = λ b r failed more stands. known f (with_withdrawal f b r) ps ls bs ds rs (one_more f.withdrawn (record { batch = b; rec = r })) cs;
      close = λ b batch more there done. known f (with_close f b) ps ls bs ds rs ws (one_more f.closed b);
    }) r

-- ---- look-ups

module _ (f g : Facts) (more : KnowsMore f g) where
  pub product_kept : (n : List ℕ) (p : Product) → product_named f.products n ≡ Some p → product_named g.products n ≡ Some p
  product_kept n p there = ap (λ ps. product_named ps n) more.products.1 ∙ find_kept (λ (x : Product). bytes_eq x.code n) f.products more.products.0 p there

  pub batch_kept : (n : List ℕ) (b : Batch) → batch_named f.batches n ≡ Some b → batch_named g.batches n ≡ Some b
  batch_kept n b there = ap (λ bs. batch_named bs n) more.batches.1 ∙ find_kept (λ (x : Batch). bytes_eq x.name n) f.batches more.batches.0 b there

  module _ (sound : IsSound f) (n : List ℕ) (b : Batch) (there : batch_named f.batches n ≡ Some b) where
    own_product : product_named g.products b.product ≡ product_named f.products b.product
    own_product =
        let is = find-All (λ (x : Batch). bytes_eq x.name n) (IsBatch f.products) f.batches b sound.named.batches.each there in
        product_kept b.product is.product is.there ∙ sym is.there

    rows_kept : rows_of g.products b ≡ rows_of f.products b
    unfolding rows_of
    rows_kept = ap (λ p. rows_under p b.raw) own_product

    pub plan_kept : (r : List ℕ) → plan_for g n r ≡ plan_for f n r
    unfolding plan_for
    plan_kept r =
        let plan : List Row → Option Product → Option Plan = λ rows p. option_map (λ (q : Product). plan_of q (rows_of_record rows r)) p in
        ap (option_and_then (λ (x : Batch). plan (rows_of g.products x) (product_named g.products x.product))) (batch_kept n b there)
        ∙ ap (λ rows. plan rows (product_named g.products b.product)) rows_kept
        ∙ ap (plan (rows_of f.products b)) own_product
        ∙ sym (ap (option_and_then (λ (x : Batch). plan (rows_of f.products x) (product_named f.products x.product))) there)

    pub commands_kept : (r : List ℕ) → commands_for g n r ≡ commands_for f n r
    commands_kept r = ap commands_under (plan_kept r)

  pub state_kept : IsSound f → (x : Session) → IsSession f x → session_state g x ≡ session_state f x
  unfolding session_state
  state_kept sound x is = ap (λ commands. state_with commands x) (commands_kept sound x.batch is.batch is.batch_is x.rec)

-- ---- changing sessions doesn't affect the commands of a record or the states of other sessions

module _ (f : Facts) (sessions : List Session) where
  pub commands_same : (b r : List ℕ) → commands_for (record f { sessions = sessions }) b r ≡ commands_for f b r
  unfolding plan_for
  commands_same b r = refl

  pub state_same : (x : Session) → session_state (record f { sessions = sessions }) x ≡ session_state f x
  unfolding session_state plan_for
  state_same x = refl
