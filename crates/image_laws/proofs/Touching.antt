-- The place of a record that a change affects, and rows that no such change affects.
use Rattle.std.proofs.Common.{◌≡◌, ℕ, List, refl, ap, ◌∙◌}
use Rattle.std.specs.Prelude.{count_by}
use Rattle.job_facts.specs.Accounts.{batch_totals}
use Rattle.job_facts.specs.Facts.{Facts, RecordName, Session}
use Rattle.job_facts.specs.States.{is_spoiled, plan_for, records_named, remakes_of, session_cursor, session_state, states_of}
use Rattle.table_rows.specs.declared.writing.RecordPlace.{RecordPlace}
use Rattle.image_laws.specs.WritingOf.{IsPlaceOf}
use Rattle.image_laws.specs.Image.{batch_id, place_in, stored_blanks, stored_groupings, stored_lots, stored_remakes, stored_sessions, stored_words}

-- ---- the place of the record

abbrev pub place_of : Facts → List ℕ → List ℕ → RecordPlace
place_of f b r = record {
  batch = batch_id f.batches b;
  place = place_in (records_named f b) r;
  spoiled = count_by is_spoiled (states_of f b r);
  remakes = remakes_of f b r;
  totals = batch_totals f b;
}

pub is_place : (f : Facts) (b r : List ℕ) (p : RecordPlace) → IsPlaceOf f b r p → p ≡ place_of f b r
is_place f b r p is =
    ap (λ n. record p { batch = n }) is.batch
    ∙ ap (λ n. record p { batch = batch_id f.batches b; place = n }) is.place
    ∙ ap (λ n. record (place_of f b r) { spoiled = n; remakes = p.remakes; totals = p.totals }) is.spoiled
    ∙ ap (λ n. record (place_of f b r) { remakes = n; totals = p.totals }) is.remakes
    ∙ ap (λ n. record (place_of f b r) { totals = n }) is.totals

-- ---- rows that don't change

module _ (f : Facts) (remakes withdrawn : List RecordName) where
  module _ (sessions : List Session) where
    abbrev next : Facts
    next = record f { sessions = sessions; remakes = remakes; withdrawn = withdrawn }

    pub lots_stay : stored_lots next ≡ stored_lots f
    unfolding stored_lots
    lots_stay = refl

    pub groupings_stay : stored_groupings next ≡ stored_groupings f
    unfolding stored_groupings
    groupings_stay = refl

    pub remakes_stay : remakes ≡ f.remakes → stored_remakes next ≡ stored_remakes f
    unfolding stored_remakes
    remakes_stay same = ap (λ ns. stored_remakes (record f { sessions = sessions; remakes = ns; withdrawn = withdrawn })) same

  -- if the sessions don't change
  abbrev same_sessions : Facts
  same_sessions = record f { remakes = remakes; withdrawn = withdrawn }

  pub sessions_stay : stored_sessions same_sessions ≡ stored_sessions f
  unfolding stored_sessions session_state session_cursor plan_for
  sessions_stay = refl

  pub words_stay : stored_words same_sessions ≡ stored_words f
  unfolding stored_words
  words_stay = refl

  pub blanks_stay : stored_blanks same_sessions ≡ stored_blanks f
  unfolding stored_blanks
  blanks_stay = refl
