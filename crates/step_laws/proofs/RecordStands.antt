-- The states of records after a step: the record of the changed session depends on this session,
-- and the others are unchanged.
use Rattle.std.proofs.Common.{◌≡◌, ◌+◌, ◌==◌, ◌&&◌, ◌||◌, ℕ, Bool, true, false, cond, List, [], ◌∷◌, ◌++◌, length, map, append-nil, Some, refl, sym, ap, ◌∙◌, arith}
use Rattle.std.specs.Prelude.{bytes_eq, count_by, filter, nat_lt, option_map}
use Rattle.std.specs.List.{list_any}
use Rattle.std.proofs.Math.Bool.{or-false}
use Rattle.std.proofs.lemmas.Bool.{both_ways, cond-false, cond_both, false_from_ne_true, lt-ltb, or_parts}
use Rattle.std.proofs.lemmas.List.Elements.{All-filter, All-weaker}
use Rattle.std.proofs.lemmas.List.Folds.{list_any-append, list_any_none}
use Rattle.std.proofs.lemmas.List.Sums.{sum_by_push}
use Rattle.store_data.proofs.IsPlanLemmas.{All-from_list_any}
use Rattle.job_facts.specs.declared.facts.SessionState.{SessionState}
use Rattle.job_facts.specs.declared.facts.SessionState.TheVariants as session
use Rattle.job_facts.specs.declared.request.Request.{Request}
use Rattle.job_facts.specs.declared.reply.Reply.{Reply}
use Rattle.job_facts.specs.Facts.{Facts, RecordName, Session, at_session, ended, new_session, with_remake, with_session, with_withdrawal, with_word, worded}
use Rattle.job_facts.specs.Sound.{IsSession, IsSound, IsSoundRecord, has_card}
use Rattle.job_facts.specs.States.{goes_at, commands_for, is_good, is_record, is_running, is_spoiled, is_withdrawn, plan_for, record_state, remakes_of, session_numbered, session_state, state_by, states_of}
use Rattle.job_facts.specs.Steps.{Outcome, step}
use Rattle.job_facts.proofs.Lists.{count_by-at, count_by_any, list_any-there, map_filter-at, map_same}
use Rattle.job_facts.proofs.SessionLemmas.{session_changed, session_split}
use Rattle.job_facts.proofs.SoundFacts.{is_for, states_among, states_are}
use Rattle.step_laws.specs.Later.{KnowsMore}
use Rattle.step_laws.specs.Records.{OtherRecordsStand, is_that_record, record_by, record_of_session}
use Rattle.step_laws.proofs.Kept.{state_kept, step_knows}
use Rattle.step_laws.proofs.StepCases.{own_there, step_by}

-- ---- records with a good or running session

-- Without a good or running session, no session is good.
pub none_good : (states : List SessionState) → list_any has_card states ≡ false → list_any is_good states ≡ false
none_good states none = list_any_none is_good states (λ k d within. (or_parts _ _ (All-from_list_any has_card states none k d within)).0)

pub none_running : (states : List SessionState) → list_any has_card states ≡ false → list_any is_running states ≡ false
none_running states none = list_any_none is_running states (λ k d within. (or_parts _ _ (All-from_list_any has_card states none k d within)).1)

module _ (before after : List SessionState) (t : SessionState) where
  abbrev then_states : List SessionState
  then_states = before ++ session.Running ∷ after

  abbrev now_states : List SessionState
  now_states = before ++ t ∷ after

  -- If a session is running, no other session of the record is good or running.
  no_other : (withdrawn : Bool) (remakes : ℕ) → IsSoundRecord then_states withdrawn remakes → (list_any has_card before ≡ false) × (list_any has_card after ≡ false)
  no_other withdrawn remakes is =
      let at = count_by-at has_card before after session.Running in
      let one = is.one_card in (
        false_from_ne_true (list_any has_card before) (λ some. let least = count_by_any has_card before some in omega (arith, at, one, least)),
        false_from_ne_true (list_any has_card after) (λ some. let least = count_by_any has_card after some in omega (arith, at, one, least)),
      )

  by_one : (p : SessionState → Bool) → list_any p before ≡ false → list_any p after ≡ false → list_any p now_states ≡ p t
  by_one p none_before none_after =
      list_any-append p before (t ∷ after) ∙ ap (λ b. b || (p t || list_any p after)) none_before ∙ ap (λ b. p t || b) none_after ∙ or-false (p t)

-- the state of the record of the changed session, from the new state of this session
pub stands_by : (before after : List SessionState) (t : SessionState) (withdrawn : Bool) (remakes : ℕ)
    → IsSoundRecord (before ++ session.Running ∷ after) withdrawn remakes → state_by (before ++ t ∷ after) withdrawn remakes ≡ record_by t
stands_by before after session.Good withdrawn remakes is =
    let good : list_any is_good (before ++ session.Good ∷ after) ≡ true = list_any-there is_good before after session.Good refl in
    rw good refl
stands_by before after session.Running withdrawn remakes is =
    let none = no_other before after session.Running withdrawn remakes is in
    let good : list_any is_good (before ++ session.Running ∷ after) ≡ false =
    by_one before after session.Running is_good (none_good before none.0) (none_good after none.1) in
    let runs : list_any is_running (before ++ session.Running ∷ after) ≡ true = list_any-there is_running before after session.Running refl in
    rw (good, runs) refl
stands_by before after session.Spoiled withdrawn remakes is =
    let t = session.Spoiled in
    let none = no_other before after t withdrawn remakes is in
    let good : list_any is_good (before ++ session.Spoiled ∷ after) ≡ false = by_one before after t is_good (none_good before none.0) (none_good after none.1) in
    let runs : list_any is_running (before ++ session.Spoiled ∷ after) ≡ false =
    by_one before after t is_running (none_running before none.0) (none_running after none.1) in
    let card : list_any has_card (before ++ session.Running ∷ after) ≡ true = list_any-there has_card before after session.Running refl in
    let stays : withdrawn ≡ false =
    false_from_ne_true withdrawn (λ gone. both_ways (list_any has_card (before ++ session.Running ∷ after)) (is.withdrawn_none gone) card) in
    let remade = is.remade_all card in
    let then_count = count_by-at is_spoiled before after session.Running in
    let now_count = count_by-at is_spoiled before after session.Spoiled in
    let more : nat_lt remakes (count_by is_spoiled (before ++ session.Spoiled ∷ after)) ≡ true =
    lt-ltb remakes (count_by is_spoiled (before ++ session.Spoiled ∷ after)) (omega (arith, remade, then_count, now_count)) in
    rw (good, runs, stays, more) refl

-- ---- records about which the same is known

pub record_same : (f g : Facts) (b r : List ℕ) → states_of g b r ≡ states_of f b r → is_withdrawn g b r ≡ is_withdrawn f b r → remakes_of g b r ≡ remakes_of f b r
    → record_state g b r ≡ record_state f b r
unfolding record_state
record_same f g b r states withdrawn remakes =
    ap (λ xs. state_by xs (is_withdrawn g b r) (remakes_of g b r)) states ∙ ap (λ w. state_by (states_of f b r) w (remakes_of g b r)) withdrawn
    ∙ ap (state_by (states_of f b r) (is_withdrawn f b r)) remakes

-- More is known, but no session changed.
pub states_known : (f g : Facts) (b r : List ℕ) → IsSound f → KnowsMore f g → g.sessions ≡ f.sessions → states_of g b r ≡ states_of f b r
states_known f g b r sound more same =
    states_are g b r ∙ ap (λ xs. states_among g xs b r) same
    ∙ map_same (session_state g) (session_state f) (filter (is_for b r) f.sessions)
    (All-filter (is_for b r) (λ x. session_state g x ≡ session_state f x) f.sessions
    (All-weaker (IsSession f) (λ x. session_state g x ≡ session_state f x) (state_kept f g more sound) f.sessions sound.sessions.each))
    ∙ sym (states_are f b r)

-- ---- a session among others

-- the states of a record's sessions, split at one session
pub states_around : (f : Facts) (before after : List Session) (x : Session) (b r : List ℕ) → states_of (record f { sessions = before ++ x ∷ after }) b r
    ≡ map (session_state f) (filter (is_for b r) before) ++ cond (is_for b r x) (session_state f x ∷ map (session_state f) (filter (is_for b r) after)) (map (session_state f) (filter (is_for b r) after))
unfolding states_of session_state plan_for
states_around f before after x b r = map_filter-at (is_for b r) (session_state f) before after x

-- If a session doesn't belong to a record, replacing it doesn't change the states of the record's
-- sessions.
pub states_elsewhere : (f : Facts) (before after : List Session) (x y : Session) (b r : List ℕ) → y.batch ≡ x.batch → y.rec ≡ x.rec → is_for b r x ≡ false
    → states_of (record f { sessions = before ++ y ∷ after }) b r ≡ states_of (record f { sessions = before ++ x ∷ after }) b r
states_elsewhere f before after x y b r batch rec miss =
    let first : List SessionState = map (session_state f) (filter (is_for b r) before) in
    let rest : List SessionState = map (session_state f) (filter (is_for b r) after) in
    let also : is_for b r y ≡ false = ap (λ c. bytes_eq c b && bytes_eq y.rec r) batch ∙ ap (λ c. bytes_eq x.batch b && bytes_eq c r) rec ∙ miss in
    states_around f before after y b r ∙ ap (λ ts. first ++ ts) (cond-false (is_for b r y) (session_state f y ∷ rest) rest also)
    ∙ sym (states_around f before after x b r ∙ ap (λ ts. first ++ ts) (cond-false (is_for b r x) (session_state f x ∷ rest) rest miss))

-- ---- the other records are unchanged

-- A session that changes doesn't affect other records.
module _ (f : Facts) (s : ℕ) (x : Session) (change : Session → Session) (there : session_numbered f.sessions s ≡ Some x)
    (batch : (change x).batch ≡ x.batch) (rec : (change x).rec ≡ x.rec) where
  abbrev after_change : Facts
  after_change = record f { sessions = at_session s change f.sessions }

  pub changed_states : (b r : List ℕ) → is_for b r x ≡ false → states_of after_change b r ≡ states_of f b r
  changed_states b r miss =
      let split = session_split f.sessions s x change there in
      ap (λ xs. states_of (record f { sessions = xs }) b r) split.3 ∙ states_elsewhere f split.0 split.1 x (change x) b r batch rec miss
      ∙ sym (ap (λ xs. states_of (record f { sessions = xs }) b r) split.2)

  record_of_that_session : record_of_session after_change s ≡ Some (record { batch = x.batch; rec = x.rec })
  record_of_that_session =
      ap (option_map (λ (y : Session). record { batch = y.batch; rec = y.rec })) (session_changed f.sessions s x change there)
      ∙ ap (λ b. Some (record { batch = b; rec = (change x).rec })) batch ∙ ap (λ r. Some (record { batch = x.batch; rec = r })) rec

  changed_stand : (b r : List ℕ) → is_that_record b r (record_of_session after_change s) ≡ false → record_state after_change b r ≡ record_state f b r
  changed_stand b r other = record_same f after_change b r (changed_states b r (sym (ap (is_that_record b r) record_of_that_session) ∙ other)) refl refl

pub opened_states : (f : Facts) (new : Session) (b r : List ℕ) → is_for b r new ≡ false → states_of (with_session f new) b r ≡ states_of f b r
opened_states f new b r miss =
    states_around f f.sessions [] new b r ∙ ap (λ ts. map (session_state f) (filter (is_for b r) f.sessions) ++ ts) (cond-false (is_for b r new) (session_state f new ∷ []) [] miss)
    ∙ append-nil (map (session_state f) (filter (is_for b r) f.sessions)) ∙ sym (states_are f b r)

pub same_states : (f : Facts) (discarded : List ℕ) (remakes withdrawn : List RecordName) (closed : List (List ℕ)) (b r : List ℕ)
    → states_of (record f { discarded = discarded; remakes = remakes; withdrawn = withdrawn; closed = closed }) b r ≡ states_of f b r
unfolding states_of session_state plan_for
same_states f discarded remakes withdrawn closed b r = refl

abbrev pub named : List ℕ → List ℕ → RecordName
named b r = record { batch = b; rec = r }

pub remakes_elsewhere : (f : Facts) (b r c q : List ℕ) → is_record c q (named b r) ≡ false → remakes_of (with_remake f b r) c q ≡ remakes_of f c q
remakes_elsewhere f b r c q other =
    let more : remakes_of (with_remake f b r) c q ≡ remakes_of f c q + cond (is_record c q (named b r)) 1 0 = sum_by_push (λ n. cond (is_record c q n) 1 0) f.remakes (named b r) in
    let none : cond {A = ℕ} (is_record c q (named b r)) 1 0 ≡ 0 = ap (λ t. cond {A = ℕ} t 1 0) other in
    omega (arith, more, none)

pub withdrawn_elsewhere : (f : Facts) (b r c q : List ℕ) → is_record c q (named b r) ≡ false → is_withdrawn (with_withdrawal f b r) c q ≡ is_withdrawn f c q
withdrawn_elsewhere f b r c q other =
    list_any-append (is_record c q) f.withdrawn (named b r ∷ []) ∙ ap (λ t. is_withdrawn f c q || (t || false)) other ∙ or-false (is_withdrawn f c q)

pub step_stands : (f : Facts) (client : List ℕ) (r : Request) → IsSound f → OtherRecordsStand f (step f client r).0 (step f client r).1
step_stands f client r sound =
    let P : Request → Outcome → Type 0 = λ r o. KnowsMore f o.0 → OtherRecordsStand f o.0 o.1 in
    step_by f client P
    (record {
      refuses = λ r why more b q other. refl;
      faulty = λ b p raw kept fault is more c q other. refl;
      product = λ p kept is more b q other. refl;
      lot = λ l kept is more b q other. refl;
      batch = λ b p raw kept is more c q other. refl;
      busy = λ b blank s runs more c q other. refl;
      idle = λ none more b q other. refl;
    })
    (record {
      product = λ p new few more b q other. record_same f _ b q (states_known f _ b q sound more refl) refl refl;
      lot = λ l p new there apart few more b q other. record_same f _ b q (states_known f _ b q sound more refl) refl refl;
      batch = λ b p raw kept rows new there few read more c q other. record_same f _ c q (states_known f _ c q sound more refl) refl refl;
      opens = λ b blank r opens more c q other. let new = new_session client b r blank in record_same f _ c q (opened_states f new c q other) refl refl;
      word = λ s k sw x own turn more.
          let g : Facts = with_word f s sw in
          let Q : Reply → Type 0 = λ given. OtherRecordsStand f g given in
          let stand = changed_stand f s x (worded sw) own.there refl refl in
          cond_both {A = Reply} (goes_at (commands_for f x.batch x.rec) k sw) _ _ Q
          (λ goes. cond_both {A = Reply} (k + 1 == length (commands_for f x.batch x.rec)) _ _ Q (λ last. stand) (λ next. stand)) (λ stops. stand);
      abort = λ s x own more. changed_stand f s x ended own.there refl refl;
      reset = λ s runs more. let x = own_there f client s runs in changed_stand f s x.0 ended x.1.there refl refl;
      discard = λ blank l there free more b q other. record_same f _ b q (same_states f _ f.remakes f.withdrawn f.closed b q) refl refl;
      remake = λ b r more failed knows c q other. record_same f _ c q (same_states f f.discarded _ f.withdrawn f.closed c q) refl (remakes_elsewhere f b r c q other);
      withdraw = λ b r failed more stands knows c q other. record_same f _ c q (same_states f f.discarded f.remakes _ f.closed c q) (withdrawn_elsewhere f b r c q other) refl;
      close = λ b batch more there done knows c q other. record_same f _ c q (same_states f f.discarded f.remakes f.withdrawn _ c q) refl refl;
    }) r (step_knows f client r)
