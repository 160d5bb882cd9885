-- Sessions only grow, and only by requests of their own machines.
use Rattle.std.proofs.Common.{◌≡◌, ◌≤◌, ◌<◌, ◌+◌, ℕ, true, false, List, [], ◌∷◌, ◌++◌, append_assoc, length, Some, refl, sym, ap, ◌∙◌, subst, inl, inr, arith}
use Rattle.std.proofs.lemmas.Bool.{false≢true}
use Rattle.std.proofs.lemmas.List.{length_push}
use Rattle.std.proofs.lemmas.Option.{same_Some}
use Rattle.job_facts.specs.declared.request.Request.{Request}
use Rattle.job_facts.specs.declared.request.Request.TheVariants as request
use Rattle.job_facts.specs.Facts.{Facts, Session, at_session, ended, new_session, with_session, worded}
use Rattle.job_facts.specs.Sound.{IsSound}
use Rattle.job_facts.specs.States.{commands_for, session_numbered, session_state}
use Rattle.job_facts.specs.Steps.{step}
use Rattle.job_facts.proofs.SessionLemmas.{session_changed}
use Rattle.step_laws.specs.Later.{AnswersWithin, IsLaterSession, IsMore, KnowsMore, Later, OtherSessionsStay, TakesInTurn, WordsWithin, is_on_session}
use Rattle.step_laws.proofs.Kept.{commands_kept, commands_same, no_more, one_more, state_kept, state_same, step_knows}
use Rattle.step_laws.proofs.Numbered.{at_or_other, length_changed, numbered_changed, numbered_other, numbered_push, numbered_pushed, session_sound}
use Rattle.step_laws.proofs.StepCases.{IsOwn, facts_by, sessions_by}

-- ---- later facts

-- The sessions are the same, and more is known.
known_later : (f g : Facts) → IsSound f → KnowsMore f g → g.sessions ≡ f.sessions → Later f g
known_later f g sound more same s x is =
    let sane = session_sound f s x sound is in
    record {
      now = x;
      there = ap (λ (xs : List Session). session_numbered xs s) same ∙ is;
      machine = refl;
      batch = refl;
      rec = refl;
      blank = refl;
      words = no_more x.words;
      ended = λ e. e;
      commands = commands_kept f g more sound x.batch sane.batch sane.batch_is x.rec;
      over = λ done. (refl, state_kept f g more sound x sane);
    }

-- A session is unchanged while others change.
stays_later : (f : Facts) (sessions : List Session) (s : ℕ) (x : Session) → session_numbered sessions s ≡ Some x → IsLaterSession f (record f { sessions = sessions }) s x
stays_later f sessions s x there = record {
  now = x;
  there = there;
  machine = refl;
  batch = refl;
  rec = refl;
  blank = refl;
  words = no_more x.words;
  ended = λ e. e;
  commands = commands_same f sessions x.batch x.rec;
  over = λ done. (refl, state_same f sessions x);
}

-- `y` is `x` with more status words, or ended.
record GoesOn (x y : Session) : Type 0 where
  machine : y.machine ≡ x.machine
  batch : y.batch ≡ x.batch
  rec : y.rec ≡ x.rec
  blank : y.blank ≡ x.blank
  words : IsMore x.words y.words
  ended : x.ended ≡ true → y.ended ≡ true

word_on : (sw : ℕ) (x : Session) → GoesOn x (worded sw x)
word_on sw x = record { machine = refl; batch = refl; rec = refl; blank = refl; words = one_more x.words sw; ended = λ e. e }

end_on : (x : Session) → GoesOn x (ended x)
end_on x = record { machine = refl; batch = refl; rec = refl; blank = refl; words = no_more x.words; ended = λ e. refl }

changed_later : (f : Facts) (client : List ℕ) (t : ℕ) (y : Session) (change : Session → Session) → IsOwn f client t y → ((x : Session) → GoesOn x (change x))
    → Later f (record f { sessions = at_session t change f.sessions })
changed_later f client t y change own on s x is = elim (at_or_other s t) [
  | inl hit ↦
      let there : session_numbered f.sessions t ≡ Some x = ap (session_numbered f.sessions) (sym hit) ∙ is in
      record {
        now = change x;
        there = ap (session_numbered (at_session t change f.sessions)) hit ∙ session_changed f.sessions t x change there;
        machine = (on x).machine;
        batch = (on x).batch;
        rec = (on x).rec;
        blank = (on x).blank;
        words = (on x).words;
        ended = (on x).ended;
        commands = commands_same f (at_session t change f.sessions) x.batch x.rec;
        over = λ done. absurd (done (ap (session_state f) (same_Some x y (sym there ∙ own.there)) ∙ own.runs));
      }
  | inr miss ↦ stays_later f (at_session t change f.sessions) s x (numbered_other f.sessions t change s miss ∙ is)
]

pub step_later : (f : Facts) (client : List ℕ) (r : Request) → IsSound f → Later f (step f client r).0
step_later f client r sound =
    let knows : (r : Request) → KnowsMore f (step f client r).0 = step_knows f client in
    facts_by f client (λ r g. KnowsMore f g → Later f g)
    (record {
      stays = λ r more. known_later f f sound more refl;
      product = λ p new few more. known_later f _ sound more refl;
      lot = λ l p new there apart few more. known_later f _ sound more refl;
      batch = λ b p raw kept rows new there few read more. known_later f _ sound more refl;
      opens = λ b blank r opens more s x is. stays_later f _ s x (numbered_push f.sessions (new_session client b r blank ∷ []) s x is);
      word = λ s k sw x own turn more. changed_later f client s x (worded sw) own (word_on sw);
      ends = λ r s x own why more. changed_later f client s x ended own end_on;
      discard = λ blank l there free more. known_later f _ sound more refl;
      remake = λ b r more failed knows. known_later f _ sound knows refl;
      withdraw = λ b r failed more stands knows. known_later f _ sound knows refl;
      close = λ b batch more there done knows. known_later f _ sound knows refl;
    }) r (knows r)

-- `Later` is reflexive and transitive.
pub later_same : (f : Facts) → Later f f
later_same f s x is = stays_later f f.sessions s x is

more_of_more : {X : Type 0} (xs ys zs : List X) → IsMore xs ys → IsMore ys zs → IsMore xs zs
more_of_more xs ys zs first second =
    (first.0 ++ second.0, second.1 ∙ ap (λ l. l ++ second.0) first.1 ∙ append_assoc xs first.0 second.0)

pub later_on : (f g h : Facts) → Later f g → Later g h → Later f h
later_on f g h first second s x is =
    let y = first s x is in
    let z = second s y.now y.there in
    let own : commands_for h y.now.batch y.now.rec ≡ commands_for h x.batch x.rec = ap (λ b. commands_for h b y.now.rec) y.batch ∙ ap (commands_for h x.batch) y.rec in
    let was : commands_for g y.now.batch y.now.rec ≡ commands_for g x.batch x.rec = ap (λ b. commands_for g b y.now.rec) y.batch ∙ ap (commands_for g x.batch) y.rec in
    record {
      now = z.now;
      there = z.there;
      machine = z.machine ∙ y.machine;
      batch = z.batch ∙ y.batch;
      rec = z.rec ∙ y.rec;
      blank = z.blank ∙ y.blank;
      words = more_of_more x.words y.now.words z.now.words y.words z.words;
      ended = λ e. z.ended (y.ended e);
      commands = sym own ∙ z.commands ∙ was ∙ y.commands;
      over = λ done.
          let stands = y.over done in
          let still : session_state g y.now ≡ session_state f x = ap (session_state g) stands.0 ∙ stands.1 in
          let then = z.over (λ runs. done (sym still ∙ runs)) in
          (then.0 ∙ stands.0, ap (session_state h) (sym stands.0) ∙ then.1 ∙ still);
    }

-- ---- the machine of a session

changed_others : (f : Facts) (client : List ℕ) (t : ℕ) (y : Session) (change : Session → Session) → IsOwn f client t y → ((x : Session) → GoesOn x (change x))
    → OtherSessionsStay client f (record f { sessions = at_session t change f.sessions })
changed_others f client t y change own on s x other = (
  λ is. elim (at_or_other s t) [
    | inl hit ↦ absurd (other (ap (λ (z : Session). z.machine) (same_Some x y (sym is ∙ ap (session_numbered f.sessions) hit ∙ own.there)) ∙ own.own))
    | inr miss ↦ numbered_other f.sessions t change s miss ∙ is
  ],
  λ is. elim (numbered_changed f.sessions t y change s x own.there is) [
    | inl hit ↦ absurd (other (ap (λ (z : Session). z.machine) hit.1 ∙ (on y).machine ∙ own.own))
    | inr miss ↦ miss.1
  ],
)

pushed_others : (f : Facts) (client : List ℕ) (new : Session) → new.machine ≡ client → OtherSessionsStay client f (with_session f new)
pushed_others f client new own s x other = (
  λ is. numbered_push f.sessions (new ∷ []) s x is,
  λ is. elim (numbered_pushed f.sessions new s x is) [ inl was ↦ was | inr now ↦ absurd (other (ap (λ (z : Session). z.machine) now ∙ own)) ],
)

pub step_others : (f : Facts) (client : List ℕ) (r : Request) → OtherSessionsStay client f (step f client r).0
step_others f client r =
    sessions_by f client (λ r xs. OtherSessionsStay client f (record f { sessions = xs }))
    (record {
      stays = λ r s x other. (λ is. is, λ is. is);
      opens = λ b blank r opens. pushed_others f client (new_session client b r blank) refl;
      word = λ s k sw x own turn. changed_others f client s x (worded sw) own (word_on sw);
      ends = λ r s x own why. changed_others f client s x ended own end_on;
    }) r

-- All other requests leave the sessions unchanged.
pub step_leaves : (f : Facts) (client : List ℕ) (r : Request) → is_on_session r ≡ false → (step f client r).0.sessions ≡ f.sessions
step_leaves f client r =
    sessions_by f client (λ r xs. is_on_session r ≡ false → xs ≡ f.sessions)
    (record {
      stays = λ r none. refl;
      opens = λ b blank r opens none. absurd (false≢true (sym none));
      word = λ s k sw x own turn none. absurd (false≢true (sym none));
      ends = λ r s x own why none. elim why [
        | inl abort ↦ absurd (false≢true (sym none ∙ ap is_on_session abort))
        | inr reset ↦ absurd (false≢true (sym none ∙ ap is_on_session reset))
      ];
    }) r

-- ---- the number of sessions

pub step_few : (f : Facts) (client : List ℕ) (r : Request)
    → (length f.sessions ≤ length (step f client r).0.sessions) × (length (step f client r).0.sessions ≤ length f.sessions + 1)
step_few f client r =
    let P : ℕ → Type 0 = λ n. (length f.sessions ≤ n) × (n ≤ length f.sessions + 1) in
    let same : P (length f.sessions) = (omega arith, omega arith) in
    sessions_by f client (λ r xs. P (length xs))
    (record {
      stays = λ r. same;
      opens = λ b blank r opens.
          let count = length_push f.sessions (new_session client b r blank) in
          (omega (arith, count), omega (arith, count));
      word = λ s k sw x own turn. subst P (sym (length_changed s (worded sw) f.sessions)) same;
      ends = λ r s x own why. subst P (sym (length_changed s ended f.sessions)) same;
    }) r

-- ---- status words

abbrev words_of : Session → List ℕ
words_of x = x.words

pub step_turns : (f : Facts) (client : List ℕ) (r : Request) → TakesInTurn r f (step f client r).0
step_turns f client r =
    sessions_by f client (λ r xs. TakesInTurn r f (record f { sessions = xs }))
    (record {
      stays = λ r s x now was is. inl (ap words_of (same_Some now x (sym is ∙ was)));
      opens = λ b blank r opens s x now was is.
          inl (ap words_of (same_Some now x (sym is ∙ numbered_push f.sessions (new_session client b r blank ∷ []) s x was)));
      word = λ t k sw y own turn s x now was is. elim (numbered_changed f.sessions t y (worded sw) s now own.there is) [
        | inl hit ↦
            let one : y ≡ x = same_Some y x (sym own.there ∙ ap (session_numbered f.sessions) (sym hit.0) ∙ was) in
            let asked : request.Answer t k sw ≡ request.Answer s (length x.words) sw =
            ap (λ n. request.Answer n k sw) (sym hit.0) ∙ ap (λ n. request.Answer s n sw) (turn ∙ ap (λ (z : Session). length z.words) one) in
            inr (sw, asked, ap words_of hit.1 ∙ ap (λ (z : Session). z.words ++ sw ∷ []) one)
        | inr miss ↦ inl (ap words_of (same_Some now x (sym miss.1 ∙ was)))
      ];
      ends = λ r t y own why s x now was is. elim (numbered_changed f.sessions t y ended s now own.there is) [
        | inl hit ↦ inl (ap words_of hit.1 ∙ ap words_of (same_Some y x (sym own.there ∙ ap (session_numbered f.sessions) (sym hit.0) ∙ was)))
        | inr miss ↦ inl (ap words_of (same_Some now x (sym miss.1 ∙ was)))
      ];
    }) r

abbrev FitsWithin : (ℕ → ℕ) → Session → Type 0
FitsWithin most x = length x.words ≤ most x.blank

pub step_words : (f : Facts) (client : List ℕ) (r : Request) (most : ℕ → ℕ) → AnswersWithin most f r → WordsWithin most f → WordsWithin most (step f client r).0
step_words f client r most within few =
    sessions_by f client (λ r xs. AnswersWithin most f r → WordsWithin most (record f { sessions = xs }))
    (record {
      stays = λ r within. few;
      opens = λ b blank r opens within s x is. elim (numbered_pushed f.sessions (new_session client b r blank) s x is) [
        | inl was ↦ few s x was
        | inr now ↦ subst (FitsWithin most) (sym now) (omega arith)
      ];
      word = λ t k sw y own turn within s x is. elim (numbered_changed f.sessions t y (worded sw) s x own.there is) [
        | inl hit ↦
            let one : within.0 ≡ y = same_Some within.0 y (sym within.1 ∙ own.there) in
            let had : k < most y.blank = subst (λ (z : Session). k < most z.blank) one within.2 in
            subst (FitsWithin most) (sym hit.1) (omega (arith, length_push y.words sw, turn, had))
        | inr miss ↦ few s x miss.1
      ];
      ends = λ r t y own why within s x is. elim (numbered_changed f.sessions t y ended s x own.there is) [
        | inl hit ↦ subst (FitsWithin most) (sym hit.1) (few t y own.there)
        | inr miss ↦ few s x miss.1
      ];
    }) r within
