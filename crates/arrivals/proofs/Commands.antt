-- Proves that the reference model returns commands in the order of their sequence.
use Rattle.std.proofs.Common.{◌≡◌, ◌∙◌, ◌+◌, ◌==◌, ℕ, true, List, length, Option, Some, None, Result, Ok, Err, refl, sym, ap}
use Rattle.std.specs.Prelude.{bytes_eq, not, nat_le, slice_get}
use Rattle.std.proofs.lemmas.Bool.{cond_both, not-false}
use borrow.Author.Tests.{eqb-true}
use Rattle.store_data.specs.declared.row.Product.{Product}
use Rattle.store_data.specs.declared.row.Row.{Row}
use Rattle.batch_import.specs.declared.fault.RowFault.{RowFault}
use Rattle.batch_import.specs.Batch.{batch_of}
use Rattle.job_facts.specs.declared.facts.Lot.{Lot}
use Rattle.job_facts.specs.declared.facts.RecordState.{RecordState}
use Rattle.job_facts.specs.declared.facts.RecordState.TheVariants as rec
use Rattle.job_facts.specs.Contents.{Mark}
use Rattle.job_facts.specs.declared.request.Call.{Call}
use Rattle.job_facts.specs.declared.request.Call.TheVariants.{Job, Release}
use Rattle.job_facts.specs.declared.request.Request.{Request}
use Rattle.job_facts.specs.declared.request.Request.TheVariants as request
use Rattle.job_facts.specs.declared.reply.Reply.{Reply}
use Rattle.job_facts.specs.Facts.{Batch, Facts, Session}
use Rattle.job_facts.specs.States.{any_overlaps, batch_named, command_bytes, commands_for, first_waiting, goes_at, is_batch_finished, is_charged, is_closed, is_running, lot_named, lot_of, product_named, record_state_of, running_session, session_numbered, session_state}
use Rattle.job_facts.specs.Steps.{Outcome, by_option, in_batch, in_record, in_session, remade, same_batch, same_lot, same_product, step, step_answer, step_import, step_lot, step_open, step_product, taken_in, withdrawn}
use Rattle.job_facts.specs.Sound.{IsSound}
use Rattle.arrivals.specs.Commands.{HandsOutNext}
use Rattle.arrivals.specs.Meaning.{reply_by}
use Rattle.arrivals.proofs.Sequences.{first_command, next_command}

option_both : {A : Type 0} (o : Option A) (x : Outcome) (g : A → Outcome) (P : Outcome → Type 0) → P x → ((y : A) → o ≡ Some y → P (g y)) → P (by_option o x g)
option_both None x g P without having = without
option_both (Some y) x g P without having = having y refl

abbrev Fits : Facts → Outcome → Type 0
Fits f o = HandsOutNext f o.1

product_fits : (f : Facts) (p : Product) → Fits f (step_product f p)
product_fits f p =
    option_both (product_named f.products p.code) _ _ (Fits f)
    (cond_both {A = Outcome} (nat_le 256 (length f.products)) _ _ (Fits f) (λ yes. tt) (λ no. tt))
    (λ kept is. cond_both {A = Outcome} (same_product kept p) _ _ (Fits f) (λ yes. tt) (λ no. tt))

lot_fits : (f : Facts) (l : Lot) → Fits f (step_lot f l)
lot_fits f l =
    option_both (lot_named f.lots l.name) _ _ (Fits f)
    (option_both (product_named f.products l.product) _ _ (Fits f) tt (λ p is.
    cond_both {A = Outcome} (any_overlaps f.lots l.first l.count) _ _ (Fits f) (λ yes. tt) (λ no.
    cond_both {A = Outcome} (nat_le 4096 (length f.lots)) _ _ (Fits f) (λ yes. tt) (λ no. tt))))
    (λ kept is. cond_both {A = Outcome} (same_lot kept l) _ _ (Fits f) (λ yes. tt) (λ no. tt))

taken_fits : (f : Facts) (b p raw : List ℕ) (r : Result (List Row) RowFault) → Fits f (taken_in f b p raw r)
taken_fits f b p raw (Ok rows) = tt
taken_fits f b p raw (Err fault) = tt

import_fits : (f : Facts) (b p raw : List ℕ) → Fits f (step_import f b p raw)
import_fits f b p raw =
    option_both (batch_named f.batches b) _ _ (Fits f)
    (option_both (product_named f.products p) _ _ (Fits f) tt (λ kept is.
    cond_both {A = Outcome} (nat_le 4096 (length f.batches)) _ _ (Fits f) (λ yes. tt) (λ no. taken_fits f b p raw (batch_of kept raw))))
    (λ kept is. cond_both {A = Outcome} (same_batch kept p raw) _ _ (Fits f) (λ yes. tt) (λ no. tt))

-- a batch that isn't closed
batch_fits : (f : Facts) (b : List ℕ) (act : Batch → Outcome) → ((kept : Batch) → Fits f (act kept)) → Fits f (in_batch f b act)
batch_fits f b act fits = option_both (batch_named f.batches b) _ _ (Fits f) tt (λ kept is. cond_both {A = Outcome} (is_closed f b) _ _ (Fits f) (λ yes. tt) (λ no. fits kept))

open_fits : (f : Facts) (machine b : List ℕ) (blank : ℕ) → Fits f (step_open f machine b blank)
open_fits f machine b blank = batch_fits f b _ (λ kept.
    option_both (running_session f machine) _ _ (Fits f)
    (option_both (lot_of f.lots blank) _ _ (Fits f) tt (λ l there.
    cond_both {A = Outcome} (not (bytes_eq l.product kept.product)) _ _ (Fits f) (λ yes. tt) (λ no.
    cond_both {A = Outcome} (is_charged f blank) _ _ (Fits f) (λ yes. tt) (λ no.
    option_both (first_waiting f b) _ _ (Fits f) tt (λ r first. let c = first_command f b r first in (c.0, c.1, ap command_bytes c.1))))))
    (λ s runs. tt))

-- a running session of the client
session_fits : (f : Facts) (client : List ℕ) (s : ℕ) (act : Session → Outcome)
    → ((x : Session) → session_numbered f.sessions s ≡ Some x → is_running (session_state f x) ≡ true → Fits f (act x))
    → Fits f (in_session f client s act)
session_fits f client s act acts =
    option_both (session_numbered f.sessions s) _ _ (Fits f) tt (λ x is.
    cond_both {A = Outcome} (not (bytes_eq x.machine client)) _ _ (Fits f) (λ yes. tt) (λ no.
    cond_both {A = Outcome} (not (is_running (session_state f x))) _ _ (Fits f) (λ yes. tt) (λ no. acts x is (not-false (is_running (session_state f x)) no))))

answer_fits : (f : Facts) → IsSound f → (client : List ℕ) (s k sw : ℕ) → Fits f (step_answer f client s k sw)
answer_fits f sound client s k sw = session_fits f client s _ (λ x is runs.
    cond_both {A = Outcome} (k == length x.words) _ _ (Fits f)
    (λ in_turn.
    cond_both {A = Reply} (goes_at (commands_for f x.batch x.rec) k sw) _ _ (HandsOutNext f)
    (λ goes.
    cond_both {A = Reply} (k + 1 == length (commands_for f x.batch x.rec)) _ _ (HandsOutNext f) (λ last. tt)
    (λ more.
    let place : k + 1 ≡ length x.words + 1 = ap (λ n. n + 1) (eqb-true k (length x.words) in_turn) in
    let c = next_command f s x sound is runs (sym (ap (λ n. n == length (commands_for f x.batch x.rec)) place) ∙ more) in
    let at : slice_get (commands_for f x.batch x.rec) (k + 1) ≡ Some c.0 = ap (slice_get (commands_for f x.batch x.rec)) place ∙ c.1 in
    (x, is, place, (c.0, at, ap command_bytes at))))
    (λ stops. tt))
    (λ out_of_turn. tt))

remade_fits : (f : Facts) (b r : List ℕ) (state : RecordState) → Fits f (remade f b r state)
remade_fits f b r rec.Failed = tt
remade_fits f b r _ = tt

withdrawn_fits : (f : Facts) (b r : List ℕ) (state : RecordState) → Fits f (withdrawn f b r state)
withdrawn_fits f b r rec.Failed = tt
withdrawn_fits f b r rec.Waiting = tt
withdrawn_fits f b r _ = tt

record_fits : (f : Facts) (b r : List ℕ) (act : RecordState → Outcome) → ((state : RecordState) → Fits f (act state)) → Fits f (in_record f b r act)
record_fits f b r act fits = batch_fits f b _ (λ kept. option_both (record_state_of f b r) _ _ (Fits f) tt (λ state is. fits state))

pub hands_out_next : (f : Facts) → IsSound f → (client : List ℕ) (r : Request) → HandsOutNext f (step f client r).1
unfolding step
hands_out_next f sound client (request.Product p) = product_fits f p
hands_out_next f sound client (request.Lot l) = lot_fits f l
hands_out_next f sound client (request.Import b p raw) = import_fits f b p raw
hands_out_next f sound client (request.Open b blank) = open_fits f client b blank
hands_out_next f sound client (request.Answer s k sw) = answer_fits f sound client s k sw
hands_out_next f sound client (request.Abort s) = session_fits f client s _ (λ x is runs. tt)
hands_out_next f sound client request.Reset = option_both (running_session f client) _ _ (Fits f) tt (λ s is. tt)
hands_out_next f sound client (request.Discard blank) =
    option_both (lot_of f.lots blank) _ _ (Fits f) tt (λ l is. cond_both {A = Outcome} (is_charged f blank) _ _ (Fits f) (λ yes. tt) (λ no. tt))
hands_out_next f sound client (request.Remake b r) = record_fits f b r (remade f b r) (remade_fits f b r)
hands_out_next f sound client (request.Withdraw b r) = record_fits f b r (withdrawn f b r) (withdrawn_fits f b r)
hands_out_next f sound client (request.Close b) = batch_fits f b _ (λ kept. cond_both {A = Outcome} (is_batch_finished f b) _ _ (Fits f) (λ yes. tt) (λ no. tt))

-- a command in the reply to a call is the next one of its sequence; the reply to a release has no
-- command
pub call_hands_out_next : (f : Facts) → IsSound f → (marks : List Mark) (client : List ℕ) (number : ℕ) (call : Call) → HandsOutNext f (reply_by f marks client number call)
call_hands_out_next f sound marks client number (Job r) = hands_out_next f sound client r
call_hands_out_next f sound marks client number (Release upto) = cond_both {A = Reply} (nat_le number upto) _ _ (HandsOutNext f) (λ far. tt) (λ near. tt)
