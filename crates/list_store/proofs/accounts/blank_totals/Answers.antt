use Rattle.std.proofs.Common.{◌∙◌, ℕ, List, ap, length, map}
use Rattle.std.specs.Prelude.{count_by, filter, sum_by}
use Rattle.job_facts.specs.declared.facts.Lot.{Lot}
use Rattle.job_facts.specs.Accounts.{is_blank_of, is_lot_of}
use Rattle.job_facts.specs.Facts.{Facts, Session}
use Rattle.job_facts.specs.States.{is_good, is_running, is_spoiled, lot_of, session_state}
use Rattle.list_store.specs.Sessions.{lots_for}
use Rattle.list_store.proofs.AccountLemmas.{blank_totals_of}
use Rattle.list_store.proofs.accounts.blank_totals.Goals as goal

pub returns : goal.returns
returns c =
    let f : Facts = c.args.facts.now in
    let p : List ℕ = c.args.product.now in
    let sessions = c.deref.ensures.value ∙ ap (λ (f : Facts). f.sessions) c.facts.view_is in
    let count : List Lot → ℕ = λ lots. length (lots_for lots p) in
    let sum : List Lot → ℕ = λ lots. sum_by (λ (l : Lot). l.count) (lots_for lots p) in
    let discarded : List Lot → List ℕ → ℕ = λ lots blanks. count_by (λ blank. is_lot_of p (lot_of lots blank)) blanks in
    blank_totals_of f p c.in_ok-states.states.items c.count_lots.result c.in_ok-sum_lots.field-0 c.count_sessions.result c.count_sessions-2.result
    c.count_sessions-3.result c.count_discarded.result
    (c.in_ok-states.ensures ∙ ap (λ (xs : List Session). map (session_state f) (filter (λ (s : Session). is_blank_of f p s.blank) xs)) sessions)
    (c.count_lots.ensures ∙ ap count (c.deref-2.ensures.value ∙ ap (λ (f : Facts). f.lots) c.facts.view_is))
    (c.in_ok-sum_lots.ensures ∙ ap sum (c.deref-3.ensures.value ∙ ap (λ (f : Facts). f.lots) c.facts.view_is))
    (c.count_sessions.ensures ∙ ap (count_by is_good) c.deref-4.ensures.value)
    (c.count_sessions-2.ensures ∙ ap (count_by is_running) c.deref-5.ensures.value)
    (c.count_sessions-3.ensures ∙ ap (count_by is_spoiled) c.deref-6.ensures.value)
    (c.count_discarded.ensures ∙ ap (λ lots. discarded lots c.deref-8.result.now) (c.deref-7.ensures.value ∙ ap (λ (f : Facts). f.lots) c.facts.view_is)
    ∙ ap (discarded f.lots) (c.deref-8.ensures.value ∙ ap (λ (f : Facts). f.discarded) c.facts.view_is))
