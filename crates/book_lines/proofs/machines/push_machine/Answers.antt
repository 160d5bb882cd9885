use Rattle.std.proofs.Common.{◌≡◌, ◌++◌, ◌==◌, ℕ, List, length, ap, ◌∙◌, subst}
use Rattle.std.specs.Prelude.{OnOk, filter, find, fold, max, option_map, slice_get, unwrap_or}
use Rattle.job_facts.specs.Contents.{Entry, Mark}
use Rattle.job_facts.specs.States.{is_running}
use Rattle.table_rows.specs.Tables.{StoredSession}
use Rattle.book_lines.specs.Lines.{Line, line_text}
use Rattle.book_lines.specs.Machines.{boot_above, boot_of}
use Rattle.book_lines.proofs.MachineLemmas.{line_is}
use Rattle.book_lines.proofs.machines.push_machine.Goals as goal

pub returns : goal.returns
returns c =
    let place : ℕ = c.args.place in
    let sessions = c.range_of-sessions.ensures ∙ ap (filter (λ (k : ℕ × StoredSession). k.0 == place)) c.deref.ensures.value in
    let replies = c.range_of-replies.ensures ∙ ap (filter (λ (k : ℕ × Entry). k.0 == place)) c.deref-2.ensures.value in
    let marks = c.range_of.ensures ∙ ap (filter (λ (k : ℕ × Mark). k.0 == place)) c.deref-3.ensures.value in
    subst (λ (line : Line). OnOk c.push_line.result (c.push_line.new.text.items ≡ c.args.text.now.items ++ line_text c.args.form line))
    (line_is c.args.rows.now.tables.now c.args.rows.now.clients.names.items c.args.rows.now.sessions.items c.args.rows.now.replies.items c.args.rows.now.marks.items
    c.args.rows.now.clients_are c.args.rows.now.sessions_are c.args.rows.now.replies_are c.args.rows.now.marks_are place c.args.client.now c.requires
    c.word.result c.optional.result c.optional_digits.result c.number.result c.optional-2.result c.running_in.result c.upto_of-upto.result (length c.range_of-replies.result.now) c.next_boot.result
    c.word.ensures c.optional.ensures c.optional_digits.ensures c.number.ensures c.optional-2.ensures
    (c.running_in.ensures
    ∙ ap (λ (ks : List (ℕ × StoredSession)). option_map (λ (k : ℕ × StoredSession). k.1.id) (find (λ (k : ℕ × StoredSession). is_running k.1.state) ks)) sessions)
    (c.upto_of-upto.ensures ∙ ap (λ (ks : List (ℕ × Mark)). option_map (λ (k : ℕ × Mark). k.1.upto) (slice_get ks 0)) marks)
    (ap length replies)
    (c.next_boot.ensures
    ∙ ap (λ (n : ℕ). boot_above (fold (λ last (k : ℕ × Entry). max last (boot_of k.1.number)) (boot_of n) c.range_of-replies.result.now)) c.unwrap_or.ensures
    ∙ ap (λ (ks : List (ℕ × Entry)). boot_above (fold (λ last (k : ℕ × Entry). max last (boot_of k.1.number)) (boot_of (unwrap_or c.upto_of-upto.result 0)) ks)) replies))
    c.push_line.ensures
