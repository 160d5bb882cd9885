use Rattle.std.proofs.Common.{◌≡◌, ℕ, List, [], fold, map, rules, ap, ◌∙◌}
use Rattle.store_data.specs.Groups.{with_key}
use Rattle.job_facts.specs.Contents.{Entry, Mark}
use Rattle.table_rows.specs.Tables.{StoredSession, Tables}
use Rattle.book_lines.proofs.ClientLemmas.{clients_joined}
use Rattle.book_lines.proofs.clients.clients_of.Goals as goal

pub returns : goal.returns
returns c =
    let ms : List (List ℕ) = map (λ (s : StoredSession). s.machine) c.args.tables.now.sessions in
    let es : List (List ℕ) = map (λ (e : Entry). e.client) c.args.tables.now.replies in
    let rs : List (List ℕ) = map (λ (m : Mark). m.client) c.args.tables.now.marks in
    let first : c.add_clients.new.names.items ≡ fold with_key [] ms = search rules in
    let second : c.add_clients-2.new.names.items ≡ fold with_key c.add_clients.new.names.items es =
    c.in_ok-add_clients-2.ensures.names
    ∙ ap (λ (rows : List Entry). fold with_key c.add_clients.new.names.items (map (λ (e : Entry). e.client) rows)) (c.deref-2.ensures.value ∙ ap (λ (t : Tables). t.replies) c.tables.view_is) in
    let third : c.add_clients-3.new.names.items ≡ fold with_key c.add_clients-2.new.names.items rs =
    c.in_ok-add_clients-3.ensures.names
    ∙ ap (λ (rows : List Mark). fold with_key c.add_clients-2.new.names.items (map (λ (m : Mark). m.client) rows)) (c.deref-3.ensures.value ∙ ap (λ (t : Tables). t.marks) c.tables.view_is) in
    clients_joined ms es rs c.add_clients.new.names.items c.add_clients-2.new.names.items c.add_clients-3.new.names.items first second third
