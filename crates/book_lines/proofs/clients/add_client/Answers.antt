use Rattle.std.proofs.Common.{◌≡◌, ℕ, List, Some, cond, false, is_some, ap, sym, ◌∙◌}
use Rattle.std.specs.Prelude.{bytes_eq}
use Rattle.std.specs.List.{list_any}
use Rattle.std.proofs.lemmas.Map.Text.{btree_map_updates_str}
use Rattle.book_lines.specs.Keyed.{found_at}
use Rattle.book_lines.proofs.ClientLemmas.{is_some_found, places_pushed}
use Rattle.book_lines.proofs.clients.add_client.Goals as goal

pub returns-in_ok-push-clause-places : goal.returns-in_ok-push-clause-places
returns-in_ok-push-clause-places c = λ q.
    let names : List (List ℕ) = c.args.names.now.items in
    let k : List ℕ = c.args.name.now in
    let absent : list_any (bytes_eq k) names ≡ false = sym (is_some_found names k) ∙ ap is_some (sym (c.requires k)) ∙ sym c.contains_key.ensures ∙ c.if-not-contains_key.true in
    btree_map_updates_str k c.args.places.now c.insert.new.self (Some c.len.result) c.in_ok-insert.ensures.updates q
    ∙ ap (λ o. cond (bytes_eq k q) (Some c.len.result) o) (c.requires q)
    ∙ ap (λ n. cond (bytes_eq k q) (Some n) (found_at names q)) (c.len.ensures ∙ c.args.names.now.ok.0)
    ∙ places_pushed names k q absent
    ∙ ap (λ ns. found_at ns q) (sym c.in_ok-push.ensures.items)
