use Rattle.std.proofs.Common.{ℕ, Option, ap, ◌∙◌}
use Rattle.std.specs.Prelude.{unwrap_or}
use Rattle.book_lines.specs.Keyed.{found_at}
use Rattle.book_lines.proofs.ClientLemmas.{place_or_length}
use Rattle.book_lines.proofs.clients.place_of.Goals as goal

pub returns : goal.returns
returns c =
    let clients = c.args.clients.now in
    c.unwrap_or.ensures
    ∙ ap (λ (o : Option ℕ). unwrap_or o c.len.result) (c.copied-place.ensures ∙ c.get.ensures.value ∙ clients.places_are c.args.name.now)
    ∙ ap (unwrap_or (found_at clients.names.items c.args.name.now)) (c.len.ensures ∙ clients.names.ok.0)
    ∙ place_or_length clients.names.items c.args.name.now
