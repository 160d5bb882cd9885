use Rattle.std.proofs.Common.{◌≡◌, ◌++◌, ◌==◌, ℕ, List, ap, ◌∙◌, subst}
use Rattle.std.specs.Prelude.{OnOk, filter}
use Rattle.table_rows.specs.Tables.{StoredRecord, StoredSession}
use Rattle.book_lines.specs.Cards.{Card}
use Rattle.book_lines.proofs.CardLemmas.{keyed_cards}
use Rattle.book_lines.proofs.cards.add_record.Goals as goal

pub returns : goal.returns
returns c =
    let own = c.range_of.ensures ∙ ap (λ (r : StoredRecord). filter (λ (k : ℕ × StoredSession). k.0 == r.place) c.args.by_place.now) c.rec.view_is in
    subst (λ (more : List Card). OnOk c.add_sessions.result (c.add_sessions.new.cards.items ≡ c.args.cards.now.items ++ more))
    (keyed_cards c.args.tables.now c.args.rec.now c.args.by_place.now c.range_of.result.now own c.requires.keyed) c.add_sessions.ensures
