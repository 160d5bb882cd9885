use Rattle.std.proofs.Common.{ℕ, List, ap, ◌∙◌}
use Rattle.std.specs.Prelude.{◌==◌, filter, option_map, slice_get}
use Rattle.table_rows.specs.Tables.{StoredSession}
use Rattle.book_lines.proofs.KeyedLemmas.{first_under}
use Rattle.book_lines.proofs.keyed.session_on.Goals as goal

pub returns : goal.returns
returns c = λ sessions keyed.
    c.first_row.ensures
    ∙ ap (λ (ks : List (ℕ × StoredSession)). option_map (λ (k : ℕ × StoredSession). k.1) (slice_get ks 0)) (c.range_of.ensures ∙ keyed.found c.args.serial)
    ∙ first_under (λ (s : StoredSession). s.serial) (filter (λ (s : StoredSession). s.serial == c.args.serial) sessions)
