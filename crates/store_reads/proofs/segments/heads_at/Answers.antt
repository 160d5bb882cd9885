use Rattle.std.proofs.Common.{ap, ◌∙◌}
use Rattle.sqlite.specs.Held.{state}
use Rattle.store_reads.specs.Segments.{heads_of}
use Rattle.store_reads.proofs.ReadContents.{rows_as}
use Rattle.store_reads.proofs.segments.heads_at.Goals as goal

pub returns-clause-value : goal.returns-clause-value
returns-clause-value g c =
    rows_as (state g.S.Store c.args.conn.now) (state g.S.Store c.groupings_of.new.conn) _ _ c.in_ok-groupings.ensures.finds.found
    (λ t sorted. (c.in_ok-groupings.groupings.items, sorted, c.in_ok-heads.ensures ∙ ap heads_of c.as_slice.ensures.value))
