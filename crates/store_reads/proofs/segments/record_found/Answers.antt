use Rattle.std.proofs.Common.{◌∙◌}
use Rattle.sqlite.specs.Held.{state}
use Rattle.store_reads.proofs.KnownRows.{read_beside}
use Rattle.store_reads.proofs.ReadContents.{if_ok, rows_as}
use Rattle.store_reads.proofs.segments.record_found.Goals as goal

pub returns-in_default-clause-known : goal.returns-in_default-clause-known
returns-in_default-clause-known g c clean = if_ok c.record_read.result _ _ (λ found shows. (shows.0, λ t is apart all. shows.1 t is apart)) (c.record_read.ensures.known clean)

pub returns-in_default-stands-clause-known : goal.returns-in_default-stands-clause-known
returns-in_default-stands-clause-known g c clean = if_ok c.record_read-in_default-stands.result _ _ (λ found shows. (shows.0, λ t is apart all. shows.1 t is apart)) (c.record_read-in_default-stands.ensures.known clean)

pub returns-clause-known : goal.returns-clause-known
returns-clause-known g c =
    let made = c.beside.ensures in
    rows_as (state g.S.Store c.args.conn.now) (state g.S.Store c.heads_at.new.conn) _ _ c.in_ok-heads.ensures.value
    (λ t are apart all.
    read_beside t c.args.known.now apart all c.in-Some.other.now c.beside.result c.in-Some.ensures.known c.args.rec.now c.in-Some-stands.card.now c.in-Some-stands.ensures.known
    _ are made.heads made.id made.batch made.product made.place (made.rec ∙ c.in-Some-stands.ensures.known.1))

pub returns-clause-named : goal.returns-clause-named
returns-clause-named g c = (c.beside.ensures.batch ∙ c.in-Some.ensures.batch, c.beside.ensures.rec ∙ c.in-Some-stands.ensures.known.1)
