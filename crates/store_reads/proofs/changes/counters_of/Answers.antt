use Rattle.std.proofs.Common.{◌∙◌, ap}
use Rattle.std.specs.Prelude.{option_map}
use Rattle.std.proofs.Math.Logic.{∥∥₁_elim}
use Rattle.std.specs.Coded.{coded_option}
use base.Stored.{Coded-set}
use Rattle.sqlite.specs.Held.{state}
use Rattle.image_laws.specs.Image.{image}
use Rattle.row_laws.proofs.Finding.{option_map-map}
use Rattle.row_reads.specs.RowValues.{head_of}
use Rattle.store_reads.specs.contracts.known.BatchCounters.{the_row}
use Rattle.store_reads.specs.Heads.{counters_at}
use Rattle.store_reads.proofs.ByKnown.{sound_apart}
use Rattle.store_reads.proofs.Counted.{counters_told}
use Rattle.store_reads.proofs.KnownRows.{all_known_in}
use Rattle.store_reads.proofs.changes.counters_of.Goals as goal

pub returns-in-Some-clause-value : goal.returns-in-Some-clause-value
returns-in-Some-clause-value g c clean live d sound is =
    ∥∥₁_elim (all_known_in (state g.S.Store c.args.conn.now) c.args.known.now c.requires.knows clean live (image d) is) (Coded-set (coded_option the_row.coded) _ _)
    (λ all. counters_told (image d) c.args.known.now (sound_apart c.batches_by_name.ensures.once c.records_by_name.ensures.once d sound) all c.args.batch.now c.in-Some.counters c.in-Some.ensures.known)

pub returns-clause-value : goal.returns-clause-value
returns-clause-value g c clean live d sound is =
    c.counters_at.ensures
    ∙ ap (option_map counters_at) ((c.in_ok-head.ensures.finds.found clean).1 (image d) is (c.batches_by_name.ensures.once d.facts c.args.batch.now sound.facts))
    ∙ option_map-map counters_at head_of _
