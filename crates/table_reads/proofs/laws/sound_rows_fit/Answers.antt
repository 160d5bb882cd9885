use Rattle.table_reads.proofs.SoundRanges.{sound_fit}
use Rattle.table_reads.proofs.laws.sound_rows_fit.Goals as goal

pub returns : goal.returns
returns c = sound_fit
