use Rattle.audit_laws.proofs.ImageRows.{audited_image}
use Rattle.audit_laws.proofs.SoundRecords.{contents_sound}
use Rattle.audit_laws.proofs.SoundRows.{rows_agree}
use Rattle.audit_laws.proofs.laws.audited_rows_are_sound.Goals as goal

pub returns : goal.returns
returns call = record {
  sound = contents_sound;
  image = λ t audited. audited_image t audited (rows_agree t audited);
}
