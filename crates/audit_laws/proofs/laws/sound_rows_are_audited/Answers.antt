use Rattle.audit_laws.proofs.AuditedImage.{rows_audited}
use Rattle.audit_laws.proofs.laws.sound_rows_are_audited.Goals as goal

pub returns : goal.returns
returns call c t sound ordered same = rows_audited c t sound ordered same
