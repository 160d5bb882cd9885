use Rattle.image_laws.proofs.Releasing.{rows_after_release_are}
use Rattle.image_laws.proofs.releases.rows_after_release.Goals as goal

pub returns : goal.returns
returns call c upto entry = rows_after_release_are c upto entry
