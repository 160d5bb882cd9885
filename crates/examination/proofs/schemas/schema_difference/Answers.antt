use Rattle.std.proofs.Common.{sym, ◌∙◌}
use Rattle.std.proofs.lemmas.Bool.{false≢true}
use Rattle.examination.proofs.schemas.schema_difference.Goals as goal

pub lacking-requires : goal.lacking-requires
lacking-requires c = λ is. false≢true (sym c.if-is_empty.false ∙ c.is_empty.ensures.1 is)
