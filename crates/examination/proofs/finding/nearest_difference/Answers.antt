use Rattle.std.proofs.Common.{ap, subst, ◌∙◌}
use Rattle.sql_tables.specs.Alike.{HasExactly}
use Rattle.sql_tables.specs.Versions.{schema_of}
use Rattle.examination.specs.Differences.{nearest}
use Rattle.examination.proofs.finding.nearest_difference.Goals as goal

pub schema_difference-requires : goal.schema_difference-requires
schema_difference-requires g c = λ just.
    let s = c.schema-schema.result.now in
    let named : HasExactly s (schema_of (nearest s)) = subst (HasExactly s) (c.in_ok-ours.ensures ∙ ap schema_of c.nearest.ensures) just in
    c.requires (nearest s) (subst (λ x. HasExactly x (schema_of (nearest s))) c.schema-schema.ensures.value named)
