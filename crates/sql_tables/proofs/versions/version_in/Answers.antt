use Rattle.std.proofs.Common.{◌≡◌, subst}
use Rattle.sqlite.specs.Held.{state}
use Rattle.sqlite.specs.Schema.{Schema}
use Rattle.sql_tables.specs.Alike.{HasExactly}
use Rattle.sql_tables.specs.Ours.{AreThere}
use Rattle.sql_tables.specs.Tables.{our_schema}
use Rattle.sql_tables.specs.Versions.{schema_of}
use Rattle.sql_tables.specs.declared.versions.Version.{Version}
use Rattle.sql_tables.specs.declared.versions.Version.TheVariants.{One, Three, Two}
use Rattle.sql_tables.proofs.versions.version_in.Goals as goal

pub returns-then-has_tables-clause-exact : goal.returns-then-has_tables-clause-exact
returns-then-has_tables-clause-exact g c =
    let s = (state g.S.Store c.args.conn.now).now.schema in
    subst (λ ours. HasExactly s ours) c.in_ok-ours.ensures (c.has_tables.ensures.exact.0 c.if-has_tables.true)

pub returns-then-has_tables-clause-there : goal.returns-then-has_tables-clause-there
returns-then-has_tables-clause-there g c live =
    let s = (state g.S.Store c.args.conn.now).now.schema in
    subst (λ ours. AreThere s ours.tables) c.in_ok-ours.ensures (c.has_tables.ensures.there live c.if-has_tables.true)

pub returns-then-branch-clause-there : goal.returns-then-branch-clause-there
returns-then-branch-clause-there g c live = c.in_ok-has_version.ensures.there live c.if-branch.true

pub returns-then-branch-2-clause-there : goal.returns-then-branch-2-clause-there
returns-then-branch-2-clause-there g c live = c.in_ok-has_version-2.ensures.there live c.if-branch-2.true

none_of : (s ours : Schema) (v : Version) → ours ≡ our_schema → ¬ HasExactly s (schema_of One) → ¬ HasExactly s (schema_of Two) → ¬ HasExactly s ours → ¬ HasExactly s (schema_of v)
none_of s ours One is one two three = one
none_of s ours Two is one two three = two
none_of s ours Three is one two three = subst (λ o. ¬ HasExactly s o) is three

pub returns-clause-exact : goal.returns-clause-exact
returns-clause-exact g c v =
    none_of (state g.S.Store c.args.conn.now).now.schema c.in_ok-ours.ours v c.in_ok-ours.ensures
    (λ just. let yes = c.in_ok-has_version-2.ensures.exact.1 just in absurd (cc (yes, c.if-branch-2.false)))
    (λ just. let yes = c.in_ok-has_version.ensures.exact.1 just in absurd (cc (yes, c.if-branch.false)))
    (λ just. let yes = c.has_tables.ensures.exact.1 just in absurd (cc (yes, c.if-has_tables.false)))
