use Rattle.std.proofs.Common.{subst, sym}
use Rattle.sqlite.specs.Held.{state}
use Rattle.image_laws.specs.Image.{image}
use Rattle.sql_tables.specs.declared.versions.Version.TheVariants.{Three}
use Rattle.table_reads.specs.Holding.{HoldsRows}
use Rattle.schema.proofs.again.SqlStoreReopen.reopen.Goals as goal

pub returns-in-Ok-clause-holds : goal.returns-in-Ok-clause-holds
returns-in-Ok-clause-holds g c = λ shut clean d held.
    let rows : HoldsRows Three (image d) (state g.S.Store c.close.result).now =
    subst (λ h. HoldsRows Three (image d) (state g.S.Store h).now) (sym c.close.ensures.handed) (c.our_rows_are_an_image.ensures.held (image d) _ (held.1 shut)) in
    record { holds = c.in-Ok.ensures.holds clean Three d held.0 rows; crash = λ e. c.in-Ok.ensures.crash clean Three d e held.0 rows }
