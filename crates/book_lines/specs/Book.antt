-- Rows that lines are made from: they represent sound contents, and they are sorted so that they
-- can be searched.
use Rattle.table_rows.specs.Tables.{Tables}
use Rattle.audit_laws.specs.Audited.{IsAudited}
use Rattle.audit_order.specs.Order.{AreReady, AreSorted}

pub record IsBook (t : Tables) : Type 0 where
  pub audited : IsAudited t
  pub sorted : AreSorted t
  pub ready : AreReady t
