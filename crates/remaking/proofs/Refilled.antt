-- Rows are inserted into newly created tables.
use Rattle.std.proofs.Common.{◌∙◌, Result, Ok, Err, OnOk}
use Rattle.sqlite.specs.State.{State}
use Rattle.sqlite.specs.declared.error.Error.{Error}
use Rattle.sqlite.proofs.InsideLemmas.{keeps_then}
use Rattle.table_rows.specs.Tables.{Tables, no_rows}
use Rattle.sql_base.specs.Ends.{Wrote}
use Rattle.sql_tables.specs.declared.versions.Version.{Version}
use Rattle.sql_rows.specs.Image.{IsImage, Moves}
use Rattle.sql_rows.proofs.Newly.{newly_filled}
use Rattle.sql_rows.specs.Many.{WroteMany}
use Rattle.remaking.specs.Anew.{MakesAnew}
use Rattle.remaking.specs.Rows.{with_all}
use Rattle.remaking.specs.Remakes.{Remakes}

pub filled_anew : {X : Type 0} (version : Version) (t : Tables) (a b d : State) (n : Unit {0}) (r : Result X Error) → Wrote (MakesAnew version) a b (Ok n) → WroteMany (Moves (with_all t)) b d r
    → OnOk r (IsImage no_rows b.now → IsImage t d.now) → Wrote (Remakes version t) a d r
filled_anew version t a b d n (Ok x) anew many alone = record {
  well = record {
    made = λ sound just. alone (newly_filled b.now (anew.well.made sound just));
    committed = many.well.committed ∙ anew.well.committed;
    inside = many.well.inside anew.well.inside;
    was_open = anew.well.was_open;
  };
  kept = keeps_then a b d anew.kept many.kept;
}
filled_anew version t a b d n (Err e) anew many alone = record { well = tt; kept = keeps_then a b d anew.kept many.kept }
