-- From the rows that a database holds to the contents of the opened store.
use Rattle.std.proofs.Common.{IsTrue, subst, sym, arith}
use Rattle.sqlite.specs.Effect.{Database}
use Rattle.sqlite.specs.State.{HasCleanDisk, State, Survives}
use Rattle.sqlite.proofs.StateLemmas.{survives_then}
use Rattle.table_rows.specs.Tables.{HaveSameRows, Tables}
use Rattle.image_laws.specs.Image.{image}
use Rattle.sql_base.specs.Ends.{IsKept, IsLeft}
use Rattle.sql_tables.specs.declared.versions.Version.{Version}
use Rattle.sql_rows.proofs.SameRows.{same_rows}
use Rattle.audit_rows.proofs.SoundLemmas.{same_back}
use Rattle.table_reads.specs.Holding.{HoldsRows}
use Rattle.examination.specs.declared.finding.ExaminedRows.{ExaminedRows}
use Rattle.adoption.specs.Adopts.{Adopts, Settles}
use Rattle.adoption.specs.EndsCommitted.{EndsCommitted}
use Rattle.adoption.specs.Reading.{HoldsAsRead, IsReading}
use Rattle.adoption.specs.Unwritten.{LeavesOurs}

-- the lemma that a database holds its rows in any order
abbrev pub OrderLaw : Type 0
OrderLaw = (v : Version) (t u : Tables) (db : Database) → HaveSameRows t u → HoldsRows v u db → HoldsRows v t db

pub adopted : OrderLaw → (read : ExaminedRows) (old new : Database) → HoldsAsRead read old → Settles read old new → Adopts old new
adopted law read old new found settles =
    let t = found.0 in
    let c = found.2.0 in
    let same = same_back t (image c) found.2.2 in
    record {
      version = read.version;
      contents = c;
      sound = found.2.1;
      held = law read.version (image c) t old same found.1.rows;
      stands = same_rows (image c) t new same (settles t found.1);
    }

-- an examination, followed by `settle`
module _ (law : OrderLaw) (read : ExaminedRows) (old mid new : State) (kept : HasCleanDisk mid → IsKept old mid) (found : HasCleanDisk mid → HoldsAsRead read old.now) where
  turned : HasCleanDisk mid → IsTrue mid.is_open → (db : Database) → Settles read mid.now db → Adopts old.now db
  turned clean shown db settles = adopted law read old.now db (found clean) (subst (λ (d : Database). Settles read d db) ((kept clean).now_is shown) settles)

  pub taken : HasCleanDisk mid → EndsCommitted (Settles read) mid new → EndsCommitted Adopts old new
  taken clean comes = record {
    db = comes.db;
    made = turned clean comes.was_open comes.db comes.made;
    shown = comes.shown;
    only = comes.only;
    was_open = (kept clean).was_open comes.was_open;
    is_open = comes.is_open;
  }

  pub left_taken : Survives old mid (λ _. ⊥) → Survives mid new (IsLeft (Settles read) mid) → Survives old new (IsLeft Adopts old)
  left_taken before last =
      survives_then old mid new (λ _. ⊥) (IsLeft (Settles read) mid) (IsLeft Adopts old) (λ _ db none. absurd none)
      (λ clean db it. let early : HasCleanDisk mid = omega (arith, last.clean) in ((kept early).was_open it.0, (it.1.0, turned early it.0 it.1.0 it.1.1, it.1.2))) before last

  -- `settle` leaves the trees unchanged if the database holds the rows that were read.
  pub leaves_as_read : ((t : Tables) → IsReading t mid.now read → LeavesOurs mid new) → HasCleanDisk mid → IsTrue mid.is_open → LeavesOurs mid new
  leaves_as_read leaves clean live = let it = found clean in leaves it.0 (subst (λ (d : Database). IsReading it.0 d read) (sym ((kept clean).now_is live)) it.1)
