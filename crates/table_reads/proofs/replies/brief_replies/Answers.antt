use Rattle.std.proofs.Common.{◌≡◌, ◌∷◌, [], List, None, Option, Some, ap₂, false, map, refl, subst, sym}
use Rattle.std.specs.List.{AllByRecursion, AllZip}
use Rattle.sqlite.specs.Effect.{Database, IsDatabase}
use Rattle.sqlite.specs.Held.{state}
use Rattle.sqlite.specs.Order.{Row}
use Rattle.job_facts.specs.Contents.{Entry}
use Rattle.sql_base.proofs.Selecting.{if_ok}
use Rattle.sql_rows.specs.Image.{given_rows}
use Rattle.table_reads.specs.Converted.{AreConverted}
use Rattle.table_reads.specs.Replies.{StandWithoutBytes, brief_of}
use Rattle.table_reads.specs.Shown.{IsBriefRow}
use Rattle.table_reads.specs.Texts.{brief_replies_text}
use Rattle.table_reads.specs.declared.reads.TableRows.{TableRows}
use Rattle.table_reads.proofs.BriefRows.{none_stand, stand_without_bytes}
use Rattle.table_reads.proofs.BriefText.{brief_asks, brief_columns}
use Rattle.table_reads.proofs.ReadRows.{to_all}
use Rattle.table_reads.proofs.RowsHeld.{BriefRead}
use Rattle.table_reads.proofs.replies.brief_replies.Goals as goal

abbrev Gives : Row → Entry → Type 0
Gives row reply = IsBriefRow row × (reply ≡ brief_of row)

all_brief : (rows : List Row) (xs : List Entry) → AllZip Gives rows xs → AllByRecursion IsBriefRow rows
all_brief [] [] all = tt
all_brief [] (x ∷ xs) all = absurd all
all_brief (r ∷ rows) [] all = absurd all
all_brief (r ∷ rows) (x ∷ xs) all = (all.0.0, all_brief rows xs all.1)

all_are : (rows : List Row) (xs : List Entry) → AllZip Gives rows xs → xs ≡ map brief_of rows
all_are [] [] all = refl
all_are [] (x ∷ xs) all = absurd all
all_are (r ∷ rows) [] all = absurd all
all_are (r ∷ rows) (x ∷ xs) all = ap₂ ◌∷◌ all.0.1 (all_are rows xs all.1)

brief_found : (db : Database) → IsDatabase db → (found : Option (TableRows Entry)) → AreConverted IsBriefRow Gives brief_replies_text db found → BriefRead db found
brief_found db sound None read tree finds = let l = read tree brief_columns (brief_asks db.schema tree finds) in none_stand (db.trees tree) l.rows l.apart l.shown l.lack
brief_found db sound (Some all) read tree finds =
    let a = read tree brief_columns (brief_asks db.schema tree finds) in (
      subst (λ entries. StandWithoutBytes entries (given_rows false (db.trees tree))) (sym (all_are a.rows all.rows.items a.values))
          (stand_without_bytes db sound tree finds a.rows all.apart a.shown (to_all IsBriefRow a.rows (all_brief a.rows all.rows.items a.values))),
      a.shown.apart_is,
    )

pub returns-clause-value : goal.returns-clause-value
returns-clause-value g c clean =
    let db = (state g.S.Store c.args.conn.now).now in
    if_ok c.converted.result _ _ (λ found read. (read.0, brief_found db read.1 found read.2)) (c.converted.ensures.value clean)
