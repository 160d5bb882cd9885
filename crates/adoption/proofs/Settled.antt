-- Tables that are unchanged or rebuilt.
use Rattle.std.proofs.Common.{◌≡◌, ◌∙◌, ℕ, List, [], IsTrue, Option, Some, MatchOption, Result, Ok, Err, OnErr, OnOk, inl, inr, refl, sym, ap, subst, arith}
use Rattle.sqlite.specs.Effect.{Database, IsDatabase}
use Rattle.sqlite.specs.Held.{Held, state}
use Rattle.sqlite.specs.State.{HasCleanDisk, IsLive, IsNotRun, IsRolledBack, IsUnchanged, State, Survives}
use Rattle.sqlite.specs.Store.{Ghosts}
use Rattle.sqlite.specs.Tree.{Trees}
use Rattle.sqlite.specs.declared.error.Error.{Error}
use Rattle.sqlite.proofs.StateLemmas.{survives_then}
use Rattle.table_rows.specs.Tables.{HaveSameRows, Tables}
use Rattle.sql_base.specs.Ends.{Ends, IsKept, IsLeft}
use Rattle.sql_tables.specs.declared.versions.Version.{Version}
use Rattle.table_reads.specs.Rowids.{StandAsMade}
use Rattle.table_reads.specs.Holding.{HoldsRows}
use Rattle.sql_rows.specs.Image.{IsImage}
use Rattle.sql_rows.proofs.SameRows.{same_rows}
use Rattle.audit_rows.proofs.SoundLemmas.{same_back}
use Rattle.table_reads.specs.Unread.{without_reply_bytes}
use Rattle.table_reads.proofs.After.{kept_then}
use Rattle.remaking.specs.Remakes.{Remakes}
use Rattle.examination.specs.declared.finding.ExaminedRows.{ExaminedRows}
use Rattle.adoption.specs.Adopts.{Settles}
use Rattle.adoption.specs.EndsCommitted.{EndsCommitted}
use Rattle.adoption.specs.Reading.{IsReading}

-- A crash after the call leaves nothing that it could not leave before. Before the call, it left
-- only the committed database.
only_now : {S : Type 0} (g : Ghosts S) (law : (s : S) (db : Trees) → IsTrue (g.view s).is_open → g.recovers s db → db ≡ (g.view s).committed) (old new : Held S)
    → IsTrue (state g old).is_open → (state g old).now ≡ (state g old).committed → HasCleanDisk (state g new) → Survives (state g old) (state g new) (λ _. ⊥)
    → (trees : Trees) → (state g new).may_leave trees → trees ≡ (state g old).now.trees
only_now g law old new live settled clean survives trees may =
    elim (survives.crash clean trees may) [
      | inl before ↦ law old.store trees live before ∙ ap (λ (d : Database). d.trees) (sym settled)
      | inr none ↦ absurd none
    ]

-- the lemma that a database with the tables as the store creates them has the image of the rows
-- that it holds
abbrev pub ImageLaw : Type 0
ImageLaw = (v : Version) (t : Tables) (db : Database) → HoldsRows v t db → IsDatabase db → StandAsMade db → IsImage t db

-- The tables and the connection are unchanged.
module _ {S : Type 0} (g : Ghosts S) (law : (s : S) (db : Trees) → IsTrue (g.view s).is_open → g.recovers s db → db ≡ (g.view s).committed) (old new : Held S) (read : ExaminedRows)
    (image : ImageLaw) (settled : IsTrue (state g old).is_open → (state g old).now ≡ (state g old).committed) (live : IsLive (state g old)) (clean : HasCleanDisk (state g new))
    (as_made : IsTrue read.as_made) (kept : IsKept (state g old) (state g new)) (survives : Survives (state g old) (state g new) (λ _. ⊥)) where
  pub stays : {E : Type 0} (r : Result (Unit {0}) E) → OnOk r (IsTrue (state g new).is_open) → OnOk r (EndsCommitted (Settles read) (state g old) (state g new))
  stays (Err e) shown = tt
  stays (Ok u) shown =
      let was_open = kept.was_open shown in
      record {
        db = (state g old).now;
        made = λ t is. image read.version t (state g old).now is.rows (live was_open).0 (is.as_made.0 as_made);
        shown = kept.now_is;
        only = only_now g law old new was_open (settled was_open) clean survives;
        was_open = was_open;
        is_open = shown;
      }

-- A connection on which nothing was executed shows the same database as before.
module _ (old new : State) (settled : IsTrue old.is_open → old.now ≡ old.committed) where
  pub unchanged_kept : IsUnchanged old new → IsKept old new
  unchanged_kept same = record { was_open = λ _. same.0.was_open; now_is = λ _. same.0.now_is; committed_is = λ _. same.0.committed_is }

  rolled_kept : IsRolledBack old new → IsKept old new
  rolled_kept undone = record {
    was_open = undone.was_open;
    now_is = λ live. (undone.undone live).0 ∙ sym (settled (undone.was_open live));
    committed_is = λ live. (undone.undone live).1;
  }

  pub not_run_kept : (sql : List ℕ) (e : Error) → IsNotRun old new sql [] e → IsKept old new
  unfolding IsNotRun
  not_run_kept sql e (inl none) = unchanged_kept none.1
  not_run_kept sql e (inr failed) = rolled_kept failed.3

-- rows that were read again, with the bytes of replies
pub read_whole : (read : ExaminedRows) (db : Database) (found : Option Tables) (all : Tables) → found ≡ Some all
    → ((w : Version) (t : Tables) → HoldsRows w t db → HaveSameRows read.tables (without_reply_bytes t) → MatchOption found ⊥ (λ rows. HaveSameRows rows t)) → (t : Tables) → IsReading t db read → HaveSameRows all t
read_whole read db found all some value t is = subst (λ x. MatchOption x ⊥ (λ rows. HaveSameRows rows t)) some (value read.version t is.rows is.same)

-- the complete rows for `read`, with which the tables are rebuilt
module _ (read : ExaminedRows) (all : Tables) (old mid new : State) (kept : HasCleanDisk mid → IsKept old mid) (live : IsLive old)
    (whole : HasCleanDisk mid → (t : Tables) → IsReading t old.now read → HaveSameRows all t) where
  turned : HasCleanDisk mid → IsTrue mid.is_open → (db : Database) → Remakes read.version all mid.now db → Settles read old.now db
  turned clean shown db made t is =
      let k = kept clean in
      let same = sym (k.now_is shown) in
      let stands : IsImage all db = made (subst (λ (d : Database). IsDatabase d) same (live (k.was_open shown)).0) (subst (λ (d : Database). HoldsRows read.version t d) same is.rows).just in
      same_rows t all db (same_back all t (whole clean t is)) stands

  pub remade : {E : Type 0} (r : Result (Unit {0}) E) → HasCleanDisk mid → OnOk r (Ends (Remakes read.version all) mid new) → OnOk r (EndsCommitted (Settles read) old new)
  remade (Err e) clean ends = tt
  remade (Ok u) clean ends = record {
    db = new.now;
    made = turned clean ends.was_open new.now ends.made;
    shown = λ _. refl;
    only = ends.only;
    was_open = (kept clean).was_open ends.was_open;
    is_open = ends.is_open;
  }

  pub kept_remade : {E : Type 0} (r : Result (Unit {0}) E) → HasCleanDisk mid → OnErr r (IsKept mid new) → OnErr r (IsKept old new)
  kept_remade (Err e) clean still = kept_then old mid new (kept clean) still
  kept_remade (Ok u) clean still = tt

  pub left_remade : Survives old mid (λ _. ⊥) → Survives mid new (IsLeft (Remakes read.version all) mid) → Survives old new (IsLeft (Settles read) old)
  left_remade before last =
      survives_then old mid new (λ _. ⊥) (IsLeft (Remakes read.version all) mid) (IsLeft (Settles read) old) (λ _ db none. absurd none)
      (λ clean db it. let early : HasCleanDisk mid = omega (arith, last.clean) in ((kept early).was_open it.0, (it.1.0, turned early it.0 it.1.0 it.1.1, it.1.2))) before last
