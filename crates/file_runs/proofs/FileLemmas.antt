-- Lemmas: from the bytes of two files to the contents of a store over them, and back.
use Rattle.std.proofs.Common.{◌≡◌, List, [], ◌∷◌, ◌++◌, Option, Some, None, inl, inr, refl, sym, ap, subst, arith}
use Rattle.std.proofs.Math.Logic.{∥∥₁_elim, ∥∥₁_map}
use Rattle.sqlite.proofs.Theorems.{opens_again}
use Rattle.sqlite.specs.Effect.{Database}
use Rattle.sqlite.specs.FileStore as files
use Rattle.sqlite.specs.Files.{IsOpened, file_state, over_files}
use Rattle.sqlite.specs.Held.{Held}
use Rattle.sqlite.specs.Recovery.{Image}
use Rattle.sqlite.specs.Start.{FindsIn}
use Rattle.sqlite.specs.State.{HasCleanDisk}
use Rattle.sqlite.specs.Tree.{Trees}
use Rattle.sqlite.specs.declared.FileStore.{FileStore}
use Rattle.sqlite_disk.specs.declared.Disk.{Ghosts}
use Rattle.sqlite_store.specs.Laws.{settled_at, stays_at}
use Rattle.job_facts.specs.Contents.{AreSame, AreSound, Contents, no_contents}
use Rattle.job_facts.specs.Store.{IsFound}
use Rattle.job_facts.proofs.NextContents.{AreSame-trans, nothing_sound}
use Rattle.reply_store.specs.Runs.{Tried}
use Rattle.reply_store.proofs.DayLemmas.{found_same}
use Rattle.server.specs.Exchanges.{Exchange, ServesAll, tries}
use Rattle.sql_base.specs.Columns.{no_schema}
use Rattle.schema.specs.Begun.{WasHeld}
use Rattle.schema.specs.Link.{FindsAtOpen, Has}
use Rattle.schema.specs.Stores.{connection, stands_for}
use Rattle.schema.specs.declared.store.SqlStore.{SqlStore}
use Rattle.over_tables.specs.Opens as tables
use Rattle.over_tables.specs.Opens.{Begins, IsOpenedWith}
use Rattle.over_tables.specs.Refusals.{IsRefused}
use Rattle.over_tables.specs.declared.fault.FileFault.{FileFault}
use Rattle.over_tables.specs.declared.opening.Wanted.{Wanted}
use Rattle.over_tables.specs.declared.opening.Wanted.TheVariants.{Any, Ours}
use Rattle.file_runs.specs.Files.{HoldRuns, IsLeftBy, IsLeftByCrash}
use Rattle.file_runs.specs.Runs.{IsAfterRuns, RunsGoOn, StartsAfterRuns}

empty : (wanted : Wanted) (db : Database) → Begins wanted db → db.schema ≡ no_schema
empty Any db begins = begins
empty Ours db begins = absurd begins

-- the contents with which a store is opened are those of its database
had : (wanted : Wanted) (db : Database) (b : Contents) → IsOpenedWith wanted db b → AreSound b × Has db b
had wanted db b (inl new) = (subst AreSound (sym new.1) nothing_sound, inr (empty wanted db new.0, new.1))
had wanted db b (inr old) = (old.1.0, inl old.1.1)

-- contents that are the same as possible contents are possible
after_same : (c b e : Contents) (runs : List (List Tried)) → AreSame b e → IsAfterRuns c runs e → IsAfterRuns c runs b
after_same c b e runs same (took, turn, is) = (took, turn, AreSame-trans b e _ same is)

module _ {D : Type 0} {g : Ghosts D} where
  -- ---- an open

  -- an opened connection has the contents of the trees that it found
  stands_at : (conn : Held (FileStore D g)) → IsOpened conn → (b : Contents) → AreSound b → Has (file_state conn).now b → FindsAtOpen (Some b) (file_state conn).committed.trees
  stands_at conn opened b sound has = (
    sound,
    record { db = (file_state conn).now; is_database = (opened.1 opened.0.is_open).0; stands = ap (λ (d : Database). d.trees) opened.0.clean; has = has },
  )

  stands_held : (conn : Held (FileStore D g)) → IsOpened conn → (d : Option Contents) (trees : Trees) → FindsAtOpen d trees → WasHeld d (file_state conn).now → FindsAtOpen d (file_state conn).committed.trees
  stands_held conn opened None trees at was = absurd was
  stands_held conn opened (Some b) trees at was = stands_at conn opened b at.0 (inl was)

  pub finds_first : RunsGoOn (stands_for {S = FileStore D g} over_files) → (conn : Held (FileStore D g)) (wanted : Wanted) (store : SqlStore (FileStore D g) over_files) (c : Contents)
      → tables.IsOpened wanted (file_state conn).now (stands_for over_files store) → IsOpenedWith wanted (file_state conn).now c
      → AreSound c × ∥ StartsAfterRuns (stands_for over_files store) c [] ∥₁
  finds_first law conn wanted store c opens with = ((had wanted (file_state conn).now c with).0, ∣ law.first store c (opens.opens c with) ∣₁)

  module _ (image : Image) (conn : Held (FileStore D g)) (opened : IsOpened conn) (found : FindsIn image (file_state conn)) (c : Contents) (runs : List (List Tried)) (hold : HoldRuns image c runs) where
    -- the contents of the trees that were found are possible
    possible : (d : Option Contents) → FindsAtOpen d (file_state conn).committed.trees → ∥ ((e : Contents) × IsAfterRuns c runs e × IsFound d e) ∥₁
    possible = hold (file_state conn).committed.trees (record { holds = found.holds; reads = found.reads })

    pub finds : (wanted : Wanted) (store : SqlStore (FileStore D g) over_files) → tables.IsOpened wanted (file_state conn).now (stands_for over_files store) → ∥ StartsAfterRuns (stands_for over_files store) c runs ∥₁
    finds wanted store opens =
        let b = opens.some.0 in
        let is = had wanted (file_state conn).now b opens.some.1 in
        ∥∥₁_map (possible (Some b) (stands_at conn opened b is.0 is.1)) (λ it. (b, opens.opens b opens.some.1, after_same c b it.0 runs it.2 it.1))

    pub refuses : ((file : D) → g.may_leave file (g.seen file)) → (left : Image) (after : Held (FileStore D g)) (wanted : Wanted) (fault : FileFault) → IsRefused wanted (file_state conn) (file_state after) fault
        → IsLeftByCrash after left → HoldRuns left c runs
    refuses stays left after wanted fault refused crash trees is d stands =
        let it = crash.last in
        let clean : HasCleanDisk (file_state after) = omega (arith, crash.closed.quiet.clean, crash.clean) in
        ∥∥₁_elim (opens_again it crash.numbered (crash.closed.sound crash.clean) left crash.may_leave) squash₁
        (λ there. let may = crash.closed.quiet.outcomes trees (subst (files.recovers it) (sym (is.holds there.0 there.2)) there.1) in
        elim (refused.crash clean d (trees, may, stands)) [
          | inl before ↦ possible d (subst (FindsAtOpen d) (settled_at conn.store stays before.0 opened.0.is_open before.1) before.2)
          | inr rest ↦ elim rest [
            | inl new ↦ ∥∥₁_map (possible (Some no_contents) (stands_at conn opened no_contents nothing_sound (inr (empty wanted (file_state conn).now new.0, refl)))) (λ e. (e.0, e.1, found_same d no_contents e.0 new.1 e.2))
            | inr was ↦ possible d (stands_held conn opened d trees stands was)
          ]
        ])

-- ---- the end of a run

module _ {D : Type 0} {g : Ghosts D} (stays : (file : D) → g.may_leave file (g.seen file)) (law : RunsGoOn (stands_for {S = FileStore D g} over_files)) (store last : SqlStore (FileStore D g) over_files) (es : List Exchange) (c : Contents)
    (runs : List (List Tried)) (image : Image) (sound : AreSound c) (starts : ∥ StartsAfterRuns (stands_for over_files store) c runs ∥₁)
    (serves : ServesAll (stands_for over_files store) (stands_for over_files last) es) where
  -- the trees that an open finds are possible after a crash of the connection
  left_at : HasCleanDisk (file_state (connection last)) → (trees : Trees) → (file_state (connection last)).may_leave trees → (d : Option Contents) → FindsAtOpen d trees
      → ∥ ((e : Contents) × IsAfterRuns c (runs ++ tries es ∷ []) e × IsFound d e) ∥₁
  left_at clean trees may d stands = ∥∥₁_map starts (λ from. law.more store last c runs (tries es) sound from serves.leaves clean d (trees, may, stands))

  pub keeps : IsLeftBy (connection last) image → HoldRuns image c (runs ++ tries es ∷ [])
  keeps (inl left) trees is d stands =
      let it = left.last in
      let clean : HasCleanDisk (file_state (connection last)) = omega (arith, left.closed.quiet.clean, left.clean) in
      ∥∥₁_elim (opens_again it left.numbered (left.closed.sound left.clean) image left.may_leave) squash₁
      (λ found. left_at clean trees (left.closed.quiet.outcomes trees (subst (files.recovers it) (sym (is.holds found.0 found.2)) found.1)) d stands)
  keeps (inr left) trees is d stands =
      let copied = left.whole.copied left.clean in
      let conn = connection last in
      ∥∥₁_elim (copied.left image left.may_leave).both squash₁
      (λ held. left_at copied.was_clean trees (subst (files.recovers conn.store) (sym (is.holds _ held)) (stays_at conn.store stays copied.was_open)) d stands)
