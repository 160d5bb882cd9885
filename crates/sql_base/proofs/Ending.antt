-- From a statement to the commit of its transaction, for every relation `R`.
use Rattle.std.proofs.Common.{Bool, [], Result, Ok, Err, OnOk, OnErr, IfErr, IsErr, inl, inr, ◌≡◌, ℕ, List, true, false, IsTrue, refl, sym, ap, subst, ◌∙◌, arith}
use Rattle.sqlite.specs.Order.{Row}
use Rattle.sqlite.specs.Store.{Ghosts}
use Rattle.sqlite.specs.Tree.{Trees}
use Rattle.sqlite.specs.Effect.{Database}
use Rattle.sqlite.specs.State.{State, HasCleanDisk, Shows, KeepsCommit, IsRolledBack, KeepsCounts, Survives, Executes, ExecutesInside}
use Rattle.sqlite.specs.Steps.{FailsToCommit}
use Rattle.sqlite.specs.declared.error.Error.{Error}
use Rattle.sqlite.specs.Held.{Held, state}
use Rattle.sqlite.proofs.StateLemmas.{survives_then}
use Rattle.sqlite.proofs.Callers.{survives_begin}
use Rattle.sqlite.proofs.InsideLemmas.{inside_keeps, keeps_then}
use Rattle.sql_base.specs.Ends.{Inside, Wrote, Ends, IsLeft, IsKept}

-- the facts about a call of `execute` on a transaction
module _ {S : Type 0} (g : Ghosts S) (R : Database → Database → Type 0) (old new : Held S) (sql : List ℕ) (params : Row) (e : Error)
    (step : (count : ℕ) → Executes sql params (state g old) (state g new) (Ok count) → R (state g old).now (state g new).now) where
  wrote_in : (inside : Bool) (r : Result ℕ Error) → (inside ≡ false → (r ≡ Err e) × (new ≡ old)) → (IsTrue inside → ExecutesInside 0 sql params (state g old) (state g new) r)
      → Wrote R (state g old) (state g new) r
  wrote_in true (Ok count) ended runs =
      let ran = runs refl in
      record { well = record { made = step count ran.0; committed = ran.1.committed_is; inside = ran.1.mode; was_open = ran.1.was_open }; kept = inside_keeps (state g old) (state g new) 0 false sql params (Ok count) ran }
  wrote_in true (Err x) ended runs = record { well = tt; kept = inside_keeps (state g old) (state g new) 0 false sql params (Err x) (runs refl) }
  wrote_in false r ended runs = let is = ended refl in subst (Wrote R (state g old) (state g new)) (sym is.0) (record {
    well = tt;
    kept = subst (λ h. KeepsCommit (state g old) (state g h)) (sym is.1) (record { was_open = λ h. h; committed = λ _. refl });
  })

  pub wrote : (r : Result ℕ Error) → (old.in_transaction ≡ false → (r ≡ Err e) × (new ≡ old)) → (IsTrue old.in_transaction → ExecutesInside 0 sql params (state g old) (state g new) r)
      → Wrote R (state g old) (state g new) r
  wrote = wrote_in old.in_transaction

pub inside_then : (P Q R : Database → Database → Type 0) (a b c : State) → (P a.now b.now → Q b.now c.now → R a.now c.now) → Inside P a b → Inside Q b c → Inside R a c
inside_then P Q R a b c both one two = record { made = both one.made two.made; committed = two.committed ∙ one.committed; inside = two.inside; was_open = one.was_open }

pub wrote_then : {X : Type 0} (P Q R : Database → Database → Type 0) (a b c : State) (r : Result X Error) → (P a.now b.now → Q b.now c.now → R a.now c.now) → Inside P a b → KeepsCommit a b → Wrote Q b c r → Wrote R a c r
wrote_then P Q R a b c (Ok x) both one kept two = record { well = inside_then P Q R a b c both one two.well; kept = keeps_then a b c kept two.kept }
wrote_then P Q R a b c (Err e) both one kept two = record { well = tt; kept = keeps_then a b c kept two.kept }

-- an error before the commit
pub failed_wrote : {X : Type 0} (R : Database → Database → Type 0) (a b : State) (r : Result X Error) → IsErr r → KeepsCommit a b → Wrote R a b r
failed_wrote R a b (Ok x) is kept = absurd (cc)
failed_wrote R a b (Err e) is kept = record { well = tt; kept = kept }

module _ {S : Type 0} (g : Ghosts S) (law : (s : S) (db : Trees) → IsTrue (g.view s).is_open → g.recovers s db → db ≡ (g.view s).committed)
    (R : Database → Database → Type 0) (old mid new : Held S) where
  abbrev Begun : State
  Begun = state g (record old { in_transaction = true })

  pub ok_of : {Y : Type 0} (r : Result Y Error) → Inside R Begun (state g mid)
      → OnOk r (IsTrue (state g mid).in_transaction × Shows (state g mid) (state g new) (state g mid).now (state g mid).now false × KeepsCounts (state g mid) (state g new) × ((state g new).marks ≡ []))
      → OnOk r (Ends R (state g old) (state g new))
  ok_of (Err e) made h = tt
  ok_of (Ok y) made h = record {
    made = subst (R (state g old).now) (sym h.1.now_is) made.made;
    settled = h.1.committed_is ∙ sym h.1.now_is;
    only = λ trees may. law new.store trees h.1.is_open may ∙ ap (λ (d : Database). d.trees) (h.1.committed_is ∙ sym h.1.now_is);
    was_open = made.was_open;
    is_open = h.1.is_open;
  }

  undone_kept : (IsTrue (state g old).is_open → (state g old).now ≡ (state g old).committed) → KeepsCommit Begun (state g mid) → IsRolledBack (state g mid) (state g new) → IsKept (state g old) (state g new)
  undone_kept settled kept undone =
      let same = λ (live : IsTrue (state g new).is_open). kept.committed (undone.was_open live) in
      record {
        was_open = λ live. kept.was_open (undone.was_open live);
        now_is = λ live. (undone.undone live).0 ∙ same live ∙ sym (settled (kept.was_open (undone.was_open live)));
        committed_is = λ live. (undone.undone live).1 ∙ same live;
      }

  pub dropped : {X : Type 0} (r : Result X Error) → (IsTrue (state g old).is_open → (state g old).now ≡ (state g old).committed) → KeepsCommit Begun (state g mid) → IsRolledBack (state g mid) (state g new)
      → OnErr r (IsKept (state g old) (state g new))
  dropped (Ok x) settled kept undone = tt
  dropped (Err e) settled kept undone = undone_kept settled kept undone

  pub err_of : {X : Type 0} (r : Result X Error) → (IsTrue (state g old).is_open → (state g old).now ≡ (state g old).committed) → Inside R Begun (state g mid) → KeepsCommit Begun (state g mid)
      → IfErr r (FailsToCommit (state g mid) (state g new)) → OnErr r (IsKept (state g old) (state g new))
  err_of (Ok x) settled made kept h = tt
  err_of (Err e) settled made kept (inl failed) = undone_kept settled kept failed.3
  err_of (Err e) settled made kept (inr late) = absurd (let a = made.inside in let b = late.1 in cc)

  pub crash_of : (HasCleanDisk (state g mid) → Inside R Begun (state g mid)) → Survives Begun (state g mid) (λ _. ⊥) → Survives (state g mid) (state g new) (λ db. db ≡ (state g mid).now.trees)
      → Survives (state g old) (state g new) (IsLeft R (state g old))
  crash_of made before last =
      survives_then (state g old) (state g mid) (state g new) (λ _. ⊥) (λ db. db ≡ (state g mid).now.trees) (IsLeft R (state g old)) (λ _ db none. absurd none)
      (λ clean db is. let went = made (omega (arith, last.clean)) in (went.was_open, ((state g mid).now, went.made, is))) (survives_begin g old (state g mid) (λ _. ⊥) before) last

  pub crash_undone : Survives Begun (state g mid) (λ _. ⊥) → Survives (state g mid) (state g new) (λ _. ⊥) → Survives (state g old) (state g new) (IsLeft R (state g old))
  crash_undone before last =
      survives_then (state g old) (state g mid) (state g new) (λ _. ⊥) (λ _. ⊥) (IsLeft R (state g old)) (λ _ db none. absurd none) (λ _ db none. absurd none) (survives_begin g old (state g mid) (λ _. ⊥) before) last
