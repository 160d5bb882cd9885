-- Several calls that change nothing, one after the other.
use Rattle.std.proofs.Common.{◌≡◌, IfErr, Ok, Result, arith, false, inl, refl}
use Rattle.std.specs.Result.{IsErrAnd}
use Rattle.sqlite.specs.Held.{Held, state}
use Rattle.sqlite.specs.State.{HasCleanDisk, State, Survives, is_disk_error}
use Rattle.sqlite.specs.Store.{Ghosts}
use Rattle.sqlite.specs.declared.error.Error.{Error}
use Rattle.sql_base.specs.Causes.{HadCause}
use Rattle.sql_base.specs.Unchanged.{LooksWithCause}
use Rattle.sql_base.proofs.Lasting.{outlives}
use Rattle.table_reads.proofs.After.{kept_then}
use Rattle.table_reads.proofs.Causes.{passed_had, passed_plain, plain_had, reports_had, reports_plain}
use Rattle.table_reads.proofs.Together.{early}

-- ---- two calls, the second of which has the result

infixl 10 ◌▷◌
pub ◌▷◌ : {S X Y : Type 0} {g : Ghosts S} {a b c : Held S} {q : Result Y Error} {r : Result X Error} → LooksWithCause g a b q → LooksWithCause g b c r → LooksWithCause g a c r
◌▷◌ {S} {X} {Y} {g} {a} {b} {c} {q} {r} one two = record {
  kept = λ clean. kept_then (state g a) (state g b) (state g c) (one.kept (early (state g b) (state g c) two.survives clean)) (two.kept clean);
  idle = two.idle;
  survives = outlives one.survives two.survives;
  cause = λ clean. reports_had g (state g a) (state g b) (state g c) one.survives.counts r (two.cause clean);
}

-- ---- no call

survives_still : (s : State) → Survives s s (λ _. ⊥)
survives_still s = record {
  clean = omega arith;
  shield = λ shielded. shielded;
  counts = omega arith;
  limit = refl;
  closes = λ clean live. inl live;
  crash = λ clean db may. inl may;
}

-- `?` returns an error that isn't a disk error, before any call
pub fails_unread : {S X : Type 0} (g : Ghosts S) (conn : Held S) → conn.in_transaction ≡ false → (r : Result X Error) (e : Error) → IsErrAnd r (λ y. y ≡ e) → is_disk_error e ≡ false → LooksWithCause g conn conn r
fails_unread g conn idle r e is plain = record {
  kept = λ clean. record { was_open = λ live. live; now_is = λ live. refl; committed_is = λ live. refl };
  idle = idle;
  survives = survives_still (state g conn);
  cause = λ clean. passed_plain g (state g conn) conn r e is plain;
}

-- ---- the result after a call

-- another success
pub looks_well : {S X Y : Type 0} {g : Ghosts S} {a b : Held S} {q : Result Y Error} → LooksWithCause g a b q → (x : X) → LooksWithCause g a b (Ok x)
looks_well one x = record { kept = one.kept; idle = one.idle; survives = one.survives; cause = λ clean. tt }

-- a result without disk errors
pub looks_plainly : {S X Y : Type 0} {g : Ghosts S} {a b : Held S} {q : Result Y Error} → LooksWithCause g a b q → (r : Result X Error) → IfErr r (λ e. is_disk_error e ≡ false) → LooksWithCause g a b r
looks_plainly {S} {X} {Y} {g} {a} {b} {q} one r plain = record {
  kept = one.kept;
  idle = one.idle;
  survives = one.survives;
  cause = λ clean. reports_plain g (state g a) b r plain;
}

-- `?` returns the error of the call
pub looks_past : {S X Y : Type 0} {g : Ghosts S} {a b : Held S} {q : Result Y Error} → LooksWithCause g a b q → (r : Result X Error) (e : Error) → IsErrAnd r (λ y. y ≡ e)
    → (HasCleanDisk (state g b) → HadCause g (state g a) (state g b) e) → LooksWithCause g a b r
looks_past {S} {X} {Y} {g} {a} {b} {q} one r e is had = record {
  kept = one.kept;
  idle = one.idle;
  survives = one.survives;
  cause = λ clean. passed_had g (state g a) (state g a) (state g b) (omega arith) r e is (had clean);
}

-- `?` returns an error that isn't a disk error, after the call
pub looks_plain : {S X Y : Type 0} {g : Ghosts S} {a b : Held S} {q : Result Y Error} → LooksWithCause g a b q → (r : Result X Error) (e : Error) → IsErrAnd r (λ y. y ≡ e) → is_disk_error e ≡ false → LooksWithCause g a b r
looks_plain {S} {X} {Y} {g} {a} {b} {q} one r e is plain = looks_past one r e is (λ clean. plain_had g (state g a) b e plain)
