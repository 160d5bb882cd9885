use Rattle.std.proofs.Common.{◌≡◌, ◌+◌, ◌*◌, ◌-◌, ◌/◌, ◌≤◌, ℕ, List, length, inl, sym, ap, ap₂, subst, ◌∙◌, arith, rules}
use Rattle.std.specs.Prelude.{Err, IfErr, Ok, Result}
use Rattle.sqlite_disk.specs.Disk.{MoreFaults}
use Rattle.sqlite_disk.specs.declared.Files.{Files}
use Rattle.std.proofs.Math.Nat.{div-mul-le_self}
use Rattle.sqlite_wal.specs.Recovery.{frame_at, frames_len, header}
use Rattle.sqlite_wal.proofs.CleanLemmas.{halves}
use Rattle.sqlite_wal.proofs.PartLemmas.{held_is_part}
use Rattle.wal_damage.specs.Damage.{is_cleared, is_page_size, look_to, page_size_of}
use Rattle.wal_damage.specs.Faults.{HasFailed}
use Rattle.wal_damage.specs.declared.look.LookFault.{LookFault}
use Rattle.wal_damage.specs.declared.look.LookFault.TheVariants.{Failed}
use Rattle.wal_damage.proofs.WalkLemmas.{look_at_none, look_at_cleared, look_at_unsized, look_at_frames}
use Rattle.wal_damage.proofs.look.look_at.Goals.{then-is_cleared-via-then-is_cleared, then-is_cleared-via-else-is_cleared+then-not-is_page_size}
use Rattle.wal_damage.proofs.look.look_at.Goals as goal

pub returns-then-len-lt-HEADER_LEN-clause-value : goal.returns-then-len-lt-HEADER_LEN-clause-value
returns-then-len-lt-HEADER_LEN-clause-value g c clean =
    sym (look_at_none _ _ (omega (arith, c.in_ok-len.ensures.len (halves g.D.Disk _ _ clean).0)))

pub returns-then-is_cleared-clause-value : goal.returns-then-is_cleared-clause-value
returns-then-is_cleared-clause-value g c clean =
    let log = g.D.Disk.seen c.args.files.now.log in
    let clean_log = (halves g.D.Disk c.read_at.new.self c.page_size_of.new.db clean).0 in
    let clean_db = (halves g.D.Disk c.read_at.new.self c.page_size_of.new.db clean).1 in
    let len : length c.read_at.new.buf ≡ 32 = search rules in
    let head : header log ≡ c.read_at.new.buf = held_is_part log _ 0 32 (rw (← c.len.ensures.seen) (c.in_ok-read_at.ensures.read clean_log (omega arith))) len in
    elim c.then-is_cleared.branch [
      | then-is_cleared-via-then-is_cleared w ↦ sym (look_at_cleared _ log (ap is_cleared head ∙ sym c.is_cleared.ensures ∙ w.if-is_cleared.true))
      | then-is_cleared-via-else-is_cleared+then-not-is_page_size w ↦
          let size = c.in_ok-page_size.ensures.size clean_db ∙ sym (ap (page_size_of (g.D.Disk.seen c.args.files.now.db)) head) in
          sym (look_at_unsized _ log (ap is_page_size (sym size) ∙ sym w.is_page_size.ensures.value ∙ search rules))
    ]

pub look_in-requires-clause-head : goal.look_in-requires-clause-head
look_in-requires-clause-head g c clean =
    let log = g.D.Disk.seen c.read_at.new.self in
    let len : length c.read_at.new.buf ≡ 32 = search rules in
    sym (held_is_part log _ 0 32 (rw c.read_at.ensures.seen (c.in_ok-read_at.ensures.read clean (omega arith))) len)

-- The frames of a file of this length are within the file.
frames_fit : (size len frames : ℕ) → frames ≡ (len - 32) / (24 + size) → 32 ≤ len → frame_at size frames ≤ len
unfolding frames_len
frames_fit size len frames is long = omega (arith, div-mul-le_self (len - 32) (24 + size), is, ap (λ (n : ℕ). n * (24 + size)) is)

pub look_in-requires-clause-within : goal.look_in-requires-clause-within
look_in-requires-clause-within g c =
    let buf : c.len-2.result ≡ 24 + c.in_ok-page_size.page_size = search rules in
    omega (arith, frames_fit c.in_ok-page_size.page_size c.in_ok-len.len _ (ap (λ (n : ℕ). (c.in_ok-len.len - 32) / n) buf) (omega arith))

pub returns-clause-value : goal.returns-clause-value
returns-clause-value g c clean =
    let log = g.D.Disk.seen c.args.files.now.log in
    let db = g.D.Disk.seen c.args.files.now.db in
    let size = c.in_ok-page_size.page_size in
    let clean_log = c.look_in.ensures.same.clean (halves g.D.Disk c.look_in.new.log c.page_size_of.new.db clean).0 in
    let clean_db = (halves g.D.Disk c.look_in.new.log c.page_size_of.new.db clean).1 in
    let buf : length c.read_at.new.buf ≡ 32 = search rules in
    let head : header log ≡ c.read_at.new.buf = held_is_part log _ 0 32 (rw (← c.len.ensures.seen) (c.in_ok-read_at.ensures.read clean_log (omega arith))) buf in
    let sized = c.in_ok-page_size.ensures.size clean_db ∙ sym (ap (page_size_of db) head) in
    let uncleared = ap is_cleared head ∙ sym c.is_cleared.ensures ∙ c.if-is_cleared.false in
    let allowed = sym c.is_page_size.ensures.value ∙ c.if-not-is_page_size.false in
    let len : c.in_ok-len.len ≡ length log = c.in_ok-len.ensures.len (c.read_at.ensures.clean clean_log) in
    let frame : c.len-2.result ≡ 24 + size = search rules in
    let frames = ap₂ (λ (n m : ℕ). (n - 32) / m) len frame in
    let same : g.D.Disk.seen c.read_at.new.self ≡ log = c.read_at.ensures.seen ∙ c.len.ensures.seen in
    c.in_ok-look_in.ensures.value (halves g.D.Disk c.look_in.new.log c.page_size_of.new.db clean).0
    ∙ ap₂ (λ (l : List ℕ) (n : ℕ). look_to size l n) same frames
    ∙ sym (look_at_frames db log size sized uncleared allowed)

all_err : {A E : Type 0} (P : E → Type 0) (r : Result A E) → ((e : E) → P e) → IfErr r P
all_err P (Ok x) all = tt
all_err P (Err e) all = all e

pub returns-in_err-look_in-clause-cause : goal.returns-in_err-look_in-clause-cause
returns-in_err-look_in-clause-cause g c =
    let size = c.in_ok-page_size.page_size in
    let buf : c.len-2.result ≡ 24 + size = search rules in
    let fits = frames_fit size c.in_ok-len.len _ (ap (λ (n : ℕ). (c.in_ok-len.len - 32) / n) buf) (omega arith) in
    let seen = ap (λ (bytes : List ℕ). length bytes) (c.read_at.ensures.seen ∙ c.len.ensures.seen) in
    let more = c.in_err-look_in.ensures.faults.0 (λ clean. omega (arith, fits, c.in_ok-len.ensures.len (c.read_at.ensures.clean clean), seen)) in
    let was = c.in_ok-read_at.ensures.faults ∙ c.in_ok-len.ensures.faults in
    let last : Files g.row.D.Denot = record { log = c.look_in.new.log; db = c.page_size_of.new.db } in
    all_err (λ (fault : LookFault). fault ≡ Failed → HasFailed g.D.Disk c.args.files.now last) c.from_residual-in_err-look_in.result
    (λ fault is. inl (subst (λ (n : ℕ). MoreFaults n (g.D.Disk.faults c.look_in.new.log)) was more))
