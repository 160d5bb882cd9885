use Rattle.std.proofs.Common.{◌↔◌, ◌<◌, ℕ, List, length, IsTrue, subst}
use Rattle.std.proofs.lemmas.Result.{IfErr-weaker, IfOk-weaker}
use Rattle.sqlite_disk.specs.declared.Files.{Files}
use Rattle.store_files.proofs.Opened.{clean_before, clean_log, reads_on, unread_length}
use Rattle.store_files.proofs.wal.examine.Goals as goal

pub returns-in-Ok-clause-whole : goal.returns-in-Ok-clause-whole
returns-in-Ok-clause-whole g c =
    IfOk-weaker c.is_long.result _ _ (λ has_log long clean. c.in-Ok.ensures.whole (clean_before g.D.Disk c.refuse_damaged.new.files.log c.is_long.new.log c.refuse_damaged.new.files.db c.is_long.ensures.same clean)) c.is_long.ensures.long

pub returns-in-Ok-clause-long : goal.returns-in-Ok-clause-long
returns-in-Ok-clause-long g c =
    IfOk-weaker c.is_long.result _ _
    (λ has_log long clean. subst (λ (bytes : List ℕ). IsTrue has_log ↔ (41 < length bytes)) c.refuse_damaged.ensures.log.seen (long (clean_log g.D.Disk c.is_long.new.log c.refuse_damaged.new.files.db clean))) c.is_long.ensures.long

pub returns-in-Ok-clause-refused : goal.returns-in-Ok-clause-refused
returns-in-Ok-clause-refused g c =
    let last : Files g.row.D.Denot = record { log = c.is_long.new.log; db = c.refuse_damaged.new.files.db } in
    IfErr-weaker c.is_long.result _ _ (λ fault why. unread_length g.D.Disk c.args.files.now c.refuse_damaged.new.files last c.in-Ok.ensures.calm.0 fault why) c.is_long.ensures.failed

pub returns-in-Ok-clause-log : goal.returns-in-Ok-clause-log
returns-in-Ok-clause-log g c = reads_on g.D.Disk c.args.files.now.log c.refuse_damaged.new.files.log c.is_long.new.log c.refuse_damaged.ensures.log c.is_long.ensures.same
