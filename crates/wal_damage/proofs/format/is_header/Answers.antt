use Rattle.std.proofs.Common.{◌∙◌, ap, ap₂, sym}
use Rattle.sqlite_wal.specs.Format.{checksum, is_big}
use Rattle.sqlite_wal.proofs.FormatLemmas.{part_front}
use Rattle.wal_damage.specs.Damage.{is_magic, same_pair}
use Rattle.wal_damage.proofs.WalkLemmas.{and_with}
use Rattle.wal_damage.proofs.format.is_header.Goals as goal

pub returns-then-has_magic : goal.returns-then-has_magic
returns-then-has_magic c =
    let head = c.args.head.now in
    let sum = c.checksum_of-sum.ensures ∙ sym (ap (checksum (is_big head) (0, 0)) (part_front head 24)) in
    let has_magic = sym (c.is_magic-has_magic.ensures ∙ ap is_magic c.be32_at.ensures) ∙ c.if-has_magic.true in
    and_with _ _ _ has_magic (c.same-has_sum.ensures ∙ ap₂ same_pair sum c.pair_at.ensures.sum)
