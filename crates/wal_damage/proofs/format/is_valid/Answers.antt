use Rattle.std.proofs.Common.{◌∙◌, ap, ap₂, sym, not, ℕ}
use Rattle.std.proofs.lemmas.Bool.{and_from, ne_eqb}
use Rattle.std.proofs.lemmas.List.{take_rest}
use Rattle.sqlite_wal.specs.Format.{checksum}
use Rattle.sqlite_wal.proofs.FormatLemmas.{part_front}
use Rattle.wal_damage.specs.Damage.{same_pair}
use Rattle.wal_damage.proofs.WalkLemmas.{and_with}
use Rattle.wal_damage.proofs.format.is_valid.Goals as goal

pub returns-then-has_page : goal.returns-then-has_page
returns-then-has_page c =
    let frame = c.args.frame.now in
    let big = c.args.is_big in
    let has_salts = sym (c.same-has_salts.ensures ∙ ap (λ (p : ℕ × ℕ). same_pair p c.args.salts) c.pair_at.ensures.salts) ∙ c.if-has_page.true.0 in
    let has_page = ap not (ne_eqb _ 0 (λ is. c.if-has_page.true.1 (c.be32_at-has_page.ensures ∙ is))) in
    let front = c.checksum_of-front.ensures ∙ sym (ap (checksum big c.args.before) (part_front frame 8)) in
    let sum = c.checksum_of-sum.ensures ∙ ap₂ (checksum big) front (take_rest frame 24) in
    and_with _ _ _ (and_from _ _ has_salts has_page) (c.same-has_sum.ensures ∙ ap₂ same_pair sum c.pair_at-2.ensures.sum)
