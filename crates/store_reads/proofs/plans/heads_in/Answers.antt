use Rattle.std.proofs.Common.{◌≡◌, ◌<◌, ◌-◌, None, Some, refl, sym, ap, get_or, length, set, ◌∙◌, arith, Vec, Global}
use Rattle.std.specs.Prelude.{is_some}
use Rattle.std.specs.List.{filter_map, range_with_len}
use Rattle.std.proofs.lemmas.List.{get_or-replicate, get_or_default, length-set, take_all}
use Rattle.store_data.specs.Ranks.{ranks}
use Rattle.row_reads.specs.declared.groupings.GroupingAt.{GroupingAt}
use Rattle.store_reads.specs.declared.plans.SegmentHead.{SegmentHead}
use Rattle.store_reads.specs.Segments.{head_of_rank, head_with}
use Rattle.store_reads.proofs.Ranks.{first_kept, first_put, head_passed, head_put, not_some}
use Rattle.store_reads.proofs.plans.heads_in.Goals.{then-is_none, else-is_none, in-Some+in_ok-push, in_default}
use Rattle.store_reads.proofs.plans.heads_in.Goals as goal

pub loop-g-init : goal.loop-g-init
loop-g-init c = record { length = refl; firsts = λ k within. get_or-replicate 1000 k None None within }

pub returns : goal.returns
unfolding ranks
returns c =
    let end : c.loop-rank.rank - 1 ≡ 999 = omega arith in
    c.loop-rank.invariant ∙ ap (λ n. filter_map (head_of_rank c.args.own.now) (range_with_len 1 n)) end

pub loop-g-preserved : goal.loop-g-preserved
loop-g-preserved c =
    let gs = c.args.own.now in
    let i = c.loop-g.g-index in
    let one = c.g-item.result in
    let at = get_or gs i one in
    let firsts = c.loop-g.firsts in
    let n = c.from-rank.result in
    let rank : n ≡ at.rank = c.from-rank.ensures ∙ ap (λ (g : GroupingAt). g.rank) c.g-item.is in
    let ranged = c.requires i one c.loop-g-test.true in
    let room : n < length firsts = omega (arith, rank, ranged.most_rank, c.loop-g.invariant.length) in
    let read : is_some (get_or firsts n c.index-firsts-rank.result) ≡ is_some (get_or firsts at.rank None) =
    ap is_some (get_or_default firsts n c.index-firsts-rank.result None room) ∙ ap (λ m. is_some (get_or firsts m None)) rank in
    elim c.if-is_none.branch [
      | then-is_none w ↦
          let put : c.if-is_none.firsts ≡ set firsts at.rank (Some (head_with at.rank at)) =
          w.firsts-is ∙ ap (λ m. set firsts m (Some (head_with one.rank one))) rank
          ∙ ap (λ (g : GroupingAt). set firsts at.rank (Some (head_with g.rank g))) c.g-item.is in
          record {
            length = ap length put ∙ length-set firsts at.rank (Some (head_with at.rank at)) ∙ c.loop-g.invariant.length;
            firsts = λ k within.
                ap (λ xs. get_or xs k None) put
                ∙ first_put gs i one c.loop-g-test.true firsts k (c.loop-g.invariant.firsts k within) (omega (arith, room, rank)) (not_some (get_or firsts at.rank None) (sym read ∙ w.if-is_none.ensures));
          }
      | else-is_none w ↦ record {
        length = ap length w.firsts-is ∙ c.loop-g.invariant.length;
        firsts = λ k within.
            ap (λ xs. get_or xs k None) w.firsts-is
            ∙ first_kept gs i one c.loop-g-test.true firsts k (c.loop-g.invariant.firsts k within) (sym read ∙ w.if-is_none.ensures);
      }
    ]

pub loop-rank-preserved : goal.loop-rank-preserved
loop-rank-preserved c =
    let gs = c.args.own.now in
    let k = c.loop-rank.rank in
    let firsts = c.loop-g.firsts in
    let all = take_all c.loop-g.g-index gs c.loop-g-test.false in
    let within : k < length firsts = omega (arith, c.loop-rank-test.true, c.loop-g.invariant.length) in
    let is : get_or firsts k None ≡ head_of_rank gs k = c.loop-g.invariant.firsts k c.loop-rank-test.true ∙ ap (λ xs. head_of_rank xs k) all in
    elim c.match-firsts-rank.branch [
      | in-Some+in_ok-push w ↦
          head_put (head_of_rank gs) k c.loop-rank.auto.rank c.loop-rank.heads.items c.match-firsts-rank.heads.items c.loop-rank.invariant w.in-Some.head
          (sym is ∙ get_or_default firsts k None _ within ∙ w.in-Some.is)
          (ap (λ (v : Vec SegmentHead Global). v.items) w.heads-is ∙ w.in_ok-push.ensures.items)
      | in_default w ↦
          head_passed (head_of_rank gs) k c.loop-rank.auto.rank c.loop-rank.heads.items c.match-firsts-rank.heads.items c.loop-rank.invariant
          (sym is ∙ get_or_default firsts k None _ within ∙ w.in_default.is)
          (ap (λ (v : Vec SegmentHead Global). v.items) w.heads-is)
    ]
