use Rattle.std.proofs.Common.{◌≡◌, ◌++◌, ◌∷◌, [], Some, arith, of_z, rules, subst, sym, to_z, w64}
use Rattle.std.proofs.lemmas.Int.{ints, to_z-of_z}
use Rattle.table_reads.specs.Streaming.{IsAbove, StandSoFar}
use Rattle.table_reads.proofs.OneByOne.{so_far_more}
use Rattle.table_reads.proofs.streaming.take.Goals as goal

pub returns : goal.returns
returns g c = λ _ rows h.
    let same : to_z w64 (of_z w64 c.in-Some.rowid) ≡ c.in-Some.rowid = grind (arith, ints, to_z-of_z) in
    let above : IsAbove c.args.so_far.now.last_rowid c.in-Some.rowid = search rules in
    let one : g.C.Conversion.gives c.args.row.now c.in-Some-2.x = search rules in
    subst (λ z. StandSoFar g.C.Conversion.gives (rows ++ c.args.row.now ∷ []) c.push.new.self.items (Some z)) (sym same)
    (so_far_more g.C.Conversion.gives rows c.args.so_far.now.values.items c.push.new.self.items c.args.so_far.now.last_rowid c.args.row.now c.in-Some-2.x c.in-Some.rowid (search rules) above one c.in_ok-push.ensures.items h)
