use Rattle.std.proofs.Common.{arith, refl, sym, ◌∙◌, ◌<◌, length}
use Rattle.std.proofs.lemmas.Bool.{lt-leb}
use Rattle.job_facts.proofs.SoundFacts.{sound_lot}
use Rattle.job_core.proofs.decision.products.new_lot.Goals as goal

pub returns-in-Some-3 : goal.returns-in-Some-3
returns-in-Some-3 c = λ f sound new product overlaps lots.
    let there = sym product ∙ c.in-Some-3.is in
    let apart = sym overlaps ∙ c.if-overlaps.false in
    let few : length f.lots < 4096 = omega (arith, lots, c.if-lots-ge-MOST_LOTS.false) in
    record {
      step_is = rw (there, apart, lt-leb 4096 (length f.lots) few) refl;
      keeps = record {
        before = tt;
        sound = sound_lot f c.args.lot.now _ sound new there apart few c.is_a_name.ensures c.requires.least c.requires.most c.requires.range;
        after = tt;
      };
    }
