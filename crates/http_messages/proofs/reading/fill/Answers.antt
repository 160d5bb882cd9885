use Rattle.std.proofs.Common.{rules, ◌∙◌, sym, subst, length}
use Rattle.std.proofs.KnownBytes.{Consumes-trans}
use Rattle.std.specs.Io.KnownBytes.{Consumes}
use Rattle.http_messages.proofs.EndLemmas.{take_filled}
use Rattle.http_messages.proofs.BodyLemmas.{ended, refl_length}
use Rattle.http_messages.proofs.reading.fill.Goals as goal

pub loop-at-preserved : goal.loop-at-preserved
loop-at-preserved g c =
    let brings = g.I.ByteSource.brings in
    let l = c.loop-at in
    record {
      within = search rules;
      cut = c.bring-count.ensures.cut ∙ l.invariant.cut;
      came = subst (Consumes (brings c.args.incoming.now) (brings c.bring-count.new.self)) (sym (take_filled l.at c.bring-count.result (length l.buf) l.buf c.bring-count.new.buf (refl_length l.buf) l.invariant.within c.bring-count.ensures.count))
          (Consumes-trans (brings c.args.incoming.now) (brings l.incoming) (brings c.bring-count.new.self) _ _ l.invariant.came c.bring-count.ensures.bytes);
    }

pub returns-then-count-eq0 : goal.returns-then-count-eq0
returns-then-count-eq0 g c =
    let brings = g.I.ByteSource.brings in
    let l = c.loop-at in
    record { full = tt; early = ended (brings c.args.incoming.now) (brings l.incoming) l.buf l.at _ l.invariant.within (search rules) l.invariant.came (c.bring-count.ensures.end c.if-count-eq0.true); cut = c.bring-count.ensures.cut ∙ l.invariant.cut }
