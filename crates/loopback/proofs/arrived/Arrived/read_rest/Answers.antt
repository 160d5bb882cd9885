use Rattle.std.proofs.Common.{rules, ◌∙◌, ◌+◌, ◌++◌, ap, length, sym, arith, append_assoc, length-append}
use Rattle.loopback.proofs.ArrivedLemmas.{body_told}
use Rattle.std.proofs.lemmas.Grind.{common_steps}
use Rattle.loopback.proofs.arrived.Arrived.read_rest.Goals as goal

pub invariant_of-self-2 : goal.invariant_of-self-2
invariant_of-self-2 g c =
    let old = c.args.self.now in
    let front = old.front.bytes.items in
    let rest = old.rest.items in
    let more = c.read_into-read.ensures.bytes.0 in
    let new = c.read_into-read.new.into.items in
    record {
      few = old.few;
      first = λ less. absurd (omega (arith, less, c.requires.full));
      kept = first_of (search rules, grind (arith, common_steps));
      room = first_of (search rules, grind (arith, common_steps));
      told = body_told (front ++ rest) more (front ++ new) old.progress c.progress_of-self.result c.args.total
          (length c.as_slice-front.result.now + length c.as_slice-rest.result.now) c.requires.body (ap (λ l. front ++ l) c.read_into-read.ensures.bytes.1 ∙ sym (append_assoc front rest more))
          (omega (arith, length-append front new, ap length c.as_slice-front.ensures.value, ap length c.as_slice-rest.ensures.value)) c.progress_of-self.ensures old.told;
    }
