use Rattle.std.proofs.Common.{◌≡◌, ℕ, ◌<◌, length, drop, suc, Some, ap, arith, rules, subst}
use Rattle.std.proofs.lemmas.Bool.Decides.{nat_tests}
use Rattle.std.specs.Prelude.{get_or}
use Rattle.server.specs.Memory.{bytes_left, texts}
use Rattle.server.proofs.Taken.{comes_first}
use Rattle.server.proofs.memory.MemoryConnectionsConnections.next.Goals as goal

pub returns-clause-opens : goal.returns-clause-opens
returns-clause-opens c =
    let inputs = c.args.self.now.inputs in
    let n = length c.reserve.new.self.items in
    let v = c.index.result.now in
    let place : c.len-place.result ≡ n = grind (arith, c.len-place.ensures, c.in_ok-reserve.ensures.items, c.args.self.now.replies.ok.0) in
    let within : n < length inputs.items = grind (arith, nat_tests, place, c.if-place-len.false, c.len.ensures, inputs.ok.0) in
    let at : v ≡ get_or inputs.items n v = subst (λ (k : ℕ). v ≡ get_or inputs.items k v) place c.index.ensures in
    let copied : bytes_left c.new-reader.result ≡ v.items = search rules in
    (v.items, drop (suc n) (texts inputs.items), comes_first inputs.items n v within at, ap Some copied, ap Some c.new.ensures.items)
