use Rattle.std.proofs.Common.{◌∙◌, ◌-◌, ◌≤◌, length, drop, arith, length-drop}
use Rattle.std.proofs.lemmas.List.{take_all}
use Rattle.wire.proofs.ParseLemmas.{body_starts}
use Rattle.wire.proofs.parse.body_in.Goals as goal

pub returns-clause-body : goal.returns-clause-body
returns-clause-body c head body whole none first =
    let start = c.first_brace.result in
    let all : length (drop start c.args.bytes.now) ≤ length c.args.bytes.now - start = simp length-drop (omega arith) in
    take_all (length c.args.bytes.now - start) (drop start c.args.bytes.now) all
    ∙ body_starts c.args.bytes.now head body start c.first_brace.ensures.before c.first_brace.ensures.there whole none first
