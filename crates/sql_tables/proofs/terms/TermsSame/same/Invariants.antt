use Rattle.std.proofs.Common.{◌≡◌, ◌↔◌, length, map}
use Rattle.sqlite_schema.specs.Code.{term_in}
use Rattle.sql_tables.proofs.terms.TermsSame.same.Given as goal

abbrev pub invariant-loop-first : goal.invariant-loop-first
invariant-loop-first l = (map (term_in l.a) l.first ≡ map (term_in l.b) l.second) ↔ (l.self ≡ l.other)

abbrev pub decreases-loop-first : goal.decreases-loop-first
decreases-loop-first l = length l.first
