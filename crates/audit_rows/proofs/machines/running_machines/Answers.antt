use Rattle.std.proofs.Common.{Bor, List, ℕ, rules, tests}
use Rattle.std.proofs.lemmas.Iterator.{YieldsList-from_map_by, YieldsList-from_slice}
use Rattle.std.proofs.lemmas.Iterator.Consumers.{YieldsList-at, YieldsList-from_filter, map_from_collect}
use Rattle.job_facts.specs.States.{is_running}
use Rattle.table_rows.specs.Tables.{StoredSession}
use Rattle.audit_rows.proofs.machines.running_machines.Goals as goal

pub returns : goal.returns
returns c =
    map_from_collect _ c.collect.ensures.ran
    (YieldsList-from_map_by _ (λ (name : Bor (List ℕ)). name.now) (λ (s : StoredSession). s.machine)
    (YieldsList-at c.map.ensures.source (YieldsList-from_filter _ (λ (s : StoredSession). is_running s.state) (YieldsList-at c.filter.ensures.source (YieldsList-from_slice c.args.sessions.now c.iter.ensures.rest)) c.filter.ensures.closure (λ x b q k. search (rules, tests))))
    c.map.ensures.closure (λ x r q k. search rules))
