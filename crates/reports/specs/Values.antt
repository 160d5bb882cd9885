-- Defines the JSON values of accounts.
use Rattle.std.specs.Prelude.{ℕ, ◌+◌, ◌-◌, List, codes}
use Rattle.serde_json.specs.Data.{Data, boolean, string, object, member, no_members}
use Rattle.job_facts.specs.declared.rows.BatchRow.{BatchRow}
use Rattle.job_facts.specs.declared.rows.BatchTotals.{BatchTotals}
use Rattle.job_facts.specs.declared.rows.BlankTotals.{BlankTotals}
use Rattle.arrivals.specs.Values.{num}

abbrev pub batch_value : List ℕ → BatchRow → BatchTotals → Data
batch_value b row t =
    object (member (codes "batch") (string b) (member (codes "closed") (boolean row.is_closed) (member (codes "failed") (num t.failed)
    (member (codes "good") (num t.good) (member (codes "product") (string row.product) (member (codes "records") (num t.records)
    (member (codes "running") (num t.running) (member (codes "sessions") (num t.sessions) (member (codes "spoiled") (num t.spoiled)
    (member (codes "waiting") (num t.waiting) (member (codes "withdrawn") (num t.withdrawn) no_members)))))))))))

-- the number of charged blanks
abbrev pub charged : BlankTotals → ℕ
charged t = t.good + t.running + t.spoiled + t.discarded

abbrev pub free : BlankTotals → ℕ
free t = t.total - charged t

abbrev pub blank_value : List ℕ → BlankTotals → Data
blank_value p t =
    object (member (codes "charged") (num (charged t)) (member (codes "discarded") (num t.discarded) (member (codes "free") (num (free t))
    (member (codes "good") (num t.good) (member (codes "lots") (num t.lots) (member (codes "product") (string p)
    (member (codes "running") (num t.running) (member (codes "spoiled") (num t.spoiled) (member (codes "total") (num t.total) no_members)))))))))
