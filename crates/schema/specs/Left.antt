-- Opening a database from the trees that a crash left.
use Rattle.std.specs.Prelude.{Some}
use Rattle.sqlite.specs.Tree.{Trees}
use Rattle.job_facts.specs.Contents.{Contents}
use Rattle.job_facts.specs.Reopening.{OpensWith}
use Rattle.job_facts.specs.Store.{State}
use Rattle.adoption.specs.declared.faults.OpenFault.{OpenFault}
use Rattle.adoption.specs.declared.faults.OpenFault.TheVariants as fault
use Rattle.schema.specs.Link.{FindsAtOpen}

-- The fault is refusal 81 or 82.
abbrev pub IsRefusal : OpenFault → Type 0
IsRefusal fault.NotEmpty = Unit {0}
IsRefusal (fault.NotOurs difference) = Unit {0}
IsRefusal (fault.Damaged damage) = Unit {0}
IsRefusal (fault.Store why) = ⊥

-- The store is opened with contents that an open finds at `trees`.
abbrev pub TakesAt : Trees → State → Type 0
TakesAt trees store = (c : Contents) × FindsAtOpen (Some c) trees × OpensWith store c
