-- The output of `persod plan`.
use Rattle.std.specs.Prelude.{ℕ, List, [], ◌∷◌, ◌++◌, codes}
use Rattle.std.specs.List.{flat_map}
use Rattle.hex.specs.Hex.{encode_upper}
use Rattle.text_io.specs.Written.{line}
use Rattle.store_data.specs.Groups.{grouped}
use Rattle.store_data.specs.Sequence.{Plan, plan_of, sequence, sequence_of}
use Rattle.plan_print.specs.declared.print.Planned.{Planned}
use Rattle.store_data.specs.declared.row.Product.{Product}
use Rattle.store_data.specs.declared.row.Row.{Row}

-- the record name that all these rows have
abbrev pub name_of : List Row → List ℕ
name_of [] = []
name_of (row ∷ more) = row.rec

-- the line with the name of a record, then a line for each of its commands, in upper-case
-- hexadecimal
unfoldable pub record_text : Product → List Row → List ℕ
record_text p rows = line (codes "record " ++ name_of rows) ++ flat_map (λ command. line (encode_upper command)) (sequence_of p rows)

-- the text of all records of a batch, in the order in which they first appear
unfoldable pub printed : Product → List Row → List ℕ
printed p rows = flat_map (record_text p) (grouped (λ (row : Row). row.rec) rows)

-- ---- intermediate results

-- a line for each command of a plan, in upper-case hexadecimal
unfoldable pub command_lines : Plan → List ℕ
command_lines plan = flat_map (λ command. line (encode_upper command)) (sequence plan)

-- the name and the plan of the record with these rows
abbrev pub planned_of : Product → List Row → Planned
planned_of p rows = record { name = name_of rows; plan = plan_of p rows }

-- the lines of a record
unfoldable pub text_of : Planned → List ℕ
text_of r = line (codes "record " ++ r.name) ++ command_lines r.plan
