-- In sound facts a record has commands, they consist of bytes, and its name is a name.
use Rattle.std.proofs.Common.{◌≡◌, ◌≤◌, ◌<◌, ℕ, zero, suc, true, List, [], ◌∷◌, length, map, All, Option, Some, None, refl, sym, ap, ◌∙◌, subst, arith}
use Rattle.std.specs.Prelude.{bytes_eq, option_and_then, option_map, slice_get}
use Rattle.std.specs.List.{flat_map, list_any}
use Rattle.std.proofs.lemmas.Bool.{false≢true, or_left}
use Rattle.std.proofs.lemmas.List.Elements.{All-filter, All-head, All-weaker, filter_passes}
use Rattle.std.proofs.lemmas.Option.{get_or_from_slice_get, same_Some, slice_get_within}
use Rattle.std.proofs.lemmas.List.{get_or_default}
use Rattle.store_data.specs.declared.row.Product.{Product}
use Rattle.store_data.specs.declared.row.Row.{Row}
use Rattle.store_data.specs.Groups.{first_appearances, grouped, with_the_key}
use Rattle.store_data.specs.Sequence.{Command, IsPlan, application_commands, application_of, applications_of, commands_of, plan_of}
use Rattle.store_data.proofs.ByteLemmas.{AreBytes as AllBytes, IsByteCommand, IsByteRow, coded_bytes, plan_bytes}
use Rattle.store_data.proofs.GroupLemmas.{bytes_eq-same, list_any-first_appearances, same-bytes_eq}
use Rattle.batch_import.proofs.RangedRows.{IsTyped, batch_typed}
use Rattle.job_facts.specs.Facts.{Batch, Facts}
use Rattle.job_facts.specs.Sound.{IsBatch, IsName, IsRecord, IsSound}
use Rattle.job_facts.specs.States.{batch_named, command_at, command_bytes, commands_for, commands_under, plan_for, product_named, records_of, records_under, rows_of, rows_of_record, rows_or_none, rows_under}
use Rattle.job_facts.proofs.Lists.{find-All}
use Rattle.job_facts.proofs.PlanLemmas.{plan_there, some_row}
use Rattle.step_laws.specs.Ranges.{AreBytes}

abbrev rec_of : Row → List ℕ
rec_of row = row.rec

abbrev aid_of : Row → List ℕ
aid_of row = row.aid

-- the rows of a record, from which it is planned
record IsPlanned (f : Facts) (b r : List ℕ) : Type 0 where
  product : Product
  rows : List Row
  plan : plan_for f b r ≡ Some (plan_of product rows)
  typed : All IsTyped rows
  own : All (λ (row : Row). bytes_eq row.rec r ≡ true) rows
  some : 1 ≤ length rows

planned_in : (f : Facts) (b r : List ℕ) (batch : Batch) → IsSound f → batch_named f.batches b ≡ Some batch → list_any (bytes_eq r) (records_of f.products batch) ≡ true → IsPlanned f b r
unfolding plan_for rows_of records_of
planned_in f b r batch sound there among =
    let is : IsBatch f.products batch = find-All (λ (x : Batch). bytes_eq x.name b) (IsBatch f.products) f.batches batch sound.named.batches.each there in
    let own : rows_of f.products batch ≡ is.rows = ap (λ o. rows_under o batch.raw) is.there ∙ ap rows_or_none is.read in
    let among_own : list_any (bytes_eq r) (first_appearances (map rec_of is.rows)) ≡ true = ap (λ rows. list_any (bytes_eq r) (first_appearances (map rec_of rows))) (sym own) ∙ among in
    record {
      product = is.product;
      rows = rows_of_record is.rows r;
      plan = ap (λ o. option_and_then (λ (x : Batch). option_map (λ (q : Product). plan_of q (rows_of_record (rows_of f.products x) r)) (product_named f.products x.product)) o) there
          ∙ ap (λ o. option_map (λ (q : Product). plan_of q (rows_of_record (rows_of f.products batch) r)) o) is.there
          ∙ ap (λ rows. Some (plan_of is.product (rows_of_record rows r))) own;
      typed = All-filter (λ (row : Row). bytes_eq row.rec r) IsTyped is.rows (batch_typed is.product batch.raw is.rows is.read).0;
      own = filter_passes (λ (row : Row). bytes_eq row.rec r) is.rows;
      some = some_row is.rows r (sym (list_any-first_appearances r [] (map rec_of is.rows)) ∙ among_own);
    }

planned : (f : Facts) (b r : List ℕ) → IsSound f → IsRecord f b r → IsPlanned f b r
planned f b r sound is = at (batch_named f.batches b) refl
  where
    at : (o : Option Batch) → batch_named f.batches b ≡ o → IsPlanned f b r
    at None none = absurd (false≢true (sym (ap (λ o. list_any (bytes_eq r) (records_under f.products o)) none) ∙ is))
    at (Some batch) there = planned_in f b r batch sound there (sym (ap (λ o. list_any (bytes_eq r) (records_under f.products o)) there) ∙ is)

-- ---- at least one command

some_key : (keys : List (List ℕ)) (k : List ℕ) → list_any (bytes_eq k) keys ≡ true → (first : List ℕ) × (rest : List (List ℕ)) × (keys ≡ first ∷ rest)
some_key [] k there = absurd (false≢true there)
some_key (first ∷ rest) k there = (first, rest, refl)

some_command : (p : Product) (rows : List Row) → 1 ≤ length rows → 1 ≤ length (commands_of (plan_of p rows))
unfolding commands_of applications_of grouped application_commands
some_command p [] some = absurd (omega arith)
some_command p (row ∷ more) some =
    let rows = row ∷ more in
    let there : list_any (bytes_eq row.aid) (first_appearances (map aid_of rows)) ≡ true =
    list_any-first_appearances row.aid [] (map aid_of rows) ∙ or_left (bytes_eq row.aid row.aid) (list_any (bytes_eq row.aid) (map aid_of more)) (bytes_eq-same row.aid) in
    let key = some_key (first_appearances (map aid_of rows)) row.aid there in
    subst (λ keys. 1 ≤ length (flat_map (application_commands p.max p.low) (map application_of (map (with_the_key aid_of rows) keys)))) (sym key.2) (omega arith)

pub commands_some : (f : Facts) (b r : List ℕ) → IsSound f → IsRecord f b r → 1 ≤ length (commands_for f b r)
commands_some f b r sound is =
    let plan = planned f b r sound is in
    subst (λ o. 1 ≤ length (commands_under o)) (sym plan.plan) (some_command plan.product plan.rows plan.some)

-- ---- names and bytes

first_named : (rows : List Row) (r : List ℕ) → 1 ≤ length rows → All IsTyped rows → All (λ (row : Row). bytes_eq row.rec r ≡ true) rows → IsName r
first_named [] r some typed own = absurd (omega arith)
first_named (row ∷ rows) r some typed own =
    subst IsName (same-bytes_eq row.rec r (All-head (λ (x : Row). bytes_eq x.rec r ≡ true) row rows own)) (All-head IsTyped row rows typed).name

pub record_named : (f : Facts) (b r : List ℕ) → IsSound f → IsRecord f b r → IsName r
record_named f b r sound is =
    let plan = planned f b r sound is in
    first_named plan.rows r plan.some plan.typed plan.own

-- two forms of the condition that all elements are bytes
bytes_all : (xs : List ℕ) → AreBytes xs → AllBytes xs
bytes_all xs each = λ k d within. subst (λ n. n < 256) (get_or_default xs k 0 d within) (each k)

bytes_at : (xs : List ℕ) → AllBytes xs → AreBytes xs
bytes_at [] each i = omega arith
bytes_at (x ∷ xs) each zero = All-head (λ b. b < 256) x xs each
bytes_at (x ∷ xs) each (suc i) = bytes_at xs (λ k d within. each (suc k) d (omega arith)) i

commands_bytes : (f : Facts) (b r : List ℕ) → IsSound f → IsRecord f b r → All IsByteCommand (commands_for f b r)
commands_bytes f b r sound is =
    let plan = planned f b r sound is in
    let other = plan_there f b r sound is in
    let same : other.0 ≡ plan_of plan.product plan.rows = same_Some other.0 (plan_of plan.product plan.rows) (sym other.1 ∙ plan.plan) in
    let byte_rows : All IsByteRow plan.rows =
    All-weaker IsTyped IsByteRow (λ row one. record { aid = bytes_all row.aid one.aid; coded = coded_bytes row.coded one.is.sent }) plan.rows plan.typed in
    subst (All IsByteCommand) (sym (ap commands_under plan.plan)) (plan_bytes plan.product plan.rows (subst IsPlan same other.2) byte_rows)

-- A command of a record consists of bytes; without a command there are no bytes.
pub command_at_bytes : (f : Facts) (b r : List ℕ) (k : ℕ) → IsSound f → IsRecord f b r → AreBytes (command_at f b r k)
command_at_bytes f b r k sound is = at (slice_get (commands_for f b r) k) refl
  where
    at : (o : Option Command) → slice_get (commands_for f b r) k ≡ o → AreBytes (command_bytes o)
    at None none = λ i. omega arith
    at (Some c) there =
        let within = slice_get_within (commands_for f b r) k c there in
        bytes_at c.bytes (subst IsByteCommand (get_or_from_slice_get (commands_for f b r) k c c there) (commands_bytes f b r sound is k c within))
