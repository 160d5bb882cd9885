use Rattle.std.proofs.Common.{◌∙◌, List, ap, map, sym, subst}
use Rattle.std.proofs.lemmas.Bool.{false≢true}
use Rattle.store_data.specs.declared.row.Row.{Row}
use Rattle.store_data.specs.Groups.{grouped}
use Rattle.audit_laws.specs.Audited.{key_of}
use Rattle.audit_cards.specs.Files.{HasFile, groupings_in, keys_of, names_in}
use Rattle.audit_cards.proofs.BatchLemmas.{all_placed, audited_counts, audited_file, file_audited, file_parts, groupings_here, keys_here, own_rising, own_same, parts_file}
use Rattle.audit_order.proofs.Tested.{refused, test_as}
use Rattle.audit_cards.proofs.batches.has_file.Goals as goal

pub returns-then-not-has_records : goal.returns-then-not-has_records
returns-then-not-has_records c =
    let t = c.args.audited.now.tables.now in
    let b = c.args.audited.now.batch.now in
    refused (λ a. false≢true (sym c.if-not-has_records.true ∙ c.has_records.ensures.1
    (ap (map key_of) c.records_of-records.ensures ∙ a.records ∙ keys_here t b c.args.audited.now.product.now c.requires.product c.args.rows.items c.requires.file
    ∙ ap (keys_of b.id) (sym (c.deref-2.ensures.value ∙ c.in_ok-names.ensures ∙ ap names_in c.deref.ensures.value)))))

pub returns-then-not-has_groupings : goal.returns-then-not-has_groupings
returns-then-not-has_groupings c =
    refused (λ a. false≢true (sym c.if-not-has_groupings.true ∙ c.has_groupings.ensures.1
    (c.groupings_of-groupings.ensures ∙ a.groupings ∙ groupings_here c.args.audited.now.tables.now c.args.audited.now.batch.now c.args.audited.now.product.now c.requires.product c.args.rows.items c.requires.file
    ∙ ap (groupings_in c.args.audited.now.batch.now.id) (sym c.deref-3.ensures.value))))

pub returns-then-not-counts_by : goal.returns-then-not-counts_by
returns-then-not-counts_by c =
    let t = c.args.audited.now.tables.now in
    let b = c.args.audited.now.batch.now in
    let own = c.sessions_of-sessions.result.now in
    refused (λ a. false≢true (sym c.if-not-counts_by.true ∙ c.counts_by.ensures.1
    (audited_counts t b c.records_of-records.result.now c.records_of-records.ensures own (own_same t.sessions c.args.by_record.now c.requires.sessions b.id own c.sessions_of-sessions.ensures) a.counts)))

pub are_placed-requires : goal.are_placed-requires
are_placed-requires c =
    own_rising c.args.audited.now.tables.now.sessions c.args.by_record.now c.requires.sessions c.args.audited.now.batch.now.id c.sessions_of-sessions.result.now c.sessions_of-sessions.ensures

pub returns-then-not-are_placed : goal.returns-then-not-are_placed
returns-then-not-are_placed c =
    let keys = c.has_records.ensures.0 c.if-not-has_records.false ∙ ap (keys_of c.args.audited.now.batch.now.id) (c.deref-2.ensures.value ∙ c.in_ok-names.ensures ∙ ap names_in c.deref.ensures.value) in
    refused (λ a. false≢true (sym c.if-not-are_placed.true ∙ c.are_placed.ensures.1
    (all_placed c.args.audited.now.tables.now c.args.audited.now.batch.now c.args.audited.now.product.now c.args.rows.items c.records_of-records.result.now c.args.by_record.now c.sessions_of-sessions.result.now
    c.requires.batch c.requires.product c.requires.ranged c.requires.file c.records_of-records.ensures keys c.requires.sessions c.sessions_of-sessions.ensures a)))

pub are_audited-requires-clause-file : goal.are_audited-requires-clause-file
are_audited-requires-clause-file c =
    let keys = c.has_records.ensures.0 c.if-not-has_records.false ∙ ap (keys_of c.args.audited.now.batch.now.id) (c.deref-2.ensures.value ∙ c.in_ok-names.ensures ∙ ap names_in c.deref.ensures.value) in
    let parts = file_parts c.args.audited.now.tables.now c.args.audited.now.batch.now c.args.audited.now.product.now c.args.rows.items c.records_of-records.result.now c.args.by_record.now c.sessions_of-sessions.result.now
    c.requires.batch c.requires.product c.requires.ranged c.requires.file c.records_of-records.ensures keys c.requires.sessions c.sessions_of-sessions.ensures in
    subst (λ (gs : List (List Row)). HasFile c.args.audited.now.tables.now c.args.audited.now.batch.now c.args.audited.now.product.now gs c.records_of-records.result.now c.sessions_of-sessions.result.now)
    (sym (ap (map (λ group. group.items)) c.deref-5.ensures.value ∙ c.in_ok-groups.ensures)) parts

pub returns : goal.returns
returns c =
    let t = c.args.audited.now.tables.now in
    let b = c.args.audited.now.batch.now in
    let p = c.args.audited.now.product.now in
    let rows = c.args.rows.items in
    let records = c.records_of-records.result.now in
    let own = c.sessions_of-sessions.result.now in
    let keys = c.has_records.ensures.0 c.if-not-has_records.false ∙ ap (keys_of b.id) (c.deref-2.ensures.value ∙ c.in_ok-names.ensures ∙ ap names_in c.deref.ensures.value) in
    let parts = file_parts t b p rows records c.args.by_record.now own c.requires.batch c.requires.product c.requires.ranged c.requires.file c.records_of-records.ensures keys c.requires.sessions c.sessions_of-sessions.ensures in
    let read = parts_file t b p rows records c.args.by_record.now own c.requires.batch c.requires.product c.requires.ranged c.requires.file c.records_of-records.ensures keys c.requires.sessions c.sessions_of-sessions.ensures in
    let same = own_same t.sessions c.args.by_record.now c.requires.sessions b.id own c.sessions_of-sessions.ensures in
    let groupings = sym c.groupings_of-groupings.ensures ∙ c.has_groupings.ensures.0 c.if-not-has_groupings.false ∙ ap (groupings_in b.id) c.deref-3.ensures.value in
    let gs = grouped (λ (row : Row). row.rec) rows in
    test_as c.are_audited.result
    (audited_file t b p rows gs records own parts same read c.requires.named groupings (c.counts_by.ensures.0 c.if-not-counts_by.false) (c.are_placed.ensures.0 c.if-not-are_placed.false))
    (file_audited t b p rows gs records own parts same read)
    c.are_audited.ensures
