use Rattle.std.proofs.Common.{◌∙◌, ℕ, List, arith, refl, sym}
use Rattle.std.proofs.lemmas.Bool.{false≢true}
use Rattle.audit_laws.specs.Audited.{key_of}
use Rattle.audit_cards.specs.Files.{keys_of}
use Rattle.audit_cards.proofs.RowLemmas.{key_here, keys_count}
use Rattle.audit_order.proofs.SameLists.{all_same, here_same, same_here, same_length, same_more}
use Rattle.audit_order.proofs.Tested.{granted, refused}
use Rattle.audit_cards.proofs.files.are_records.Goals as goal

pub returns-then-records-names : goal.returns-then-records-names
returns-then-records-names c = refused (λ same. c.if-records-names.true
    (same_length key_of c.args.records.now (keys_of c.args.id c.args.names.now) same ∙ keys_count c.args.id c.args.names.now))

pub returns-then-not-is_record : goal.returns-then-not-is_record
returns-then-not-is_record c =
    let records = c.args.records.now in
    let names = c.args.names.now in
    let k = c.loop-place.place in
    let name = c.index-names-place.result in
    let key : ℕ × (ℕ × List ℕ) = (c.args.id, (k, name)) in
    refused (λ same. false≢true (sym c.if-not-is_record.true ∙ c.is_record.ensures.1
    (here_same key_of records (keys_of c.args.id names) k c.index-records-place.result key (omega arith) (omega (arith, keys_count c.args.id names)) c.index-records-place.is
    (key_here c.args.id names k name (omega arith) c.index-names-place.is key refl) same)))

pub loop-place-preserved : goal.loop-place-preserved
loop-place-preserved c =
    let records = c.args.records.now in
    let names = c.args.names.now in
    let k = c.loop-place.place in
    let name = c.index-names-place.result in
    let key : ℕ × (ℕ × List ℕ) = (c.args.id, (k, name)) in
    same_more key_of records (keys_of c.args.id names) k c.loop-place.invariant
    (same_here key_of records (keys_of c.args.id names) k c.index-records-place.result key (omega arith) (omega (arith, keys_count c.args.id names)) c.index-records-place.is
    (key_here c.args.id names k name (omega arith) c.index-names-place.is key refl) (c.is_record.ensures.0 c.if-not-is_record.false))

pub returns : goal.returns
returns c =
    granted (all_same key_of c.args.records.now (keys_of c.args.id c.args.names.now) (c.if-records-names.false ∙ sym (keys_count c.args.id c.args.names.now))
    (λ k within. c.loop-place.invariant k (omega arith)))
