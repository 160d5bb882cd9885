use Rattle.std.proofs.Common.{◌∙◌, ap, refl, sym}
use Rattle.std.proofs.lemmas.Bool.{false≢true}
use Rattle.table_rows.specs.Tables.{StoredGrouping}
use Rattle.audit_cards.proofs.RowLemmas.{grouping_same, name_of_place}
use Rattle.audit_order.proofs.Tested.{refused}
use Rattle.audit_cards.proofs.files.is_grouping.Goals as goal

pub returns-then-not-is_numbered : goal.returns-then-not-is_numbered
returns-then-not-is_numbered c = refused (λ same. false≢true (sym c.if-not-is_numbered.true ∙ c.is_numbered.ensures.1
    (ap (λ (g : StoredGrouping). g.batch) same, ap (λ (g : StoredGrouping). g.line) same)))

pub returns-then-not-is_placed : goal.returns-then-not-is_placed
returns-then-not-is_placed c = refused (λ same. false≢true (sym c.if-not-is_placed.true ∙ c.is_placed.ensures.1
    (name_of_place c.args.names.now c.args.row.now.rec c.requires c.args.grouping.now.place (ap (λ (g : StoredGrouping). g.place) same))))

pub returns-then-not-has_same_fields : goal.returns-then-not-has_same_fields
returns-then-not-has_same_fields c = refused (λ same. false≢true (sym c.if-not-has_same_fields.true ∙ c.has_same_fields.ensures.1
    (ap (λ (g : StoredGrouping). g.rank) same, ap (λ (g : StoredGrouping). g.enc) same, ap (λ (g : StoredGrouping). g.tol) same)))

pub returns : goal.returns
returns c =
    let numbered = c.is_numbered.ensures.0 c.if-not-is_numbered.false in
    let placed = c.is_placed.ensures.0 c.if-not-is_placed.false in
    let marks = c.has_same_fields.ensures.0 c.if-not-has_same_fields.false in (
      λ yes. let bytes = c.has_bytes.ensures.0 yes in
          grouping_same c.args.names.now c.args.row.now.rec c.requires c.args.grouping.now c.args.id c.args.line c.args.row.now refl numbered.0 numbered.1 placed marks.0 marks.1 marks.2 bytes.0 bytes.1,
      λ same. c.has_bytes.ensures.1 (ap (λ (g : StoredGrouping). g.aid) same, ap (λ (g : StoredGrouping). g.coded) same),
    )
