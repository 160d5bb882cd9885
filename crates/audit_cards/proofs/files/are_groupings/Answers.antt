use Rattle.std.proofs.Common.{◌∙◌, ◌+◌, ap, arith, length, sym, subst}
use Rattle.std.proofs.lemmas.Bool.{false≢true}
use Rattle.table_rows.specs.Tables.{StoredGrouping}
use Rattle.table_rows.specs.After.{new_grouping}
use Rattle.audit_cards.specs.Files.{IsNamed, groupings_in}
use Rattle.audit_cards.proofs.RowLemmas.{grouping_here, groupings_count, named_here}
use Rattle.audit_order.proofs.SameLists.{all_equal, here_equal, same_here, same_more}
use Rattle.audit_order.proofs.Tested.{granted, refused}
use Rattle.audit_cards.proofs.files.are_groupings.Goals as goal

pub returns-then-groupings-rows : goal.returns-then-groupings-rows
returns-then-groupings-rows c = refused (λ same. c.if-groupings-rows.true (ap length same ∙ groupings_count c.args.id c.args.rows.now))

pub is_grouping-requires : goal.is_grouping-requires
is_grouping-requires c =
    subst (IsNamed c.index-rows-place.result.rec) (sym c.requires.names) (named_here c.args.rows.now c.loop-place.place c.index-rows-place.result (omega arith) c.index-rows-place.is)

pub returns-then-not-is_grouping : goal.returns-then-not-is_grouping
returns-then-not-is_grouping c =
    let groupings = c.args.groupings.now in
    let rows = c.args.rows.now in
    let k = c.loop-place.place in
    let row = c.index-rows-place.result in
    let given : StoredGrouping = new_grouping c.args.id c.args.names.now (k + 2, row) in
    refused (λ same. false≢true (sym c.if-not-is_grouping.true ∙ c.is_grouping.ensures.1
    (here_equal groupings (groupings_in c.args.id rows) k c.index-groupings-place.result given (omega arith) (omega (arith, groupings_count c.args.id rows)) c.index-groupings-place.is
    (grouping_here c.args.id rows k row (omega arith) c.index-rows-place.is given (ap (λ names. new_grouping c.args.id names (k + 2, row)) c.requires.names)) same)))

pub loop-place-preserved : goal.loop-place-preserved
loop-place-preserved c =
    let groupings = c.args.groupings.now in
    let rows = c.args.rows.now in
    let k = c.loop-place.place in
    let row = c.index-rows-place.result in
    let given : StoredGrouping = new_grouping c.args.id c.args.names.now (k + 2, row) in
    same_more (λ g. g) groupings (groupings_in c.args.id rows) k c.loop-place.invariant
    (same_here (λ g. g) groupings (groupings_in c.args.id rows) k c.index-groupings-place.result given (omega arith) (omega (arith, groupings_count c.args.id rows)) c.index-groupings-place.is
    (grouping_here c.args.id rows k row (omega arith) c.index-rows-place.is given (ap (λ names. new_grouping c.args.id names (k + 2, row)) c.requires.names))
    (c.is_grouping.ensures.0 c.if-not-is_grouping.false))

pub returns : goal.returns
returns c =
    granted (all_equal c.args.groupings.now (groupings_in c.args.id c.args.rows.now) (c.if-groupings-rows.false ∙ sym (groupings_count c.args.id c.args.rows.now))
    (λ k within. c.loop-place.invariant k (omega arith)))
