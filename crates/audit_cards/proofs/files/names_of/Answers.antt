use Rattle.std.proofs.Common.{◌∙◌, ◌++◌, ◌∷◌, [], List, ℕ, ap, sym, take}
use Rattle.store_data.specs.Groups.{with_key}
use Rattle.audit_cards.specs.Files.{names_in}
use Rattle.audit_cards.proofs.RowLemmas.{name_added, name_known, names_more}
use Rattle.audit_cards.proofs.files.names_of.Goals as goal
use Rattle.audit_cards.proofs.files.names_of.Goals.{then-branch+in_ok-push, else-branch}

pub loop-row-preserved : goal.loop-row-preserved
loop-row-preserved c =
    let rows = c.args.rows.now in
    let i = c.loop-row.row-index in
    let row = c.row-item.result in
    let more = names_more rows i row c.loop-row-test.true c.row-item.is in
    let before : List (List ℕ) = names_in (take i rows) in
    record {
      seen = c.in_ok-insert.ensures.keys ∙ ap (λ ks. with_key ks row.rec) c.loop-row.invariant.seen ∙ sym more;
      names = elim c.if-branch.branch [
        | then-branch+in_ok-push w ↦
            ap (λ v. v.items) w.names-is ∙ w.in_ok-push.ensures.items ∙ ap (λ (ks : List (List ℕ)). ks ++ row.rec ∷ []) c.loop-row.invariant.names
            ∙ name_added c.loop-row.seen.keys before row.rec c.in_ok-insert.field-0 c.loop-row.invariant.seen c.in_ok-insert.ensures.added w.if-branch.true ∙ sym more
        | else-branch w ↦
            ap (λ v. v.items) w.names-is ∙ c.loop-row.invariant.names
            ∙ name_known c.loop-row.seen.keys before row.rec c.in_ok-insert.field-0 c.loop-row.invariant.seen c.in_ok-insert.ensures.added w.if-branch.false ∙ sym more
      ];
    }
