use Rattle.std.proofs.Common.{◌∙◌, sym, ap}
use Rattle.std.specs.Prelude.{option_map}
use Rattle.std.proofs.lemmas.Option.{none-some, same_Some}
use Rattle.job_facts.specs.declared.facts.Lot.{Lot}
use Rattle.job_facts.specs.States.{lot_of}
use Rattle.table_rows.specs.Tables.{StoredBlank}
use Rattle.audit_order.specs.Order.{lots_of}
use Rattle.audit_order.proofs.Tested.{refused}
use Rattle.audit_rows.proofs.blanks.is_audited_blank.Goals as goal

pub returns-in-None : goal.returns-in-None
returns-in-None c =
    let found = c.lot_for.ensures ∙ ap (λ (b : StoredBlank). lot_of (lots_of c.args.tables.now.lots) b.serial) c.blank.view_is in
    refused (λ a. none-some a.lot (sym (ap (option_map (λ lot. lot.now.lot)) c.in-None.is) ∙ found ∙ a.lot_is))

pub returns-in-Some : goal.returns-in-Some
returns-in-Some c =
    let found = c.lot_for.ensures ∙ ap (λ (b : StoredBlank). lot_of (lots_of c.args.tables.now.lots) b.serial) c.blank.view_is in
    let there = sym found ∙ ap (option_map (λ lot. lot.now.lot)) c.in-Some.is in (
      λ yes. record { lot = c.in-Some.lot.now.lot; lot_is = there; named = c.names.ensures.0 yes },
      λ a. c.names.ensures.1 (ap (λ (l : Lot). l.name) (same_Some c.in-Some.lot.now.lot a.lot (sym there ∙ a.lot_is)) ∙ a.named),
    )
