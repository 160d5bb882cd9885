use Rattle.std.proofs.Common.{◌∙◌, sym, ap}
use Rattle.std.specs.Prelude.{option_map}
use Rattle.std.proofs.lemmas.Option.{none-some, same_Some}
use Rattle.job_facts.specs.declared.facts.Lot.{Lot}
use Rattle.job_facts.specs.States.{lot_of}
use Rattle.table_rows.specs.Tables.{StoredSession}
use Rattle.audit_order.specs.Order.{lots_of}
use Rattle.audit_order.proofs.Tested.{refused}
use Rattle.audit_cards.proofs.sessions.is_for.Goals as goal

pub returns-in-None : goal.returns-in-None
returns-in-None c =
    let found = c.lot_for.ensures ∙ ap (λ (s : StoredSession). lot_of (lots_of c.args.tables.now.lots) s.serial) c.session.view_is in
    refused (λ fits. none-some fits.0 (sym (ap (option_map (λ lot. lot.now.lot)) c.in-None.is) ∙ found ∙ fits.1))

pub returns-in-Some : goal.returns-in-Some
returns-in-Some c =
    let found = c.lot_for.ensures ∙ ap (λ (s : StoredSession). lot_of (lots_of c.args.tables.now.lots) s.serial) c.session.view_is in
    let there = sym found ∙ ap (option_map (λ lot. lot.now.lot)) c.in-Some.is in (
      λ yes. (c.in-Some.lot.now.lot, there, c.has_product.ensures.0 yes),
      λ fits. c.has_product.ensures.1 (ap (λ (l : Lot). l.product) (same_Some c.in-Some.lot.now.lot fits.0 (sym there ∙ fits.1)) ∙ fits.2),
    )
