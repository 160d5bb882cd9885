use Rattle.std.proofs.Common.{◌≡◌, ◌⊎◌, sym, subst, ◌∙◌, arith}
use Rattle.std.specs.Prelude.{IfErr, IfOk, MatchResult, Ok, Err, Result}
use Rattle.std.proofs.lemmas.Bool.{false≢true}
use Rattle.sqlite.specs.Held.{state}
use Rattle.schema.specs.Stores.{stands_for}
use Rattle.schema.specs.Left.{IsRefusal}
use Rattle.over_tables.specs.Faults.{of_open}
use Rattle.over_tables.specs.Refusals.{IsDamaged, IsNotOurs, IsRefused}
use Rattle.over_tables.specs.declared.fault.FileFault.TheVariants.{Storage}
use Rattle.over_tables.proofs.Stores.{empty, opened_new, opened_over, refusal, refused_new, refused_over, storage_caused}
use Rattle.over_tables.proofs.opening.store_over.Goals as goal
use Rattle.over_tables.proofs.opening.store_over.Goals.{then-begins, else-begins}

-- a property of a successful result is true for its value
at_ok : {A E : Type 0} (P : A → Type 0) (o : Result A E) (x : A) → o ≡ Ok x → IfOk o P → P x
at_ok P o x is holds = subst (λ o. IfOk o P) is holds

at_err : {A E : Type 0} (P : E → Type 0) (o : Result A E) (e : E) → o ≡ Err e → IfErr o P → P e
at_err P o e is holds = subst (λ o. IfErr o P) is holds

either_err : {A E : Type 0} (P : A → Type 0) (Q : E → Type 0) (o : Result A E) (e : E) → o ≡ Err e → MatchResult o P Q → Q e
either_err P Q o e is holds = subst (λ o. MatchResult o P Q) is holds

either_ok : {A E : Type 0} (P : A → Type 0) (Q : E → Type 0) (o : Result A E) (x : A) → o ≡ Ok x → MatchResult o P Q → P x
either_ok P Q o x is holds = subst (λ o. MatchResult o P Q) is holds

pub returns-in-Ok-clause-taken : goal.returns-in-Ok-clause-taken
returns-in-Ok-clause-taken g c clean =
    let wanted = c.args.wanted in
    let db = (state g.S.Store c.args.conn).now in
    let store = stands_for g.S.Store c.in-Ok.store in
    elim c.if-begins.branch [
      | then-begins w ↦
          let is = sym w.opened-is ∙ c.in-Ok.is in
          let ok = w.create-opened.ensures in
          opened_new wanted db store (c.begins.ensures.0 w.if-begins.true) (at_ok _ w.create-opened.result c.in-Ok.store is ok.holds clean) (at_ok _ w.create-opened.result c.in-Ok.store is ok.crash clean)
      | else-begins w ↦
          let is = sym w.opened-is ∙ c.in-Ok.is in
          let ok = w.adopt-opened.ensures in
          opened_over wanted db store (λ begins. false≢true (sym w.if-begins.false ∙ c.begins.ensures.1 begins)) (at_ok _ w.adopt-opened.result c.in-Ok.store is ok.taken clean)
          (at_ok _ w.adopt-opened.result c.in-Ok.store is ok.holds clean) (at_ok _ w.adopt-opened.result c.in-Ok.store is ok.crash clean)
    ]

pub returns-in-Ok-clause-takes : goal.returns-in-Ok-clause-takes
returns-in-Ok-clause-takes g c clean = elim c.if-begins.branch [
  | then-begins w ↦ at_ok _ w.create-opened.result c.in-Ok.store (sym w.opened-is ∙ c.in-Ok.is) w.create-opened.ensures.takes clean
  | else-begins w ↦ at_ok _ w.adopt-opened.result c.in-Ok.store (sym w.opened-is ∙ c.in-Ok.is) w.adopt-opened.ensures.takes clean
]

pub returns-in-Err-clause-refused : goal.returns-in-Err-clause-refused
returns-in-Err-clause-refused g c =
    let wanted = c.args.wanted in
    let old = state g.S.Store c.args.conn in
    let new = state g.S.Store c.in-Err.conn in
    let e = c.in-Err.fault in
    let whole : IsRefused wanted old new (of_open e) = elim c.if-begins.branch [
      | then-begins w ↦
          let is = sym w.opened-is ∙ c.in-Err.is in
          let err = w.create-opened.ensures in
          refused_new wanted old new e (c.begins.ensures.0 w.if-begins.true)
          (at_err _ w.create-opened.result _ is err.no_difference) (at_err _ w.create-opened.result _ is err.unread) (either_err _ _ w.create-opened.result _ is err.clean) (at_err _ w.create-opened.result _ is err.kept)
          (at_err _ w.create-opened.result _ is err.late)
      | else-begins w ↦
          let is = sym w.opened-is ∙ c.in-Err.is in
          let err = w.adopt-opened.ensures in
          refused_over wanted old new e (λ begins. false≢true (sym w.if-begins.false ∙ c.begins.ensures.1 begins))
          (at_err _ w.adopt-opened.result _ is err.not_ours) (at_err _ w.adopt-opened.result _ is err.damaged) (λ clean. omega (arith, (either_err _ _ w.adopt-opened.result _ is err.survives).clean))
          (at_err _ w.adopt-opened.result _ is err.kept) (at_err _ w.adopt-opened.result _ is err.late)
    ] in
    subst (IsRefused wanted old new) (sym c.from.ensures) whole

pub returns-in-Err-clause-refuses : goal.returns-in-Err-clause-refuses
returns-in-Err-clause-refuses g c clean was refused some =
    let e = c.in-Err.fault in
    let is_refusal : IsRefusal e = refusal e (subst (λ fault. IsNotOurs fault ⊎ IsDamaged fault) c.from.ensures refused) in
    elim c.if-begins.branch [
      | then-begins w ↦ absurd (some (empty c.args.wanted (state g.S.Store c.args.conn).now (c.begins.ensures.0 w.if-begins.true)))
      | else-begins w ↦ at_err _ w.adopt-opened.result _ (sym w.opened-is ∙ c.in-Err.is) w.adopt-opened.ensures.refuses clean was is_refusal some
    ]

pub returns-in-Err-clause-storage : goal.returns-in-Err-clause-storage
returns-in-Err-clause-storage g c clean is =
    let old = state g.S.Store c.args.conn in
    let new = state g.S.Store c.in-Err.conn in
    let e = c.in-Err.fault in
    let as_open : of_open e ≡ Storage = sym c.from.ensures ∙ is in
    elim c.if-begins.branch [
      | then-begins w ↦
          let is = sym w.opened-is ∙ c.in-Err.is in
          storage_caused g.S.Store old new e (λ full. at_err _ w.create-opened.result _ is w.create-opened.ensures.refused full (empty c.args.wanted old.now (c.begins.ensures.0 w.if-begins.true)))
          (at_err _ w.create-opened.result _ is w.create-opened.ensures.cause clean) as_open
      | else-begins w ↦
          let is = sym w.opened-is ∙ c.in-Err.is in
          storage_caused g.S.Store old new e (at_err _ w.adopt-opened.result _ is w.adopt-opened.ensures.existing) (at_err _ w.adopt-opened.result _ is w.adopt-opened.ensures.cause clean) as_open
    ]

pub returns-in-Err-clause-idle : goal.returns-in-Err-clause-idle
returns-in-Err-clause-idle g c = elim c.if-begins.branch [
  | then-begins w ↦ at_err _ w.create-opened.result _ (sym w.opened-is ∙ c.in-Err.is) w.create-opened.ensures.idle
  | else-begins w ↦ at_err _ w.adopt-opened.result _ (sym w.opened-is ∙ c.in-Err.is) w.adopt-opened.ensures.idle
]

pub returns-in-Ok-clause-clean : goal.returns-in-Ok-clause-clean
returns-in-Ok-clause-clean g c clean = elim c.if-begins.branch [
  | then-begins w ↦ either_ok _ _ w.create-opened.result c.in-Ok.store (sym w.opened-is ∙ c.in-Ok.is) w.create-opened.ensures.clean clean
  | else-begins w ↦ omega (arith, (either_ok _ _ w.adopt-opened.result c.in-Ok.store (sym w.opened-is ∙ c.in-Ok.is) w.adopt-opened.ensures.survives).clean)
]
