use Rattle.std.proofs.Common.{inl, inr}
use Rattle.std.proofs.lemmas.Result.{IfErr-weaker}
use Rattle.store_files.proofs.wal.refuse_opened.Goals as goal

pub returns-in-Ok : goal.returns-in-Ok
returns-in-Ok c =
    IfErr-weaker c.refuse_damaged.result _ _ (λ fault refused. inl (elim refused [
      | inl damaged ↦ inl (damaged.0, damaged.1, damaged.2)
      | inr unread ↦ inr (elim unread [ inl storage ↦ inl storage.0 | inr memory ↦ inr memory ])
    ])) c.refuse_damaged.ensures.refused
