use Rattle.std.proofs.Common.{sym, subst, take}
use Rattle.std.specs.Str.{IsUtf8}
use Rattle.server_run.proofs.WordLemmas.{digits-utf8, ok_unless}
use Rattle.server_run.proofs.words.digits_in.Goals as goal

pub unwrap-requires : goal.unwrap-requires
unwrap-requires c =
    let text = c.args.text.now in
    let utf8 : IsUtf8 (take c.digits_len.result text) = subst (λ n. IsUtf8 (take n text)) (sym c.digits_len.ensures.value) (digits-utf8 text) in
    ok_unless c.from_utf8.result _ _ (λ e wrong. wrong.0 utf8) c.from_utf8.ensures.cases
