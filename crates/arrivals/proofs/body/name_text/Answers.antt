use Rattle.std.proofs.Common.{sym, subst}
use Rattle.std.specs.Str.{IsUtf8}
use Rattle.std.proofs.lemmas.Str.{IsUtf8-from_ascii}
use Rattle.arrivals.proofs.Escapes.{IsOk-from_match, escape_plain, name_plain, plain_ascii}
use Rattle.arrivals.proofs.body.name_text.Goals as goal

pub unwrap-requires : goal.unwrap-requires
unwrap-requires c =
    let utf8 : IsUtf8 c.bytes.result.now = subst IsUtf8 (sym c.bytes.ensures.value) (IsUtf8-from_ascii c.args.name.now (plain_ascii c.args.name.now (name_plain c.args.name.now c.bytes.ensures.name))) in
    IsOk-from_match c.from_utf8.result _ _ (λ e wrong. wrong.0 utf8) c.from_utf8.ensures.cases

pub returns-clause-bare : goal.returns-clause-bare
returns-clause-bare c = escape_plain c.args.name.now (name_plain c.args.name.now c.bytes.ensures.name)
