use Rattle.std.proofs.Common.{rules, ◌≡◌, ◌∙◌, true, false, None, Some, sym, ap, subst}
use Rattle.clap.specs.Words.{found_of}
use Rattle.store_data.specs.Name.{is_name}
use Rattle.arguments.proofs.TextLemmas.{name_is, name_passes, no_name, no_text, text_read}
use Rattle.arguments.proofs.words.name_of.Goals as goal

pub returns-in_default-clause-unread : goal.returns-in_default-clause-unread
returns-in_default-clause-unread c =
    let none : c.get_str.result ≡ None = search rules in
    no_text (found_of c.args.values.now) c.args.option.now c.get_str.result c.get_str.ensures none

pub returns-in_default-new-clause-unread : goal.returns-in_default-new-clause-unread
returns-in_default-new-clause-unread c =
    let text = c.as_bytes.result.now in
    let some : c.get_str.result ≡ Some c.in-Some.text = search rules in (
      c.in-Some.text.now,
      text_read (found_of c.args.values.now) c.args.option.now c.get_str.result c.get_str.ensures c.in-Some.text some,
      subst (λ t. is_name t ≡ false) c.as_bytes.ensures.value (no_name text (is_name text) c.new.result c.new.ensures c.in_default-new.is),
    )

pub returns-clause-name : goal.returns-clause-name
returns-clause-name c =
    let text = c.as_bytes.result.now in
    let some : c.get_str.result ≡ Some c.in-Some.text = search rules in
    let is : c.in-Some-new.name ≡ text = name_is text (is_name text) c.new.result c.in-Some-new.name c.new.ensures c.in-Some-new.is in (
      text_read (found_of c.args.values.now) c.args.option.now c.get_str.result c.get_str.ensures c.in-Some.text some
          ∙ ap Some (sym (is ∙ c.as_bytes.ensures.value)),
      subst (λ t. is_name t ≡ true) (sym is) (name_passes text (is_name text) c.new.result c.in-Some-new.name c.new.ensures c.in-Some-new.is),
    )
