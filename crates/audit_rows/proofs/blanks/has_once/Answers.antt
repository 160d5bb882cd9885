use Rattle.std.proofs.Common.{◌≡◌, ◌≢◌, ◌∙◌, true, List, ap, subst}
use Rattle.std.specs.Prelude.{AllPairs}
use Rattle.table_rows.specs.Tables.{StoredBlank, Tables}
use Rattle.audit_rows.proofs.blanks.has_once.Goals as goal

abbrev AreOnce : List StoredBlank → Type 0
AreOnce blanks = AllPairs (λ (b c : StoredBlank). b.serial ≢ c.serial) blanks

pub returns : goal.returns
returns c =
    let blanks = c.deref.ensures.value ∙ ap (λ (t : Tables). t.blanks) c.tables.view_is in
    subst (λ (bs : List StoredBlank). (c.are_blanks_once.result ≡ true → AreOnce bs) × (AreOnce bs → c.are_blanks_once.result ≡ true)) blanks c.are_blanks_once.ensures
