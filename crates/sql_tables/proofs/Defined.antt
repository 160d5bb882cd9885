-- The texts of each version define its tables and its indexes.
use Rattle.std.proofs.Common.{◌≡◌, ◌≢◌, List, [], ◌∷◌, refl, subst}
use Rattle.std.specs.Prelude.{fold}
use Rattle.sqlite.specs.Change.{created}
use Rattle.sqlite.specs.Effect.{Database}
use Rattle.sqlite.specs.Listing.{understood}
use Rattle.sqlite.specs.Schema.{Schema}
use Rattle.sqlite_tied.specs.Compute.{everything}
use Rattle.sql_base.specs.Columns.{no_schema}
use Rattle.sql_tables.specs.Each.{Each}
use Rattle.sql_tables.specs.Opening.{IsEmptyAt, Makes, MakesVersion}
use Rattle.sql_tables.specs.Tables.{batch_named_at, batch_table, batch_told_at, grouping_place_at, grouping_table, lot_serial_at, lot_table, mark_at, our_schema, session_running_at, session_stands_at, session_table}
use Rattle.sql_tables.specs.Texts.{earlier_texts, mark_text, our_index_texts, our_table_texts, texts_of, version_one_text, version_two_text}
use Rattle.sql_tables.specs.Versions.{earlier_tables, numbered_version_at, tables_in}
use Rattle.sql_tables.specs.declared.versions.Version.{Version}
use Rattle.sql_tables.specs.declared.versions.Version.TheVariants.{One, Three, Two}
use Rattle.sql_tables.proofs.EachLemmas.{parts}
use Rattle.sql_tables.proofs.Growing.{AreDefined, AreIndexed, Keyed, all_grow, all_indexed, more_defined, with_index}

-- ---- versions 1 and 2

earlier_defined : AreDefined no_schema earlier_texts earlier_tables
unfolding understood everything
earlier_defined = (
  ((refl, refl), refl),
  (
    ((refl, refl), refl),
    (
      ((refl, refl), refl),
      (
        ((refl, refl), refl),
        (
          ((refl, refl), refl),
          (((refl, refl), refl), (((refl, refl), refl), (((refl, refl), refl), (((refl, refl), refl), (((refl, refl), refl), tt))))),
        ),
      ),
    ),
  ),
)

one_defined : AreDefined no_schema (texts_of One) (tables_in One)
unfolding understood everything
one_defined = more_defined earlier_texts (version_one_text ∷ []) earlier_tables (numbered_version_at 1 0 ∷ []) no_schema earlier_defined (((refl, refl), refl), tt)

two_defined : AreDefined no_schema (texts_of Two) (tables_in Two)
unfolding understood everything
two_defined =
    more_defined earlier_texts (mark_text ∷ version_two_text ∷ []) earlier_tables (mark_at 0 ∷ numbered_version_at 2 0 ∷ []) no_schema earlier_defined
    (((refl, refl), refl), (((refl, refl), refl), tt))

-- ---- version 3

abbrev our_indices : List Keyed
our_indices =
    record { at = 6; table = session_table; index = session_running_at 0 }
    ∷ record { at = 5; table = grouping_table; index = grouping_place_at 0 }
    ∷ record { at = 6; table = session_table; index = session_stands_at 0 }
    ∷ record { at = 3; table = batch_table; index = batch_told_at 0 }
    ∷ record { at = 3; table = batch_table; index = batch_named_at 0 }
    ∷ record { at = 2; table = lot_table; index = lot_serial_at 0 }
    ∷ []

abbrev with_tables : Schema
with_tables = fold created no_schema (tables_in Three)

tables_defined : AreDefined no_schema our_table_texts (tables_in Three)
unfolding understood everything
tables_defined = (
  ((refl, refl), refl),
  (
    ((refl, refl), refl),
    (
      ((refl, refl), refl),
      (
        ((refl, refl), refl),
        (
          ((refl, refl), refl),
          (
            ((refl, refl), refl),
            (((refl, refl), refl), (((refl, refl), refl), (((refl, refl), refl), (((refl, refl), refl), (((refl, refl), refl), (((refl, refl), refl), tt)))))),
          ),
        ),
      ),
    ),
  ),
)

indices_defined : AreIndexed with_tables our_index_texts our_indices
unfolding understood everything
indices_defined = (((refl, refl), refl), (((refl, refl), refl), (((refl, refl), refl), (((refl, refl), refl), (((refl, refl), refl), (((refl, refl), refl), tt))))))

all_made : fold with_index with_tables our_indices ≡ our_schema
all_made = refl

-- ---- the schema that the texts create

nothing : (db : Database) → db.schema ≡ no_schema → IsEmptyAt no_schema db
nothing db none = record { schema_is = none; empty = tt }

pub version_made : (v : Version) (old new : Database) → Each Makes (texts_of v) old new → MakesVersion v old new
version_made One old new made none = all_grow (texts_of One) (tables_in One) no_schema old new one_defined made (nothing old none)
version_made Two old new made none = all_grow (texts_of Two) (tables_in Two) no_schema old new two_defined made (nothing old none)
version_made Three old new made none =
    let two = parts Makes our_table_texts our_index_texts old new made in
    let tables = all_grow our_table_texts (tables_in Three) no_schema old two.mid tables_defined two.first (nothing old none) in
    subst (λ s. IsEmptyAt s new) all_made (all_indexed our_index_texts our_indices with_tables two.mid new indices_defined two.rest tables)

pub some_texts : (v : Version) → texts_of v ≢ []
some_texts One = λ none. cc
some_texts Two = λ none. cc
some_texts Three = λ none. cc
