-- The texts that drop the tables of each schema version.
use Rattle.std.specs.Prelude.{List, [], ◌∷◌, ℕ, codes}
use Rattle.sql_tables.specs.declared.versions.Version.{Version}
use Rattle.sql_tables.specs.declared.versions.Version.TheVariants.{One, Two, Three}

abbrev pub drop_version : List ℕ
drop_version = codes "DROP TABLE version"

abbrev pub drop_product : List ℕ
drop_product = codes "DROP TABLE product"

abbrev pub drop_lot : List ℕ
drop_lot = codes "DROP TABLE lot"

abbrev pub drop_batch : List ℕ
drop_batch = codes "DROP TABLE batch"

abbrev pub drop_record : List ℕ
drop_record = codes "DROP TABLE record"

abbrev pub drop_grouping : List ℕ
drop_grouping = codes "DROP TABLE grouping2"

abbrev pub drop_unmixed_grouping : List ℕ
drop_unmixed_grouping = codes "DROP TABLE grouping"

abbrev pub drop_session : List ℕ
drop_session = codes "DROP TABLE session"

abbrev pub drop_word : List ℕ
drop_word = codes "DROP TABLE word"

abbrev pub drop_blank : List ℕ
drop_blank = codes "DROP TABLE blank"

abbrev pub drop_remake : List ℕ
drop_remake = codes "DROP TABLE remake"

abbrev pub drop_reply : List ℕ
drop_reply = codes "DROP TABLE reply"

abbrev pub drop_mark : List ℕ
drop_mark = codes "DROP TABLE mark"

-- the texts that drop all tables of a schema version, in reverse order of their creation. Every
-- table is dropped after the tables that refer to it.
abbrev pub drops_of : Version → List (List ℕ)
drops_of One = drop_version ∷ drop_unmixed_grouping ∷ drop_reply ∷ drop_remake ∷ drop_blank ∷ drop_word ∷ drop_session ∷ drop_record ∷ drop_batch ∷ drop_lot ∷ drop_product ∷ []
drops_of Two = drop_version ∷ drop_mark ∷ drop_unmixed_grouping ∷ drop_reply ∷ drop_remake ∷ drop_blank ∷ drop_word ∷ drop_session ∷ drop_record ∷ drop_batch ∷ drop_lot ∷ drop_product ∷ []
drops_of Three = drop_mark ∷ drop_reply ∷ drop_remake ∷ drop_blank ∷ drop_word ∷ drop_session ∷ drop_grouping ∷ drop_record ∷ drop_batch ∷ drop_lot ∷ drop_product ∷ drop_version ∷ []
