-- The tables of each version are dropped, each after the tables that refer to it.
use Rattle.std.proofs.Common.{◌≡◌, ◌≢◌, [], codes, false, refl}
use Rattle.std.specs.List.{AllByRecursion}
use Rattle.sqlite.specs.Effect.{Database}
use Rattle.sqlite_tied.specs.Compute.{everything}
use Rattle.sql_tables.specs.Versions.{schema_of}
use Rattle.sql_tables.specs.declared.versions.Version.{Version}
use Rattle.sql_tables.specs.declared.versions.Version.TheVariants.{One, Three, Two}
use Rattle.remaking.specs.Anew.{DropsAll}
use Rattle.sql_tables.specs.Each.{Each}
use Rattle.remaking.specs.Drop.{DropsTable, IsDrop}
use Rattle.remaking.specs.Texts.{drops_of, drop_batch, drop_blank, drop_grouping, drop_lot, drop_mark, drop_product, drop_record, drop_remake, drop_reply, drop_session, drop_unmixed_grouping, drop_version, drop_word}
use Rattle.remaking.proofs.Emptied.{acts, each_dropped}
use Rattle.remaking.proofs.Gathered.{all_of, all_stand}

version_is : IsDrop drop_version (codes "version")
unfolding everything
version_is = record { parsed = _; is = refl; statement = refl; timeless = refl; free = refl }

product_is : IsDrop drop_product (codes "product")
unfolding everything
product_is = record { parsed = _; is = refl; statement = refl; timeless = refl; free = refl }

lot_is : IsDrop drop_lot (codes "lot")
unfolding everything
lot_is = record { parsed = _; is = refl; statement = refl; timeless = refl; free = refl }

batch_is : IsDrop drop_batch (codes "batch")
unfolding everything
batch_is = record { parsed = _; is = refl; statement = refl; timeless = refl; free = refl }

record_is : IsDrop drop_record (codes "record")
unfolding everything
record_is = record { parsed = _; is = refl; statement = refl; timeless = refl; free = refl }

grouping_is : IsDrop drop_grouping (codes "grouping2")
unfolding everything
grouping_is = record { parsed = _; is = refl; statement = refl; timeless = refl; free = refl }

unmixed_grouping_is : IsDrop drop_unmixed_grouping (codes "grouping")
unfolding everything
unmixed_grouping_is = record { parsed = _; is = refl; statement = refl; timeless = refl; free = refl }

session_is : IsDrop drop_session (codes "session")
unfolding everything
session_is = record { parsed = _; is = refl; statement = refl; timeless = refl; free = refl }

word_is : IsDrop drop_word (codes "word")
unfolding everything
word_is = record { parsed = _; is = refl; statement = refl; timeless = refl; free = refl }

blank_is : IsDrop drop_blank (codes "blank")
unfolding everything
blank_is = record { parsed = _; is = refl; statement = refl; timeless = refl; free = refl }

remake_is : IsDrop drop_remake (codes "remake")
unfolding everything
remake_is = record { parsed = _; is = refl; statement = refl; timeless = refl; free = refl }

reply_is : IsDrop drop_reply (codes "reply")
unfolding everything
reply_is = record { parsed = _; is = refl; statement = refl; timeless = refl; free = refl }

mark_is : IsDrop drop_mark (codes "mark")
unfolding everything
mark_is = record { parsed = _; is = refl; statement = refl; timeless = refl; free = refl }

pub all_dropped : (v : Version) (old new : Database) → Each DropsTable (drops_of v) old new → DropsAll v old new
all_dropped One old new drops sound just =
    let idle : AllByRecursion (λ t. acts t ≡ false) (schema_of One).tables = assumption in
    each_dropped (drops_of One) (all_of old (schema_of One) sound just idle)
    ((version_is, refl), ((unmixed_grouping_is, refl), ((reply_is, refl), ((remake_is, refl), ((blank_is, refl), ((word_is, refl), ((session_is, refl), ((record_is, refl), ((batch_is, refl), ((lot_is, refl), ((product_is, refl), tt)))))))))))
    old new drops (all_stand old (schema_of One) sound just idle refl)
all_dropped Two old new drops sound just =
    let idle : AllByRecursion (λ t. acts t ≡ false) (schema_of Two).tables = assumption in
    each_dropped (drops_of Two) (all_of old (schema_of Two) sound just idle)
    ((version_is, refl), ((mark_is, refl), ((unmixed_grouping_is, refl), ((reply_is, refl), ((remake_is, refl), ((blank_is, refl), ((word_is, refl), ((session_is, refl), ((record_is, refl), ((batch_is, refl), ((lot_is, refl), ((product_is, refl), tt))))))))))))
    old new drops (all_stand old (schema_of Two) sound just idle refl)
all_dropped Three old new drops sound just =
    let idle : AllByRecursion (λ t. acts t ≡ false) (schema_of Three).tables = assumption in
    each_dropped (drops_of Three) (all_of old (schema_of Three) sound just idle)
    ((mark_is, refl), ((reply_is, refl), ((remake_is, refl), ((blank_is, refl), ((word_is, refl), ((session_is, refl), ((grouping_is, refl), ((record_is, refl), ((batch_is, refl), ((lot_is, refl), ((product_is, refl), ((version_is, refl), tt))))))))))))
    old new drops (all_stand old (schema_of Three) sound just idle refl)

pub some_dropped : (v : Version) → drops_of v ≢ []
some_dropped One = λ none. cc
some_dropped Two = λ none. cc
some_dropped Three = λ none. cc
