-- The texts of the queries for whole tables, with the rowid of each row first. If a column is an
-- alias of the rowid, it is the first column.
use Rattle.std.specs.Prelude.{List, ℕ, codes}

abbrev pub version_text : List ℕ
version_text = codes "SELECT * FROM version"

abbrev pub products_text : List ℕ
products_text = codes "SELECT rowid, * FROM product"

abbrev pub lots_text : List ℕ
lots_text = codes "SELECT rowid, * FROM lot"

abbrev pub batches_text : List ℕ
batches_text = codes "SELECT * FROM batch"

abbrev pub records_text : List ℕ
records_text = codes "SELECT rowid, * FROM record"

abbrev pub groupings_text : List ℕ
groupings_text = codes "SELECT rowid, * FROM grouping2"

abbrev pub unmixed_groupings_text : List ℕ
unmixed_groupings_text = codes "SELECT rowid, * FROM grouping"

abbrev pub sessions_text : List ℕ
sessions_text = codes "SELECT * FROM session"

abbrev pub words_text : List ℕ
words_text = codes "SELECT rowid, * FROM word"

abbrev pub blanks_text : List ℕ
blanks_text = codes "SELECT * FROM blank"

abbrev pub remakes_text : List ℕ
remakes_text = codes "SELECT rowid, * FROM remake"

abbrev pub replies_text : List ℕ
replies_text = codes "SELECT rowid, * FROM reply"

abbrev pub marks_text : List ℕ
marks_text = codes "SELECT rowid, * FROM mark"

-- replies without the request bytes and the body
abbrev pub brief_replies_text : List ℕ
brief_replies_text = codes "SELECT rowid, client, number, status FROM reply"
