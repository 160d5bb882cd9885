-- The texts that create the tables of each schema version (CREATE TABLE with STRICT of SQLite), the
-- texts that create the indexes of version 3, and the INSERT into `version`.
use Rattle.std.specs.Prelude.{List, [], ◌∷◌, ◌++◌, ℕ, codes}
use Rattle.sql_tables.specs.declared.versions.Version.{Version}
use Rattle.sql_tables.specs.declared.versions.Version.TheVariants.{One, Two, Three}

abbrev pub version_text : List ℕ
version_text = codes "CREATE TABLE version (id INTEGER NOT NULL PRIMARY KEY CHECK (id = 1), number INTEGER NOT NULL CHECK (number = 3)) STRICT"

abbrev pub version_two_text : List ℕ
version_two_text = codes "CREATE TABLE version (id INTEGER NOT NULL PRIMARY KEY CHECK (id = 1), number INTEGER NOT NULL CHECK (number = 2)) STRICT"

abbrev pub version_one_text : List ℕ
version_one_text = codes "CREATE TABLE version (id INTEGER NOT NULL PRIMARY KEY CHECK (id = 1), number INTEGER NOT NULL CHECK (number = 1)) STRICT"

abbrev pub product_text : List ℕ
product_text = codes "CREATE TABLE product (name TEXT NOT NULL PRIMARY KEY, max INTEGER NOT NULL CHECK (max BETWEEN 16 AND 255), low INTEGER NOT NULL CHECK (low BETWEEN 0 AND 31), checked INTEGER NOT NULL CHECK (checked BETWEEN 0 AND 1)) STRICT"

abbrev pub lot_text : List ℕ
lot_text = codes "CREATE TABLE lot (name TEXT NOT NULL PRIMARY KEY, product TEXT NOT NULL REFERENCES product (name), low_serial INTEGER NOT NULL, amount INTEGER NOT NULL CHECK (amount BETWEEN 1 AND 1000000), discarded INTEGER NOT NULL) STRICT"

abbrev pub batch_text : List ℕ
batch_text = codes "CREATE TABLE batch (id INTEGER NOT NULL PRIMARY KEY, name TEXT NOT NULL UNIQUE, product TEXT NOT NULL REFERENCES product (name), raw BLOB NOT NULL, closed INTEGER NOT NULL CHECK (closed BETWEEN 0 AND 1), waiting INTEGER NOT NULL, running INTEGER NOT NULL, failed INTEGER NOT NULL, withdrawn INTEGER NOT NULL, good INTEGER NOT NULL, sessions INTEGER NOT NULL, spoiled INTEGER NOT NULL) STRICT"

abbrev pub record_text : List ℕ
record_text = codes "CREATE TABLE record (batch INTEGER NOT NULL REFERENCES batch (id), place INTEGER NOT NULL, name TEXT NOT NULL, state INTEGER NOT NULL CHECK (state BETWEEN 0 AND 4), spoiled INTEGER NOT NULL, remakes INTEGER NOT NULL, PRIMARY KEY (batch, place), UNIQUE (batch, name)) STRICT"

abbrev pub grouping_text : List ℕ
grouping_text = codes "CREATE TABLE grouping2 (batch INTEGER NOT NULL, line INTEGER NOT NULL, place INTEGER NOT NULL, aid BLOB NOT NULL, rank INTEGER NOT NULL CHECK (rank BETWEEN 1 AND 999), enc INTEGER NOT NULL CHECK (enc BETWEEN 0 AND 2), tol INTEGER NOT NULL CHECK (tol BETWEEN 0 AND 1), coded BLOB NOT NULL, PRIMARY KEY (batch, line), FOREIGN KEY (batch, place) REFERENCES record (batch, place)) STRICT"

abbrev pub unmixed_grouping_text : List ℕ
unmixed_grouping_text = codes "CREATE TABLE grouping (batch INTEGER NOT NULL, line INTEGER NOT NULL, place INTEGER NOT NULL, aid BLOB NOT NULL, rank INTEGER NOT NULL CHECK (rank BETWEEN 1 AND 999), enc INTEGER NOT NULL CHECK (enc BETWEEN 0 AND 1), tol INTEGER NOT NULL CHECK (tol BETWEEN 0 AND 1), coded BLOB NOT NULL, PRIMARY KEY (batch, line), FOREIGN KEY (batch, place) REFERENCES record (batch, place)) STRICT"

abbrev pub session_text : List ℕ
session_text = codes "CREATE TABLE session (id INTEGER NOT NULL PRIMARY KEY, machine TEXT NOT NULL, batch INTEGER NOT NULL, place INTEGER NOT NULL, serial INTEGER NOT NULL UNIQUE, state INTEGER NOT NULL CHECK (state BETWEEN 0 AND 2), ended INTEGER NOT NULL CHECK (ended BETWEEN 0 AND 1), words INTEGER NOT NULL, app INTEGER NOT NULL, segment INTEGER NOT NULL, at_offset INTEGER NOT NULL, block INTEGER NOT NULL, FOREIGN KEY (batch, place) REFERENCES record (batch, place)) STRICT"

abbrev pub word_text : List ℕ
word_text = codes "CREATE TABLE word (session INTEGER NOT NULL REFERENCES session (id), place INTEGER NOT NULL, sw INTEGER NOT NULL CHECK (sw BETWEEN 0 AND 65535), PRIMARY KEY (session, place)) STRICT"

abbrev pub blank_text : List ℕ
blank_text = codes "CREATE TABLE blank (serial INTEGER NOT NULL PRIMARY KEY, lot TEXT NOT NULL REFERENCES lot (name), kind INTEGER NOT NULL CHECK (kind BETWEEN 0 AND 1)) STRICT"

abbrev pub remake_text : List ℕ
remake_text = codes "CREATE TABLE remake (batch INTEGER NOT NULL, place INTEGER NOT NULL, turn INTEGER NOT NULL, PRIMARY KEY (batch, place, turn), FOREIGN KEY (batch, place) REFERENCES record (batch, place)) STRICT"

abbrev pub reply_text : List ℕ
reply_text = codes "CREATE TABLE reply (client TEXT NOT NULL, number INTEGER NOT NULL, ask BLOB NOT NULL, status INTEGER NOT NULL, body BLOB NOT NULL, PRIMARY KEY (client, number)) STRICT"

abbrev pub mark_text : List ℕ
mark_text = codes "CREATE TABLE mark (client TEXT NOT NULL PRIMARY KEY, upto INTEGER NOT NULL CHECK (upto BETWEEN 1 AND 999999999999999999)) STRICT"

abbrev pub session_running_text : List ℕ
session_running_text = codes "CREATE INDEX session_running ON session (machine, state)"

abbrev pub grouping_place_text : List ℕ
grouping_place_text = codes "CREATE INDEX grouping_place ON grouping2 (batch, place, aid, rank, line, enc, tol)"

abbrev pub session_stands_text : List ℕ
session_stands_text = codes "CREATE INDEX session_stands ON session (batch, state)"

abbrev pub batch_told_text : List ℕ
batch_told_text = codes "CREATE INDEX batch_told ON batch (name, product, closed)"

abbrev pub batch_named_text : List ℕ
batch_named_text = codes "CREATE INDEX batch_named ON batch (id, name)"

abbrev pub lot_serial_text : List ℕ
lot_serial_text = codes "CREATE INDEX lot_serial ON lot (low_serial)"

abbrev pub add_version_text : List ℕ
add_version_text = codes "INSERT INTO version (id, number) VALUES (1, 3)"

-- the tables that are the same in versions 1 and 2
abbrev pub earlier_texts : List (List ℕ)
earlier_texts = product_text ∷ lot_text ∷ batch_text ∷ record_text ∷ session_text ∷ word_text ∷ blank_text ∷ remake_text ∷ reply_text ∷ unmixed_grouping_text ∷ []

abbrev pub our_table_texts : List (List ℕ)
our_table_texts = version_text ∷ product_text ∷ lot_text ∷ batch_text ∷ record_text ∷ grouping_text ∷ session_text ∷ word_text ∷ blank_text ∷ remake_text ∷ reply_text ∷ mark_text ∷ []

abbrev pub our_index_texts : List (List ℕ)
our_index_texts = session_running_text ∷ grouping_place_text ∷ session_stands_text ∷ batch_told_text ∷ batch_named_text ∷ lot_serial_text ∷ []

-- all texts that create a version; each table follows the tables that it refers to
abbrev pub texts_of : Version → List (List ℕ)
texts_of One = earlier_texts ++ version_one_text ∷ []
texts_of Two = earlier_texts ++ mark_text ∷ version_two_text ∷ []
texts_of Three = our_table_texts ++ our_index_texts
