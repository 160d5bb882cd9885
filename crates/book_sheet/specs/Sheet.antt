-- The sheet of a batch: one HTML page for the paper records of the job. It needs no other file and
-- no script.
use Rattle.std.specs.Prelude.{ℕ, List, ◌++◌, codes, drop, find, flat_map, take, Option, option_map}
use Rattle.std.specs.Fmt.{decimal}
use Rattle.hex.specs.Hex.{encode_lower}
use Rattle.sha2.specs.Sha256.{sha256}
use Rattle.table_rows.specs.Keys.{is_batch_named}
use Rattle.table_rows.specs.Tables.{StoredBatch, Tables}
use Rattle.book_lines.specs.Blanks.{Charge, batch_charges, blank_line, stands_by, stands_on, state_word}
use Rattle.book_lines.specs.Cards.{Card, batch_cards, card_line}
use Rattle.book_lines.specs.Lists.{batch_line, open_or_closed}
use Rattle.book_lines.specs.Report.{batch_report}
use Rattle.book_sheet.specs.Html.{between, escaped, row_html}

-- ---- head

-- the start of the page, up to the title
unfoldable pub start : List ℕ
start = codes "<!DOCTYPE html>\n<html lang=\"en\">\n<head>\n<meta charset=\"utf-8\">\n<title>Batch "

-- the rest of the head, after the title
unfoldable pub style : List ℕ
style =
    codes "</title>\n<style>body{font-family:sans-serif}table{border-collapse:collapse}th,td{border:1px solid;padding:2px 8px;text-align:left}.bar{display:flex;border:1px solid;height:20px;print-color-adjust:exact}.waiting{background:#eee}.running{background:#9cf}.failed,.spoiled{background:#f99;font-weight:bold}.withdrawn{background:#aaa}.good{background:#9d9}</style>\n</head>\n<body>\n"

unfoldable pub head_html : List ℕ → List ℕ
head_html batch = start ++ escaped batch ++ style

-- the name, the product and the state of the batch
unfoldable pub title_html : List ℕ → List ℕ → List ℕ → List ℕ
title_html batch product state =
    between (codes "<h1>Batch ") (escaped batch) (codes "</h1>\n") ++ between (codes "<p>Product ") (escaped product) (codes ", ")
    ++ state ++ codes "</p>\n"

-- ---- records by state

-- the part of the bar for `n` records in the state `state`; its width is proportional to `n`
unfoldable pub part_html : List ℕ → ℕ → List ℕ
part_html state n = between (codes "<div class=\"") state (codes "\" style=\"flex:") ++ decimal n ++ codes " 0 0\"></div>"

unfoldable pub going_html : StoredBatch → List ℕ
going_html b = part_html (codes "waiting") b.waiting ++ part_html (codes "running") b.running ++ part_html (codes "failed") b.failed

unfoldable pub ended_html : StoredBatch → List ℕ
ended_html b = part_html (codes "withdrawn") b.withdrawn ++ part_html (codes "good") b.good

unfoldable pub parts_html : StoredBatch → List ℕ
parts_html b = going_html b ++ ended_html b

unfoldable pub bar_html : StoredBatch → List ℕ
bar_html b = codes "<div class=\"bar\">" ++ parts_html b ++ codes "</div>\n"

-- ---- tables

-- A browser repeats the headings of a table on each printed page, because they are in `thead`.
unfoldable pub table_html : List ℕ → List ℕ → List ℕ
table_html heads rows = heads ++ rows ++ codes "</table>\n"

unfoldable pub account_heads : List ℕ
account_heads =
    codes "<table>\n<thead>\n<tr><th>records</th><th class=\"waiting\">waiting</th><th class=\"running\">running</th><th class=\"failed\">failed</th><th class=\"withdrawn\">withdrawn</th><th class=\"good\">good</th><th>sessions</th><th>spoiled</th></tr>\n</thead>\n"

-- the account: the cells of the batch's line after its name, its product and its state
abbrev pub counts_html : Tables → StoredBatch → List ℕ
counts_html t b = row_html (codes "sums") (drop 3 (batch_line t b).cells)

abbrev pub account_html : Tables → StoredBatch → List ℕ
account_html t b = table_html account_heads (counts_html t b)

unfoldable pub card_heads : List ℕ
card_heads =
    codes "<h2>Cards</h2>\n<table>\n<thead>\n<tr><th>record</th><th>session</th><th>machine</th><th>serial</th><th>state</th><th>words</th><th>last</th></tr>\n</thead>\n"

abbrev pub card_html : Card → List ℕ
card_html c = row_html (state_word (stands_by c.session.state)) (card_line c).cells

abbrev pub cards_html : List Card → List ℕ
cards_html cards = table_html card_heads (flat_map card_html cards)

unfoldable pub blank_heads : List ℕ
blank_heads = codes "<h2>Blanks</h2>\n<table>\n<thead>\n<tr><th>serial</th><th>lot</th><th>state</th><th>record</th></tr>\n</thead>\n"

-- the row of a charged blank, without the name of the batch
abbrev pub charge_html : Tables → Charge → List ℕ
charge_html t c = row_html (state_word (stands_on c.on)) (take 4 (blank_line t c).cells)

abbrev pub blanks_html : Tables → List Charge → List ℕ
blanks_html t charges = table_html blank_heads (flat_map (charge_html t) charges)

-- ---- digests of the batch file and the report

-- the SHA-256 of `bytes`, after the text `before`
unfoldable pub digest_html : List ℕ → List ℕ → List ℕ
digest_html before bytes = between before (encode_lower (sha256 bytes)) (codes "</code></p>\n")

unfoldable pub digests_html : List ℕ → List ℕ → List ℕ
digests_html raw report =
    digest_html (codes "<p>SHA-256 of the batch file <code>") raw
    ++ digest_html (codes "<p>SHA-256 of the close report, as it would be written now <code>") report ++ codes "</body>\n</html>\n"

-- ---- complete page

abbrev pub top_html : Tables → StoredBatch → List ℕ
top_html t b = head_html b.name ++ title_html b.name b.product (open_or_closed b.closed) ++ bar_html b ++ account_html t b

abbrev pub sheet_text : Tables → StoredBatch → List ℕ
sheet_text t b = top_html t b ++ cards_html (batch_cards t b) ++ blanks_html t (batch_charges t b.id) ++ digests_html b.raw (batch_report t b)

-- the sheet of the batch `name`, or `None` if the batch doesn't exist
abbrev pub sheet_of : Tables → List ℕ → Option (List ℕ)
sheet_of t name = option_map (sheet_text t) (find (is_batch_named name) t.batches)
