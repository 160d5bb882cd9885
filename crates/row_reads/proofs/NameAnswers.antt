-- Lemmas about the read of a kept reply.
use Rattle.std.proofs.Common.{◌≡◌, ℕ, ◌&&◌, true, false, List, [], ◌∷◌, map, Option, pos, refl}
use Rattle.std.specs.Prelude.{option_map}
use Rattle.sqlite.specs.declared.types.Value.TheVariants.{Int, Text}
use Rattle.sqlite.specs.Collation.TheVariants.{Binary}
use Rattle.sqlite.specs.Ops.{binary, is_true}
use Rattle.sqlite.specs.Order.{Row}
use Rattle.sqlite.specs.State.{Shown, State}
use Rattle.sqlite_sql.specs.declared.ops.BinaryOp.TheVariants.{Compare}
use Rattle.sqlite_sql.specs.declared.ops.CompareOp.TheVariants.{Eq}
use Rattle.job_facts.specs.declared.rows.KeptReply.{KeptReply}
use Rattle.job_facts.specs.Contents.{Entry, entry_of, reply_of_entry}
use Rattle.sql_base.proofs.Tests.{alone, same_int, same_text}
use Rattle.table_rows.specs.Keys.{is_reply_to}
use Rattle.table_rows.specs.Tables.{PassesOnce, Tables}
use Rattle.sql_rows.specs.Encoding.{reply_row}
use Rattle.sql_rows.specs.Image.{IsImage}
use Rattle.row_reads.specs.Decoding.{IsFirst, reply_in}
use Rattle.row_reads.specs.NameTexts.{by_two_columns, kept_columns, kept_text}
use Rattle.row_reads.proofs.Asking.{asked, one_found, shown_row}
use Rattle.row_reads.proofs.NameMeanings.{kept_asks}

kept_key : (client : List ℕ) (number : ℕ) (e : Entry)
    → (is_true (binary (Compare Eq Binary) (Text e.client) (Text client)) && (is_true (binary (Compare Eq Binary) (Int (pos e.number)) (Int (pos number))) && true)) ≡ is_reply_to client number e
kept_key client number e = rw (same_text e.client client, alone (is_true (binary (Compare Eq Binary) (Int (pos e.number)) (Int (pos number)))), same_int e.number number) refl

pub kept_found : (client : List ℕ) (number : ℕ) (old new : State) (rows : List Row) → Shown kept_text (Text client ∷ Int (pos number) ∷ []) old new rows → (t : Tables) → IsImage t old.now
    → (found : Option KeptReply) → IsFirst (map reply_in rows) found → PassesOnce (is_reply_to client number) t.replies → found ≡ option_map reply_of_entry (entry_of t.replies client number)
kept_found client number old new rows h t image found first once =
    let params = Text client ∷ Int (pos number) ∷ [] in
    one_found (is_reply_to client number) (λ e. shown_row false kept_columns params (reply_row e)) t.replies rows
    (asked false reply_row by_two_columns kept_columns params (is_reply_to client number) refl (λ v r. refl) (kept_key client number) kept_text 19 kept_asks old new rows h image.ours t.replies
    image.each.1.1.1.1.1.1.1.1.1.1.0.rows)
    reply_in reply_of_entry once (λ e is. refl) found first
