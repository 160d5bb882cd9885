-- Lemmas about the result of `count(*)` over one table.
use Rattle.std.proofs.Common.{◌≡◌, ℕ, true, false, List, [], ◌∷◌, codes, length, map, pos, Some, refl, sym, ap, subst, ◌∙◌}
use Rattle.std.specs.Prelude.{filter}
use Rattle.std.specs.List.{AllZip, list_all}
use Rattle.std.specs.List.Sorted.{IsPermutation}
use Rattle.std.proofs.lemmas.List.{length-map}
use Rattle.std.proofs.lemmas.List.Sorted.{length_permutation}
use Rattle.sqlite.specs.declared.types.Value.{Value}
use Rattle.sqlite.specs.declared.types.Value.TheVariants.{Int, Null}
use Rattle.sqlite.specs.Command.TheVariants.{Select}
use Rattle.sqlite.specs.Listing.{reads_listing, understood}
use Rattle.sqlite.specs.Order.{Row}
use Rattle.sqlite.specs.Program.{overlay}
use Rattle.sqlite.specs.Query.{IsAnswer, Output, output}
use Rattle.sqlite.specs.State.{Shown, State}
use Rattle.sqlite.specs.Term.{Env, eval, holds}
use Rattle.sqlite.specs.Tree.{Trees}
use Rattle.sqlite.proofs.Callers.{IsPlain, command_of, one_permutation, reads_as}
use Rattle.sqlite_tied.specs.Compute.{everything}
use Rattle.sqlite_sql.specs.Group.{Aggregate, IsSummary, value_over}
use Rattle.sql_base.proofs.Selecting.{all_pass, matched, no_overlay}
use Rattle.sql_tables.specs.Tables.{our_schema}
use Rattle.table_rows.specs.Tables.{Tables}
use Rattle.sql_rows.specs.Encoding.{reply_row}
use Rattle.sql_rows.specs.Image.{IsImage}
use Rattle.row_reads.specs.Counts.{count_of_tree, in_one_group, reply_count_text, row_count, shown_count}
use Rattle.row_reads.specs.Decoding.{first_number}

-- At the current schema, the text is a query for the number of rows of the tree `tree`.
pub record AsksCount (text : List ℕ) (tree : ℕ) : Type 0 where
  pub names : List (List ℕ)
  pub is : command_of (understood our_schema text) ≡ Select (record { lets = []; body = count_of_tree tree }) names
  pub plain : IsPlain (understood our_schema text)
  pub unlisted : reads_listing our_schema text ≡ false

pub reply_count_asks : AsksCount reply_count_text 19
unfolding understood everything
reply_count_asks = record { names = codes "count(*)" ∷ []; is = refl; plain = (refl, refl); unlisted = refl }

-- a list that is paired with a list of one element has one element
beside_one : {X Y : Type 0} (P : X → Y → Type 0) (x : X) (ys : List Y) → AllZip P (x ∷ []) ys → (y : Y) × (ys ≡ y ∷ []) × P x y
beside_one P x [] h = absurd h
beside_one P x (y ∷ []) h = (y, refl, h.0)
beside_one P x (y ∷ z ∷ ys) h = absurd h.1

abbrev one_number : ℕ → List Row
one_number n = (Int (pos (shown_count n)) ∷ []) ∷ []

-- the row of the only group
summary_row : (group : List Env) (row : Row) → IsSummary in_one_group group row → row ≡ Int (pos (shown_count (length group))) ∷ []
summary_row group row h =
    let one = beside_one (λ (a : Aggregate) (v : Value). value_over group a ≡ Some v) row_count h.0 h.1 in
    let value : Int (pos (shown_count (length (map (eval row_count.argument) group)))) ≡ one.0 = cc (one.2) in
    h.2 ∙ one.1 ∙ ap (λ v. v ∷ []) (sym value) ∙ ap (λ n. Int (pos (shown_count n)) ∷ []) (length-map group (eval row_count.argument))

counted : (tree : ℕ) (db : Trees) (params : Row) (rows : List Row) → IsAnswer (count_of_tree tree) (overlay db []) params rows → rows ≡ one_number (length (db tree))
counted tree db params rows a =
    let q = count_of_tree tree in
    let s = a.grouped in
    let order = s.grouping.0 in
    let one = beside_one (IsSummary in_one_group) order s.rows (subst (λ groups. AllZip (IsSummary in_one_group) groups s.rows) s.grouping.2 s.summaries) in
    let long : length order ≡ length (db tree) =
    length_permutation _ order s.grouping.1
    ∙ ap length (matched [] params (overlay db [] tree))
    ∙ length-map (filter (λ r. true) (overlay db [] tree)) (λ r. params ∷ r ∷ [])
    ∙ ap length (all_pass (overlay db [] tree))
    ∙ ap length (no_overlay db tree) in
    let row : s.rows ≡ one_number (length (db tree)) = one.1 ∙ ap (λ r. r ∷ []) (summary_row order one.0 one.2) ∙ ap one_number long in
    let kept : a.kept ≡ ([], Int (pos (shown_count (length (db tree)))) ∷ []) ∷ [] =
    a.distinct ∙ ap (map (output q)) (s.having ∙ ap (λ rs. filter (λ env. list_all (holds env) []) (map (λ r. params ∷ r ∷ []) rs)) row) in
    let ordered = one_permutation ([], Int (pos (shown_count (length (db tree)))) ∷ []) a.ordered (subst (λ outs. IsPermutation outs a.ordered) kept a.same) in
    a.shown ∙ ap (map (λ (o : Output). o.1)) ordered

pub reply_count_found : (old new : State) (rows : List Row) → Shown reply_count_text [] old new rows → (t : Tables) → IsImage t old.now → first_number rows ≡ shown_count (length t.replies)
reply_count_found old new rows h t image =
    let asks = reply_count_asks in
    let command = Select (record { lets = []; body = count_of_tree 19 }) asks.names in
    let answer = counted 19 old.now.trees [] rows ((reads_as reply_count_text [] old new our_schema image.ours command asks.is asks.plain asks.unlisted rows h).answer Null) in
    let stored = image.each.1.1.1.1.1.1.1.1.1.1.0.rows in
    ap first_number answer
    ∙ ap shown_count (sym (length-map (old.now.trees 19) _) ∙ length_permutation _ _ stored ∙ length-map t.replies reply_row)
