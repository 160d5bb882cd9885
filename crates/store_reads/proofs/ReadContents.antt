-- Lemmas for all reads: from what a read shows of rows to what it shows of contents.
use Rattle.std.proofs.Common.{Result, Ok, Err, IfOk, IsTrue, sym, subst, ◌∙◌, arith}
use Rattle.sqlite.specs.State.{HasCleanDisk, State}
use Rattle.sqlite.specs.declared.error.Error.{Error}
use Rattle.sqlite.proofs.StateLemmas.{survives_then}
use Rattle.job_facts.specs.Contents.{AreSound, Contents}
use Rattle.table_rows.specs.Tables.{Tables}
use Rattle.image_laws.specs.Image.{image}
use Rattle.sql_base.specs.Ends.{IsKept}
use Rattle.sql_rows.specs.Image.{IsImage}
use Rattle.row_reads.specs.Reads.{Looks}
use Rattle.store_reads.specs.ReadsContents.{ReadsContents}

-- The connection was open, and `Q` is true for any rows that its database has.
abbrev pub ShowsRows : State → (Tables → Type 0) → Type 0
ShowsRows old Q = IsTrue old.is_open × ((t : Tables) → IsImage t old.now → Q t)

-- The connection was open, and `P` is true for any sound contents that its database represents.
abbrev pub Shows : State → (Contents → Type 0) → Type 0
Shows old P = IsTrue old.is_open × ((c : Contents) → AreSound c → IsImage (image c) old.now → P c)

-- ---- after several reads

kept_then : (a b c : State) → IsKept a b → IsKept b c → IsKept a c
kept_then a b c one two = record {
  was_open = λ live. one.was_open (two.was_open live);
  now_is = λ live. two.now_is live ∙ one.now_is (two.was_open live);
  committed_is = λ live. two.committed_is live ∙ one.committed_is (two.was_open live);
}

pub looks_then : (a b c : State) → Looks a b → Looks b c → Looks a c
looks_then a b c one two = record {
  kept = λ clean. kept_then a b c (one.kept (omega (arith, two.survives.clean))) (two.kept clean);
  idle = two.idle;
  survives = survives_then a b c (λ _. ⊥) (λ _. ⊥) (λ _. ⊥) (λ _ db none. none) (λ _ db none. none) one.survives two.survives;
}

-- ---- results

-- from rows to contents
pub shown : (a b : State) (Q : Tables → Type 0) (P : Contents → Type 0) → (HasCleanDisk b → ShowsRows a Q) → ((c : Contents) → AreSound c → Q (image c) → P c) → HasCleanDisk b → Shows a P
shown a b Q P rows law clean = let s = rows clean in (s.0, λ c sound is. law c sound (s.1 (image c) is))

-- two reads show a fact together
pub shown_then : (a b c : State) (P Q R : Contents → Type 0) → Looks a b → Looks b c → (HasCleanDisk b → Shows a P) → (HasCleanDisk c → Shows b Q)
    → ((d : Contents) → AreSound d → P d → Q d → R d) → HasCleanDisk c → Shows a R
shown_then a b c P Q R one two first second law clean =
    let early : HasCleanDisk b = omega (arith, two.survives.clean) in
    let p = first early in
    let q = second clean in
    (p.0, λ d sound is. law d sound (p.1 d sound is) (q.1 d sound (subst (IsImage (image d)) (sym ((one.kept early).now_is q.0)) is)))

-- two reads of rows show a fact about the contents together
pub both_shown : (a b c : State) (Q T : Tables → Type 0) (P : Contents → Type 0) → Looks a b → Looks b c → (HasCleanDisk b → ShowsRows a Q) → (HasCleanDisk c → ShowsRows b T)
    → ((d : Contents) → AreSound d → Q (image d) → T (image d) → P d) → HasCleanDisk c → Shows a P
both_shown a b c Q T P one two first second =
    shown_then a b c (λ d. Q (image d)) (λ d. T (image d)) P one two (shown a b Q (λ d. Q (image d)) first (λ d sound is. is)) (shown b c T (λ d. T (image d)) second (λ d sound is. is))

-- three reads show a fact together
shown_third : (a b c d : State) (P Q R T : Contents → Type 0) → Looks a b → Looks b c → Looks c d → (HasCleanDisk b → Shows a P) → (HasCleanDisk c → Shows b Q) → (HasCleanDisk d → Shows c R)
    → ((x : Contents) → AreSound x → P x → Q x → R x → T x) → HasCleanDisk d → Shows a T
shown_third a b c d P Q R T one two three first second third law =
    shown_then a c d (λ x. P x × Q x) R T (looks_then a b c one two) three (shown_then a b c P Q (λ x. P x × Q x) one two first second (λ x sound p q. (p, q))) third
    (λ x sound both r. law x sound both.0 both.1 r)

pub three_shown : (a b c d : State) (Q T U : Tables → Type 0) (P : Contents → Type 0) → Looks a b → Looks b c → Looks c d → (HasCleanDisk b → ShowsRows a Q) → (HasCleanDisk c → ShowsRows b T) → (HasCleanDisk d → ShowsRows c U)
    → ((x : Contents) → AreSound x → Q (image x) → T (image x) → U (image x) → P x) → HasCleanDisk d → Shows a P
three_shown a b c d Q T U P one two three first second third =
    shown_third a b c d (λ x. Q (image x)) (λ x. T (image x)) (λ x. U (image x)) P one two three
    (shown a b Q (λ x. Q (image x)) first (λ x sound is. is)) (shown b c T (λ x. T (image x)) second (λ x sound is. is)) (shown c d U (λ x. U (image x)) third (λ x sound is. is))

-- a single read that returns the result
pub reads : {T : Type 0} (a b : State) (r : Result T Error) (Q : Tables → T → Type 0) (P : Contents → T → Type 0) → (HasCleanDisk b → IfOk r (λ x. ShowsRows a (λ t. Q t x)))
    → ((c : Contents) → AreSound c → (x : T) → Q (image c) x → P c x) → ReadsContents a b r P
reads a b (Ok x) Q P rows law = shown a b (λ t. Q t x) (λ c. P c x) rows (λ c sound. law c sound x)
reads a b (Err e) Q P rows law = λ clean. tt

-- a consequence of a result
pub if_ok : {T : Type 0} (r : Result T Error) (P Q : T → Type 0) → ((x : T) → P x → Q x) → IfOk r P → IfOk r Q
if_ok (Ok x) P Q then as_read = then x as_read
if_ok (Err e) P Q then as_read = tt

-- two reads show a fact about the rows together
pub rows_then : (a b c : State) (P Q R : Tables → Type 0) → Looks a b → Looks b c → (HasCleanDisk b → ShowsRows a P) → (HasCleanDisk c → ShowsRows b Q) → ((t : Tables) → P t → Q t → R t)
    → HasCleanDisk c → ShowsRows a R
rows_then a b c P Q R one two first second law clean =
    let early : HasCleanDisk b = omega (arith, clean, two.survives.clean) in
    let p = first early in
    let q = second clean in
    (p.0, λ t is. law t (p.1 t is) (q.1 t (subst (IsImage t) (sym ((one.kept early).now_is q.0)) is)))

pub rows_as : (a b : State) (P Q : Tables → Type 0) → (HasCleanDisk b → ShowsRows a P) → ((t : Tables) → P t → Q t) → HasCleanDisk b → ShowsRows a Q
rows_as a b P Q shows law clean = let s = shows clean in (s.0, λ t is. law t (s.1 t is))

pub rows_both : (a b c : State) (P Q : Tables → Type 0) → Looks a b → Looks b c → (HasCleanDisk b → ShowsRows a P) → (HasCleanDisk c → ShowsRows b Q) → HasCleanDisk c → ShowsRows a (λ t. P t × Q t)
rows_both a b c P Q one two first second = rows_then a b c P Q (λ t. P t × Q t) one two first second (λ t p q. (p, q))
