-- Lemmas about a result that is computed from the results of reads.
use Rattle.std.proofs.Common.{Result, Ok, Err, IfOk}
use Rattle.sqlite.specs.State.{HasCleanDisk, State}
use Rattle.sqlite.specs.declared.error.Error.{Error}
use Rattle.job_facts.specs.Contents.{AreSound, Contents}
use Rattle.row_reads.specs.Reads.{Looks}
use Rattle.store_reads.specs.ReadsContents.{ReadsContents}
use Rattle.store_reads.proofs.ReadContents.{Shows, shown_then}

-- a result computed from the results of reads
pub reads_shown : {T : Type 0} (a b : State) (r : Result T Error) (Q : Contents → Type 0) (W : T → Type 0) (P : Contents → T → Type 0) → (HasCleanDisk b → Shows a Q) → IfOk r W
    → ((c : Contents) → AreSound c → Q c → (x : T) → W x → P c x) → ReadsContents a b r P
reads_shown a b (Ok x) Q W P shows made law = λ clean. let s = shows clean in (s.0, λ c sound is. law c sound (s.1 c sound is) x made)
reads_shown a b (Err e) Q W P shows made law = λ clean. tt

pub ok_both : {T : Type 0} (r : Result T Error) (V W : T → Type 0) → IfOk r V → IfOk r W → IfOk r (λ x. V x × W x)
ok_both (Ok x) V W v w = (v, w)
ok_both (Err e) V W v w = tt

-- the result of a read after another read
pub reads_shown_then : {T : Type 0} (a b c : State) (r : Result T Error) (Q : Contents → Type 0) (R P : Contents → T → Type 0) → Looks a b → Looks b c → (HasCleanDisk b → Shows a Q) → ReadsContents b c r R
    → ((d : Contents) → AreSound d → Q d → (x : T) → R d x → P d x) → ReadsContents a c r P
reads_shown_then a b c (Ok x) Q R P one two shows reads law = shown_then a b c Q (λ d. R d x) (λ d. P d x) one two shows reads (λ d sound q r. law d sound q x r)
reads_shown_then a b c (Err e) Q R P one two shows reads law = λ clean. tt

pub shows_as : (a b : State) (P Q : Contents → Type 0) → (HasCleanDisk b → Shows a P) → ((c : Contents) → AreSound c → P c → Q c) → HasCleanDisk b → Shows a Q
shows_as a b P Q shows law clean = let s = shows clean in (s.0, λ c sound is. law c sound (s.1 c sound is))
