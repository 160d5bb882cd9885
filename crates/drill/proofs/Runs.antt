-- Lines that are run one after another.
use Rattle.std.proofs.Common.{◌≡◌, ◌<◌, ℕ, ◌+◌, true, List, [], ◌∷◌, ◌++◌, length, map, drop, get_or, Bor, Option, Some, None, Result, Ok, Err, refl, sym, ap, subst, ◌∙◌, append_assoc, append-nil, arith}
use Rattle.std.specs.Prelude.{unwrap_or}
use Rattle.std.specs.Io.KnownBytes.{Appends}
use Rattle.std.proofs.KnownBytes.{Appends-nil, Appends-trans, Keeps-refl}
use Rattle.std.proofs.lemmas.List.{drop-drop, drop-map, length-drop, length-map}
use Rattle.std.proofs.lemmas.List.Concat.{flat_map-append}
use Rattle.std.proofs.lemmas.Option.{get_or_from_slice_get, slice_get-get_or}
use Rattle.job_facts.specs.Store.{State}
use Rattle.job_facts.specs.declared.store.StoreFault.{StoreFault}
use Rattle.job_facts.specs.declared.store.StoreFault.TheVariants as fault
use Rattle.text_io.proofs.Pieces.{begun}
use Rattle.text_io.specs.Stops.{stream_fault_of}
use Rattle.text_io.specs.Written.{AppendsBeginning}
use Rattle.text_io.specs.declared.reading.ReadFault.{ReadFault}
use Rattle.text_io.specs.declared.reading.ReadFault.TheVariants as read
use Rattle.text_io.specs.declared.stop.RunStop.{RunStop}
use Rattle.text_io.specs.declared.stop.RunStop.TheVariants.{Own, Stream}
use Rattle.text_io.specs.declared.stop.StreamFault.TheVariants as stream
use Rattle.text_io.proofs.Limits.{agrees_some}
use Rattle.drill.specs.Floors.{Floor, empty_floor}
use Rattle.drill.specs.declared.stop.DrillFault.{DrillFault}
use Rattle.drill.specs.declared.stop.DrillFault.TheVariants.{BadLine}
use Rattle.drill.specs.Steps.{LineEffect, Steps}
use Rattle.drill.specs.Ends.{AreDone, Done, DrillsOver, Goes, GoesOn, IsWritten, Runs, printed, unopened}
use Rattle.drill.proofs.ScriptLemmas.{here, text_of}

-- ---- lines after other lines

done_more : {S : Type 0} (state : S → State) (usable : S → Type 0) (s : S) (fl : Floor) (ls : List (List ℕ)) (ds es : List (Done S)) (m : S) (flm : Floor) (lm : List (List ℕ)) (last : S) (floor : Floor) (left : List (List ℕ))
    → AreDone state usable s fl ls ds m flm lm → AreDone state usable m flm lm es last floor left → AreDone state usable s fl ls (ds ++ es) last floor left
done_more state usable s fl ls [] es m flm lm last floor left (is, at, here) next =
    subst (λ x. AreDone state usable x fl ls es last floor left) (sym is)
    (subst (λ x. AreDone state usable m x ls es last floor left) (sym at) (subst (λ x. AreDone state usable m flm x es last floor left) (sym here) next))
done_more state usable s fl [] (d ∷ ds) es m flm lm last floor left all next = absurd all
done_more state usable s fl (l ∷ behind) (d ∷ ds) es m flm lm last floor left (did, goes, rest) next =
    (did, goes, done_more state usable d.store d.did.floor (drop d.did.taken behind) ds es m flm lm last floor left rest next)

text_of_both : {S : Type 0} (ds es : List (Done S)) (ended_in : Option LineEffect) → printed (ds ++ es) ended_in ≡ printed ds None ++ printed es ended_in
text_of_both {S} ds es None = flat_map-append (λ (d : Done S). d.did.text) ds es
text_of_both {S} ds es (Some last) =
    ap (λ xs. xs ++ last.text) (flat_map-append (λ (d : Done S). d.did.text) ds es) ∙ append_assoc (printed ds None) (printed es None) last.text

goes_more : {S : Type 0} (state : S → State) (usable : S → Type 0) (s : S) (fl : Floor) (ls : List (List ℕ)) (a b c : Option (List ℕ)) (m : S) (flm : Floor) (lm : List (List ℕ)) (last : S) (floor : Floor) (left : List (List ℕ))
    → Goes state usable s fl ls a b m flm lm → Goes state usable m flm lm b c last floor left → Goes state usable s fl ls a c last floor left
goes_more state usable s fl ls a b c m flm lm last floor left (ds, all, wrote) (es, more, next) = (
  ds ++ es,
  done_more state usable s fl ls ds es m flm lm last floor left all more,
  subst (Appends a c) (sym (text_of_both ds es None)) (Appends-trans a b c (printed ds None) (printed es None) wrote next),
)

written_more : (a b c : Option (List ℕ)) (before text : List ℕ) (r : Result (Unit {0}) (RunStop DrillFault)) → Appends a b before → IsWritten b c text r → IsWritten a c (before ++ text) r
written_more a b c before text (Ok u) first next = Appends-trans a b c before text first next
written_more a b c before text (Err (Own own)) first next = Appends-trans a b c before text first next
written_more a b c before text (Err (Stream stream.ReadFailed)) first next = next
written_more a b c before text (Err (Stream stream.WriteFailed)) first next =
    subst (AppendsBeginning a c) (ap (λ t. before ++ t) (append-nil text)) (begun a b c before text [] first next)
written_more a b c before text (Err (Stream stream.Memory)) first next = Appends-trans a b c before text first next

runs_more : {S : Type 0} (state : S → State) (usable : S → Type 0) (s : S) (fl : Floor) (count : ℕ) (ls : List (List ℕ)) (a b c : Option (List ℕ)) (m : S) (flm : Floor) (lm : List (List ℕ)) (r : Result (Unit {0}) (RunStop DrillFault))
    → Goes state usable s fl ls a b m flm lm → Runs state usable m flm count lm b c r → Runs state usable s fl count ls a c r
runs_more state usable s fl count ls a b c m flm lm r (ds, all, wrote) run = record {
  did = ds ++ run.did;
  last = run.last;
  floor = run.floor;
  left = run.left;
  ended_in = run.ended_in;
  done = done_more state usable s fl ls ds run.did m flm lm run.last run.floor run.left all run.done;
  ends = run.ends;
  written = subst (λ t. IsWritten a c t r) (sym (text_of_both ds run.did run.ended_in)) (written_more a b c (printed ds None) (printed run.did run.ended_in) r wrote run.written);
}

-- ---- the lines of a slice

left_behind : (ls behind : List (Bor (List ℕ))) (at taken : ℕ) → behind ≡ drop (at + 1) ls → drop taken (map text_of behind) ≡ drop (at + (1 + taken)) (map text_of ls)
left_behind ls behind at taken rest =
    ap (λ xs. drop taken (map text_of xs)) rest ∙ ap (drop taken) (sym (drop-map text_of (at + 1) ls)) ∙ drop-drop taken (at + 1) (map text_of ls) ∙ ap (λ n. drop n (map text_of ls)) (omega arith)

-- An element of the list doesn't depend on the default value `d`.
own : (ls : List (Bor (List ℕ))) (at : ℕ) (d : Bor (List ℕ)) → at < length ls → get_or ls at d ≡ get_or ls at (get_or ls at d)
own ls at d within = sym (get_or_from_slice_get ls at (get_or ls at d) (get_or ls at d) (slice_get-get_or ls at d within))

-- If the line at position `at` is run after the earlier lines, the lines after it remain, except
-- the `taken` lines of its file.
pub line_more : {S : Type 0} (state : S → State) (usable : S → Type 0) (s : S) (fl : Floor) (ls behind : List (Bor (List ℕ))) (at taken : ℕ) (d : Bor (List ℕ)) (a b c : Option (List ℕ)) (m : S) (flm : Floor) (last : S) (floor : Floor)
    → at < length ls → behind ≡ drop (at + 1) ls → Goes state usable s fl (map text_of ls) a b m flm (drop at (map text_of ls))
    → Goes state usable m flm ((get_or ls at d).now ∷ map text_of behind) b c last floor (drop taken (map text_of behind)) → Goes state usable s fl (map text_of ls) a c last floor (drop (at + (1 + taken)) (map text_of ls))
line_more state usable s fl ls behind at taken d a b c m flm last floor within rest so_far next =
    let texts = map text_of ls in
    let one = get_or ls at d in
    subst (Goes state usable s fl texts a c last floor) (left_behind ls behind at taken rest)
    (goes_more state usable s fl texts a b c m flm (one.now ∷ map text_of behind) last floor (drop taken (map text_of behind))
    (subst (Goes state usable s fl texts a b m flm) (here ls behind texts at one refl within (own ls at d within) rest) so_far) next)

-- After the earlier lines, a run that starts at position `at` completes the run of all lines.
pub line_last : {S : Type 0} (state : S → State) (usable : S → Type 0) (s : S) (fl : Floor) (ls behind : List (Bor (List ℕ))) (at number : ℕ) (d : Bor (List ℕ)) (a b c : Option (List ℕ)) (m : S) (flm : Floor) (r : Result (Unit {0}) (RunStop DrillFault))
    → at < length ls → number ≡ at + 1 → behind ≡ drop (at + 1) ls → Goes state usable s fl (map text_of ls) a b m flm (drop at (map text_of ls))
    → Runs state usable m flm (number + length behind) ((get_or ls at d).now ∷ map text_of behind) b c r → Runs state usable s fl (length ls) (map text_of ls) a c r
line_last state usable s fl ls behind at number d a b c m flm r within of rest so_far run =
    let texts = map text_of ls in
    let one = get_or ls at d in
    let count : number + length behind ≡ length ls = omega (arith, ap length rest, length-drop (at + 1) ls) in
    subst (λ n. Runs state usable s fl n texts a c r) count
    (runs_more state usable s fl (number + length behind) texts a b c m flm (one.now ∷ map text_of behind) r
    (subst (Goes state usable s fl texts a b m flm) (here ls behind texts at one refl within (own ls at d within) rest) so_far) run)

-- ---- one line

abbrev pub one_done : {S : Type 0} → LineEffect → S → S → Done S
one_done did served store = record { did = did; served = served; store = store }

pub line_goes : {S : Type 0} (state : S → State) (usable : S → Type 0) (s served store : S) (fl : Floor) (l : List ℕ) (behind : List (List ℕ)) (did : LineEffect) (a b : Option (List ℕ))
    → Steps state s served fl l behind (Some did) → GoesOn state usable served store did.stops → Appends a b did.text → Goes state usable s fl (l ∷ behind) a b store did.floor (drop did.taken behind)
line_goes state usable s served store fl l behind did a b step goes wrote =
    (one_done did served store ∷ [], (step, goes, (refl, refl, refl)), subst (Appends a b) (sym (append-nil did.text)) wrote)

-- If an allocation fails before anything is printed, the run ends with `Memory`.
pub line_unmade : {S : Type 0} (state : S → State) (usable : S → Type 0) (s : S) (fl : Floor) (count : ℕ) (ls : List (List ℕ)) (a : Option (List ℕ)) → Runs state usable s fl count ls a a (Err (Stream stream.Memory))
line_unmade state usable s fl count ls a = record { did = []; last = s; floor = fl; left = ls; ended_in = None; done = (refl, refl, refl); ends = tt; written = Appends-nil a }

pub line_bad : {S : Type 0} (state : S → State) (usable : S → Type 0) (s after : S) (fl : Floor) (number : ℕ) (l : List ℕ) (behind : List (Bor (List ℕ))) (a : Option (List ℕ))
    → Steps state s after fl l (map text_of behind) None → Runs state usable s fl (number + length behind) (l ∷ map text_of behind) a a (Err (Own (BadLine number)))
line_bad state usable s after fl number l behind a step = record {
  did = [];
  last = s;
  floor = fl;
  left = l ∷ map text_of behind;
  ended_in = None;
  done = (refl, refl, refl);
  ends = (after, step, omega (arith, length-map behind text_of));
  written = Appends-nil a;
}

pub line_unwritten : {S : Type 0} (state : S → State) (usable : S → Type 0) (s served : S) (fl : Floor) (count : ℕ) (l : List ℕ) (behind : List (List ℕ)) (did : LineEffect) (a b : Option (List ℕ))
    → Steps state s served fl l behind (Some did) → AppendsBeginning a b did.text → Runs state usable s fl count (l ∷ behind) a b (Err (Stream stream.WriteFailed))
line_unwritten state usable s served fl count l behind did a b step wrote =
    record { did = []; last = s; floor = fl; left = l ∷ behind; ended_in = Some did; done = (refl, refl, refl); ends = (served, step); written = wrote }

-- The run ends if the store can't be opened again after the line.
pub line_unopened : {S : Type 0} (state : S → State) (usable : S → Type 0) (s served : S) (fl : Floor) (count : ℕ) (l : List ℕ) (behind : List (List ℕ)) (did : LineEffect) (a b : Option (List ℕ)) (why : StoreFault)
    → Steps state s served fl l behind (Some did) → Appends a b did.text → did.stops ≡ true → Runs state usable s fl count (l ∷ behind) a b (Err (unopened why))
line_unopened state usable s served fl count l behind did a b fault.Memory step wrote stops =
    record { did = []; last = s; floor = fl; left = l ∷ behind; ended_in = Some did; done = (refl, refl, refl); ends = ((served, step), stops); written = wrote }
line_unopened state usable s served fl count l behind did a b fault.Device step wrote stops =
    record { did = []; last = s; floor = fl; left = l ∷ behind; ended_in = Some did; done = (refl, refl, refl); ends = ((served, step), stops); written = wrote }
line_unopened state usable s served fl count l behind did a b fault.Full step wrote stops =
    record { did = []; last = s; floor = fl; left = l ∷ behind; ended_in = Some did; done = (refl, refl, refl); ends = ((served, step), stops); written = wrote }

-- ---- a script

-- The run ends if the lines of the script can't be read.
pub unread_all : {S : Type 0} (state : S → State) (usable : S → Type 0) (s : S) (known a : Option (List ℕ)) (r : Result (Unit {0}) (RunStop DrillFault)) (why : RunStop DrillFault) (unread : ReadFault) → r ≡ Err why → why ≡ Stream (stream_fault_of unread)
    → DrillsOver state usable s known a a r
unread_all state usable s known a r why read.Failed is of = rw (is, of) (Keeps-refl a)
unread_all state usable s known a r why read.Memory is of = rw (is, of) (unwrap_or known [], agrees_some known, line_unmade state usable s empty_floor _ _ a)
