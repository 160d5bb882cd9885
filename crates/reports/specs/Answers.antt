-- Defines the results of accounts and reports.
use Rattle.std.specs.Prelude.{◌≡◌, ℕ, List, Option, Some, None, Result, Ok, Err, ⊤}
use Rattle.std.specs.Io.KnownBytes.{Appends, Keeps}
use Rattle.job_facts.specs.declared.refusal.Refusal.{Refusal}
use Rattle.job_facts.specs.declared.store.StoreFault.{StoreFault}
use Rattle.job_facts.specs.Contents.{Contents}
use Rattle.job_facts.specs.Store.{IsHonest, State}
use Rattle.reports.specs.declared.fault.AccountFault.{AccountFault}
use Rattle.reports.specs.declared.fault.AccountFault.TheVariants.{Refused, Store, Write}
use Rattle.text_io.specs.Written.{AppendsBeginning}

-- the result is the text, or the refusal `why` if the text doesn't exist
abbrev pub IsAnswer : Refusal → Option (List ℕ) → Result (List ℕ) AccountFault → Type 0
IsAnswer why text (Ok answered) = text ≡ Some answered
IsAnswer why text (Err (Refused refusal)) = (refusal ≡ why) × (text ≡ None)
IsAnswer why text (Err (Store fault)) = ⊤
IsAnswer why text (Err Write) = ⊥

-- the result is the text for the contents of the store, or the refusal `why` if the text doesn't
-- exist
abbrev pub AnswersText : State → State → Refusal → (Contents → Option (List ℕ)) → Result (List ℕ) AccountFault → Type 0
AnswersText old new why text_of result = IsHonest new → (c : Contents) → old.holds c → IsAnswer why (text_of c) result

-- the result is neither another refusal nor a failed write
abbrev pub MayAnswer : Refusal → Result (List ℕ) AccountFault → Type 0
MayAnswer why (Ok answered) = ⊤
MayAnswer why (Err (Refused refusal)) = refusal ≡ why
MayAnswer why (Err (Store fault)) = ⊤
MayAnswer why (Err Write) = ⊥

-- the fault of the store, or success if the store worked
abbrev pub store_answer : {T : Type 0} → Result T AccountFault → Result (Unit {0}) StoreFault
store_answer (Ok x) = Ok tt
store_answer (Err (Refused refusal)) = Ok tt
store_answer (Err (Store fault)) = Err fault
store_answer (Err Write) = Ok tt

-- ---- written reports

-- the text was written, or a prefix of it if the writer failed; if the text doesn't exist, the
-- result is the refusal `why`
abbrev pub IsWritten : Refusal → Option (List ℕ) → Option (List ℕ) → Option (List ℕ) → Result (Unit {0}) AccountFault → Type 0
IsWritten why text before after (Ok u) = (answered : List ℕ) × (text ≡ Some answered) × Appends before after answered
IsWritten why text before after (Err (Refused refusal)) = (refusal ≡ why) × (text ≡ None)
IsWritten why text before after (Err (Store fault)) = ⊤
IsWritten why text before after (Err Write) = (answered : List ℕ) × (text ≡ Some answered) × AppendsBeginning before after answered

-- the written bytes are the text for the contents of the store
abbrev pub Reports : State → State → Refusal → (Contents → Option (List ℕ)) → Option (List ℕ) → Option (List ℕ) → Result (Unit {0}) AccountFault → Type 0
Reports old new why text_of before after result = IsHonest new → (c : Contents) → old.holds c → IsWritten why (text_of c) before after result

-- earlier bytes are unchanged, and only `Ok` and `Write` may write bytes
abbrev pub KeepsUnwritten : Option (List ℕ) → Option (List ℕ) → Result (Unit {0}) AccountFault → Type 0
KeepsUnwritten before after (Ok u) = (answered : List ℕ) × Appends before after answered
KeepsUnwritten before after (Err (Refused refusal)) = Keeps before after
KeepsUnwritten before after (Err (Store fault)) = Keeps before after
KeepsUnwritten before after (Err Write) = (answered : List ℕ) × Appends before after answered

-- the result isn't another refusal; a write may fail
abbrev pub MayReport : Refusal → Result (Unit {0}) AccountFault → Type 0
MayReport why (Ok u) = ⊤
MayReport why (Err (Refused refusal)) = refusal ≡ why
MayReport why (Err (Store fault)) = ⊤
MayReport why (Err Write) = ⊤
