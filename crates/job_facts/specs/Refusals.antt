-- The numbers and names of the refusals (this project's profile).
use Rattle.std.specs.Prelude.{◌==◌, ℕ, List, [], ◌∷◌, find, codes, Option}
use Rattle.job_facts.specs.declared.refusal.Refusal.{Refusal}
use Rattle.job_facts.specs.declared.refusal.Refusal.TheVariants.{ProductDiffers, ProductUnknown, LotDiffers, SerialsOverlap, BatchDiffers, BatchUnknown, BatchClosed, BlankUnknown, BlankOfOtherProduct, BlankUsed, NothingWaiting, SessionUnknown, NotYours, SessionEnded, OutOfTurn, RecordUnknown, NotFailed, NotWithdrawable, NotFinished, Limit, NumberReused, ReleaseTooFar}

abbrev pub code_of : Refusal → ℕ
code_of ProductDiffers = 51
code_of ProductUnknown = 52
code_of LotDiffers = 53
code_of SerialsOverlap = 54
code_of BatchDiffers = 55
code_of BatchUnknown = 56
code_of BatchClosed = 57
code_of BlankUnknown = 58
code_of BlankOfOtherProduct = 59
code_of BlankUsed = 60
code_of NothingWaiting = 62
code_of SessionUnknown = 63
code_of NotYours = 64
code_of SessionEnded = 65
code_of OutOfTurn = 66
code_of RecordUnknown = 67
code_of NotFailed = 68
code_of NotWithdrawable = 69
code_of NotFinished = 70
code_of Limit = 71
code_of NumberReused = 72
code_of ReleaseTooFar = 74

-- all refusals
abbrev pub refusals : List Refusal
refusals =
    ProductDiffers ∷ ProductUnknown ∷ LotDiffers ∷ SerialsOverlap ∷ BatchDiffers ∷ BatchUnknown ∷ BatchClosed ∷ BlankUnknown ∷ BlankOfOtherProduct ∷ BlankUsed ∷ NothingWaiting ∷ SessionUnknown ∷ NotYours ∷ SessionEnded ∷ OutOfTurn ∷ RecordUnknown ∷ NotFailed ∷ NotWithdrawable ∷ NotFinished ∷ Limit ∷ NumberReused ∷ ReleaseTooFar ∷ []

-- the refusal with the number `n`
unfoldable pub refusal_of : ℕ → Option Refusal
refusal_of n = find (λ why. code_of why == n) refusals

-- the name of a refusal in replies
abbrev pub name_of : Refusal → List ℕ
name_of ProductDiffers = codes "product-differs"
name_of ProductUnknown = codes "product-unknown"
name_of LotDiffers = codes "lot-differs"
name_of SerialsOverlap = codes "serials-overlap"
name_of BatchDiffers = codes "batch-differs"
name_of BatchUnknown = codes "batch-unknown"
name_of BatchClosed = codes "batch-closed"
name_of BlankUnknown = codes "blank-unknown"
name_of BlankOfOtherProduct = codes "blank-of-other-product"
name_of BlankUsed = codes "blank-used"
name_of NothingWaiting = codes "nothing-waiting"
name_of SessionUnknown = codes "session-unknown"
name_of NotYours = codes "not-yours"
name_of SessionEnded = codes "session-ended"
name_of OutOfTurn = codes "out-of-turn"
name_of RecordUnknown = codes "record-unknown"
name_of NotFailed = codes "not-failed"
name_of NotWithdrawable = codes "not-withdrawable"
name_of NotFinished = codes "not-finished"
name_of Limit = codes "limit"
name_of NumberReused = codes "number-reused"
name_of ReleaseTooFar = codes "release-too-far"
