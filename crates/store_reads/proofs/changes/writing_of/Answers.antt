use Rattle.std.proofs.Common.{refl}
use Rattle.store_reads.proofs.ReadContents.{if_ok}
use Rattle.store_reads.proofs.changes.writing_of.Goals as goal

pub returns-in-AddsWord-clause-value : goal.returns-in-AddsWord-clause-value
returns-in-AddsWord-clause-value g c clean = rw c.in-AddsWord.is (if_ok c.word_writing.result _ _ (λ w given live d sound is owed. given live d sound is) (c.word_writing.ensures.value clean))

pub returns-in_ok-place-in-Opens-clause-value : goal.returns-in_ok-place-in-Opens-clause-value
returns-in_ok-place-in-Opens-clause-value g c clean live d sound is owed = rw c.in-Opens.is (c.in_ok-place-in-Opens.place, c.in_ok-place-in-Opens.ensures.value clean live d sound is, refl)

pub returns-in_ok-place-in-Ends-clause-value : goal.returns-in_ok-place-in-Ends-clause-value
returns-in_ok-place-in-Ends-clause-value g c clean live d sound is owed = rw c.in-Ends.is (c.in_ok-place-in-Ends.place, c.in_ok-place-in-Ends.ensures.value clean live d sound is, refl)

pub returns-in_ok-place-in-Remakes-clause-value : goal.returns-in_ok-place-in-Remakes-clause-value
returns-in_ok-place-in-Remakes-clause-value g c clean live d sound is owed = rw c.in-Remakes.is (c.in_ok-place-in-Remakes.place, c.in_ok-place-in-Remakes.ensures.value clean live d sound is, refl)

pub returns-in_ok-place-in-Withdraws-clause-value : goal.returns-in_ok-place-in-Withdraws-clause-value
returns-in_ok-place-in-Withdraws-clause-value g c clean live d sound is owed = rw c.in-Withdraws.is (c.in_ok-place-in-Withdraws.place, c.in_ok-place-in-Withdraws.ensures.value clean live d sound is, refl)

pub returns-in-Discards-clause-value : goal.returns-in-Discards-clause-value
returns-in-Discards-clause-value g c clean = rw c.in-Discards.is (if_ok c.discard_writing.result _ _ (λ w as_read live d sound is owed. as_read.1 d sound is) (c.discard_writing.ensures.value clean))
