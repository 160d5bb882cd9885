use Rattle.change_writes.proofs.Parts.{many}
use Rattle.change_writes.proofs.changes.write_change.Goals as goal

pub returns-in-AddsProduct : goal.returns-in-AddsProduct
returns-in-AddsProduct g c = record {
  wrote = λ clean. rw c.in-AddsProduct.is (many _ _ _ _ (c.add_product.ensures.wrote clean));
  same_reference = c.add_product.ensures.same_reference;
  survives = c.add_product.ensures.survives;
}

pub returns-in-AddsLot : goal.returns-in-AddsLot
returns-in-AddsLot g c = record {
  wrote = λ clean. rw c.in-AddsLot.is (many _ _ _ _ (c.add_lot.ensures.wrote clean));
  same_reference = c.add_lot.ensures.same_reference;
  survives = c.add_lot.ensures.survives;
}

pub returns-in-AddsBatch : goal.returns-in-AddsBatch
returns-in-AddsBatch g c = record {
  wrote = λ clean. rw c.in-AddsBatch.is (many _ _ _ _ (c.write_batch.ensures.wrote clean));
  same_reference = c.write_batch.ensures.same_reference;
  survives = c.write_batch.ensures.survives;
}

pub returns-in-Opens : goal.returns-in-Opens
returns-in-Opens g c = record {
  wrote = λ clean. rw c.in-Opens.is (many _ _ _ _ (c.write_opened.ensures.wrote clean));
  same_reference = c.write_opened.ensures.same_reference;
  survives = c.write_opened.ensures.survives;
}

pub returns-in-AddsWord : goal.returns-in-AddsWord
returns-in-AddsWord g c = record {
  wrote = λ clean. rw c.in-AddsWord.is (many _ _ _ _ (c.write_word.ensures.wrote clean));
  same_reference = c.write_word.ensures.same_reference;
  survives = c.write_word.ensures.survives;
}

pub returns-in-AddsLastWord : goal.returns-in-AddsLastWord
returns-in-AddsLastWord g c = record {
  wrote = λ clean. rw c.in-AddsLastWord.is (many _ _ _ _ (c.write_last_word.ensures.wrote clean));
  same_reference = c.write_last_word.ensures.same_reference;
  survives = c.write_last_word.ensures.survives;
}

pub returns-in-Ends : goal.returns-in-Ends
returns-in-Ends g c = record {
  wrote = λ clean. rw c.in-Ends.is (many _ _ _ _ (c.write_end.ensures.wrote clean));
  same_reference = c.write_end.ensures.same_reference;
  survives = c.write_end.ensures.survives;
}

pub returns-in-Discards : goal.returns-in-Discards
returns-in-Discards g c = record {
  wrote = λ clean. rw c.in-Discards.is (many _ _ _ _ (c.write_discard.ensures.wrote clean));
  same_reference = c.write_discard.ensures.same_reference;
  survives = c.write_discard.ensures.survives;
}

pub returns-in-Remakes : goal.returns-in-Remakes
returns-in-Remakes g c = record {
  wrote = λ clean. rw c.in-Remakes.is (many _ _ _ _ (c.write_remake.ensures.wrote clean));
  same_reference = c.write_remake.ensures.same_reference;
  survives = c.write_remake.ensures.survives;
}

pub returns-in-Withdraws : goal.returns-in-Withdraws
returns-in-Withdraws g c = record {
  wrote = λ clean. rw c.in-Withdraws.is (many _ _ _ _ (c.write_passed.ensures.wrote clean));
  same_reference = c.write_passed.ensures.same_reference;
  survives = c.write_passed.ensures.survives;
}

pub returns-in-Closes : goal.returns-in-Closes
returns-in-Closes g c = record {
  wrote = λ clean. rw c.in-Closes.is (many _ _ _ _ (c.set_closed.ensures.wrote clean));
  same_reference = c.set_closed.ensures.same_reference;
  survives = c.set_closed.ensures.survives;
}

pub returns-in-Releases : goal.returns-in-Releases
returns-in-Releases g c = record {
  wrote = λ clean. rw c.in-Releases.is (many _ _ _ _ (c.write_release.ensures.wrote clean));
  same_reference = c.write_release.ensures.same_reference;
  survives = c.write_release.ensures.survives;
}
