-- Proves that bytes have at most one meaning.
use Rattle.std.proofs.Common.{◌≡◌, ℕ, Bool, true, false, List, length, take, drop, Option, Some, None, Result, Ok, Err, refl, ap, ◌∙◌, subst}
use Rattle.std.specs.Prelude.{nat_lt, if◌then◌else◌, ⊤}
use Rattle.http_messages.specs.declared.fixed.FixedReply.{FixedReply}
use Rattle.http_messages.specs.declared.fixed.FixedReply.TheVariants.{HeadTooLarge}
use Rattle.http_messages.specs.Heads.{HeadParts, IsJudged}
use Rattle.http_messages.specs.Messages.{Brings, Broken, HasHead, Heard, IsHeard, IsHeardAs, IsHeardBy, MessageParts, Refused, after_head, end_of_head}
use Rattle.http_requests.specs.declared.meaning.Meaning.{Meaning}
use Rattle.http_requests.specs.declared.meaning.Meaning.TheVariants as meaning
use Rattle.http_requests.specs.Asks.{asked_of}
use Rattle.http_requests.specs.Meant.{IsMeant, IsMeantBy, Means, meant_by, meant_of}

pub meant_as : (bytes : List ℕ) (h : Heard) → IsHeardAs bytes h → Means bytes (meant_of h)
meant_as bytes h known = record { is = (h, known.is, refl); alone = λ other is. is.2 ∙ ap meant_of (known.alone is.0 is.1) }

-- ---- a message has a valid head

abbrev IsBrings : Heard → Type 0
IsBrings Broken = ⊥
IsBrings (Refused why) = ⊥
IsBrings (Brings c) = ⊤

ended : (b : Bool) (c : MessageParts) → Brings c ≡ (if b then Broken else Refused HeadTooLarge) → ⊥
ended true c e = subst IsBrings e tt
ended false c e = subst IsBrings e tt

judged_head : (x : List ℕ) (end : ℕ) (c : MessageParts) (judged : Result HeadParts FixedReply) → end_of_head x ≡ Some end → IsJudged (take end x) judged → Brings c ≡ after_head judged (drop end x) → HasHead x
judged_head x end c (Ok p) is judged e = (end, p, is, judged)
judged_head x end c (Err why) is judged e = absurd (subst IsBrings e tt)

head_at : (x : List ℕ) (o : Option ℕ) (c : MessageParts) → end_of_head x ≡ o → IsHeardBy x o (Brings c) → HasHead x
head_at x None c is heard = absurd (ended (nat_lt (length x) 8192) c heard)
head_at x (Some end) c is (judged, judges, e) = judged_head x end c judged is judges e

head_of : (x : List ℕ) (c : MessageParts) → IsHeard x (Brings c) → HasHead x
head_of x c heard = head_at x (end_of_head x) c refl heard

-- ---- the bytes that are read

pub message_means : (bytes : List ℕ) (c : MessageParts) (m : Meaning) → IsHeardAs bytes (Brings c) → IsMeantBy (meant_by (asked_of c)) m → IsMeant bytes m
message_means bytes c (meaning.Asks a) known (is, ranged) = (subst (Means bytes) is (meant_as bytes (Brings c) known), head_of bytes c known.is, ranged)
message_means bytes c meaning.Broken known is = absurd is
message_means bytes c (meaning.Refused why) known is = subst (Means bytes) is (meant_as bytes (Brings c) known)
message_means bytes c meaning.Memory known is = ((meant_by (asked_of c), meant_as bytes (Brings c) known), head_of bytes c known.is)

pub wanted_means : (bytes : List ℕ) → HasHead bytes → (h : Heard) × IsHeardAs bytes h → IsMeant bytes meaning.Memory
wanted_means bytes head (h, known) = ((meant_of h, meant_as bytes h known), head)
