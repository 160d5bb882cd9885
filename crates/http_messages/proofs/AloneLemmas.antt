-- The tests of a head have one result, and therefore the bytes of a connection have one meaning.
use Rattle.std.proofs.Common.{◌≡◌, ℕ, List, drop, take, Option, Some, None, Result, inl, inr, sym, ap, ◌∙◌}
use Rattle.std.specs.Prelude.{nat_lt}
use Rattle.std.proofs.lemmas.Bool.{cases_Bool}
use Rattle.http_messages.specs.declared.fixed.FixedReply.{FixedReply}
use Rattle.http_messages.specs.Heads.{HeadParts, IsJudged, has_bare_lf, pairs}
use Rattle.http_messages.specs.Messages.{Heard, IsHeard, IsHeardAs, IsHeardBy, after_head, end_of_head}

judged_alone : (head : List ℕ) (r s : Result HeadParts FixedReply) → IsJudged head r → IsJudged head s → s ≡ r
judged_alone head r s one other =
    elim (cases_Bool (has_bare_lf head)) [
      | inl bare ↦ other.bare bare ∙ sym (one.bare bare)
      | inr whole ↦
          elim (cases_Bool (nat_lt 34 (pairs head))) [
            | inl many ↦ other.many whole many ∙ sym (one.many whole many)
            | inr few ↦
                elim (one.either whole few) [
                  | inl found ↦ other.read whole few found.0 found.1 ∙ sym found.2
                  | inr none ↦
                      elim (other.either whole few) [
                        | inl found ↦ absurd (none.0 found.0 found.1)
                        | inr also ↦ also.1 ∙ sym none.1
                      ]
                ]
          ]
    ]

alone_by : (bytes : List ℕ) (o : Option ℕ) (h g : Heard) → IsHeardBy bytes o h → IsHeardBy bytes o g → g ≡ h
alone_by bytes None h g one other = other ∙ sym one
alone_by bytes (Some end) h g (r, judged, is) (s, too, same) =
    same ∙ ap (λ (j : Result HeadParts FixedReply). after_head j (drop end bytes)) (judged_alone (take end bytes) r s judged too) ∙ sym is

pub heard_as : (bytes : List ℕ) (h : Heard) → IsHeard bytes h → IsHeardAs bytes h
heard_as bytes h is = record { is = is; alone = λ g other. alone_by bytes (end_of_head bytes) h g is other }
