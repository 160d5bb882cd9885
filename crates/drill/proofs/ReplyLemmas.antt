-- The line of a response: its status, a space and its body, with LF at the end.
use Rattle.std.proofs.Common.{◌≡◌, ℕ, List, [], ◌∷◌, ◌++◌, codes, cond, false, nat_eq, true, append_assoc, append-nil, sym, ap, ◌∙◌}
use Rattle.std.specs.List.{ends_with}
use Rattle.wire.specs.ReplyParts.{body_behind, status_in}
use Rattle.drill.specs.Steps.{ended, reply_line}

joined : (old status body end : List ℕ) → (((old ++ status) ++ 32 ∷ []) ++ body) ++ end ≡ old ++ (status ++ 32 ∷ (body ++ end))
joined old status body end = append_assoc ((old ++ status) ++ 32 ∷ []) body end ∙ append_assoc (old ++ status) (32 ∷ []) (body ++ end) ∙ append_assoc old status (32 ∷ (body ++ end))

line_by : (old status body end reply : List ℕ) → ended body ≡ body ++ end → status ≡ status_in reply → body ≡ body_behind reply → old ++ (status ++ 32 ∷ (body ++ end)) ≡ old ++ reply_line reply
line_by old status body end reply is of_status of_body =
    ap (λ b. old ++ (status ++ 32 ∷ b)) (sym is) ∙ ap (λ s. old ++ (s ++ 32 ∷ ended body)) of_status ∙ ap (λ b. old ++ (status_in reply ++ 32 ∷ ended b)) of_body

put_so_far : (old status body one two three : List ℕ) → one ≡ old ++ status → two ≡ one ++ 32 ∷ [] → three ≡ two ++ body → three ≡ ((old ++ status) ++ 32 ∷ []) ++ body
put_so_far old status body one two three first second third = third ∙ ap (λ t. t ++ body) (second ∙ ap (λ t. t ++ 32 ∷ []) first)

pub line_ended : (old status body one two three four reply : List ℕ) → one ≡ old ++ status → two ≡ one ++ 32 ∷ [] → three ≡ two ++ body → four ≡ three ++ 10 ∷ []
    → status ≡ status_in reply → body ≡ body_behind reply → ends_with nat_eq body (codes "\n") ≡ false → four ≡ old ++ reply_line reply
line_ended old status body one two three four reply first second third fourth of_status of_body lacks =
    fourth ∙ ap (λ t. t ++ 10 ∷ []) (put_so_far old status body one two three first second third) ∙ joined old status body (10 ∷ [])
    ∙ line_by old status body (10 ∷ []) reply (ap (λ t. cond t body (body ++ 10 ∷ [])) lacks) of_status of_body

pub line_stays : (old status body one two three reply : List ℕ) → one ≡ old ++ status → two ≡ one ++ 32 ∷ [] → three ≡ two ++ body
    → status ≡ status_in reply → body ≡ body_behind reply → ends_with nat_eq body (codes "\n") ≡ true → three ≡ old ++ reply_line reply
line_stays old status body one two three reply first second third of_status of_body has =
    put_so_far old status body one two three first second third ∙ sym (append-nil (((old ++ status) ++ 32 ∷ []) ++ body)) ∙ joined old status body []
    ∙ line_by old status body [] reply (ap (λ t. cond t body (body ++ 10 ∷ [])) has ∙ sym (append-nil body)) of_status of_body
