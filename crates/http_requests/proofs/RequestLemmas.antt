-- Lemmas about the value of a body, and about its number of members.
use Rattle.std.proofs.Common.{◌≡◌, ℕ, suc, cond, List, [], ◌∷◌, length, String, Some, None, refl, ap, ◌∙◌, inl, inr}
use Rattle.std.specs.Prelude.{IsUtf8}
use Rattle.std.specs.declared.alloc.Global.{Global}
use Rattle.std.specs.Str.{is_utf8}
use Rattle.std.proofs.lemmas.Bool.{cases_Bool}
use Rattle.std.proofs.lemmas.Str.{IsUtf8-from_is_utf8, is_utf8-from_IsUtf8}
use Rattle.serde_json.specs.Data.{Data}
use Rattle.serde_json.specs.Read.{read}
use Rattle.serde_json.specs.View.{members_view}
use Rattle.serde_json.specs.declared.value.Value.{Value}
use Rattle.http_requests.specs.Members.{value_in}
use Rattle.http_requests.specs.Requests.{count_of}

-- ---- bodies

pub value_in-read : (body : List ℕ) (d : Data) → IsUtf8 body → read body ≡ Some d → value_in body ≡ Some d
unfolding value_in
value_in-read body d text is = ap (λ b. cond b (read body) None) (is_utf8-from_IsUtf8 body text) ∙ is

pub value_in-unread : (body : List ℕ) → (IsUtf8 body → read body ≡ None) → value_in body ≡ None
unfolding value_in
value_in-unread body none =
    elim (cases_Bool (is_utf8 body)) [
      | inl text ↦ ap (λ b. cond b (read body) None) text ∙ none (IsUtf8-from_is_utf8 body text)
      | inr other ↦ ap (λ b. cond b (read body) None) other
    ]

-- ---- members

pub count_of-members_view : (ms : List (String Global × Value)) → count_of (members_view ms) ≡ length ms
count_of-members_view [] = refl
count_of-members_view (m ∷ ms) = ap suc (count_of-members_view ms)
