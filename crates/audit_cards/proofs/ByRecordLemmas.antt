-- Sessions sorted by their records.
use Rattle.std.proofs.Common.{◌≡◌, ℕ, ◌==◌, Bool, true, false, ◌&&◌, List, [], ◌∷◌, refl, sym, ap, ◌∙◌, subst}
use Rattle.std.specs.Prelude.{IsPermutation, filter}
use Rattle.std.proofs.lemmas.List.Elements.{filter_agree}
use Rattle.table_rows.specs.Tables.{StoredSession}
use Rattle.audit_laws.specs.Audited.{AreOrderedBy, is_session_at}
use Rattle.audit_order.specs.Order.{has_key}
use Rattle.audit_cards.specs.Sessions.{AreByRecord}
use Rattle.audit_order.proofs.OrderLemmas.{first_rising, second_rising}

and-true : (b : Bool) → (b && true) ≡ b
and-true true = refl
and-true false = refl

abbrev session_key : StoredSession → List ℕ
session_key s = s.batch ∷ s.place ∷ 0 ∷ []

key_is : (id place : ℕ) (s : StoredSession) → is_session_at id place s ≡ has_key session_key (id ∷ place ∷ 0 ∷ []) s
key_is id place s = sym (ap (λ b. (s.batch == id) && b) (and-true (s.place == place)))

pub by_record_of : (sessions xs ys : List StoredSession) → xs ≡ sessions → IsPermutation xs ys → AreOrderedBy session_key ys
    → ((key : List ℕ) → filter (has_key session_key key) ys ≡ filter (has_key session_key key) xs) → AreByRecord sessions ys
by_record_of sessions xs ys is same ordered stable = record {
  same = subst (λ (zs : List StoredSession). IsPermutation zs ys) is same;
  batches = first_rising (λ (s : StoredSession). s.batch) (λ (s : StoredSession). s.place ∷ 0 ∷ []) ys ordered;
  places = second_rising (λ (s : StoredSession). s.batch) (λ (s : StoredSession). s.place) (λ (s : StoredSession). 0 ∷ []) ys ordered;
  stable = λ id place.
      let key : List ℕ = id ∷ place ∷ 0 ∷ [] in
      filter_agree (is_session_at id place) (has_key session_key key) (key_is id place) ys ∙ stable key ∙ ap (filter (has_key session_key key)) is
      ∙ sym (filter_agree (is_session_at id place) (has_key session_key key) (key_is id place) sessions);
}
