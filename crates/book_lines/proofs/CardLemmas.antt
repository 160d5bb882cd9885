-- Lemmas about the sessions of a record, found by its position among the sessions of its batch.
use Rattle.std.proofs.Common.{◌≡◌, ◌==◌, ℕ, true, List, [], ◌∷◌, All, map, refl, ap, ◌∙◌}
use Rattle.std.specs.Prelude.{filter}
use Rattle.std.proofs.lemmas.List.Elements.{All-weaker, filter_passes}
use Rattle.table_rows.specs.Keys.{is_record_of}
use Rattle.table_rows.specs.Tables.{StoredRecord, StoredSession, Tables}
use Rattle.audit_laws.specs.Audited.{is_session_of}
use Rattle.audit_laws.proofs.SoundLists.{same_number}
use Rattle.audit_order.proofs.Pieces.{filter-both}
use Rattle.book_lines.specs.Cards.{Card, card_of, record_cards}
use Rattle.book_lines.specs.Keyed.{AreKeyed}

map_map : {A B C : Type 0} (g : B → C) (f : A → B) (xs : List A) → map g (map f xs) ≡ map (λ x. g (f x)) xs
map_map g f [] = refl
map_map g f (x ∷ xs) = ap (λ ys. g (f x) ∷ ys) (map_map g f xs)

pub of_batch : (id : ℕ) (records : List StoredRecord) → All (λ (r : StoredRecord). r.batch ≡ id) (filter (is_record_of id) records)
of_batch id records =
    All-weaker (λ (r : StoredRecord). (r.batch == id) ≡ true) (λ (r : StoredRecord). r.batch ≡ id) (λ r hit. same_number r.batch id hit) (filter (is_record_of id) records)
    (filter_passes (is_record_of id) records)

pub keyed_cards : (t : Tables) (r : StoredRecord) (keyed own : List (ℕ × StoredSession)) → own ≡ filter (λ (k : ℕ × StoredSession). k.0 == r.place) keyed
    → AreKeyed (λ (s : StoredSession). s.place) (filter (is_session_of r.batch) t.sessions) keyed
    → map (λ (k : ℕ × StoredSession). card_of t r k.1) own ≡ record_cards t r
keyed_cards t r keyed own is are =
    let placed : StoredSession → ℕ × StoredSession = λ s. (s.place, s) in
    let card : ℕ × StoredSession → Card = λ k. card_of t r k.1 in
    let sessions : List StoredSession = filter (is_session_of r.batch) t.sessions in
    ap (map card) (is ∙ are.found r.place)
    ∙ map_map card placed (filter (λ (s : StoredSession). s.place == r.place) sessions)
    ∙ ap (map (card_of t r)) (filter-both (λ (s : StoredSession). s.place == r.place) (is_session_of r.batch) t.sessions)
