-- Look-ups of kept replies by client and request number, and of release marks by client.
use Rattle.std.proofs.Common.{◌≡◌, ℕ, ◌==◌, true, false, List, get_or, map, sym, ap, ◌∙◌}
use Rattle.std.specs.Prelude.{bytes_eq}
use Rattle.std.proofs.lemmas.Bool.{and_from, and_parts, both_ways, eq-eqb, eqb-true, false_from_ne_true}
use Rattle.store_data.proofs.GroupLemmas.{bytes_eq-same, same-bytes_eq}
use Rattle.job_facts.specs.Contents.{AreSound, Contents, Entry, Mark, has_mark, is_of_number}
use Rattle.job_facts.specs.Sound.{AreNamedOnce}
use Rattle.table_rows.specs.Keys.{is_reply_to}
use Rattle.table_rows.specs.Tables.{PassesOnce}
use Rattle.image_laws.specs.Image.{image}
use Rattle.row_laws.proofs.Finding.{AllPairs-map}
use Rattle.row_laws.proofs.RecordRows.{name_alone}

same_number : (client : List ℕ) (number : ℕ) (d e : Entry) → is_reply_to client number d ≡ true → is_reply_to client number e ≡ true → is_of_number d e ≡ true
same_number client number d e at_d at_e =
    let one = and_parts (bytes_eq d.client client) (d.number == number) at_d in
    let two = and_parts (bytes_eq e.client client) (e.number == number) at_e in
    let who : d.client ≡ e.client = same-bytes_eq d.client client one.0 ∙ sym (same-bytes_eq e.client client two.0) in
    let which : d.number ≡ e.number = eqb-true d.number number one.1 ∙ sym (eqb-true e.number number two.1) in
    and_from (bytes_eq d.client e.client) (d.number == e.number) (ap (λ c. bytes_eq c e.client) who ∙ bytes_eq-same e.client) (eq-eqb d.number e.number which)

pub reply_once : (c : Contents) → AreSound c → (client : List ℕ) (number : ℕ) → PassesOnce (is_reply_to client number) (image c).replies
reply_once c sound client number i j x before within at =
    false_from_ne_true (is_reply_to client number (get_or c.kept j x))
    (λ also. both_ways (is_of_number (get_or c.kept i x) (get_or c.kept j x)) (sound.kept_once i j x before within) (same_number client number (get_or c.kept i x) (get_or c.kept j x) at also))

pub mark_once : (c : Contents) → AreSound c → (client : List ℕ) → PassesOnce (has_mark client) (image c).marks
mark_once c sound client i j x before within at =
    let m : Mark = get_or c.marks i x in
    let n : Mark = get_or c.marks j x in
    name_alone client m.client n.client (sound.marked_once i j x before within) at

pub marks_named : (c : Contents) → AreSound c → AreNamedOnce (map (λ (m : Mark). m.client) (image c).marks)
marks_named c sound = AllPairs-map (λ (m n : List ℕ). bytes_eq m n ≡ false) (λ (m : Mark). m.client) c.marks sound.marked_once
