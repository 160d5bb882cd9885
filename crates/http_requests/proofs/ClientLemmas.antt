-- Proves that the router finds the route of a path that begins with `/c/`.
use Rattle.std.proofs.Common.{◌≡◌, ℕ, Bool, true, false, cond, List, [], ◌∷◌, ◌++◌, length, Some, None, refl, sym, ap, subst, ◌∙◌, codes, append_assoc}
use Rattle.std.specs.Prelude.{◌&&◌, nat_lt, bytes_eq}
use Rattle.store_data.proofs.GroupLemmas.{same-bytes_eq}
use Rattle.matchit.specs.Router.{RouteOf}
use Rattle.matchit.specs.Rows.{RowsOf}
use Rattle.matchit.specs.Seek.{has_slash, seek}
use Rattle.http_requests.specs.declared.route.Form.{Form}
use Rattle.http_requests.specs.RouterRows.{import_form, job_form}
use Rattle.http_requests.specs.Routes.{Job, Import, parts, route_among, route_by, route_in}
use Rattle.http_requests.proofs.NameLemmas.{walk_last, walk_more}
use Rattle.http_requests.proofs.RowLemmas.{by_cut, follow, follow_none, follow_row, name_empty, name_last, name_more, name_nothing, past, seek_none, wild, word_alone, word_more}
use Rattle.http_requests.proofs.RouteLemmas.{Agrees, agree, all_text, among_none, text_cut, text_join, found, no_token, parts_last, parts_more, parts_some, route_is, some, utf8}

-- `x` is a segment of a path: it is UTF-8, has no slash, and isn't empty
record IsPart (x : List ℕ) : Type 0 where
  bare : has_slash x ≡ false
  some : nat_lt 0 (length x) ≡ true
  valid : all_text x ≡ true

part_is : (b : ℕ) (x u : List ℕ) → has_slash (b ∷ x) ≡ false → all_text (b ∷ x ++ 47 ∷ u) ≡ true → IsPart (b ∷ x)
part_is b x u h a = record { bare = h; some = some b x; valid = (text_cut (b ∷ x) u a).0 }

abbrev client_rows : RowsOf (RouteOf Form)
client_rows = wild (past ((256 ∷ codes "/batch/" ++ 256 ∷ 47 ∷ 256 ∷ [], import_form) ∷ (256 ∷ [], job_form) ∷ []) None)

abbrev number_rows : RowsOf (RouteOf Form)
number_rows = wild (past ((codes "batch/" ++ 256 ∷ 47 ∷ 256 ∷ [], import_form) ∷ []) (Some job_form))

abbrev word_rows : RowsOf (RouteOf Form)
word_rows = (codes "batch/" ++ 256 ∷ 47 ∷ 256 ∷ [], import_form) ∷ []

abbrev batch_rows : RowsOf (RouteOf Form)
batch_rows = wild (past ((256 ∷ [], import_form) ∷ []) None)

abbrev product_rows : RowsOf (RouteOf Form)
product_rows = wild (past [] (Some import_form))

-- ---- texts

abbrev of_client : List ℕ → List ℕ → List ℕ
of_client client t = codes "/c/" ++ (client ++ 47 ∷ t)

client_named : (client t : List ℕ) → IsPart client → all_text t ≡ true → route_in (of_client client t) ≡ route_among (codes "c" ∷ client ∷ parts t)
client_named client t c a =
    route_is (codes "c/" ++ (client ++ 47 ∷ t)) (text_join client t c.valid a) ∙ ap (λ (ps : List (List ℕ)). route_among (codes "c" ∷ ps)) (parts_more client t c.bare)

number_named : (client number t : List ℕ) → IsPart client → IsPart number → all_text t ≡ true → route_in (of_client client (number ++ 47 ∷ t)) ≡ route_among (codes "c" ∷ client ∷ number ∷ parts t)
number_named client number t c n a =
    client_named client (number ++ 47 ∷ t) c (text_join number t n.valid a) ∙ ap (λ (ps : List (List ℕ)). route_among (codes "c" ∷ client ∷ ps)) (parts_more number t n.bare)

abbrev of_import : List ℕ → List ℕ → List ℕ → List ℕ
of_import client number t = of_client client (number ++ 47 ∷ (codes "batch/" ++ t))

import_named : (client number batch t : List ℕ) → IsPart client → IsPart number → IsPart batch → all_text t ≡ true
    → route_in (of_import client number (batch ++ 47 ∷ t)) ≡ route_among (codes "c" ∷ client ∷ number ∷ codes "batch" ∷ batch ∷ parts t)
import_named client number batch t c n b a =
    number_named client number (codes "batch/" ++ (batch ++ 47 ∷ t)) c n (text_join batch t b.valid a)
    ∙ ap (λ (ps : List (List ℕ)). route_among (codes "c" ∷ client ∷ number ∷ codes "batch" ∷ ps)) (parts_more batch t b.bare)

-- ---- the product of an import

import_takes : (client number batch product : List ℕ) → IsPart client → IsPart number → IsPart batch → IsPart product → Agrees (Some import_form) (of_import client number (batch ++ 47 ∷ product))
import_takes client number batch product c n b p =
    let path = of_import client number (batch ++ 47 ∷ product) in
    let pattern = import_form.pattern in
    let text = import_form.text in
    let second = codes "/c/" ++ client in
    let third = second ++ 47 ∷ number in
    let fourth = third ++ (codes "/batch/" ++ batch) in
    let third_is : path ≡ third ++ (codes "/batch/" ++ (batch ++ 47 ∷ product)) = ap (λ (l : List ℕ). codes "/c/" ++ l) (sym (append_assoc client (47 ∷ number) (codes "/batch/" ++ (batch ++ 47 ∷ product)))) in
    let fourth_is : path ≡ fourth ++ (47 ∷ product) = third_is ∙ sym (append_assoc third (codes "/batch/" ++ batch) (47 ∷ product)) in
    let last = walk_last pattern text path (36, 43) 14 fourth (47 ∷ []) [] product fourth_is refl refl refl in
    let three = walk_more pattern text path (28, 33) ((36, 43) ∷ []) 6 third (codes "/batch/") (codes "/" ++ 256 ∷ []) batch product third_is b.bare refl refl refl refl in
    let two = walk_more pattern text path (13, 19) ((28, 33) ∷ (36, 43) ∷ []) 4 second (47 ∷ []) (codes "/batch/" ++ 256 ∷ codes "/" ++ 256 ∷ []) number (codes "batch/" ++ (batch ++ 47 ∷ product)) refl n.bare refl refl refl refl in
    let one = walk_more pattern text path (4, 10) ((13, 19) ∷ (28, 33) ∷ (36, 43) ∷ []) 0 [] (codes "/c/") (codes "/" ++ 256 ∷ codes "/batch/" ++ 256 ∷ codes "/" ++ 256 ∷ []) client (number ++ 47 ∷ (codes "batch/" ++ (batch ++ 47 ∷ product))) refl c.bare refl refl refl refl in
    let named = import_named client number batch product c n b p.valid ∙ ap (λ (ps : List (List ℕ)). route_among (codes "c" ∷ client ∷ number ∷ codes "batch" ∷ batch ∷ ps)) (parts_last product p.bare)
    ∙ (λ i. cond (c.some i && (n.some i && (b.some i && (p.some i && true)))) (Some (Import client number batch product)) None) in
    found import_form path ((codes "client", client) ∷ (codes "number", number) ∷ (codes "batch", batch) ∷ (codes "product", product) ∷ [])
    (one ∙ ap (λ (l : List (List ℕ × List ℕ)). (codes "client", client) ∷ l) (two ∙ ap (λ (l : List (List ℕ × List ℕ)). (codes "number", number) ∷ l) (three ∙ ap (λ (l : List (List ℕ × List ℕ)). (codes "batch", batch) ∷ l) last)))
    (utf8 (codes "client") refl, utf8 client c.valid, (utf8 (codes "number") refl, utf8 number n.valid, (utf8 (codes "batch") refl, utf8 batch b.valid, (utf8 (codes "product") refl, utf8 product p.valid, tt))))
    (sym named)

product_agrees : (client number batch t : List ℕ) → IsPart client → IsPart number → IsPart batch → all_text t ≡ true → Agrees (seek 0 product_rows t) (of_import client number (batch ++ 47 ∷ t))
product_agrees client number batch t c n b = by_cut (λ s. all_text s ≡ true → Agrees (seek 0 product_rows s) (of_import client number (batch ++ 47 ∷ s))) one more t
  where
    one : (x : List ℕ) → has_slash x ≡ false → all_text x ≡ true → Agrees (seek 0 product_rows x) (of_import client number (batch ++ 47 ∷ x))
    one [] h a =
        agree (of_import client number (batch ++ 47 ∷ [])) (seek 0 product_rows []) None (name_nothing (past [] (Some import_form)))
        (sym (import_named client number batch [] c n b refl ∙ (λ i. cond (c.some i && (n.some i && (b.some i && false))) (Some (Import client number batch [])) None)))
    one (x ∷ xs) h a =
        agree (of_import client number (batch ++ 47 ∷ x ∷ xs)) (seek 0 product_rows (x ∷ xs)) (Some import_form) (name_last [] (Some import_form) x xs h (no_token x xs a))
        (import_takes client number batch (x ∷ xs) c n b (record { bare = h; some = some x xs; valid = a }))

    more : (x u : List ℕ) → has_slash x ≡ false → all_text (x ++ 47 ∷ u) ≡ true → Agrees (seek 0 product_rows (x ++ 47 ∷ u)) (of_import client number (batch ++ 47 ∷ (x ++ 47 ∷ u)))
    more x u h a =
        let p = parts_some u in
        let named = import_named client number batch (x ++ 47 ∷ u) c n b a ∙ ap (λ (ps : List (List ℕ)). route_among (codes "c" ∷ client ∷ number ∷ codes "batch" ∷ batch ∷ ps)) (parts_more x u h ∙ ap (λ (ps : List (List ℕ)). x ∷ ps) p.2) in
        agree (of_import client number (batch ++ 47 ∷ (x ++ 47 ∷ u))) (seek 0 product_rows (x ++ 47 ∷ u)) None (none x h a)
        (among_none (codes "c" ∷ client ∷ number ∷ codes "batch" ∷ batch ∷ x ∷ p.0 ∷ p.1) refl ∙ sym named)
      where
        none : (x : List ℕ) → has_slash x ≡ false → all_text (x ++ 47 ∷ u) ≡ true → seek 0 product_rows (x ++ 47 ∷ u) ≡ None
        none [] h a = name_empty [] (Some import_form) u
        none (x ∷ xs) h a = name_more [] (Some import_form) x xs u h (no_token x (xs ++ 47 ∷ u) a) ∙ seek_none 0 u

-- ---- the batch of an import

batch_agrees : (client number t : List ℕ) → IsPart client → IsPart number → all_text t ≡ true → Agrees (seek 0 batch_rows t) (of_import client number t)
batch_agrees client number t c n = by_cut (λ s. all_text s ≡ true → Agrees (seek 0 batch_rows s) (of_import client number s)) one more t
  where
    one : (x : List ℕ) → has_slash x ≡ false → all_text x ≡ true → Agrees (seek 0 batch_rows x) (of_import client number x)
    one x h a =
        let named = number_named client number (codes "batch/" ++ x) c n a ∙ ap (λ (ps : List (List ℕ)). route_among (codes "c" ∷ client ∷ number ∷ codes "batch" ∷ ps)) (parts_last x h) in
        agree (of_import client number x) (seek 0 batch_rows x) None (none x h a) (among_none (codes "c" ∷ client ∷ number ∷ codes "batch" ∷ x ∷ []) refl ∙ sym named)
      where
        none : (x : List ℕ) → has_slash x ≡ false → all_text x ≡ true → seek 0 batch_rows x ≡ None
        none [] h a = name_nothing (past ((256 ∷ [], import_form) ∷ []) None)
        none (x ∷ xs) h a = name_last ((256 ∷ [], import_form) ∷ []) None x xs h (no_token x xs a)

    more : (x u : List ℕ) → has_slash x ≡ false → all_text (x ++ 47 ∷ u) ≡ true → Agrees (seek 0 batch_rows (x ++ 47 ∷ u)) (of_import client number (x ++ 47 ∷ u))
    more [] u h a =
        agree (of_import client number (47 ∷ u)) (seek 0 batch_rows (47 ∷ u)) None (name_empty ((256 ∷ [], import_form) ∷ []) None u)
        (sym (number_named client number (codes "batch/" ++ 47 ∷ u) c n a ∙ (λ i. cond (c.some i && (n.some i && false)) (route_by (codes "c" ∷ client ∷ number ∷ codes "batch" ∷ [] ∷ parts u)) None)))
    more (x ∷ xs) u h a =
        agree (of_import client number (x ∷ xs ++ 47 ∷ u)) (seek 0 batch_rows (x ∷ xs ++ 47 ∷ u)) (seek 0 product_rows u) (name_more ((256 ∷ [], import_form) ∷ []) None x xs u h (no_token x (xs ++ 47 ∷ u) a))
        (product_agrees client number (x ∷ xs) u c n (part_is x xs u h a) (text_cut (x ∷ xs) u a).1)

-- ---- after the request number

no_import : (client number x : List ℕ) (ps : List (List ℕ)) → bytes_eq x (codes "batch") ≡ false → route_by (codes "c" ∷ client ∷ number ∷ x ∷ ps) ≡ None
no_import client number x [] n = refl
no_import client number x (e ∷ []) n = refl
no_import client number x (e ∷ f ∷ []) n = ap (λ (t : Bool). cond t (Some (Import client number e f)) None) n
no_import client number x (e ∷ f ∷ g ∷ ps) n = refl

word_agrees : (client number t : List ℕ) → IsPart client → IsPart number → all_text t ≡ true → Agrees (seek 0 word_rows t) (of_client client (number ++ 47 ∷ t))
word_agrees client number t c n = by_cut (λ s. all_text s ≡ true → Agrees (seek 0 word_rows s) (of_client client (number ++ 47 ∷ s))) one more t
  where
    one : (x : List ℕ) → has_slash x ≡ false → all_text x ≡ true → Agrees (seek 0 word_rows x) (of_client client (number ++ 47 ∷ x))
    one x h a =
        let named = number_named client number x c n a ∙ ap (λ (ps : List (List ℕ)). route_among (codes "c" ∷ client ∷ number ∷ ps)) (parts_last x h) in
        agree (of_client client (number ++ 47 ∷ x)) (seek 0 word_rows x) None (word_alone word_rows x refl h) (among_none (codes "c" ∷ client ∷ number ∷ x ∷ []) refl ∙ sym named)

    more : (x u : List ℕ) → has_slash x ≡ false → all_text (x ++ 47 ∷ u) ≡ true → Agrees (seek 0 word_rows (x ++ 47 ∷ u)) (of_client client (number ++ 47 ∷ (x ++ 47 ∷ u)))
    more x u h a =
        let rows : follow x word_rows ≡ cond (bytes_eq x (codes "batch")) batch_rows [] =
        follow_row x (codes "batch") (256 ∷ 47 ∷ 256 ∷ []) import_form [] h refl ∙ (λ i. cond (bytes_eq x (codes "batch")) ((256 ∷ 47 ∷ 256 ∷ [], import_form) ∷ follow_none x i) (follow_none x i)) in
        agree (of_client client (number ++ 47 ∷ (x ++ 47 ∷ u))) (seek 0 word_rows (x ++ 47 ∷ u)) (seek 0 (cond (bytes_eq x (codes "batch")) batch_rows []) u)
        (word_more word_rows x u refl h ∙ ap (λ (rs : RowsOf (RouteOf Form)). seek 0 rs u) rows) (by (bytes_eq x (codes "batch")) refl)
      where
        by : (v : Bool) → bytes_eq x (codes "batch") ≡ v → Agrees (seek 0 (cond v batch_rows []) u) (of_client client (number ++ 47 ∷ (x ++ 47 ∷ u)))
        by true e =
            subst (λ (w : List ℕ). Agrees (seek 0 batch_rows u) (of_client client (number ++ 47 ∷ (w ++ 47 ∷ u)))) (sym (same-bytes_eq x (codes "batch") e))
            (batch_agrees client number u c n (text_cut x u a).1)
        by false e =
            let named = number_named client number (x ++ 47 ∷ u) c n a ∙ ap (λ (ps : List (List ℕ)). route_among (codes "c" ∷ client ∷ number ∷ ps)) (parts_more x u h) in
            agree (of_client client (number ++ 47 ∷ (x ++ 47 ∷ u))) (seek 0 [] u) None (seek_none 0 u) (among_none (codes "c" ∷ client ∷ number ∷ x ∷ parts u) (no_import client number x (parts u) e) ∙ sym named)

-- ---- the request number

job_takes : (client number : List ℕ) → IsPart client → IsPart number → Agrees (Some job_form) (of_client client number)
job_takes client number c n =
    let path = of_client client number in
    let one = walk_more job_form.pattern job_form.text path (4, 10) ((13, 19) ∷ []) 0 [] (codes "/c/") (codes "/" ++ 256 ∷ []) client number refl c.bare refl refl refl refl in
    let last = walk_last job_form.pattern job_form.text path (13, 19) 4 (codes "/c/" ++ client) (47 ∷ []) [] number refl refl refl refl in
    let named = client_named client number c n.valid ∙ ap (λ (ps : List (List ℕ)). route_among (codes "c" ∷ client ∷ ps)) (parts_last number n.bare) ∙ (λ i. cond (c.some i && (n.some i && true)) (Some (Job client number)) None) in
    found job_form path ((codes "client", client) ∷ (codes "number", number) ∷ []) (one ∙ ap (λ (l : List (List ℕ × List ℕ)). (codes "client", client) ∷ l) last)
    (utf8 (codes "client") refl, utf8 client c.valid, (utf8 (codes "number") refl, utf8 number n.valid, tt)) (sym named)

number_agrees : (client t : List ℕ) → IsPart client → all_text t ≡ true → Agrees (seek 0 number_rows t) (of_client client t)
number_agrees client t c = by_cut (λ s. all_text s ≡ true → Agrees (seek 0 number_rows s) (of_client client s)) one more t
  where
    one : (x : List ℕ) → has_slash x ≡ false → all_text x ≡ true → Agrees (seek 0 number_rows x) (of_client client x)
    one [] h a =
        agree (of_client client []) (seek 0 number_rows []) None (name_nothing (past word_rows (Some job_form)))
        (sym (client_named client [] c refl ∙ (λ i. cond (c.some i && false) (Some (Job client [])) None)))
    one (x ∷ xs) h a =
        agree (of_client client (x ∷ xs)) (seek 0 number_rows (x ∷ xs)) (Some job_form) (name_last word_rows (Some job_form) x xs h (no_token x xs a))
        (job_takes client (x ∷ xs) c (record { bare = h; some = some x xs; valid = a }))

    more : (x u : List ℕ) → has_slash x ≡ false → all_text (x ++ 47 ∷ u) ≡ true → Agrees (seek 0 number_rows (x ++ 47 ∷ u)) (of_client client (x ++ 47 ∷ u))
    more [] u h a =
        agree (of_client client (47 ∷ u)) (seek 0 number_rows (47 ∷ u)) None (name_empty word_rows (Some job_form) u)
        (sym (client_named client (47 ∷ u) c a ∙ (λ i. cond (c.some i && false) (route_by (codes "c" ∷ client ∷ [] ∷ parts u)) None)))
    more (x ∷ xs) u h a =
        agree (of_client client (x ∷ xs ++ 47 ∷ u)) (seek 0 number_rows (x ∷ xs ++ 47 ∷ u)) (seek 0 word_rows u) (name_more word_rows (Some job_form) x xs u h (no_token x (xs ++ 47 ∷ u) a))
        (word_agrees client (x ∷ xs) u c (part_is x xs u h a) (text_cut (x ∷ xs) u a).1)

-- ---- the client

pub client_agrees : (t : List ℕ) → all_text t ≡ true → Agrees (seek 0 client_rows t) (codes "/c/" ++ t)
client_agrees t = by_cut (λ s. all_text s ≡ true → Agrees (seek 0 client_rows s) (codes "/c/" ++ s)) one more t
  where
    one : (x : List ℕ) → has_slash x ≡ false → all_text x ≡ true → Agrees (seek 0 client_rows x) (codes "/c/" ++ x)
    one x h a =
        let named = route_is (codes "c/" ++ x) a ∙ ap (λ (ps : List (List ℕ)). route_among (codes "c" ∷ ps)) (parts_last x h) in
        agree (codes "/c/" ++ x) (seek 0 client_rows x) None (none x h a) (among_none (codes "c" ∷ x ∷ []) refl ∙ sym named)
      where
        none : (x : List ℕ) → has_slash x ≡ false → all_text x ≡ true → seek 0 client_rows x ≡ None
        none [] h a = name_nothing (past number_rows None)
        none (x ∷ xs) h a = name_last number_rows None x xs h (no_token x xs a)

    more : (x u : List ℕ) → has_slash x ≡ false → all_text (x ++ 47 ∷ u) ≡ true → Agrees (seek 0 client_rows (x ++ 47 ∷ u)) (codes "/c/" ++ (x ++ 47 ∷ u))
    more [] u h a = agree (codes "/c/" ++ 47 ∷ u) (seek 0 client_rows (47 ∷ u)) None (name_empty number_rows None u) (sym (route_is (codes "c/" ++ 47 ∷ u) a))
    more (x ∷ xs) u h a =
        agree (of_client (x ∷ xs) u) (seek 0 client_rows (x ∷ xs ++ 47 ∷ u)) (seek 0 number_rows u) (name_more number_rows None x xs u h (no_token x (xs ++ 47 ∷ u) a))
        (number_agrees (x ∷ xs) u (part_is x xs u h a) (text_cut (x ∷ xs) u a).1)
