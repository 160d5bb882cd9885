-- Proves that the router finds the route of a path.
use Rattle.std.proofs.Common.{◌≡◌, ℕ, ◌==◌, Bool, true, false, cond, List, [], ◌∷◌, ◌++◌, Some, None, refl, sym, ap, subst, ◌∙◌, arith, codes}
use Rattle.std.specs.Prelude.{◌&&◌, bytes_eq}
use Rattle.std.specs.Str.{IsUtf8, is_utf8}
use Rattle.std.proofs.lemmas.Bool.Decides.{nat_tests}
use Rattle.store_data.proofs.GroupLemmas.{same-bytes_eq}
use Rattle.matchit.specs.Router.{RouteOf}
use Rattle.matchit.specs.Rows.{RowsOf}
use Rattle.matchit.specs.Seek.{has_slash, seek, step}
use Rattle.http_requests.specs.declared.route.Form.{Form}
use Rattle.http_requests.specs.RouterRows.{batch_form, blanks_form, forms, import_form, job_form, report_form}
use Rattle.http_requests.specs.Routes.{Job, Import, Batch, Report, Blanks, parts, route_among, route_by, route_in}
use Rattle.http_requests.proofs.NameLemmas.{walk_last, walk_more}
use Rattle.http_requests.proofs.RowLemmas.{by_cut, follow, follow_none, follow_row, name_empty, name_last, name_more, name_nothing, past, seek_byte, seek_none, wild, word_alone, word_last, word_more}
use Rattle.http_requests.proofs.ClientLemmas.{client_agrees}
use Rattle.http_requests.proofs.RouteLemmas.{Agrees, agree, all_text, among_none, text_cut, text_is, text_join, found, no_token, parts_last, parts_more, parts_some, route_is, some, utf8}

-- ---- blanks

blanks_alone : (a b : List ℕ) (ps : List (List ℕ)) → route_by (codes "blanks" ∷ a ∷ b ∷ ps) ≡ None
blanks_alone a b [] = refl
blanks_alone a b (c ∷ []) = refl
blanks_alone a b (c ∷ d ∷ []) = refl
blanks_alone a b (c ∷ d ∷ e ∷ []) = refl
blanks_alone a b (c ∷ d ∷ e ∷ f ∷ ps) = refl

abbrev blanks_rows : RowsOf (RouteOf Form)
blanks_rows = wild (past [] (Some blanks_form))

blanks_agree : (t : List ℕ) → all_text t ≡ true → Agrees (seek 0 blanks_rows t) (codes "/blanks/" ++ t)
blanks_agree t = by_cut (λ s. all_text s ≡ true → Agrees (seek 0 blanks_rows s) (codes "/blanks/" ++ s)) one more t
  where
    one : (x : List ℕ) → has_slash x ≡ false → all_text x ≡ true → Agrees (seek 0 blanks_rows x) (codes "/blanks/" ++ x)
    one [] h a = agree (codes "/blanks/") (seek 0 blanks_rows []) None (name_nothing (past [] (Some blanks_form))) (sym (route_is (codes "blanks/") refl))
    one (b ∷ x) h a =
        let path = codes "/blanks/" ++ b ∷ x in
        let named = route_is (codes "blanks/" ++ b ∷ x) a ∙ ap (λ (ps : List (List ℕ)). route_among (codes "blanks" ∷ ps)) (parts_last (b ∷ x) h) ∙ ap (λ (t : Bool). cond (t && true) (Some (Blanks (b ∷ x))) None) (some b x) in
        agree path (seek 0 blanks_rows (b ∷ x)) (Some blanks_form) (name_last [] (Some blanks_form) b x h (no_token b x a))
        (found blanks_form path ((codes "product", b ∷ x) ∷ []) (walk_last blanks_form.pattern blanks_form.text path (9, 16) 0 [] (codes "/blanks/") [] (b ∷ x) refl refl refl refl)
        (utf8 (codes "product") refl, utf8 (b ∷ x) a, tt) (sym named))

    more : (x u : List ℕ) → has_slash x ≡ false → all_text (x ++ 47 ∷ u) ≡ true → Agrees (seek 0 blanks_rows (x ++ 47 ∷ u)) (codes "/blanks/" ++ (x ++ 47 ∷ u))
    more x u h a =
        let p = parts_some u in
        let named = route_is (codes "blanks/" ++ (x ++ 47 ∷ u)) a ∙ ap (λ (ps : List (List ℕ)). route_among (codes "blanks" ∷ ps)) (parts_more x u h ∙ ap (λ (ps : List (List ℕ)). x ∷ ps) p.2) in
        agree (codes "/blanks/" ++ (x ++ 47 ∷ u)) (seek 0 blanks_rows (x ++ 47 ∷ u)) None (none x h a) (among_none (codes "blanks" ∷ x ∷ p.0 ∷ p.1) (blanks_alone x p.0 p.1) ∙ sym named)
      where
        none : (x : List ℕ) → has_slash x ≡ false → all_text (x ++ 47 ∷ u) ≡ true → seek 0 blanks_rows (x ++ 47 ∷ u) ≡ None
        none [] h a = name_empty [] (Some blanks_form) u
        none (b ∷ x) h a = name_more [] (Some blanks_form) b x u h (no_token b (x ++ 47 ∷ u) a) ∙ seek_none 0 u

-- ---- batches

batch_alone : (a b c : List ℕ) (ps : List (List ℕ)) → route_by (codes "batch" ∷ a ∷ b ∷ c ∷ ps) ≡ None
batch_alone a b c [] = refl
batch_alone a b c (d ∷ []) = refl
batch_alone a b c (d ∷ e ∷ []) = refl
batch_alone a b c (d ∷ e ∷ f ∷ ps) = refl

abbrev batch_rows : RowsOf (RouteOf Form)
batch_rows = wild (past ((codes "report", report_form) ∷ []) (Some batch_form))

abbrev BatchAgrees : List ℕ → Type 0
BatchAgrees t = all_text t ≡ true → Agrees (seek 0 batch_rows t) (codes "/batch/" ++ t)

batch_named : (t : List ℕ) → all_text t ≡ true → route_in (codes "/batch/" ++ t) ≡ route_among (codes "batch" ∷ parts t)
batch_named t a = route_is (codes "batch/" ++ t) a

batch_last : (x : List ℕ) → has_slash x ≡ false → BatchAgrees x
batch_last [] h a = agree (codes "/batch/") (seek 0 batch_rows []) None (name_nothing (past ((codes "report", report_form) ∷ []) (Some batch_form))) (sym (batch_named [] refl))
batch_last (b ∷ x) h a =
    let path = codes "/batch/" ++ b ∷ x in
    let named = batch_named (b ∷ x) a ∙ ap (λ (ps : List (List ℕ)). route_among (codes "batch" ∷ ps)) (parts_last (b ∷ x) h) ∙ ap (λ (t : Bool). cond (t && true) (Some (Batch (b ∷ x))) None) (some b x) in
    agree path (seek 0 batch_rows (b ∷ x)) (Some batch_form) (name_last ((codes "report", report_form) ∷ []) (Some batch_form) b x h (no_token b x a))
    (found batch_form path ((codes "batch", b ∷ x) ∷ []) (walk_last batch_form.pattern batch_form.text path (8, 13) 0 [] (codes "/batch/") [] (b ∷ x) refl refl refl refl)
    (utf8 (codes "batch") refl, utf8 (b ∷ x) a, tt) (sym named))

-- a path with another word than `report` after the batch has no route
no_report : (x u : List ℕ) → bytes_eq u (codes "report") ≡ false → route_by (codes "batch" ∷ x ∷ parts u) ≡ None
no_report x u n = by_cut (λ s. bytes_eq s (codes "report") ≡ false → route_by (codes "batch" ∷ x ∷ parts s) ≡ None) one more u n
  where
    one : (y : List ℕ) → has_slash y ≡ false → bytes_eq y (codes "report") ≡ false → route_by (codes "batch" ∷ x ∷ parts y) ≡ None
    one y h n = ap (λ (ps : List (List ℕ)). route_by (codes "batch" ∷ x ∷ ps)) (parts_last y h) ∙ ap (λ (t : Bool). cond t (Some (Report x)) None) n

    more : (y v : List ℕ) → has_slash y ≡ false → bytes_eq (y ++ 47 ∷ v) (codes "report") ≡ false → route_by (codes "batch" ∷ x ∷ parts (y ++ 47 ∷ v)) ≡ None
    more y v h n =
        let p = parts_some v in
        ap (λ (ps : List (List ℕ)). route_by (codes "batch" ∷ x ∷ ps)) (parts_more y v h ∙ ap (λ (ps : List (List ℕ)). y ∷ ps) p.2) ∙ batch_alone x y p.0 p.1

batch_report : (b : ℕ) (x : List ℕ) → has_slash (b ∷ x) ≡ false → all_text (b ∷ x) ≡ true → Agrees (Some report_form) (codes "/batch/" ++ (b ∷ x ++ codes "/report"))
batch_report b x h a =
    let path = codes "/batch/" ++ (b ∷ x ++ codes "/report") in
    let named = batch_named (b ∷ x ++ codes "/report") (text_join (b ∷ x) (codes "report") a refl) ∙ ap (λ (ps : List (List ℕ)). route_among (codes "batch" ∷ ps)) (parts_more (b ∷ x) (codes "report") h)
    ∙ ap (λ (t : Bool). cond (t && true) (Some (Report (b ∷ x))) None) (some b x) in
    found report_form path ((codes "batch", b ∷ x) ∷ []) (walk_more report_form.pattern report_form.text path (8, 13) [] 0 [] (codes "/batch/") (codes "/report") (b ∷ x) (codes "report") refl h refl refl refl refl)
    (utf8 (codes "batch") refl, utf8 (b ∷ x) a, tt) (sym named)

batch_more : (x u : List ℕ) → has_slash x ≡ false → BatchAgrees (x ++ 47 ∷ u)
batch_more [] u h a =
    agree (codes "/batch/" ++ 47 ∷ u) (seek 0 batch_rows (47 ∷ u)) None (name_empty ((codes "report", report_form) ∷ []) (Some batch_form) u) (sym (batch_named (47 ∷ u) a))
batch_more (b ∷ x) u h a =
    let path = codes "/batch/" ++ (b ∷ x ++ 47 ∷ u) in
    agree path (seek 0 batch_rows (b ∷ x ++ 47 ∷ u)) (cond (bytes_eq u (codes "report")) (Some report_form) None)
    (name_more ((codes "report", report_form) ∷ []) (Some batch_form) b x u h (no_token b (x ++ 47 ∷ u) a) ∙ word_last (codes "report") report_form u refl) (by (bytes_eq u (codes "report")) refl)
  where
    by : (v : Bool) → bytes_eq u (codes "report") ≡ v → Agrees (cond v (Some report_form) None) (codes "/batch/" ++ (b ∷ x ++ 47 ∷ u))
    by true e = subst (λ (s : List ℕ). Agrees (Some report_form) (codes "/batch/" ++ (b ∷ x ++ 47 ∷ s))) (sym (same-bytes_eq u (codes "report") e)) (batch_report b x h (text_cut (b ∷ x) u a).0)
    by false e =
        let named = batch_named (b ∷ x ++ 47 ∷ u) a ∙ ap (λ (ps : List (List ℕ)). route_among (codes "batch" ∷ ps)) (parts_more (b ∷ x) u h) in
        among_none (codes "batch" ∷ (b ∷ x) ∷ parts u) (no_report (b ∷ x) u e) ∙ sym named

batch_agrees : (t : List ℕ) → BatchAgrees t
batch_agrees t = by_cut BatchAgrees batch_last batch_more t

-- ---- the first word

other_word : (x p : List ℕ) (ps : List (List ℕ)) → bytes_eq x (codes "batch") ≡ false → bytes_eq x (codes "blanks") ≡ false → bytes_eq x (codes "c") ≡ false → route_by (x ∷ p ∷ ps) ≡ None
other_word x p [] batch blanks client = (λ i. cond (batch i) (Some (Batch p)) (cond (blanks i) (Some (Blanks p)) None))
other_word x p (q ∷ []) batch blanks client = (λ i. cond (client i) (Some (Job p q)) (cond (batch i && bytes_eq q (codes "report")) (Some (Report p)) None))
other_word x p (q ∷ r ∷ []) batch blanks client = refl
other_word x p (q ∷ r ∷ s ∷ []) batch blanks client = refl
other_word x p (q ∷ r ∷ s ∷ t ∷ []) batch blanks client = (λ i. cond (client i && bytes_eq r (codes "batch")) (Some (Import p q s t)) None)
other_word x p (q ∷ r ∷ s ∷ t ∷ u ∷ ps) batch blanks client = refl

-- the rows after the first slash
abbrev rows_behind : RowsOf (RouteOf Form)
rows_behind =
    (codes "batch/" ++ 256 ∷ codes "/report", report_form) ∷ (codes "batch/" ++ 256 ∷ [], batch_form) ∷ (codes "blanks/" ++ 256 ∷ [], blanks_form)
    ∷ (codes "c/" ++ 256 ∷ codes "/" ++ 256 ∷ codes "/batch/" ++ 256 ∷ codes "/" ++ 256 ∷ [], import_form) ∷ (codes "c/" ++ 256 ∷ codes "/" ++ 256 ∷ [], job_form) ∷ []

skip : (x word rest : List ℕ) (k : RouteOf Form) (rs : RowsOf (RouteOf Form)) → has_slash x ≡ false → has_slash word ≡ false → bytes_eq x word ≡ false → follow x ((word ++ 47 ∷ rest, k) ∷ rs) ≡ follow x rs
skip x word rest k rs h g n = follow_row x word rest k rs h g ∙ (λ i. cond (n i) ((rest, k) ∷ follow x rs) (follow x rs))

skip_all : (x : List ℕ) → has_slash x ≡ false → bytes_eq x (codes "batch") ≡ false → bytes_eq x (codes "blanks") ≡ false → bytes_eq x (codes "c") ≡ false → follow x rows_behind ≡ []
skip_all x h batch blanks client =
    let jobs = (codes "c/" ++ 256 ∷ codes "/" ++ 256 ∷ [], job_form) ∷ [] in
    let imports = (codes "c/" ++ 256 ∷ codes "/" ++ 256 ∷ codes "/batch/" ++ 256 ∷ codes "/" ++ 256 ∷ [], import_form) ∷ jobs in
    let blank = (codes "blanks/" ++ 256 ∷ [], blanks_form) ∷ imports in
    skip x (codes "batch") (256 ∷ codes "/report") report_form ((codes "batch/" ++ 256 ∷ [], batch_form) ∷ blank) h refl batch
    ∙ skip x (codes "batch") (256 ∷ []) batch_form blank h refl batch
    ∙ skip x (codes "blanks") (256 ∷ []) blanks_form imports h refl blanks
    ∙ skip x (codes "c") (256 ∷ codes "/" ++ 256 ∷ codes "/batch/" ++ 256 ∷ codes "/" ++ 256 ∷ []) import_form jobs h refl client
    ∙ skip x (codes "c") (256 ∷ codes "/" ++ 256 ∷ []) job_form [] h refl client
    ∙ follow_none x

word_agrees : (x u : List ℕ) → has_slash x ≡ false → all_text (x ++ 47 ∷ u) ≡ true → Agrees (seek 0 (follow x rows_behind) u) (47 ∷ (x ++ 47 ∷ u))
word_agrees x u h a = by (bytes_eq x (codes "batch")) refl (bytes_eq x (codes "blanks")) refl (bytes_eq x (codes "c")) refl
  where
    at : (word : List ℕ) → bytes_eq x word ≡ true → Agrees (seek 0 (follow word rows_behind) u) (47 ∷ (word ++ 47 ∷ u)) → Agrees (seek 0 (follow x rows_behind) u) (47 ∷ (x ++ 47 ∷ u))
    at word e is = subst (λ (w : List ℕ). Agrees (seek 0 (follow w rows_behind) u) (47 ∷ (w ++ 47 ∷ u))) (sym (same-bytes_eq x word e)) is

    by : (v : Bool) → bytes_eq x (codes "batch") ≡ v → (w : Bool) → bytes_eq x (codes "blanks") ≡ w → (z : Bool) → bytes_eq x (codes "c") ≡ z → Agrees (seek 0 (follow x rows_behind) u) (47 ∷ (x ++ 47 ∷ u))
    by true e w f z g = at (codes "batch") e (batch_agrees u (text_cut x u a).1)
    by false e true f z g = at (codes "blanks") f (blanks_agree u (text_cut x u a).1)
    by false e false f true g = at (codes "c") g (client_agrees u (text_cut x u a).1)
    by false e false f false g =
        let p = parts_some u in
        let named = route_is (x ++ 47 ∷ u) a ∙ ap route_among (parts_more x u h ∙ ap (λ (ps : List (List ℕ)). x ∷ ps) p.2) in
        agree (47 ∷ (x ++ 47 ∷ u)) (seek 0 (follow x rows_behind) u) None (ap (λ (rs : RowsOf (RouteOf Form)). seek 0 rs u) (skip_all x h e f g) ∙ seek_none 0 u)
        (among_none (x ∷ p.0 ∷ p.1) (other_word x p.0 p.1 e f g) ∙ sym named)

behind_agrees : (t : List ℕ) → all_text t ≡ true → Agrees (seek 0 rows_behind t) (47 ∷ t)
behind_agrees t = by_cut (λ s. all_text s ≡ true → Agrees (seek 0 rows_behind s) (47 ∷ s)) one more t
  where
    one : (x : List ℕ) → has_slash x ≡ false → all_text x ≡ true → Agrees (seek 0 rows_behind x) (47 ∷ x)
    one x h a =
        let named = route_is x a ∙ ap route_among (parts_last x h) in
        agree (47 ∷ x) (seek 0 rows_behind x) None (word_alone rows_behind x refl h) (among_none (x ∷ []) refl ∙ sym named)

    more : (x u : List ℕ) → has_slash x ≡ false → all_text (x ++ 47 ∷ u) ≡ true → Agrees (seek 0 rows_behind (x ++ 47 ∷ u)) (47 ∷ (x ++ 47 ∷ u))
    more x u h a = agree (47 ∷ (x ++ 47 ∷ u)) (seek 0 rows_behind (x ++ 47 ∷ u)) (seek 0 (follow x rows_behind) u) (word_more rows_behind x u refl h) (word_agrees x u h a)

pub target_agrees : (path : List ℕ) → IsUtf8 path → Agrees (seek 0 forms path) path
unfolding seek route_in
target_agrees [] h = refl
target_agrees (b ∷ t) h = by (b == 47) refl
  where
    by : (v : Bool) → (b == 47) ≡ v → Agrees (seek 0 forms (b ∷ t)) (b ∷ t)
    by true e =
        let is : b ≡ 47 = grind (arith, nat_tests) in
        subst (λ c. Agrees (seek 0 forms (c ∷ t)) (c ∷ t)) (sym is) (agree (47 ∷ t) (seek 0 forms (47 ∷ t)) (seek 0 rows_behind t) (seek_byte forms 47 t refl refl) (behind_agrees t (text_is (47 ∷ t) (subst (λ c. IsUtf8 (c ∷ t)) is h))))
    by false e =
        let other : (47 == b) ≡ false = grind (arith, nat_tests) in
        let none : step b forms ≡ [] = rw other (refl {a = []}) in
        let named : None ≡ route_in (b ∷ t) = sym (ap (λ (v : Bool). cond (v && is_utf8 t) (route_among (parts t)) None) e) in
        agree (b ∷ t) (seek 0 forms (b ∷ t)) None (seek_byte forms b t refl refl ∙ ap (λ (rs : RowsOf (RouteOf Form)). seek 0 rs t) none ∙ seek_none 0 t) named
