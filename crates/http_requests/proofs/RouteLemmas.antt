-- Lemmas about the segments of a path, and about the expected result of the router.
use Rattle.std.proofs.Common.{◌≡◌, ℕ, ◌==◌, Bool, true, false, cond, List, [], ◌∷◌, ◌++◌, length, get_or, Option, Some, None, refl, sym, ap, subst, ◌∙◌, arith, inl, inr, ltb}
use Rattle.std.specs.Prelude.{◌&&◌, ◌<◌, ◌+◌, ◌/◌, ◌≤◌, ◌⊎◌, slice_index, if◌then◌else◌, nat_lt}
use Rattle.std.specs.Str.{IsCharBoundary, IsUtf8, is_utf8}
use Rattle.std.specs.Char.{is_ascii}
use Rattle.std.proofs.lemmas.Bool.{and_parts}
use Rattle.std.proofs.lemmas.Bool.Decides.{nat_tests}
use Rattle.std.proofs.Math.Seq.{drop-append_seam, get_or-drop, take-append_seam}
use Rattle.std.proofs.Math.Utf8.{encode, encodes, scalar, scalar_cases, scalars}
use Rattle.std.proofs.lemmas.List.{length-append}
use Rattle.std.proofs.lemmas.Str.Ascii.{IsAscii-cons, IsAscii-nil}
use Rattle.std.proofs.lemmas.Str.{IsUtf8-append, IsUtf8-drop, IsUtf8-from_ascii, IsUtf8-from_is_utf8, IsUtf8-nil, IsUtf8-past_char, IsUtf8-take, encode_ascii, is_utf8-from_IsUtf8}
use Rattle.matchit.specs.Params.{AllText, walk}
use Rattle.matchit.specs.Router.{RouteOf}
use Rattle.matchit.specs.Seek.{has_slash}
use Rattle.http_requests.specs.declared.route.Form.{Form}
use Rattle.http_requests.specs.RouterRows.{built}
use Rattle.http_requests.specs.Routes.{Route, has_no_empty, led, parts, route_among, route_by, route_in}
use Rattle.http_requests.proofs.RowLemmas.{no_slash}

-- ---- UTF-8

-- the text is UTF-8, tested byte by byte as long as the bytes are ASCII
abbrev pub all_text : List ℕ → Bool
all_text [] = true
all_text (b ∷ bs) = if is_ascii b then all_text bs else is_utf8 (b ∷ bs)

one_ascii : (b : ℕ) → b < 128 → IsUtf8 (b ∷ [])
one_ascii b low = IsUtf8-from_ascii (b ∷ []) (IsAscii-cons b [] low IsAscii-nil)

pub utf8 : (x : List ℕ) → all_text x ≡ true → IsUtf8 x
utf8 [] h = IsUtf8-nil
utf8 (b ∷ x) h = by (is_ascii b) refl h (utf8 x)
  where
    by : (v : Bool) → is_ascii b ≡ v → cond v (all_text x) (is_utf8 (b ∷ x)) ≡ true → (all_text x ≡ true → IsUtf8 x) → IsUtf8 (b ∷ x)
    by true e t behind = let low : b < 128 = grind (arith, nat_tests, e) in IsUtf8-append (b ∷ []) x (one_ascii b low) (behind t)
    by false e t behind = IsUtf8-from_is_utf8 (b ∷ x) t

pub text_is : (x : List ℕ) → IsUtf8 x → all_text x ≡ true
text_is [] u = refl
text_is (b ∷ x) u = by (is_ascii b) refl (text_is x)
  where
    by : (v : Bool) → is_ascii b ≡ v → (IsUtf8 x → all_text x ≡ true) → cond v (all_text x) (is_utf8 (b ∷ x)) ≡ true
    by true e behind = let low : b < 128 = grind (arith, nat_tests, e) in behind (IsUtf8-past_char (b ∷ x) x b u (ap (λ l. l ++ x) (sym (encode_ascii b low))))
    by false e behind = is_utf8-from_IsUtf8 (b ∷ x) u

slash : IsUtf8 (47 ∷ [])
slash = one_ascii 47 (omega arith)

pub text_cut : (x u : List ℕ) → all_text (x ++ 47 ∷ u) ≡ true → (all_text x ≡ true) × (all_text u ≡ true)
text_cut x u h =
    let whole = utf8 (x ++ 47 ∷ u) h in
    let after = drop-append_seam x (47 ∷ u) in
    let place : length x ≡ length x + 0 = omega arith in
    let byte : slice_index (x ++ 47 ∷ u) (length x) ≡ 47 =
    ap (λ (n : ℕ). get_or (x ++ 47 ∷ u) n 0) place ∙ sym (get_or-drop (length x) (x ++ 47 ∷ u) 0 0) ∙ ap (λ (l : List ℕ). get_or l 0 0) after in
    let at : IsCharBoundary (x ++ 47 ∷ u) (length x) = (omega (arith, length-append x (47 ∷ u)), λ i low. absurd (omega (arith, low, byte))) in
    let behind : IsUtf8 (47 ∷ u) = subst IsUtf8 after (IsUtf8-drop (x ++ 47 ∷ u) (length x) whole at) in
    let front : IsUtf8 x = subst IsUtf8 (take-append_seam x (47 ∷ u)) (IsUtf8-take (x ++ 47 ∷ u) (length x) whole at) in
    (text_is x front, text_is (47 ∷ u) behind)

pub text_join : (x u : List ℕ) → all_text x ≡ true → all_text u ≡ true → all_text (x ++ 47 ∷ u) ≡ true
text_join x u h g = text_is (x ++ 47 ∷ u) (IsUtf8-append x (47 ∷ u) (utf8 x h) (IsUtf8-append (47 ∷ []) u slash (utf8 u g)))

-- the first element of a character's encoding is a byte
first_byte : (c : ℕ) (r : List ℕ) → c < 1114112 → get_or (encode c ++ r) 0 0 < 256
unfolding encode
first_byte c r h = by (ltb c 128) refl (ltb c 2048) refl (ltb c 65536) refl _ _ _
  where
    by : (p : Bool) → ltb c 128 ≡ p → (q : Bool) → ltb c 2048 ≡ q → (s : Bool) → ltb c 65536 ≡ s → (two three four : List ℕ)
        → get_or (cond p (c ∷ []) (cond q ((192 + c / 64) ∷ two) (cond s ((224 + c / 4096) ∷ three) ((240 + c / 262144) ∷ four))) ++ r) 0 0 < 256
    by true e q f s g two three four = let low : c < 128 = grind (arith, nat_tests, e) in omega (arith, low)
    by false e true f s g two three four = let low : c < 2048 = grind (arith, nat_tests, f) in omega (arith, low)
    by false e false f true g two three four = let low : c < 65536 = grind (arith, nat_tests, g) in omega (arith, low)
    by false e false f false g two three four = omega (arith, h)

below : (c : ℕ) → (c < 55296) ⊎ ((57344 ≤ c) × (c < 1114112)) → c < 1114112
below c (inl h) = omega (arith, h)
below c (inr h) = h.1

byte_of : (b : ℕ) (x : List ℕ) → IsUtf8 (b ∷ x) → b < 256
byte_of b x u = by u.0 u.1.0 u.1.1
  where
    by : (cs : List ℕ) → scalars cs ≡ true → encodes cs ≡ b ∷ x → b < 256
    by [] s e = absurd (omega (arith, ap length e))
    by (c ∷ cs) s e = subst (λ (n : ℕ). n < 256) (ap (λ (t : List ℕ). get_or t 0 0) e) (first_byte c (encodes cs) (below c (scalar_cases c (and_parts (scalar c) (scalars cs) s).0)))

pub no_token : (b : ℕ) (x : List ℕ) → all_text (b ∷ x) ≡ true → (256 == b) ≡ false
no_token b x h = let f = byte_of b x (utf8 (b ∷ x) h) in grind (arith, nat_tests, f)

-- ---- segments

pub parts_last : (x : List ℕ) → has_slash x ≡ false → parts x ≡ x ∷ []
parts_last [] h = refl
parts_last (b ∷ x) h = let f = no_slash b x h in (λ i. cond (f.0 i) ([] ∷ parts x) (led b (parts x))) ∙ ap (led b) (parts_last x f.1)

pub parts_more : (x u : List ℕ) → has_slash x ≡ false → parts (x ++ 47 ∷ u) ≡ x ∷ parts u
parts_more [] u h = refl
parts_more (b ∷ x) u h = let f = no_slash b x h in (λ i. cond (f.0 i) ([] ∷ parts (x ++ 47 ∷ u)) (led b (parts (x ++ 47 ∷ u)))) ∙ ap (led b) (parts_more x u f.1)

pub parts_some : (text : List ℕ) → (part : List ℕ) × (ps : List (List ℕ)) × (parts text ≡ part ∷ ps)
parts_some [] = ([], [], refl)
parts_some (b ∷ text) =
    let h = parts_some text in
    elim (b == 47) as (λ t. (part : List ℕ) × (ps : List (List ℕ)) × (cond t ([] ∷ parts text) (led b (parts text)) ≡ part ∷ ps)) [
      | true ↦ ([], parts text, refl)
      | false ↦ (b ∷ h.0, h.1, ap (led b) h.2)
    ]

pub some : (b : ℕ) (x : List ℕ) → nat_lt 0 (length (b ∷ x)) ≡ true
some b x = grind (arith, nat_tests)

-- a path whose segments have no route
pub among_none : (ps : List (List ℕ)) → route_by ps ≡ None → None ≡ route_among ps
among_none ps h = rw h (elim (has_no_empty ps) as (λ t. None ≡ cond {A = Option Route} t None None) [ true ↦ refl | false ↦ refl ])

pub route_is : (text : List ℕ) → all_text text ≡ true → route_in (47 ∷ text) ≡ route_among (parts text)
unfolding route_in
route_is text h = ap (λ (t : Bool). cond t (route_among (parts text)) None) (is_utf8-from_IsUtf8 text (utf8 text h))

pub no_route : (target : List ℕ) → ¬ (IsUtf8 target) → None ≡ route_in target
unfolding route_in
no_route [] h = refl
no_route (b ∷ rest) h = by (b == 47) refl (is_utf8 rest) refl
  where
    by : (v : Bool) → (b == 47) ≡ v → (w : Bool) → is_utf8 rest ≡ w → None ≡ cond (v && w) (route_among (parts rest)) None
    by false e w f = refl
    by true e false f = refl
    by true e true f =
        let is : b ≡ 47 = grind (arith, nat_tests, e) in
        absurd (h (subst (λ c. IsUtf8 (c ∷ rest)) (sym is) (IsUtf8-append (47 ∷ []) rest slash (IsUtf8-from_is_utf8 rest f))))

-- ---- the result of the router

abbrev pub Agrees : Option (RouteOf Form) → List ℕ → Type 0
Agrees None path = None ≡ route_in path
Agrees (Some r) path = AllText (walk r.pattern r.text path r.names 0 0) × (built r.value (walk r.pattern r.text path r.names 0 0) ≡ route_in path)

pub found : (r : RouteOf Form) (path : List ℕ) (ps : List (List ℕ × List ℕ)) → walk r.pattern r.text path r.names 0 0 ≡ ps → AllText ps → built r.value ps ≡ route_in path → Agrees (Some r) path
found r path ps w text is = (subst AllText (sym w) text, ap (built r.value) w ∙ is)

pub agree : (path : List ℕ) (a b : Option (RouteOf Form)) → a ≡ b → Agrees b path → Agrees a path
agree path a b e h = subst (λ r. Agrees r path) (sym e) h
