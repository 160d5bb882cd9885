-- Proves the values of a route's parameters.
use Rattle.std.proofs.Common.{◌≡◌, ℕ, suc, ◌+◌, ◌-◌, ◌≤◌, ◌==◌, ltb, Bool, true, false, cond, List, [], ◌∷◌, ◌++◌, length, drop, get_or, sym, ap, ◌∙◌, arith, length-append, append_assoc}
use Rattle.std.specs.Prelude.{◌&&◌, leb}
use Rattle.std.specs.List.{list_all}
use Rattle.std.proofs.Math.Seq.{drop-append_seam, take-append_seam, take-length}
use Rattle.std.proofs.lemmas.Bool.{and_parts}
use Rattle.std.proofs.lemmas.Bool.Decides.{nat_tests}
use Rattle.matchit.specs.Seek.{has_slash, segment}
use Rattle.matchit.specs.Params.{after_token, part_of, walk, wild_from, wild_stop}
use Rattle.http_requests.proofs.RowLemmas.{segment_more}

-- none of the tokens is a parameter
abbrev pub are_bytes : List ℕ → Bool
are_bytes w = list_all (λ x. ltb x 256) w

wild_at : (w after : List ℕ) (len token at : ℕ) → are_bytes w ≡ true → at + length w ≤ len → wild_from (w ++ 256 ∷ after) len token at ≡ (token + length w, at + length w)
wild_at [] after len token at h fits = let a : token ≡ token + 0 = omega arith in let b : at ≡ at + 0 = omega arith in λ i. (a i, b i)
wild_at (x ∷ w) after len token at h fits =
    let both = and_parts (ltb x 256) (are_bytes w) h in
    let some : ltb at len ≡ true = grind (arith, nat_tests, fits) in
    let a : (token + 1) + length w ≡ token + suc (length w) = omega arith in
    let b : (at + 1) + length w ≡ at + suc (length w) = omega arith in
    (λ i. cond (both.0 i) (wild_from (w ++ 256 ∷ after) len (token + 1) (cond (some i) (at + 1) at)) (token, at))
    ∙ wild_at w after len (token + 1) (at + 1) both.1 (omega (arith, fits)) ∙ (λ i. (a i, b i))

part_between : (x y z : List ℕ) → part_of (x ++ (y ++ z)) (length x) (length (x ++ y)) ≡ y
part_between x y z =
    let long = length-append x y in
    let all = length-append x (y ++ z) in
    let more = length-append y z in
    let one : leb (length x) (length (x ++ y)) ≡ true = grind (arith, nat_tests, long) in
    let two : leb (length (x ++ y)) (length (x ++ (y ++ z))) ≡ true = grind (arith, nat_tests, long, all, more) in
    let size : length (x ++ y) - length x ≡ length y = omega (arith, long) in
    rw (one, two, size, drop-append_seam x (y ++ z)) (take-append_seam y z)

part_end : (x y : List ℕ) → part_of (x ++ y) (length x) (length (x ++ y)) ≡ y
part_end x y =
    let long = length-append x y in
    let one : leb (length x) (length (x ++ y)) ≡ true = grind (arith, nat_tests, long) in
    let two : leb (length (x ++ y)) (length (x ++ y)) ≡ true = grind (arith, nat_tests) in
    let size : length (x ++ y) - length x ≡ length y = omega (arith, long) in
    rw (one, two, size, drop-append_seam x y) (take-length y)

-- the token is a parameter, and tokens follow it
abbrev pub goes_on : List ℕ → ℕ → Bool
goes_on pattern token = ltb token (length pattern) && (get_or pattern token 0 == 256) && ltb (token + 1) (length pattern)

-- `walk` from the start of the segment with the parameter `name`
walk_from : (pattern text path : List ℕ) (name : ℕ × ℕ) (names : List (ℕ × ℕ)) (token at next start stop : ℕ) → wild_from (drop token pattern) (length path) token at ≡ (next, start)
    → wild_stop pattern next path start ≡ stop
    → walk pattern text path (name ∷ names) token at ≡ (part_of text name.0 name.1, part_of path start stop) ∷ walk pattern text path names (after_token next) stop
walk_from pattern text path name names token at next start stop from to =
    ap (λ (q : ℕ × ℕ). (part_of text name.0 name.1, part_of path q.1 (wild_stop pattern q.0 path q.1)) ∷ walk pattern text path names (after_token q.0) (wild_stop pattern q.0 path q.1)) from
    ∙ ap (λ (e : ℕ). (part_of text name.0 name.1, part_of path start e) ∷ walk pattern text path names (after_token next) e) to

-- a name that ends at a slash
pub walk_more : (pattern text path : List ℕ) (name : ℕ × ℕ) (names : List (ℕ × ℕ)) (token : ℕ) (x w after y z : List ℕ) → path ≡ x ++ (w ++ (y ++ 47 ∷ z)) → has_slash y ≡ false
    → are_bytes w ≡ true → drop token pattern ≡ w ++ 256 ∷ after → goes_on pattern (token + length w) ≡ true → length (segment (drop (token + length w + 1) pattern)) ≡ 1
    → walk pattern text path (name ∷ names) token (length x) ≡ (part_of text name.0 name.1, y) ∷ walk pattern text path names (after_token (token + length w)) (length (x ++ (w ++ y)))
walk_more pattern text path name names token x w after y z is bare bytes tokens on suffix =
    let lead = x ++ w in
    let cut : path ≡ lead ++ (y ++ 47 ∷ z) = is ∙ sym (append_assoc x w (y ++ 47 ∷ z)) in
    let whole : length path ≡ length lead + length (y ++ 47 ∷ z) = ap length cut ∙ length-append lead (y ++ 47 ∷ z) in
    let long : length lead ≡ length x + length w = length-append x w in
    let from : wild_from (drop token pattern) (length path) token (length x) ≡ (token + length w, length lead) =
    ap (λ (p : List ℕ). wild_from p (length path) token (length x)) tokens ∙ wild_at w after (length path) token (length x) bytes (omega (arith, whole, long)) ∙ (λ i. (token + length w, sym long i)) in
    let behind : drop (length lead) path ≡ y ++ 47 ∷ z = ap (drop (length lead)) cut ∙ drop-append_seam lead (y ++ 47 ∷ z) in
    let seg : length (segment (drop (length lead) path)) ≡ length y + 1 = ap (λ (t : List ℕ). length (segment t)) behind ∙ ap length (segment_more y z bare) ∙ length-append y (47 ∷ []) in
    let ends : length (lead ++ y) ≡ length lead + length y = length-append lead y in
    let stop_at : length lead + (length y + 1) - 1 ≡ length (lead ++ y) = omega (arith, ends) in
    let stop : wild_stop pattern (token + length w) path (length lead) ≡ length (lead ++ y) =
    (λ i. cond (on i) (length lead + seg i - suffix i) (length path)) ∙ stop_at in
    let part : part_of path (length lead) (length (lead ++ y)) ≡ y = ap (λ (p : List ℕ). part_of p (length lead) (length (lead ++ y))) cut ∙ part_between lead y (47 ∷ z) in
    walk_from pattern text path name names token (length x) (token + length w) (length lead) (length (lead ++ y)) from stop
    ∙ (λ i. (part_of text name.0 name.1, part i) ∷ walk pattern text path names (after_token (token + length w)) (length (append_assoc x w y i)))

-- a name that ends the path
pub walk_last : (pattern text path : List ℕ) (name : ℕ × ℕ) (token : ℕ) (x w after y : List ℕ) → path ≡ x ++ (w ++ y)
    → are_bytes w ≡ true → drop token pattern ≡ w ++ 256 ∷ after → goes_on pattern (token + length w) ≡ false
    → walk pattern text path (name ∷ []) token (length x) ≡ (part_of text name.0 name.1, y) ∷ []
walk_last pattern text path name token x w after y is bytes tokens off =
    let lead = x ++ w in
    let cut : path ≡ lead ++ y = is ∙ sym (append_assoc x w y) in
    let whole : length path ≡ length lead + length y = ap length cut ∙ length-append lead y in
    let long : length lead ≡ length x + length w = length-append x w in
    let from : wild_from (drop token pattern) (length path) token (length x) ≡ (token + length w, length lead) =
    ap (λ (p : List ℕ). wild_from p (length path) token (length x)) tokens ∙ wild_at w after (length path) token (length x) bytes (omega (arith, whole, long)) ∙ (λ i. (token + length w, sym long i)) in
    let stop : wild_stop pattern (token + length w) path (length lead) ≡ length path =
    ap (λ (v : Bool). cond v (length lead + length (segment (drop (length lead) path)) - length (segment (drop (token + length w + 1) pattern))) (length path)) off in
    let part : part_of path (length lead) (length path) ≡ y = ap (λ (p : List ℕ). part_of p (length lead) (length p)) cut ∙ part_end lead y in
    walk_from pattern text path name [] token (length x) (token + length w) (length lead) (length path) from stop ∙ (λ i. (part_of text name.0 name.1, part i) ∷ [])
