-- Lemmas about the connections in memory that were taken back.
use Rattle.std.proofs.Common.{◌≡◌, ℕ, zero, suc, ◌<◌, List, [], ◌∷◌, ◌++◌, length, drop, Some, refl, ap, sym, arith}
use Rattle.std.proofs.lemmas.List.{map-append}
use Rattle.std.specs.Prelude.{get_or, set, Vec}
use Rattle.std.specs.declared.alloc.Global.{Global}
use Rattle.server.specs.declared.memory.Replied.{Replied}
use Rattle.server.specs.Exchanges.{moved}
use Rattle.server.specs.Memory.{entry, queue_with, texts}

-- the input at index `n` is the first of those to come
pub comes_first : (inputs : List (Vec ℕ Global)) (n : ℕ) (v : Vec ℕ Global) → n < length inputs → v ≡ get_or inputs n v → drop n (texts inputs) ≡ v.items ∷ drop (suc n) (texts inputs)
comes_first [] n v lt is = absurd (omega (arith, lt))
comes_first (x ∷ inputs) zero v lt is = ap (λ (u : Vec ℕ Global). u.items ∷ texts inputs) (sym is)
comes_first (x ∷ inputs) (suc n) v lt is = comes_first inputs n v (omega (arith, lt)) is

-- after one more reply, the next input is the first to come, even if the input before it was
-- replaced
coming_push : (inputs : List (Vec ℕ Global)) (replies : List Replied) (r : Replied) (v : Vec ℕ Global)
    → drop (length (replies ++ r ∷ [])) (texts (set inputs (length replies) v)) ≡ drop 1 (drop (length replies) (texts inputs))
coming_push [] [] r v = refl
coming_push [] (s ∷ replies) r v = refl
coming_push (x ∷ inputs) [] r v = refl
coming_push (x ∷ inputs) (s ∷ replies) r v = coming_push inputs replies r v

-- the connection that is taken back brought the input at its index
pub queue_moves : (inputs : List (Vec ℕ Global)) (replies : List Replied) (r : Replied) (v : Vec ℕ Global)
    → length replies < length inputs → r.input ≡ get_or inputs (length replies) r.input
    → queue_with (set inputs (length replies) v) (replies ++ r ∷ []) ≡ moved (Some r.written.items) r.served (queue_with inputs replies)
queue_moves inputs replies r v lt is = rw (coming_push inputs replies r v, map-append entry replies (r ∷ []), comes_first inputs (length replies) r.input lt is)
