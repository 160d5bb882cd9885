-- The bytes of an input, and those from a reader that was asked for at most `limit` bytes.
use Rattle.std.proofs.Common.{ℕ, ◌<◌, ◌≤◌, List, [], length, take, Option, Some, None, option_map, unwrap_or, refl, sym, ap, ◌∙◌, arith}
use Rattle.std.proofs.lemmas.List.{length-take, take_all}
use Rattle.text_io.specs.Inputs.{Agrees}

-- Every input has some bytes.
pub agrees_some : (known : Option (List ℕ)) → Agrees known (unwrap_or known [])
agrees_some None = tt
agrees_some (Some all) = refl

pub agrees_whole : (known : Option (List ℕ)) (limit : ℕ) (items : List ℕ) → Agrees (option_map (take limit) known) items → length items < limit → Agrees known items
agrees_whole None limit items read few = tt
agrees_whole (Some all) limit items read few =
    sym (take_all limit all (omega (arith, ap length read, length-take limit all))) ∙ read

pub agrees_over : (known : Option (List ℕ)) (limit : ℕ) (items : List ℕ) → Agrees (option_map (take limit) known) items → limit ≤ length items
    → (raw : List ℕ) × Agrees known raw × (limit ≤ length raw)
agrees_over None limit items read many = (items, tt, many)
agrees_over (Some all) limit items read many = (all, refl, omega (arith, ap length read, length-take limit all))
