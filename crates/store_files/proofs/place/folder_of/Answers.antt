use Rattle.std.proofs.Common.{◌≡◌, Some, None, refl, arith}
use Rattle.std.specs.Prelude.{slice_range}
use Rattle.std.proofs.lemmas.Bool.{ne_eqb}
use Rattle.std.proofs.lemmas.Str.Pattern.{rfind_char}
use Rattle.store_files.proofs.place.folder_of.Goals as goal

pub returns-in_default : goal.returns-in_default
returns-in_default c = (None, rw c.in_default.is at (rfind_char 47 c.args.path.now c.rfind.result c.rfind.ensures.cases (omega arith)), refl)

pub returns-then-end-eq0 : goal.returns-then-end-eq0
returns-then-end-eq0 c =
    (Some c.in-Some.end, rw c.in-Some.is at (rfind_char 47 c.args.path.now c.rfind.result c.rfind.ensures.cases (omega arith)), rw c.if-end-eq0.true refl)

pub returns-else-end-eq0 : goal.returns-else-end-eq0
returns-else-end-eq0 c =
    let cut : c.range.result.now ≡ slice_range c.args.path.now 0 c.in-Some.end = c.range.ensures.value in (
      Some c.in-Some.end,
      rw c.in-Some.is at (rfind_char 47 c.args.path.now c.rfind.result c.rfind.ensures.cases (omega arith)),
      rw (ne_eqb c.in-Some.end 0 (λ none. absurd (omega (arith, none, c.if-end-eq0.false)))) cut,
    )
