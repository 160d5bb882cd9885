use Rattle.std.proofs.Common.{◌+◌, ◌≤◌, length, refl, arith}
use Rattle.text_io.proofs.Limits.{agrees_whole}
use Rattle.text_io.proofs.reading.read_within.Goals as goal

pub returns : goal.returns
returns g c =
    let read = rw (c.take-limited.ensures.limit, c.take-limited.ensures.inner) at c.in_ok-raw.ensures in
    let few : length c.in_ok-raw.raw.items ≤ c.args.most = omega (arith, c.in_ok-raw.raw.ok.0, c.len.ensures, c.from-2.ensures, c.if-len-from.false) in (
      c.in_ok-raw.raw.items,
      agrees_whole (g.R.Read.remaining c.args.reader.now) (c.from.result + 1) c.in_ok-raw.raw.items read (omega (arith, c.from.ensures)),
      (refl, few),
    )
