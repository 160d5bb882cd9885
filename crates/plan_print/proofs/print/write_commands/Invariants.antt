use Rattle.std.proofs.Common.{◌≡◌, take, Some}
use Rattle.std.specs.Io.KnownBytes.{Appends}
use Rattle.std.specs.List.{flat_map}
use Rattle.hex.specs.Hex.{encode_upper}
use Rattle.store_data.specs.Cursor.{cursor_at}
use Rattle.store_data.specs.Sequence.{sequence}
use Rattle.text_io.specs.Written.{line}
use Rattle.plan_print.proofs.print.write_commands.Given as goal

abbrev pub invariant-loop : goal.invariant-loop
invariant-loop g l = record {
  at : cursor_at l.plan l.counter ≡ Some l.cursor;
  written : Appends (g.W.Write.contents l.fn.writer) (g.W.Write.contents l.writer) (flat_map (λ command. line (encode_upper command)) (take l.counter (sequence l.plan)));
}
