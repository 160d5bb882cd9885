use Rattle.std.proofs.Common.{inl, inr}
use Rattle.persod.proofs.end_of_run.Goals as goal

pub returns-in-Ok : goal.returns-in-Ok
returns-in-Ok g c = inl (c.level_by.result, c.in-Ok.words, c.in-Ok.ensures, c.obey.ensures)

pub returns-in-Err : goal.returns-in-Err
returns-in-Err g c = inr (c.in-Err.fault, c.is_ok.result, c.end_of_words.ensures)
