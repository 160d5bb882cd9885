use Rattle.std.proofs.Common.{◌≡◌, rules, ap, sym, ◌<◌, ◌^◌}
use Rattle.job_facts.specs.declared.rows.SessionRow.{SessionRow}
use Rattle.job_facts.specs.Facts.{Facts, Session}
use Rattle.job_facts.specs.Rows.{session_row}
use Rattle.job_facts.proofs.RunningLemmas.{good_word, next_word, spoiled_word}
use Rattle.job_core.proofs.decision.sessions.took_word.Goals as goal

-- The row names the record of its session.
of_batch : (f : Facts) (x : Session) (row : SessionRow) → row ≡ session_row f x → x.batch ≡ row.batch
of_batch f x row is = ap (λ (r : SessionRow). r.batch) (sym is)

of_record : (f : Facts) (x : Session) (row : SessionRow) → row ≡ session_row f x → x.rec ≡ row.rec
of_record f x row is = ap (λ (r : SessionRow). r.rec) (sym is)

pub returns-in-None-default : goal.returns-in-None-default
returns-in-None-default c = λ f x plan sound is row index went hands.
    let own = c.args.row.now in
    let sw = c.args.word.sw in
    let small : sw < 2 ^ 16 = search rules in
    let stops = rw (index, c.in-None-default.is-0) at went in
    let made = spoiled_word f c.args.word.session sw x plan own.batch own.rec (of_batch f x own row) (of_record f x own row) sound is small own.cursor stops (ap (λ (r : SessionRow). r.cursor) row) in
    rw (c.adds_word.ensures, c.unwrap_or.ensures, c.in-None-default.is-0, index) made

pub returns-in-Some-None : goal.returns-in-Some-None
returns-in-Some-None c = λ f x plan sound is row index went hands.
    let own = c.args.row.now in
    let sw = c.args.word.sw in
    let next = c.in-Some-None.field-0-0 in
    let small : sw < 2 ^ 16 = search rules in
    let goes = rw (index, c.in-Some-None.is-0) at went in
    let last = rw (index, c.in-Some-None.is-0, c.in-Some-None.is-1) at hands in
    let made = good_word f c.args.word.session sw x plan own.batch own.rec (of_batch f x own row) (of_record f x own row) sound is small goes.0 next goes.1 last in
    rw (c.adds_word-in-Some-None.ensures, c.unwrap_or.ensures, c.in-Some-None.is-0, index) made

pub returns-in-Some-Some : goal.returns-in-Some-Some
returns-in-Some-Some c = λ f x plan sound is row index went hands.
    let own = c.args.row.now in
    let sw = c.args.word.sw in
    let next = c.in-Some-Some.field-0-0 in
    let command = c.in-Some-Some.command in
    let small : sw < 2 ^ 16 = search rules in
    let goes = rw (index, c.in-Some-Some.is-0) at went in
    let more = rw (index, c.in-Some-Some.is-0, c.in-Some-Some.is-1) at hands in
    let made = next_word f c.args.word.session sw x plan own.batch own.rec (of_batch f x own row) (of_record f x own row) sound is small goes.0 next goes.1 command more in
    rw (c.adds_word-in-Some-Some.ensures, c.unwrap_or.ensures, c.from.ensures, c.in-Some-Some.is-0, index) made
