use Rattle.row_laws.proofs.SessionRows.{place_of_session, row_in_rows, rows_there, session_at, session_once}
use Rattle.row_laws.proofs.sessions.sessions_by_number.Goals as goal

pub returns : goal.returns
returns call = record {
  once = session_once;
  found = session_at;
  row = λ f id sound. row_in_rows f sound id;
  place = λ f id s b r sound. place_of_session f sound id s b r;
  there = λ f id x sound. rows_there f sound id x;
}
