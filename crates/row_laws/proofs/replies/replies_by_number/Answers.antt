use Rattle.row_laws.proofs.ReplyRows.{mark_once, marks_named, reply_once}
use Rattle.row_laws.proofs.replies.replies_by_number.Goals as goal

pub returns : goal.returns
returns call = record {
  once = λ c client number sound. reply_once c sound client number;
  mark_once = λ c client sound. mark_once c sound client;
  marks_named = marks_named;
}
