use Rattle.book_lines.proofs.LotLemmas.{few_blanks}
use Rattle.book_lines.proofs.blanks.blanks_text.Goals as goal

pub push_sums-requires : goal.push_sums-requires
push_sums-requires c = few_blanks c.args.tables.now c.requires.audited
