use Rattle.book_lines.proofs.AccountLemmas.{account_is}
use Rattle.book_lines.proofs.blanks.sums_are_accounts.Goals as goal

pub returns : goal.returns
returns c = λ t contents p book sound same. account_is t contents book.audited sound.facts same p
