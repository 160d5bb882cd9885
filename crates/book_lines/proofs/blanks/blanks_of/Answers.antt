use Rattle.book_lines.proofs.blanks.blanks_of.Goals as goal

pub returns-then-not-has_product-clause-account : goal.returns-then-not-has_product-clause-account
returns-then-not-has_product-clause-account c = λ contents sound same.
    c.sums_are_accounts.ensures c.args.tables.now contents c.args.product.now c.requires sound same

pub returns-in_err-text-clause-account : goal.returns-in_err-text-clause-account
returns-in_err-text-clause-account c = λ contents sound same.
    c.sums_are_accounts.ensures c.args.tables.now contents c.args.product.now c.requires sound same
