use Rattle.book_lines.proofs.machines.machines_text.Goals as goal

pub returns-in_err-rows-clause-machines : goal.returns-in_err-rows-clause-machines
returns-in_err-rows-clause-machines c = λ contents client sound same. c.lines_are_of_machines.ensures c.args.tables.now contents client sound same

pub returns-in_err-push_machines-clause-machines : goal.returns-in_err-push_machines-clause-machines
returns-in_err-push_machines-clause-machines c = λ contents client sound same. c.lines_are_of_machines.ensures c.args.tables.now contents client sound same

pub returns-clause-machines : goal.returns-clause-machines
returns-clause-machines c = λ contents client sound same. c.lines_are_of_machines.ensures c.args.tables.now contents client sound same
