use Rattle.std.proofs.Common.{codes}
use Rattle.clap.specs.Words.{found_of, rows_of}
use Rattle.book_arguments.proofs.ReadLemmas.{asked_as, unread_as}
use Rattle.book_arguments.proofs.words.ask_of.Goals as goal

pub returns-in-cards-clause-meaning : goal.returns-in-cards-clause-meaning
returns-in-cards-clause-meaning c =
    asked_as (rows_of (found_of c.args.values.now)) c.args.name.now (codes "cards") c.in-cards.is c.cards_of.result c.cards_of.ensures.meaning

pub returns-in-cards-clause-unread : goal.returns-in-cards-clause-unread
returns-in-cards-clause-unread c =
    unread_as (rows_of (found_of c.args.values.now)) c.args.name.now (codes "cards") c.in-cards.is c.cards_of.result c.cards_of.ensures.unread

pub returns-in-blanks-clause-meaning : goal.returns-in-blanks-clause-meaning
returns-in-blanks-clause-meaning c =
    asked_as (rows_of (found_of c.args.values.now)) c.args.name.now (codes "blanks") c.in-blanks.is c.blanks_of.result c.blanks_of.ensures.meaning

pub returns-in-blanks-clause-unread : goal.returns-in-blanks-clause-unread
returns-in-blanks-clause-unread c =
    unread_as (rows_of (found_of c.args.values.now)) c.args.name.now (codes "blanks") c.in-blanks.is c.blanks_of.result c.blanks_of.ensures.unread

pub returns-in-sheet-clause-meaning : goal.returns-in-sheet-clause-meaning
returns-in-sheet-clause-meaning c =
    asked_as (rows_of (found_of c.args.values.now)) c.args.name.now (codes "sheet") c.in-sheet.is c.sheet_of.result c.sheet_of.ensures.meaning

pub returns-in-sheet-clause-unread : goal.returns-in-sheet-clause-unread
returns-in-sheet-clause-unread c =
    unread_as (rows_of (found_of c.args.values.now)) c.args.name.now (codes "sheet") c.in-sheet.is c.sheet_of.result c.sheet_of.ensures.unread
