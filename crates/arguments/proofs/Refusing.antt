-- Lemmas: from what `clap` finds in the arguments of a program to their meaning or their refusal.
use Rattle.std.proofs.Common.{◌≡◌, List, [], true, inl, subst}
use Rattle.std.specs.Prelude.{Option}
use Rattle.clap.specs.Words.{App, HasMatchesOf, Row, Text, fault_of, is_simple, subcommand_of, subcommand_rows_of}
use Rattle.clap.specs.declared.parser.matches.ArgMatches.{ArgMatches}
use Rattle.arguments.specs.Words.{IsRefusalOf, IsRefusedBy}
use Rattle.arguments.specs.declared.words.ValueFault.{ValueFault}
use Rattle.arguments.specs.declared.words.WordsFault.{WordsFault}
use Rattle.arguments.specs.declared.words.WordsFault.TheVariants.{Help, Version, Usage, NotText, BadName, Memory}

module _ (program : App) (Unread : Option (Text × List Row) → ValueFault → Type 0) (words : List Text) where
  refused : (fault : WordsFault) → IsRefusedBy (fault_of program words) fault → IsRefusalOf program Unread words fault
  refused (Help text) by = by
  refused (Version text) by = by
  refused (Usage text) by = inl by
  refused NotText by = by
  refused BadName by = elim by [ ]
  refused Memory by = tt

  module _ (app : App) (is : app ≡ program) where
    -- `clap` refuses the arguments
    pub clap_refuses : (fault : WordsFault) → IsRefusedBy (fault_of app words) fault → IsRefusalOf program Unread words fault
    clap_refuses fault by = refused fault (subst (λ (a : App). IsRefusedBy (fault_of a words) fault) is by)

    -- `clap` accepts the arguments
    pub is_accepted : fault_of app words ≡ [] → fault_of program words ≡ []
    is_accepted taken = subst (λ (a : App). fault_of a words ≡ []) is taken

    pub subcommand_is : is_simple program ≡ true → (matches : ArgMatches) → HasMatchesOf app words matches → subcommand_rows_of matches ≡ subcommand_of program words
    subcommand_is simple matches has = (subst (λ (a : App). HasMatchesOf a words matches) is has simple).1

    -- the subcommand that `clap` found isn't read
    pub is_unread : is_simple program ≡ true → (matches : ArgMatches) → HasMatchesOf app words matches → fault_of app words ≡ [] → (why : ValueFault) → Unread (subcommand_rows_of matches) why
        → (fault_of program words ≡ []) × Unread (subcommand_of program words) why
    is_unread simple matches has taken why unread = (is_accepted taken, subst (λ sub. Unread sub why) (subcommand_is simple matches has) unread)
