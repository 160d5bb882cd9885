-- The effect of the INSERT into `version`.
use Rattle.std.proofs.Common.{◌≡◌, ◌≢◌, ◌==◌, drop, ℕ, List, [], ◌∷◌, length, map, pos, Ok, inl, inr, refl, ◌∙◌}
use Rattle.std.specs.List.{AllByRecursion}
use Rattle.std.proofs.lemmas.Bool.{cases_Bool}
use Rattle.sqlite.specs.Cast.{cast_row}
use Rattle.sqlite.specs.Command.TheVariants.{Insert}
use Rattle.sqlite.specs.Listing.{understood}
use Rattle.sqlite.specs.Order.{Row}
use Rattle.sqlite.specs.Source.TheVariants.{Values}
use Rattle.sqlite.specs.State.{Executes, State}
use Rattle.sqlite.specs.Table.{Table}
use Rattle.sqlite.specs.Term.{Term, lit}
use Rattle.sqlite.specs.Tree.{Trees}
use Rattle.sqlite.specs.declared.types.Value.TheVariants.{Int, Null}
use Rattle.sqlite.proofs.Callers.{IsPlain, command_of}
use Rattle.sqlite_rules.specs.Action.{works}
use Rattle.sqlite_schema.specs.Names.{same_name}
use Rattle.sqlite_schema.specs.declared.schema.Keys.TheVariants.{Enforced}
use Rattle.sqlite_tied.specs.Compute.{everything}
use Rattle.sql_base.specs.Effects.{Inserted}
use Rattle.sql_base.proofs.Inserting.{inserted}
use Rattle.sql_base.proofs.Values.{cast_int, cast_null}
use Rattle.sql_tables.specs.Opening.{AddsVersion, version_row}
use Rattle.sql_tables.specs.Tables.{our_schema, version_table}
use Rattle.sql_tables.specs.Texts.{add_version_text}

abbrev terms : List Term
terms = lit (Int (pos 1)) ∷ lit Null ∷ lit (Int (pos 3)) ∷ []

command_is : command_of (understood our_schema add_version_text) ≡ Insert 0 (Values terms 3)
unfolding understood everything
command_is = refl

plain : IsPlain (understood our_schema add_version_text)
unfolding understood everything
plain = (refl, refl)

-- No foreign key of the current schema acts on another table.
pub none_acts : (tree : ℕ) (olds news : List Row) → works our_schema Enforced 0 tree olds news ≡ []
unfolding same_name
none_acts tree olds news = elim (cases_Bool (length news == 0)) [ inl e ↦ rw e refl | inr e ↦ rw e refl ]

cast_are : map (cast_row version_table) (version_row ∷ []) ≡ version_row ∷ []
cast_are = rw (cast_null, cast_int (pos 1), cast_int (pos 3)) refl

-- Empty tables that the statement doesn't change are still empty.
spared : (tables : List Table) (old new : Trees) → AllByRecursion (λ t. t.tree ≢ 0 → new t.tree ≡ old t.tree) tables → AllByRecursion (λ t. t.tree ≢ 0) tables
    → AllByRecursion (λ t. old t.tree ≡ []) tables → AllByRecursion (λ t. new t.tree ≡ []) tables
spared [] old new same differ empty = tt
spared (t ∷ tables) old new same differ empty = (same.0 differ.0 ∙ empty.0, spared tables old new same.1 differ.1 empty.1)

others_differ : AllByRecursion (λ t. t.tree ≢ 0) (drop 1 our_schema.tables)
others_differ = (λ e. cc, (λ e. cc, (λ e. cc, (λ e. cc, (λ e. cc, (λ e. cc, (λ e. cc, (λ e. cc, (λ e. cc, (λ e. cc, (λ e. cc, tt)))))))))))

pub adds_version : (old new : State) (count : ℕ) → Executes add_version_text [] old new (Ok count) → AddsVersion old.now new.now
adds_version old new count ran from =
    let it : Inserted our_schema version_table (version_row ∷ []) old new =
    inserted add_version_text [] old new our_schema from.schema_is 0 version_table terms 3 command_is plain refl refl refl (version_row ∷ []) (version_row ∷ []) refl cast_are (none_acts 0) count ran in
    record {
      schema_is = it.kept;
      is_database = it.is_database;
      version = it.rows ∙ rw from.empty.0 refl;
      empty = spared (drop 1 our_schema.tables) old.now.trees new.now.trees it.others.1 others_differ from.empty.1;
    }
