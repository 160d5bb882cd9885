-- The printed words and names of the causes for refusing a database (this project's profile).
use Rattle.std.specs.Prelude.{ℕ, List, codes, Option, Some, None}
use Rattle.audit_rows.specs.RuleNames.{name_of}
use Rattle.examination.specs.declared.damage.Damage.{Damage}
use Rattle.examination.specs.declared.damage.Damage.TheVariants.{Broken, UnreadableRow}
use Rattle.examination.specs.declared.difference.Difference.{Difference}
use Rattle.examination.specs.declared.difference.Difference.TheVariants.{Empty, Missing, Other, Foreign, FurtherKey, View, SharedPage, OtherVersion}

abbrev pub word_of : Difference → List ℕ
word_of Empty = codes "empty"
word_of (Missing table) = codes "missing-table"
word_of (Other table) = codes "other-table"
word_of (Foreign table) = codes "foreign-table"
word_of (FurtherKey index) = codes "further-key"
word_of (View view) = codes "view"
word_of SharedPage = codes "shared-page"
word_of OtherVersion = codes "other-version"

-- the name of the table, the index or the view
abbrev pub name_in : Difference → Option (List ℕ)
name_in Empty = None
name_in (Missing table) = Some table.items
name_in (Other table) = Some table.items
name_in (Foreign table) = Some table.items
name_in (FurtherKey index) = Some index.items
name_in (View view) = Some view.items
name_in SharedPage = None
name_in OtherVersion = None

-- the name of the broken rule
abbrev pub damage_word : Damage → List ℕ
damage_word UnreadableRow = codes "unreadable-row"
damage_word (Broken rule) = name_of rule
