-- A table without its tree number.
use Rattle.sqlite_schema.specs.declared.schema.Table.{Table}

abbrev pub bare : Table → Table
bare t = record t { tree = 0 }
