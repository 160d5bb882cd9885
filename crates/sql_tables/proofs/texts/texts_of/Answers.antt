use Rattle.std.proofs.Common.{refl}
use Rattle.sql_tables.proofs.texts.texts_of.Goals as goal

pub returns-in-One : goal.returns-in-One
returns-in-One c = rw c.in-One.is refl

pub returns-in-Two : goal.returns-in-Two
returns-in-Two c = rw c.in-Two.is refl

pub returns-in-Three : goal.returns-in-Three
returns-in-Three c = rw c.in-Three.is refl
