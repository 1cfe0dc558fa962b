-- Laws of every reading.
use Rattle.std.specs.Prelude.{◌≡◌, List}
use Rattle.star_syntax.specs.declared.leaf.ValuedToken.{ValuedToken}
use Rattle.star_tree.specs.declared.tree.Statement.{Statement}
use Rattle.star_syntax.specs.Language.{Reading}

-- The law: leaves have one reading at most.
abbrev pub OneReading : Type 0
OneReading = (leaves : List ValuedToken) (a b : List Statement) → Reading a leaves → Reading b leaves → a ≡ b
