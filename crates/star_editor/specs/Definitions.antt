-- Where a variable is defined.
use Rattle.std.specs.Prelude.{Any, ◌≡◌}
use Rattle.star_editor.specs.declared.index.Index.{Index}
use Rattle.star_editor.specs.declared.mention.Variable.{Variable}
use Rattle.star_editor.specs.declared.navigation.Definition.{Definition}
use Rattle.star_editor.specs.declared.navigation.Definition.TheVariants.{Here, Loaded, Prelude, BuiltIn}
use Rattle.star_editor.specs.Meaning.{Binds}
use Rattle.star_editor.specs.Views.{mentions_of}

-- a place where the variable is bound, or a loaded name that binds it
abbrev pub LeadsTo : Index → Variable → Definition → Type 0
LeadsTo i v (Here span) = Any (λ m. Binds v m.role × (m.span ≡ span)) (mentions_of i)
LeadsTo i v (Loaded name) = name.now.variable ≡ v
LeadsTo i v (Prelude name) = ⊥
LeadsTo i v (BuiltIn name) = ⊥
