-- What a mention means.
use Rattle.std.specs.Prelude.{Option, Some, None, ◌≡◌, ◌≢◌, ◌⊎◌}
use Rattle.star_editor.specs.declared.mention.Variable.{Variable}
use Rattle.star_editor.specs.declared.mention.Binder.{Binder}
use Rattle.star_editor.specs.declared.mention.Binder.TheVariants.{Load}
use Rattle.star_editor.specs.declared.mention.Referent.{Referent}
use Rattle.star_editor.specs.declared.mention.Referent.TheVariants as referent
use Rattle.star_editor.specs.declared.mention.Role.{Role}
use Rattle.star_editor.specs.declared.mention.Role.TheVariants.{Bound, Read, Attribute, Label, LoadedName, Keyword}

-- what a name that is bound or read means; none for another role
abbrev pub referent_of : Role → Option Referent
referent_of (Bound variable by) = Some (referent.Variable variable)
referent_of (Read r) = Some r
referent_of Attribute = None
referent_of Label = None
referent_of LoadedName = None
referent_of (Keyword callee) = None

-- a variable is bound
abbrev pub Binds : Variable → Role → Type 0
Binds v (Bound variable by) = variable ≡ v
Binds v (Read r) = ⊥
Binds v Attribute = ⊥
Binds v Label = ⊥
Binds v LoadedName = ⊥
Binds v (Keyword callee) = ⊥

-- a global of the file is bound that other files can load
abbrev pub BindsGlobal : Variable → Role → Type 0
BindsGlobal v (Bound variable by) = (variable ≡ v) × (variable.block ≡ 0) × (by ≢ Load)
BindsGlobal v (Read r) = ⊥
BindsGlobal v Attribute = ⊥
BindsGlobal v Label = ⊥
BindsGlobal v LoadedName = ⊥
BindsGlobal v (Keyword callee) = ⊥
