-- Dialects: the core language stays as it is, and the extended one has all of it.
use Rattle.std.specs.Prelude.{◌≡◌, ℕ, List, Some}
use Rattle.star_dialect.specs.declared.Dialect.TheVariants as dialect
use Rattle.star_store.specs.declared.values.Value.{Value}
use Rattle.star_store.specs.declared.names.Method.{Method}
use Rattle.star_meaning.specs.Attributes.{core_method_of, method_of}
use Rattle.star_meaning.specs.Program.{Setting}
use Rattle.star_meaning.specs.Run.{Action}
use Rattle.star_meaning.specs.TableMethods.{call_wider}
use Rattle.star_meaning.specs.declared.given.Arguments.{Arguments}

-- The law: in the core a value has the methods of the core, and no others.
abbrev pub CoreHasItsMethods : Type 0
CoreHasItsMethods = (type name : List ℕ) → method_of dialect.Core type name ≡ core_method_of type name

-- The law: a method of the core has its name in the extended language, too: no other method takes it.
abbrev pub ExtendedHasThem : Type 0
ExtendedHasThem = (type name : List ℕ) (m : Method)
    → core_method_of type name ≡ Some m → method_of dialect.Extended type name ≡ Some m

-- The law: in the core a method that takes more in the extended language does what it does in the core.
abbrev pub CoreCallsItsOwn : Type 0
CoreCallsItsOwn = (w : Setting) (line : ℕ) (name text : List ℕ) (g : Arguments) (core : Action Value)
    → w.language.dialect ≡ dialect.Core → call_wider w line name text g core ≡ core
