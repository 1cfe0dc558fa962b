-- Proofs of the laws of dialects.
use Rattle.std.specs.Prelude.{◌≡◌, refl, ℕ, List, Option, Some, None}
use Rattle.std.proofs.Common.{ap}
use Rattle.star_dialect.specs.declared.Dialect.TheVariants as dialect
use Rattle.star_store.specs.declared.names.Method.{Method}
use Rattle.star_meaning.specs.Attributes.{core_method_of, or_in_table}
use Rattle.star_strings.specs.Table.{named}
use Rattle.star_meaning.specs.declared.fault.FaultCode.TheVariants as code
use Rattle.star_meaning.specs.Run.{◌>>=◌, found}
use Rattle.star_meaning.specs.TableMethods.{call_in_table, in_dialect}
use Rattle.star_laws.specs.Dialects.{CoreCallsItsOwn, CoreHasItsMethods, ExtendedHasThem}

stays : (type name : List ℕ) (o : Option Method) → or_in_table dialect.Core type name o ≡ o
stays type name (Some m) = refl
stays type name None = refl

pub core_has_its_methods : CoreHasItsMethods
core_has_its_methods type name = stays type name (core_method_of type name)

pub extended_has_them : ExtendedHasThem
extended_has_them type name m has = ap (or_in_table dialect.Extended type name) has

pub core_calls_its_own : CoreCallsItsOwn
core_calls_its_own w line name text g core is_core =
    ap (λ d. in_dialect d core (found code.BadType line (named name) >>= λ m. call_in_table w line m text g)) is_core
