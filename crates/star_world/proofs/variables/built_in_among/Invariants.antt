use Rattle.std.proofs.Common.{◌≡◌, drop, map}
use Rattle.star_store.specs.declared.values.Value.TheVariants as value
use Rattle.star_store.specs.Names.{built_in_name}
use Rattle.star_store.specs.Store.{global_of}
use Rattle.star_world.proofs.variables.built_in_among.Given as goal

abbrev pub invariant-loop-function : goal.invariant-loop-function
invariant-loop-function l = global_of l.name (map (λ b. (built_in_name b, value.Builtin b)) (drop l.function-index l.functions)) ≡ global_of l.name (map (λ b. (built_in_name b, value.Builtin b)) l.functions)
