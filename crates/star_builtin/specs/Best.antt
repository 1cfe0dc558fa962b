-- `max` and `min`: the best of some values, as the code goes through them.
use Rattle.std.specs.Prelude.{ℕ, Bool, List}
use Rattle.std.specs.Ordering.{is_lt, is_gt}
use Rattle.std.specs.declared.cmp.Ordering.{Ordering}
use Rattle.star_store.specs.declared.values.Value.{Value}
use Rattle.star_builtin.specs.declared.best.Best.{Best}
use Rattle.star_builtin.specs.declared.best.Best.TheVariants as best
use Rattle.star_meaning.specs.Run.{Action, ◌>>=◌}
use Rattle.star_meaning.specs.Program.{Setting}
use Rattle.star_meaning.specs.BuiltIns.{candidates, best_in}

-- whether a value is better than the best so far, from their order
abbrev pub better : Best → Ordering → Bool
better best.Greatest o = is_gt o
better best.Least o = is_lt o

-- the best of one value's items, or of several values
abbrev pub best_among : Setting → ℕ → ℕ → (Ordering → Bool) → List Value → Action Value
best_among w levels line f xs = candidates w line xs >>= best_in w levels line f
