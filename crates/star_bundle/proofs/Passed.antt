-- A refusal that is passed on.
use Rattle.std.proofs.Common.{◌≡◌, ℕ, List, ◌++◌, Result, Ok, Err}
use Rattle.star_bundle.specs.Bundle.{◌>>=◌}
use Rattle.star_bundle.specs.Refusal.{Fails, IsNamed}
use Rattle.star_bundle.specs.declared.error.ServeError.{ServeError}
use Rattle.star_bundle.specs.declared.error.ServeError.TheVariants as error

pub fails_so : {Y : Type 0} (e : ServeError) (given : Result Y ServeError) → IsNamed e → given ≡ Err e → Fails e given
fails_so error.Memory given h k = absurd h
fails_so e given h k = k

-- the numbers of the first roots, and the numbers of the others
abbrev pub after : List ℕ → Result (List ℕ) ServeError → Result (List ℕ) ServeError
after front r = r >>= λ ns. Ok (front ++ ns)
