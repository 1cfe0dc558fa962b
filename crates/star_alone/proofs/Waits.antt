-- A reply of a book with one loader is never Wait.
use Rattle.std.proofs.Common.{◌≢◌, ℕ, Result, Ok, Err, IfOk, refl}
use Rattle.star_cache.specs.declared.reply.Reply.{Reply}
use Rattle.star_cache.specs.declared.reply.Reply.TheVariants.{Begun, Ready, Failed, Spoiled, Cycle, Wait}
use Rattle.star_cache.specs.Tells.{Tells}

pub no_wait : {P E : Type 0} (Right : ℕ → P → Type 0) (Good : ℕ → Type 0) (CyclicLoad MayWait : Type 0) (n : ℕ) (r : Result (Reply P) E) → r ≢ Ok Wait → IfOk r (Tells Right Good CyclicLoad MayWait n) → IfOk r (Tells Right Good CyclicLoad ⊥ n)
no_wait Right Good CyclicLoad MayWait n (Ok Begun) never tells = tt
no_wait Right Good CyclicLoad MayWait n (Ok (Ready p)) never tells = tells
no_wait Right Good CyclicLoad MayWait n (Ok (Failed p)) never tells = tells
no_wait Right Good CyclicLoad MayWait n (Ok Spoiled) never tells = tt
no_wait Right Good CyclicLoad MayWait n (Ok Cycle) never tells = tells
no_wait Right Good CyclicLoad MayWait n (Ok Wait) never tells = never refl
no_wait Right Good CyclicLoad MayWait n (Err e) never tells = tt
