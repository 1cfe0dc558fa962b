-- The information that a reply has of the file that was asked for.
use Rattle.std.specs.Prelude.{ℕ, List, Option, Some, None}
use Rattle.star_cache.specs.declared.reply.Reply.{Reply}
use Rattle.star_cache.specs.declared.reply.Reply.TheVariants.{Begun, Ready, Failed, Spoiled, Cycle, Wait}
use Rattle.star_cache.specs.Walk.{IsOnCycle}
use Rattle.star_cache.specs.State.{Loads}

-- there is a parent, and a load cycle has the edge from it to the file
abbrev pub IsCyclic : (ℕ → List ℕ) → Option ℕ → ℕ → Type 0
IsCyclic loads None n = ⊥
IsCyclic loads (Some parent) n = IsOnCycle (Loads loads) parent n

-- a product is right for the file, and `Ready` exactly if the file is good. The replies Cycle and Wait carry the facts
-- that are given for them
abbrev pub Tells : {P : Type 0} (IsRight : ℕ → P → Type 0) (IsGood : ℕ → Type 0) (IsRefused : Type 0) (MayWait : Type 0)
    → ℕ → Reply P → Type 0
Tells IsRight IsGood IsRefused MayWait n Begun = Unit {0}
Tells IsRight IsGood IsRefused MayWait n (Ready p) = IsRight n p × IsGood n
Tells IsRight IsGood IsRefused MayWait n (Failed p) = IsRight n p × (IsGood n → ⊥)
Tells IsRight IsGood IsRefused MayWait n Spoiled = Unit {0}
Tells IsRight IsGood IsRefused MayWait n Cycle = IsRefused
Tells IsRight IsGood IsRefused MayWait n Wait = MayWait

-- how many entries a reply says were begun
abbrev pub begins : {P : Type 0} → Reply P → ℕ
begins Begun = 1
begins (Ready p) = 0
begins (Failed p) = 0
begins Spoiled = 0
begins Cycle = 0
begins Wait = 0
