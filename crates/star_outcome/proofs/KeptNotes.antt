-- The product of a file has a sound module, which a note keeps.
use Rattle.std.proofs.Common.{◌≡◌, ◌<◌, ℕ, List, length, get_or, ap, sym, ◌∙◌, subst, arith}
use Rattle.std.specs.Prelude.{All, slice_index, slice_set}
use Rattle.std.proofs.lemmas.List.{get_or_default, length-map, set-get_or}
use Rattle.std.proofs.lemmas.Option.{slice_get_within}
use Rattle.star_label.specs.Files.{File}
use Rattle.star_scope.specs.declared.loads.Load.{Load}
use Rattle.star_plan.specs.Plan.{Plan, loaded, loads_of}
use Rattle.star_outcome.specs.declared.module.Ended.{Ended}
use Rattle.star_outcome.specs.declared.module.Ended.TheVariants.{Static, Load as Unloaded, Stopped, Good}
use Rattle.star_outcome.specs.declared.module.Module.{Module}
use Rattle.star_outcome.specs.Fits.{IsWithin, asked_below}
use Rattle.star_outcome.specs.Kept.{IsKept, IsLoadBelow, IsSound}
use Rattle.star_outcome.specs.Views.{IsEnd, IsModule, IsTold, ToldView}

ends_below : (plan : Plan) (n : ℕ) (ls : List ℕ) (e : Ended) → ls ≡ loaded plan n → IsEnd plan n e → IsLoadBelow (length ls) e
ends_below plan n ls (Static f) same is = tt
ends_below plan n ls (Stopped code line lines left) same is = tt
ends_below plan n ls (Good body) same is = tt
ends_below plan n ls (Unloaded index line) same is =
    let inside : index < length (loads_of plan n) = slice_get_within (loads_of plan n) index is.1.0 is.1.1 in
    let long = length-map (loads_of plan n) (λ (l : Load). l.file) in
    let size : length ls ≡ length (loaded plan n) = ap length same in
    omega (arith, inside, long, size)

pub all_loads : (files : List File) (plan : Plan) (n : ℕ) → IsWithin files plan → All (λ k. k < length files) (loaded plan n)
all_loads files plan n w i d h = w.loads n (get_or (loaded plan n) i d) (i, h, get_or_default (loaded plan n) i (get_or (loaded plan n) i d) d h)

pub sound_of : (files : List File) (plan : Plan) (count n : ℕ) (m : Module) → count ≡ length files → IsWithin files plan → IsModule plan n m → IsSound count n m
sound_of files plan count n m size w r = record {
  number = r.number;
  loads = subst (λ k. All (λ x. x < k) m.loads.items) (sym size) (subst (λ ls. All (λ x. x < length files) ls) (sym r.loads) (all_loads files plan n w));
  ended = ends_below plan n m.loads.items m.ended r.loads r.ended;
}

pub kept_told : (files : List File) (plan : Plan) (shelf : List ℕ) (t : ToldView) (cell : ℕ) → length shelf ≡ length files → cell ≡ slice_index shelf t.number → IsTold files plan t.number t → IsKept shelf (record { number = t.number; cell = cell; known = t.known })
kept_told files plan shelf t cell size at told = record {
  file = let below = asked_below files plan t.number told.asked in omega (arith, size, below);
  cell = at;
  found = told.found;
  known = told.known;
  sound = sound_of files plan (length shelf) t.number told.found size told.asked.0 told.right;
}

pub set_same : {X : Type 0} (xs : List X) (i : ℕ) (x : X) → x ≡ get_or xs i x → slice_set xs i x ≡ xs
set_same xs i x e = ap (slice_set xs i) e ∙ set-get_or xs i x
