-- Laws of the cells.
use Rattle.std.proofs.Common.{◌≡◌, ℕ, zero, suc, ◌-◌, ◌<◌, ◌≤◌, List, [], ◌∷◌, ◌++◌, length, get_or, set, map, replicate, slice_get, slice_set, Option, Some, None, Bor, refl, ap, sym, ◌∙◌, arith}
use Rattle.std.specs.Option.{option_map, option_copied}
use Rattle.std.proofs.lemmas.Option.{slice_get-map}
use Rattle.std.proofs.lemmas.List.{map-append, map-set, length-map}
use Rattle.star_store.specs.declared.values.HeapCell.{HeapCell}
use Rattle.star_store.specs.declared.arena.Frozen.{Frozen}
use Rattle.star_store.specs.Store.{changed_at}

pub changed_in : (f : HeapCell → HeapCell) (cells : List HeapCell) (at : ℕ) (e : HeapCell) → at < length cells → e ≡ get_or cells at e → changed_at f cells at ≡ set cells at (f e)
changed_in f [] at e h k = absurd (omega arith)
changed_in f (x ∷ xs) zero e h k = ap (λ y. f y ∷ xs) (sym k)
changed_in f (x ∷ xs) (suc at) e h k = ap (λ ys. x ∷ ys) (changed_in f xs at e (omega arith) k)

pub changed_out : (f : HeapCell → HeapCell) (cells : List HeapCell) (at : ℕ) → length cells ≤ at → changed_at f cells at ≡ cells
changed_out f [] at h = refl
changed_out f (x ∷ xs) zero h = absurd (omega arith)
changed_out f (x ∷ xs) (suc at) h = ap (λ ys. x ∷ ys) (changed_out f xs at (omega arith))

-- a write of one cell's new entry is the change of that cell
pub written : (f : HeapCell → HeapCell) (cells : List HeapCell) (at : ℕ) (e e' : HeapCell) → at < length cells → e ≡ get_or cells at e → e' ≡ f e → set cells at e' ≡ changed_at f cells at
written f cells at e e' h k q = ap (set cells at) q ∙ sym (changed_in f cells at e h k)

map_replicate : {A B : Type 0} (f : A → B) (n : ℕ) (x : A) → map f (replicate n x) ≡ replicate n (f x)
map_replicate f zero x = refl
map_replicate f (suc n) x = ap (λ ys. f x ∷ ys) (map_replicate f n x)

-- a reference at a place, and those after it
pub copied_at : (stores : List (Option (Bor Frozen))) (at : ℕ) → slice_get (map option_copied stores) at ≡ option_map option_copied (slice_get stores at)
copied_at stores at = slice_get-map option_copied stores at

-- a store that is added among references is added among those after them
pub shelved : (stores : List (Option (Bor Frozen))) (n at : ℕ) (store : Bor Frozen) → map option_copied (slice_set (stores ++ replicate (n - length stores) None) at (Some store)) ≡ slice_set (map option_copied stores ++ replicate (n - length (map option_copied stores)) None) at (Some store.now)
shelved stores n at store = simp (map-set, map-append, map_replicate, length-map)
