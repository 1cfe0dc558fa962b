-- The names of a listing, and the front of a file.
use Rattle.std.proofs.Common.{◌≡◌, ℕ, ◌<◌, ◌≤◌, List, [], ◌∷◌, length, length-take, map, take, Option, Some, None, String, string_bytes, refl, sym, ap, ◌∙◌, arith}
use Rattle.std.proofs.lemmas.List.{take_all}
use Rattle.std.specs.declared.alloc.Global.{Global}
use Rattle.std.specs.declared.cmp.Ordering.TheVariants.{Less}
use Rattle.std.specs.Cmp.Lexicographic.{slice_cmp}
use Rattle.std.specs.List.{AllByRecursion}
use Rattle.std.specs.List.Sorted.{IsStrictlySortedBy}
use Rattle.std.specs.Ordering.{nat_cmp}
use Rattle.std.specs.String.{string_cmp}
use Rattle.star_folder.specs.declared.folder.Kind.{Kind}
use Rattle.star_folder.specs.Folder.{Reads, Says, entry_of}

sorted_all : (l : String Global) (es : List (String Global × Kind)) → AllByRecursion (λ y. string_cmp l y ≡ Less) (map (λ e. e.0) es)
    → AllByRecursion (λ y. slice_cmp nat_cmp (string_bytes l) y ≡ Less) (map (λ e. e.0) (map entry_of es))
sorted_all l [] h = tt
sorted_all l (e ∷ es) h = (h.0, sorted_all l es h.1)

-- the names are in the order of their bytes
pub sorted_names : (es : List (String Global × Kind)) → IsStrictlySortedBy string_cmp (map (λ e. e.0) es)
    → IsStrictlySortedBy (slice_cmp nat_cmp) (map (λ e. e.0) (map entry_of es))
unfolding IsStrictlySortedBy
sorted_names [] h = tt
sorted_names (e ∷ es) h = (sorted_all e.0 es h.0, sorted_names es h.1)

-- the bytes read of a file are a front of it
pub front : (o : Option (List ℕ)) (bytes : List ℕ) → Reads o bytes → (all : List ℕ) × Says o all × (bytes ≡ take 1048577 all)
front None bytes h = (bytes, tt, sym (take_all 1048577 bytes h))
front (Some all) bytes h = (all, refl, h)

-- a front is too long only if the file is
pub long_front : (all bytes : List ℕ) → bytes ≡ take 1048577 all → 1048576 < length bytes → 1048576 < length all
long_front all bytes e h = omega (arith, ap length e, length-take 1048577 all, h)

short_front : (all bytes : List ℕ) → bytes ≡ take 1048577 all → length bytes ≤ 1048576 → length all ≤ 1048577
short_front all bytes e h = omega (arith, ap length e, length-take 1048577 all, h)

-- a front of at most 1,048,576 bytes is the whole file
pub whole_front : (all bytes : List ℕ) → bytes ≡ take 1048577 all → length bytes ≤ 1048576 → bytes ≡ all
whole_front all bytes e h = e ∙ take_all 1048577 all (short_front all bytes e h)
