-- The files of a walk are within the limits.
use Rattle.std.proofs.Common.{◌≡◌, ℕ, ◌+◌, ◌≤◌, List, [], ◌∷◌, length, length-append, false, ◌||◌, refl, ◌∙◌, arith, None}
use Rattle.std.specs.declared.cmp.Ordering.{Ordering}
use Rattle.std.specs.declared.cmp.Ordering.TheVariants.{Less, Equal, Greater}
use Rattle.std.proofs.lemmas.Bool.{le-ltb, or_from, or_parts}
use Rattle.std.proofs.lemmas.List.Folds.{list_any-append}
use Rattle.std.specs.BTreeMap.{insert_entry}
use Rattle.std.specs.Cmp.Lexicographic.{slice_cmp}
use Rattle.std.specs.List.{list_any}
use Rattle.std.specs.Ordering.{match_ordering, nat_cmp}
use Rattle.star_label.specs.declared.error.LabelError.TheVariants as limit
use Rattle.star_label.specs.Files.{File, is_too_long, limit_passed}
use Rattle.star_bundle.specs.Bundle.{with_files}
use Rattle.star_folder.specs.Folder.{Contents}
use Rattle.star_folder.specs.Walk.{IsWalk, Listed, Place, Read, Visit, files_in}

abbrev order : List ℕ → List ℕ → Ordering
order = slice_cmp nat_cmp

few_inserted : (es : List File) (k v : List ℕ) → length (insert_entry order es k v) ≤ length es + 1
few_inserted [] k v = omega arith
few_inserted (e ∷ es) k v = let h : length (insert_entry order (e ∷ es) k v) ≤ length es + 2 = from (order k e.0) (few_inserted es k v) in omega (arith, h)
  where
    from : (o : Ordering) → length (insert_entry order es k v) ≤ length es + 1 → length (match_ordering o ((k, v) ∷ e ∷ es) ((e.0, v) ∷ es) (e ∷ insert_entry order es k v)) ≤ length es + 2
    from Less h = omega arith
    from Equal h = omega arith
    from Greater h = omega (arith, h)

-- no more files than were put in
few_with : (made fs : List File) → length (with_files made fs) ≤ length made + length fs
unfolding with_files
few_with made [] = omega arith
few_with made (f ∷ fs) = omega (arith, few_with (insert_entry order made f.0 f.1) fs, few_inserted made f.0 f.1)

short_inserted : (es : List File) (k v : List ℕ) → list_any is_too_long es ≡ false → is_too_long (k, v) ≡ false → list_any is_too_long (insert_entry order es k v) ≡ false
short_inserted [] k v h s = or_from (is_too_long (k, v)) false s refl
short_inserted (e ∷ es) k v h s =
    let both = or_parts (is_too_long e) (list_any is_too_long es) h in
    from (order k e.0) both.0 both.1 (short_inserted es k v both.1 s)
  where
    from : (o : Ordering) → is_too_long e ≡ false → list_any is_too_long es ≡ false → list_any is_too_long (insert_entry order es k v) ≡ false
        → list_any is_too_long (match_ordering o ((k, v) ∷ e ∷ es) ((e.0, v) ∷ es) (e ∷ insert_entry order es k v)) ≡ false
    from Less a b c = or_from (is_too_long (k, v)) (is_too_long e || list_any is_too_long es) s (or_from (is_too_long e) (list_any is_too_long es) a b)
    from Equal a b c = or_from (is_too_long (e.0, v)) (list_any is_too_long es) s b
    from Greater a b c = or_from (is_too_long e) (list_any is_too_long (insert_entry order es k v)) a c

-- no file that is too long, if none was put in
short_with : (made fs : List File) → list_any is_too_long made ≡ false → list_any is_too_long fs ≡ false → list_any is_too_long (with_files made fs) ≡ false
unfolding with_files
short_with made [] h k = h
short_with made (f ∷ fs) h k =
    let both = or_parts (is_too_long f) (list_any is_too_long fs) k in
    short_with (insert_entry order made f.0 f.1) fs (short_inserted made f.0 f.1 h both.0) both.1

few_walked : (held : Contents) (vs : List Visit) (left : List Place) → IsWalk held vs left → length (files_in vs) ≤ 10000
few_walked held [] left h = omega arith
few_walked held (Listed path es ∷ vs) left h = omega (arith, length-append (files_in vs) [], few_walked held vs _ h.1)
few_walked held (Read label bytes ∷ vs) left h = omega (arith, length-append (files_in vs) ((label, bytes) ∷ []), h.3.0)

short_walked : (held : Contents) (vs : List Visit) (left : List Place) → IsWalk held vs left → list_any is_too_long (files_in vs) ≡ false
short_walked held [] left h = refl
short_walked held (Listed path es ∷ vs) left h =
    list_any-append is_too_long (files_in vs) [] ∙ or_from (list_any is_too_long (files_in vs)) false (short_walked held vs _ h.1) refl
short_walked held (Read label bytes ∷ vs) left h =
    let short : is_too_long (label, bytes) ≡ false = le-ltb 1048576 (length bytes) h.3.1 in
    list_any-append is_too_long (files_in vs) ((label, bytes) ∷ [])
    ∙ or_from (list_any is_too_long (files_in vs)) (is_too_long (label, bytes) || false) (short_walked held vs _ h.1) (or_from (is_too_long (label, bytes)) false short refl)

-- the files of a walk are within all limits
pub within_limits : (held : Contents) (vs : List Visit) (left : List Place) (files : List File) → IsWalk held vs left → files ≡ with_files [] (files_in vs) → limit_passed files ≡ None
within_limits held vs left files h e =
    let few : length (with_files [] (files_in vs)) ≤ 10000 = omega (arith, few_with [] (files_in vs), few_walked held vs left h) in
    let short = short_with [] (files_in vs) refl (short_walked held vs left h) in
    rw (e, le-ltb 10000 (length (with_files [] (files_in vs))) few, short) refl
