-- The places that are left, as entries are met.
use Rattle.std.proofs.Common.{◌≡◌, ℕ, ◌+◌, ◌≤◌, List, [], ◌∷◌, ◌++◌, length, length-append, map, reverse, Bool, refl, ap, sym, ◌∙◌, append_assoc, arith, Option, Some, None, String}
use Rattle.std.proofs.lemmas.List.{length-map, length-reverse, map-append, reverse-append}
use Rattle.std.proofs.lemmas.List.Elements.{filter-append}
use Rattle.std.proofs.lemmas.List.Filters.{length-filter_both}
use Rattle.std.specs.declared.alloc.Global.{Global}
use Rattle.std.specs.List.{cons_option, filter, filter_map}
use Rattle.star_folder.specs.declared.folder.Kind.{Kind}
use Rattle.star_folder.specs.declared.places.Found.{Found}
use Rattle.star_folder.specs.Folder.{Entry, entry_of}
use Rattle.star_folder.specs.Views.{left_of, place_view}
use Rattle.star_folder.specs.Walk.{Listed, Place, Read, Visit, entries_at, is_file, is_folder, opened, place_in}

-- one more on the stack
pub left-push : (ps : List Found) (x : Found) → left_of (ps ++ x ∷ []) ≡ place_view x ∷ left_of ps
left-push ps x = ap (map place_view) (reverse-append ps (x ∷ []))

-- a stack on top of another
pub left-append : (ps qs : List Found) → left_of (ps ++ qs) ≡ left_of qs ++ left_of ps
left-append ps qs = ap (map place_view) (reverse-append ps qs) ∙ map-append place_view (reverse qs) (reverse ps)

pub length-left : (ps : List Found) → length (left_of ps) ≡ length ps
length-left ps = length-map (reverse ps) place_view ∙ length-reverse ps

-- the places that entries lead to
abbrev pub met : List ℕ → List (String Global × Kind) → List Place
met path es = filter_map (place_in path) (map entry_of es)

onto : (o : Option Place) (xs ys : List Place) → cons_option o (xs ++ ys) ≡ cons_option o xs ++ ys
onto None xs ys = refl
onto (Some x) xs ys = refl

met-more : (path : List ℕ) (es : List (String Global × Kind)) (e : String Global × Kind) → met path (es ++ e ∷ []) ≡ met path es ++ cons_option (place_in path (entry_of e)) []
met-more path [] e = refl
met-more path (d ∷ es) e =
    ap (cons_option (place_in path (entry_of d))) (met-more path es e) ∙ onto (place_in path (entry_of d)) (met path es) (cons_option (place_in path (entry_of e)) [])

-- the last entry goes from those that are to be met to the stack
pub met-pushed : (q : Place → Bool) (path : List ℕ) (es ds : List (String Global × Kind)) (e : String Global × Kind) (o : Option Place) (before after whole : List Place)
    → ds ≡ es ++ e ∷ [] → o ≡ place_in path (entry_of e) → after ≡ filter q (cons_option o []) ++ before
    → filter q (met path ds) ++ before ≡ whole → filter q (met path es) ++ after ≡ whole
met-pushed q path es ds e o before after whole d p a h =
    let one : filter q (met path ds) ≡ filter q (met path es) ++ filter q (cons_option o []) =
    ap (λ xs. filter q (met path xs)) d ∙ ap (filter q) (met-more path es e)
    ∙ filter-append q (met path es) (cons_option (place_in path (entry_of e)) [])
    ∙ ap (λ x. filter q (met path es) ++ filter q (cons_option x [])) (sym p) in
    ap (λ xs. filter q (met path es) ++ xs) a
    ∙ sym (append_assoc (filter q (met path es)) (filter q (cons_option o [])) before)
    ∙ ap (λ xs. xs ++ before) (sym one) ∙ h

-- all entries were met: the files lie on top of the folders
pub all_met : (path : List ℕ) (es : List (String Global × Kind)) (files folders places : List Found) (before : List Place)
    → left_of files ≡ filter is_file (met path es) → left_of folders ≡ filter is_folder (met path es) ++ before
    → places ≡ folders ++ files → left_of places ≡ opened (Listed path (map entry_of es)) ++ before
all_met path es files folders places before f g e =
    ap left_of e ∙ left-append folders files ∙ ap (λ xs. xs ++ left_of folders) f ∙ ap (λ xs. filter is_file (met path es) ++ xs) g
    ∙ sym (append_assoc (filter is_file (met path es)) (filter is_folder (met path es)) before)

few_met : (path : List ℕ) (es : List Entry) → length (filter_map (place_in path) es) ≤ length es
few_met path [] = omega arith
few_met path (e ∷ es) = let h : length (cons_option (place_in path e) (filter_map (place_in path) es)) ≤ length es + 1 = from (place_in path e) (few_met path es) in omega (arith, h)
  where
    from : (o : Option Place) → length (filter_map (place_in path) es) ≤ length es → length (cons_option o (filter_map (place_in path) es)) ≤ length es + 1
    from None h = omega (arith, h)
    from (Some x) h = omega (arith, h)

-- no more places are opened than entries are listed
pub few_opened : (v : Visit) → length (opened v) ≤ entries_at v
few_opened (Listed path es) =
    let ps = filter_map (place_in path) es in
    omega (arith, length-append (filter is_file ps) (filter is_folder ps), length-filter_both is_file is_folder (λ _. refl) ps, few_met path es)
few_opened (Read label bytes) = omega arith
