-- What merged sets hold.
use Rattle.std.proofs.Common.{◌≡◌, ℕ, zero, suc, Bool, true, false, not, ◌&&◌, ◌||◌, List, [], ◌∷◌, ◌++◌, map, slice_get, slice_set, Option, Some, None, is_some, if◌then◌else◌, refl, ap, sym, subst, ◌∙◌}
use Rattle.std.specs.Prelude.{filter}
use Rattle.std.specs.List.{list_all, list_any}
use Rattle.std.proofs.lemmas.List.Folds.{list_any-append}
use Rattle.std.proofs.lemmas.Map.Views.{any-filter_same}
use Rattle.star_store.specs.declared.values.Value.{Value}
use Rattle.star_store.specs.declared.values.Value.TheVariants as value
use Rattle.star_store.specs.declared.values.Cell.{Cell}
use Rattle.star_store.specs.declared.content.Atom.{Atom}
use Rattle.star_store.specs.Content.{content, same_content}
use Rattle.star_store.specs.Key.{key_levels, same_key}
use Rattle.star_store.specs.Scalars.{contents_alike}
use Rattle.star_store.specs.Write.{put, put_at}
use Rattle.star_store.proofs.Contents.{same_keys}
use Rattle.star_outline.proofs.Numbers.{position_any}
use Rattle.star_meaning.specs.declared.merge.Merge.{Merge}
use Rattle.star_meaning.specs.declared.merge.Merge.TheVariants as merge
use Rattle.star_meaning.specs.Entries.{element, entries_after, with_elements, with_entry}
use Rattle.star_meaning.specs.Program.{Setting, seen}
use Rattle.star_meaning.specs.Run.{State}
use Rattle.star_meaning.specs.Sets.{all_items, has_element, merged, new_to, those_in, those_in_all, those_out}
use Rattle.star_meaning.specs.Values.{place_in}
use Rattle.star_laws.specs.Sets.{ElementsDiffer, holds, is_among}

-- ---- to be the same key is symmetric and transitive

content_symmetric : (a b : Option (List Atom)) → same_content a b ≡ same_content b a
content_symmetric (Some xs) (Some ys) = contents_alike.symm xs ys
content_symmetric (Some xs) None = refl
content_symmetric None (Some ys) = refl
content_symmetric None None = refl

content_follows : (a b c : Option (List Atom)) → same_content a b ≡ true → same_content a c ≡ same_content b c
content_follows (Some xs) (Some ys) (Some zs) e = contents_alike.congr xs ys zs e
content_follows (Some xs) (Some ys) None e = refl
content_follows (Some xs) None c e = cc
content_follows None b c e = cc

key_symmetric : (look : Value → Option Cell) (n : ℕ) (x y : Value) → same_key look n x y ≡ same_key look n y x
key_symmetric look n x y = same_keys look n x y ∙ content_symmetric (content look n x) (content look n y) ∙ sym (same_keys look n y x)

key_follows : (look : Value → Option Cell) (n : ℕ) (x y z : Value) → same_key look n x y ≡ true → same_key look n x z ≡ same_key look n y z
key_follows look n x y z e = same_keys look n x z ∙ content_follows (content look n x) (content look n y) (content look n z) (sym (same_keys look n x y) ∙ e) ∙ sym (same_keys look n y z)

-- ---- truth

or_none : (a : Bool) → (a || false) ≡ a
or_none true = refl
or_none false = refl

or_group : (a b c : Bool) → ((a || b) || c) ≡ (a || (b || c))
or_group true b c = refl
or_group false b c = refl

or_known : (a b : Bool) → (b ≡ true → a ≡ true) → a ≡ (a || b)
or_known true b h = refl
or_known false true h = h refl
or_known false false h = refl

and_turned : (a b : Bool) → (a && b) ≡ (b && a)
and_turned true true = refl
and_turned true false = refl
and_turned false true = refl
and_turned false false = refl

and_group : (a b c : Bool) → ((a && b) && c) ≡ (a && (b && c))
and_group true b c = refl
and_group false b c = refl

-- ---- what entries and items hold

module _ (w : Setting) (s : State) where
  abbrev same : Value → Value → Bool
  same = same_key (seen w s) key_levels

  -- whether one of some entries has this key
  abbrev any_entry : List (Value × Value) → Value → Bool
  any_entry es x = list_any (λ e. same x e.0) es

  has_any : (es : List (Value × Value)) (x : Value) → has_element w s es x ≡ any_entry es x
  has_any es x = position_any (λ e. same x e.0) es

  any_follows : (x y : Value) (es : List (Value × Value)) → same x y ≡ true → any_entry es x ≡ any_entry es y
  any_follows x y [] h = refl
  any_follows x y (e ∷ es) h = ap (λ b. b || any_entry es x) (key_follows (seen w s) key_levels x y e.0 h) ∙ ap (λ b. same y e.0 || b) (any_follows x y es h)

  has_follows : (x y : Value) (es : List (Value × Value)) → same x y ≡ true → has_element w s es y ≡ has_element w s es x
  has_follows x y es h = has_any es y ∙ sym (any_follows x y es h) ∙ sym (has_any es x)

  any_set : (x v : Value) (es : List (Value × Value)) (i : ℕ) (e : Value × Value) → slice_get es i ≡ Some e → any_entry (slice_set es i (e.0, v)) x ≡ any_entry es x
  any_set x v [] i e at = absurd (let no : ⊥ = cc in no)
  any_set x v (f ∷ es) zero e at = let it : f ≡ e = cc in ap (λ (z : Value × Value). same x z.0 || any_entry es x) (sym it)
  any_set x v (f ∷ es) (suc i) e at = ap (λ b. same x f.0 || b) (any_set x v es i e at)

  -- an entry that is put in at a place, or after all others
  any_put_at : (x y v : Value) (es : List (Value × Value)) (i : ℕ) (o : Option (Value × Value)) → slice_get es i ≡ o → any_entry (entries_after es (put y v (Some i) es)) x ≡ any_entry es x
  any_put_at x y v es i None at = ap (λ (o : Option (Value × Value)). any_entry (entries_after es (put_at i v o es)) x) at
  any_put_at x y v es i (Some e) at = ap (λ (o : Option (Value × Value)). any_entry (entries_after es (put_at i v o es)) x) at ∙ any_set x v es i e at

  any_put : (x y v : Value) (es : List (Value × Value)) (o : Option ℕ) → is_some o ≡ any_entry es y → any_entry (entries_after es (put y v o es)) x ≡ (any_entry es x || same x y)
  any_put x y v es None there = list_any-append (λ e. same x e.0) es ((y, v) ∷ []) ∙ ap (λ b. any_entry es x || b) (or_none (same x y))
  any_put x y v es (Some i) there = any_put_at x y v es i (slice_get es i) refl ∙ or_known (any_entry es x) (same x y) (λ h. any_follows x y es h ∙ sym there)

  any_with : (x y : Value) (es : List (Value × Value)) → any_entry (with_entry w s es (element y)) x ≡ (any_entry es x || same x y)
  any_with x y es = any_put x y value.NoneValue es (place_in w s y es) (has_any es y)

  any_with_all : (x : Value) (es : List (Value × Value)) (ys : List Value) → any_entry (with_elements w s es ys) x ≡ (any_entry es x || is_among (seen w s) ys x)
  any_with_all x es [] = sym (or_none (any_entry es x))
  any_with_all x es (y ∷ ys) =
      any_with_all x (with_entry w s es (element y)) ys
      ∙ ap (λ b. b || is_among (seen w s) ys x) (any_with x y es)
      ∙ or_group (any_entry es x) (same x y) (is_among (seen w s) ys x)

  any_those_in : (x : Value) (fs es : List (Value × Value)) → any_entry (those_in w s fs es) x ≡ (has_element w s fs x && any_entry es x)
  any_those_in x fs es = any-filter_same (λ e. same x e.0) (λ e. has_element w s fs e.0) (has_element w s fs x) (λ e h. has_follows x e.0 fs h) es

  any_those_out : (x : Value) (fs es : List (Value × Value)) → any_entry (those_out w s fs es) x ≡ (not (has_element w s fs x) && any_entry es x)
  any_those_out x fs es = any-filter_same (λ e. same x e.0) (λ e. not (has_element w s fs e.0)) (not (has_element w s fs x)) (λ e h. ap not (has_follows x e.0 fs h)) es

  among_new : (x : Value) (es : List (Value × Value)) (ys : List Value) → is_among (seen w s) (new_to w s es ys) x ≡ (not (has_element w s es x) && is_among (seen w s) ys x)
  among_new x es ys = any-filter_same (same x) (λ y. not (has_element w s es y)) (not (has_element w s es x)) (λ y h. ap not (has_follows x y es h)) ys

  -- the items of all rows
  abbrev rows_of : Value → List (List Value) → List Bool
  rows_of x xss = map (λ xs. is_among (seen w s) xs x) xss

  among_all : (x : Value) (xss : List (List Value)) → is_among (seen w s) (all_items xss) x ≡ list_any (λ b. b) (rows_of x xss)
  among_all x [] = refl
  among_all x (xs ∷ xss) = list_any-append (same x) xs (all_items xss) ∙ ap (λ b. is_among (seen w s) xs x || b) (among_all x xss)

  has_new : (x : Value) (ys : List Value) → has_element w s (with_elements w s [] ys) x ≡ is_among (seen w s) ys x
  has_new x ys = has_any (with_elements w s [] ys) x ∙ any_with_all x [] ys

  has_all : (x : Value) (xss : List (List Value)) → has_element w s (with_elements w s [] (all_items xss)) x ≡ list_any (λ b. b) (rows_of x xss)
  has_all x xss = has_new x (all_items xss) ∙ among_all x xss

  any_in_all : (x : Value) (es : List (Value × Value)) (xss : List (List Value)) → any_entry (those_in_all w s es xss) x ≡ (any_entry es x && list_all (λ b. b) (rows_of x xss))
  any_in_all x es [] = sym (and_turned (any_entry es x) true)
  any_in_all x es (xs ∷ xss) =
      any_in_all x (those_in w s (with_elements w s [] xs) es) xss
      ∙ ap (λ b. b && list_all (λ c. c) (rows_of x xss)) (any_those_in x (with_elements w s [] xs) es ∙ and_turned (has_element w s (with_elements w s [] xs) x) (any_entry es x) ∙ ap (λ b. any_entry es x && b) (has_new x xs))
      ∙ and_group (any_entry es x) (is_among (seen w s) xs x) (list_all (λ b. b) (rows_of x xss))

  any_out : (x : Value) (es : List (Value × Value)) (xss : List (List Value)) → any_entry (those_out w s (with_elements w s [] (all_items xss)) es) x ≡ (any_entry es x && not (list_any (λ b. b) (rows_of x xss)))
  any_out x es xss = any_those_out x (with_elements w s [] (all_items xss)) es ∙ and_turned (not (has_element w s (with_elements w s [] (all_items xss)) x)) (any_entry es x) ∙ ap (λ b. any_entry es x && not b) (has_all x xss)

  by_entries : (m : Merge) (es : List (Value × Value)) (xss : List (List Value)) (x : Value) → any_entry (merged w s m es xss) x ≡ holds m (any_entry es x) (rows_of x xss)
  by_entries merge.Union es xss x = any_with_all x es (all_items xss) ∙ ap (λ b. any_entry es x || b) (among_all x xss)
  by_entries merge.Intersection es xss x = any_in_all x es xss
  by_entries merge.Difference es xss x = any_out x es xss
  by_entries merge.SymmetricDifference es xss x =
      any_with_all x (those_out w s (with_elements w s [] (all_items xss)) es) (new_to w s es (all_items xss))
      ∙ ap (λ b. b || is_among (seen w s) (new_to w s es (all_items xss)) x) (any_out x es xss)
      ∙ ap (λ b. (any_entry es x && not (list_any (λ c. c) (rows_of x xss))) || b) (among_new x es (all_items xss) ∙ ap (λ b. not b && is_among (seen w s) (all_items xss) x) (has_any es x) ∙ ap (λ b. not (any_entry es x) && b) (among_all x xss))

  pub merged_hold : (m : Merge) (es : List (Value × Value)) (xss : List (List Value)) (x : Value) → has_element w s (merged w s m es xss) x ≡ holds m (has_element w s es x) (map (λ xs. is_among (seen w s) xs x) xss)
  merged_hold m es xss x = has_any (merged w s m es xss) x ∙ by_entries m es xss x ∙ ap (λ b. holds m b (rows_of x xss)) (sym (has_any es x))

  -- ---- elements that differ

  or_false : (a b : Bool) → (a || b) ≡ false → (a ≡ false) × (b ≡ false)
  or_false true b h = absurd (let no : ⊥ = cc in no)
  or_false false b h = (refl, h)

  none_next : (p : Value × Value → Bool) (b : Bool) (e : Value × Value) (es : List (Value × Value)) (x : Value) → same x e.0 ≡ false → any_entry (filter p es) x ≡ false → any_entry (if b then e ∷ filter p es else filter p es) x ≡ false
  none_next p true e es x h more = ap (λ b. b || any_entry (filter p es) x) h ∙ more
  none_next p false e es x h more = more

  none_kept : (p : Value × Value → Bool) (es : List (Value × Value)) (x : Value) → any_entry es x ≡ false → any_entry (filter p es) x ≡ false
  none_kept p [] x h = refl
  none_kept p (e ∷ es) x h = let apart = or_false (same x e.0) (any_entry es x) h in none_next p (p e) e es x apart.0 (none_kept p es x apart.1)

  differ_next : (p : Value × Value → Bool) (b : Bool) (e : Value × Value) (es : List (Value × Value)) → has_element w s es e.0 ≡ false → ElementsDiffer w s (filter p es) → ElementsDiffer w s (if b then e ∷ filter p es else filter p es)
  differ_next p true e es h more = (has_any (filter p es) e.0 ∙ none_kept p es e.0 (sym (has_any es e.0) ∙ h), more)
  differ_next p false e es h more = more

  differ_filter : (p : Value × Value → Bool) (es : List (Value × Value)) → ElementsDiffer w s es → ElementsDiffer w s (filter p es)
  differ_filter p [] d = tt
  differ_filter p (e ∷ es) d = differ_next p (p e) e es d.0 (differ_filter p es d.1)

  differ_append : (y v : Value) (es : List (Value × Value)) → ElementsDiffer w s es → any_entry es y ≡ false → ElementsDiffer w s (es ++ (y, v) ∷ [])
  differ_append y v [] d h = (has_any [] y, tt)
  differ_append y v (e ∷ es) d h =
      let apart = or_false (same y e.0) (any_entry es y) h in (
        has_any (es ++ (y, v) ∷ []) e.0
            ∙ list_any-append (λ f. same e.0 f.0) es ((y, v) ∷ [])
            ∙ ap (λ b. b || (same e.0 y || false)) (sym (has_any es e.0) ∙ d.0)
            ∙ or_none (same e.0 y)
            ∙ key_symmetric (seen w s) key_levels e.0 y
            ∙ apart.0,
        differ_append y v es d.1 apart.1,
      )

  differ_set : (v : Value) (es : List (Value × Value)) (i : ℕ) (e : Value × Value) → slice_get es i ≡ Some e → ElementsDiffer w s es → ElementsDiffer w s (slice_set es i (e.0, v))
  differ_set v [] i e at d = absurd (let no : ⊥ = cc in no)
  differ_set v (f ∷ es) zero e at d = let it : f ≡ e = cc in (subst (λ (z : Value × Value). has_element w s es z.0 ≡ false) it d.0, d.1)
  differ_set v (f ∷ es) (suc i) e at d = (has_any (slice_set es i (e.0, v)) f.0 ∙ any_set f.0 v es i e at ∙ sym (has_any es f.0) ∙ d.0, differ_set v es i e at d.1)

  differ_put_at : (y v : Value) (es : List (Value × Value)) (i : ℕ) (o : Option (Value × Value)) → slice_get es i ≡ o → ElementsDiffer w s es → ElementsDiffer w s (entries_after es (put_at i v o es))
  differ_put_at y v es i None at d = d
  differ_put_at y v es i (Some e) at d = differ_set v es i e at d

  differ_put : (y v : Value) (es : List (Value × Value)) (o : Option ℕ) → is_some o ≡ any_entry es y → ElementsDiffer w s es → ElementsDiffer w s (entries_after es (put y v o es))
  differ_put y v es None there d = differ_append y v es d (sym there)
  differ_put y v es (Some i) there d = differ_put_at y v es i (slice_get es i) refl d

  differ_with_all : (es : List (Value × Value)) (ys : List Value) → ElementsDiffer w s es → ElementsDiffer w s (with_elements w s es ys)
  differ_with_all es [] d = d
  differ_with_all es (y ∷ ys) d = differ_with_all (with_entry w s es (element y)) ys (differ_put y value.NoneValue es (place_in w s y es) (has_any es y) d)

  differ_in_all : (es : List (Value × Value)) (xss : List (List Value)) → ElementsDiffer w s es → ElementsDiffer w s (those_in_all w s es xss)
  differ_in_all es [] d = d
  differ_in_all es (xs ∷ xss) d = differ_in_all (those_in w s (with_elements w s [] xs) es) xss (differ_filter (λ e. has_element w s (with_elements w s [] xs) e.0) es d)

  differ_out : (fs es : List (Value × Value)) → ElementsDiffer w s es → ElementsDiffer w s (those_out w s fs es)
  differ_out fs es d = differ_filter (λ e. not (has_element w s fs e.0)) es d

  pub merged_differ : (m : Merge) (es : List (Value × Value)) (xss : List (List Value)) → ElementsDiffer w s es → ElementsDiffer w s (merged w s m es xss)
  merged_differ merge.Union es xss d = differ_with_all es (all_items xss) d
  merged_differ merge.Intersection es xss d = differ_in_all es xss d
  merged_differ merge.Difference es xss d = differ_out (with_elements w s [] (all_items xss)) es d
  merged_differ merge.SymmetricDifference es xss d = differ_with_all (those_out w s (with_elements w s [] (all_items xss)) es) (new_to w s es (all_items xss)) (differ_out (with_elements w s [] (all_items xss)) es d)
