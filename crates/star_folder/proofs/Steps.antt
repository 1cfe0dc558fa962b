-- One visit of a walk after another.
use Rattle.std.proofs.Common.{◌≡◌, ℕ, ◌+◌, ◌-◌, ◌≤◌, List, [], ◌∷◌, ◌++◌, length, length-append, map, refl, ap, sym, subst, ◌∙◌, arith}
use Rattle.std.specs.BTreeMap.{insert_entry}
use Rattle.std.specs.Cmp.Lexicographic.{slice_cmp}
use Rattle.std.specs.Ordering.{nat_cmp}
use Rattle.star_label.specs.Files.{File, file_of}
use Rattle.star_bundle.specs.Bundle.{with_files}
use Rattle.star_bundle.specs.declared.error.ServeError.TheVariants as error
use Rattle.star_folder.specs.Folder.{Contents}
use Rattle.star_folder.specs.Views.{Goes, left_of}
use Rattle.star_folder.specs.Walk.{IsWalk, Passes, Place, Visit, bytes_at, bytes_in, entries_at, entries_in, files_at, files_in, opened, place_of}
use Rattle.star_folder.specs.declared.state.Walk.{Walk}
use Rattle.star_folder.proofs.Stacks.{few_opened, length-left}

-- the counts and the files of a walk are the counts and the files of its visits
pub record Counted (vs : List Visit) (files : List File) (entries number bytes : ℕ) : Type 0 where
  pub found : files ≡ with_files [] (files_in vs)
  pub listed : entries ≡ entries_in vs
  pub count : number ≡ length (files_in vs)
  pub size : bytes ≡ bytes_in vs

abbrev pub IsCounted : List Visit → Walk → Type 0
IsCounted vs w = Counted vs (map file_of w.found.entries) w.listed w.count w.size

with-append : (made fs gs : List File) → with_files made (fs ++ gs) ≡ with_files (with_files made fs) gs
unfolding with_files
with-append made [] gs = refl
with-append made (f ∷ fs) gs = with-append (insert_entry (slice_cmp nat_cmp) made f.0 f.1) fs gs

counted_more : (held : Contents) (vs : List Visit) (w u : Walk) (place : Place) (v : Visit) → IsCounted vs w → Goes held w u place v → IsCounted (v ∷ vs) u
counted_more held vs w u place v c g = record {
  found = g.found ∙ ap (λ fs. with_files fs (files_at v)) c.found ∙ sym (with-append [] (files_in vs) (files_at v));
  listed = g.listed ∙ ap (λ n. n + entries_at v) c.listed;
  count = g.count ∙ ap (λ n. n + length (files_at v)) c.count ∙ sym (length-append (files_in vs) (files_at v));
  size = g.size ∙ ap (λ n. n + bytes_at v) c.size;
}

walk_more : (held : Contents) (vs : List Visit) (w u : Walk) (place : Place) (v : Visit) → IsCounted vs w → Goes held w u place v → IsWalk held vs (place ∷ left_of w.places.items) → IsWalk held (v ∷ vs) (left_of u.places.items)
walk_more held vs w u place v c g h =
    let rest = left_of w.places.items in
    let first : IsWalk held vs (place_of v ∷ rest) = subst (λ p. IsWalk held vs (p ∷ rest)) (sym g.is_of) h in
    let passes : Passes (entries_in vs) (length (files_in vs)) (bytes_in vs) v =
    subst (λ n. Passes n (length (files_in vs)) (bytes_in vs) v) c.listed (subst (λ n. Passes w.listed n (bytes_in vs) v) c.count (subst (λ n. Passes w.listed w.count n v) c.size g.passes)) in
    (rest, first, g.tells, passes, g.left)

-- a walk with one visit more
pub next : (held now : Contents) (vs : List Visit) (w u : Walk) (place : Place) (before : List Place) → now ≡ held → IsCounted vs w → IsWalk held vs before
    → before ≡ place ∷ left_of w.places.items → (v : Visit) × Goes now w u place v → (xs : List Visit) × IsCounted xs u × IsWalk held xs (left_of u.places.items)
next held now vs w u place before same c h e goes =
    let g : Goes held w u place goes.0 = subst (λ x. Goes x w u place goes.0) same goes.1 in
    (goes.0 ∷ vs, counted_more held vs w u place goes.0 c g, walk_more held vs w u place goes.0 c g (subst (IsWalk held vs) e h))

-- the places that may still be visited become fewer
pub fewer : (held : Contents) (w u : Walk) (place : Place) (v : Visit) → Goes held w u place v → u.listed ≤ 100000 → (100000 - u.listed) + length u.places.items ≤ (100000 - w.listed) + length w.places.items
fewer held w u place v g h =
    let few = few_opened v in
    let long : length u.places.items ≡ length (opened v) + length w.places.items =
    sym (length-left u.places.items) ∙ ap length g.left ∙ length-append (opened v) (left_of w.places.items) ∙ ap (λ n. length (opened v) + n) (length-left w.places.items) in
    omega (arith, few, long, g.listed, h)
