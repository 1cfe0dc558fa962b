-- A new book is lawful.
use Rattle.std.proofs.Common.{◌≡◌, ◌+◌, ◌*◌, ◌++◌, ◌≤◌, ℕ, List, [], ◌∷◌, Option, Some, None, length, get_or, sum_by, count_by, replicate, refl, sym, subst, ap, ◌∙◌, arith}
use native.Mathlib.Decide.{dec_lt}
use Rattle.std.proofs.lemmas.List.{length-replicate, get_or-replicate, get_or_past, replicate-append-replicate}
use Rattle.std.proofs.lemmas.List.Folds.{sum_by-replicate}
use Rattle.star_cache.specs.declared.entry.Entry.{Entry}
use Rattle.star_cache.specs.declared.entry.Entry.TheVariants.{Fresh}
use Rattle.star_cache.specs.declared.book.Loader.{Loader}
use Rattle.star_cache.specs.State.{LoaderState, IsLawful, IsLoadPath, IsIn, IsSet, idle, entry_at, loader_at, stack_of, awaited_by, is_begun, begun_count}
use Rattle.star_cache.specs.Step.{fresh_book}
use Rattle.star_cache.proofs.RowsLemmas.{Represents, StandsFor, row_at, no_row}

-- each element of a row of equal ones, and past its end
at_replicate : {X : Type 0} (n i : ℕ) (x : X) → get_or (replicate n x) i x ≡ x
at_replicate n i x =
    elim (dec_lt i n) [ yes h ↦ get_or-replicate n i x x h | no h ↦ get_or_past (replicate n x) i x (omega (arith, length-replicate n x)) ]

module _ {P : Type 0} (loads : ℕ → List ℕ) (Reached : ℕ → Type 0) (Right : ℕ → P → Type 0) (files seats : ℕ) where
  entry_fresh : (e : ℕ) → entry_at (fresh_book {P = P} files seats) e ≡ Fresh
  entry_fresh e = at_replicate files e Fresh

  loader_idle : (s : ℕ) → loader_at (fresh_book {P = P} files seats) s ≡ idle
  loader_idle s = at_replicate seats s idle

  stack_empty : (s : ℕ) → stack_of (fresh_book {P = P} files seats) s ≡ []
  stack_empty s = ap (λ (l : LoaderState). l.stack) (loader_idle s)

  no_member : (s e : ℕ) → IsIn e (stack_of (fresh_book {P = P} files seats) s) → ⊥
  no_member s e h = subst (λ st. IsIn e st) (stack_empty s) h

  awaits_none : (s : ℕ) → awaited_by (fresh_book {P = P} files seats) s ≡ None
  awaits_none s = ap (λ (l : LoaderState). l.awaited) (loader_idle s)

  not_awaited : (s e : ℕ) → awaited_by (fresh_book {P = P} files seats) s ≡ Some e → ⊥
  not_awaited s e h = let clash = sym (awaits_none s) ∙ h in cc

  counted : sum_by (λ (l : LoaderState). l.count) (fresh_book {P = P} files seats).loaders ≡ begun_count (fresh_book {P = P} files seats)
  counted =
      let left = sum_by-replicate (λ (l : LoaderState). l.count) seats idle in
      let right : begun_count (fresh_book {P = P} files seats) ≡ files * 0 = sum_by-replicate _ files Fresh in
      omega (arith, left, right)

  pub IsLawful-fresh : IsLawful loads Reached Right (fresh_book {P = P} files seats)
  IsLawful-fresh = record {
    acyclic = λ s. (1, λ t w. not_awaited s w.1.0 w.1.1);
    stacked = λ e r. let clash = sym (entry_fresh e) ∙ r in absurd (cc);
    runs = λ s e h. absurd (no_member s e h);
    once = λ s. subst (λ st. IsSet st) (sym (stack_empty s)) tt;
    one_loader = λ s t e h k. absurd (no_member s e h);
    path = λ s. subst (λ st. IsLoadPath loads st) (sym (stack_empty s)) tt;
    awaits_begun = λ s e h f. not_awaited s e h;
    awaits_load = λ s e x h t. absurd (not_awaited s e h);
    right = λ e p d. let clash = sym (entry_fresh e) ∙ d in absurd (cc);
    reached = λ e b. absurd (b (entry_fresh e));
    counted = counted;
  }

  pub StandsFor-fresh : files ≤ 10000 → seats ≤ 64 → (owners : List ℕ) → length owners ≡ files → StandsFor loads Reached Right files (replicate files Fresh) (replicate files None) owners (replicate seats no_row) (fresh_book {P = P} files seats)
  StandsFor-fresh few seats_few owners fit = record {
    size = length-replicate files Fresh;
    few = few;
    parents_fit = length-replicate files None ∙ sym (length-replicate files Fresh);
    owners_fit = fit ∙ sym (length-replicate files Fresh);
    seats_few = let l = length-replicate seats no_row in omega arith;
    same_entries = refl;
    same_length = length-replicate seats no_row ∙ sym (length-replicate seats idle);
    represents = λ t h. subst (λ l. Represents (replicate files None) (row_at (replicate seats no_row) t) l) (sym (loader_idle t))
        (subst (λ r. Represents (replicate files None) r idle) (sym (at_replicate seats t no_row)) record { stack = refl; awaited = refl; count = refl });
    short = λ t. let none = ap length (stack_empty t) in omega arith;
    owned = λ t e h. absurd (no_member t e h);
    lawful = IsLawful-fresh;
  }

-- one more at the end
pub replicate-push : {X : Type 0} (n : ℕ) (x : X) (xs : List X) → xs ≡ replicate n x → xs ++ x ∷ [] ≡ replicate (n + 1) x
replicate-push n x xs e = ap (λ v. v ++ x ∷ []) e ∙ replicate-append-replicate n 1 x

-- rows made by pushing are the rows of the fresh book
pub StandsFor-new : {P : Type 0} (loads : ℕ → List ℕ) (Reached : ℕ → Type 0) (Right : ℕ → P → Type 0) (files n seats i j : ℕ) (entries : List (Entry P)) (parents : List (Option ℕ)) (owners : List ℕ) (loaders : List Loader) → n ≡ files → n ≤ 10000 → seats ≤ 64 → i ≡ n → j ≡ seats → entries ≡ replicate i Fresh → parents ≡ replicate i None → owners ≡ replicate i 0 → loaders ≡ replicate j no_row → StandsFor loads Reached Right files entries parents owners loaders (fresh_book n seats)
StandsFor-new {P} loads Reached Right files n seats i j entries parents owners loaders same few seats_few done_i done_j e p o l =
    let Row : ℕ → List (Entry P) = λ k. replicate k Fresh in
    let e' : entries ≡ replicate n Fresh = e ∙ ap Row done_i in
    let Parents : ℕ → List (Option ℕ) = λ k. replicate k None in
    let p' : parents ≡ replicate n None = p ∙ ap Parents done_i in
    let Owners : ℕ → List ℕ = λ k. replicate k 0 in
    let o' : owners ≡ replicate n 0 = o ∙ ap Owners done_i in
    let l' : loaders ≡ replicate seats no_row = l ∙ ap (λ (k : ℕ). replicate k no_row) done_j in
    let base : StandsFor loads Reached Right n (replicate n Fresh) (replicate n None) owners (replicate seats no_row) (fresh_book n seats) = StandsFor-fresh loads Reached Right n seats few seats_few owners (ap length o' ∙ length-replicate n 0) in
    subst (λ fs. StandsFor loads Reached Right fs entries parents owners loaders (fresh_book n seats)) same
    (subst (λ es. StandsFor loads Reached Right n es parents owners loaders (fresh_book n seats)) (sym e')
    (subst (λ ps. StandsFor loads Reached Right n (replicate n Fresh) ps owners loaders (fresh_book n seats)) (sym p')
    (subst (λ ls. StandsFor loads Reached Right n (replicate n Fresh) (replicate n None) owners ls (fresh_book n seats)) (sym l') base)))

-- and none of its entries is begun
pub begun-new : {P : Type 0} (i : ℕ) (entries : List (Entry P)) → entries ≡ replicate i Fresh → 0 ≡ count_by is_begun entries
begun-new {P} i entries e =
    let row : ℕ → List (Entry P) = λ k. replicate k Fresh in
    let none : count_by is_begun (row i) ≡ i * 0 = sum_by-replicate _ i Fresh in
    omega (arith, none, ap (λ (es : List (Entry P)). count_by is_begun es) e)
