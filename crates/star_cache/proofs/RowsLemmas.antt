-- The rows, and the book that they represent.
use Rattle.std.proofs.Common.{◌≡◌, ◌≢◌, ◌<◌, ◌≤◌, ℕ, zero, suc, List, [], ◌∷◌, Option, None, length, map, slice_index, get_or, set, refl, sym, subst, ap, ◌∙◌, inl, inr, arith}
use Rattle.std.proofs.lemmas.List.{get_or-map, length-map, ext_get_or, get_or-set_other}
use Rattle.std.proofs.lemmas.List.Sums.{count_by-le-length}
use Rattle.star_cache.specs.declared.entry.Entry.{Entry}
use Rattle.star_cache.specs.declared.book.Loader.{Loader}
use Rattle.star_cache.specs.State.{BookState, LoaderState, IsLawful, IsIn, idle, loader_at, stack_of, is_begun, begun_count}
use Rattle.star_cache.specs.Rows.{book_state, loader_state, parent_of, chain, IsChain, IsKept}

-- the row of a loader that has done nothing
abbrev pub no_row : Loader
no_row = record { top = None; awaited = None; count = 0 }

-- the row of a seat
abbrev pub row_at : List Loader → ℕ → Loader
row_at loaders s = get_or loaders s no_row

-- the row represents the loader
pub record Represents (parents : List (Option ℕ)) (row : Loader) (state : LoaderState) : Type 0 where
  pub stack : IsChain parents row.top state.stack
  pub awaited : row.awaited ≡ state.awaited
  pub count : row.count ≡ state.count

-- a chain that fits within k entries is the first k
pub chain-is : (k : ℕ) (parents : List (Option ℕ)) (top : Option ℕ) (stack : List ℕ) → IsChain parents top stack → length stack ≤ k → chain k parents top ≡ stack
chain-is zero parents top [] is h = refl
chain-is (suc k) parents top [] is h = subst (λ v. chain (suc k) parents v ≡ []) (sym is) refl
chain-is zero parents top (e ∷ below) is h = absurd (omega arith)
chain-is (suc k) parents top (e ∷ below) is h =
    subst (λ v. chain (suc k) parents v ≡ e ∷ below) (sym is.0) (ap (λ st. e ∷ st) (chain-is k parents (parent_of parents e) below is.1 (omega arith)))

-- another parent of an entry that isn't in the stack
pub IsChain-set : (parents : List (Option ℕ)) (n : ℕ) (v top : Option ℕ) (stack : List ℕ) → (IsIn n stack → ⊥) → IsChain parents top stack → IsChain (set parents n v) top stack
IsChain-set parents n v top [] out is = is
IsChain-set parents n v top (e ∷ below) out is =
    let apart : e ≢ n = λ same. out (inl (sym same)) in
    let same : parent_of (set parents n v) e ≡ parent_of parents e = get_or-set_other parents n e v None apart in
    (is.0, subst (λ u. IsChain (set parents n v) u below) (sym same) (IsChain-set parents n v (parent_of parents e) below (λ h. out (inr h)) is.1))

pub loader_state-is : (parents : List (Option ℕ)) (row : Loader) (state : LoaderState) → Represents parents row state → length state.stack ≤ length parents → loader_state parents row ≡ state
loader_state-is parents row state rep h =
    let stacks = chain-is (length parents) parents row.top state.stack rep.stack h in
    let MakeStack : List ℕ → LoaderState = λ st. record { stack = st; awaited = row.awaited; count = row.count } in
    let MakeAwaited : Option ℕ → LoaderState = λ a. record { stack = state.stack; awaited = a; count = row.count } in
    let MakeCount : ℕ → LoaderState = λ k. record { stack = state.stack; awaited = state.awaited; count = k } in
    ap MakeStack stacks ∙ (ap MakeAwaited rep.awaited ∙ ap MakeCount rep.count)

-- rows represent a book, if each represents its loader
pub book_state-is : {P : Type 0} (entries : List (Entry P)) (parents : List (Option ℕ)) (loaders : List Loader) (b : BookState P) → entries ≡ b.entries → length loaders ≡ length b.loaders → ((t : ℕ) → t < length loaders → Represents parents (row_at loaders t) (loader_at b t)) → ((t : ℕ) → length (stack_of b t) ≤ length parents) → book_state entries parents loaders ≡ b
book_state-is {P} entries parents loaders b same_entries same_length rep short =
    let MakeLoaders : List LoaderState → BookState P = λ ls. record { entries = entries; loaders = ls } in
    let MakeEntries : List (Entry P) → BookState P = λ es. record { entries = es; loaders = b.loaders } in
    ap MakeLoaders (ext_get_or idle (map (loader_state parents) loaders) b.loaders (length-map loaders (loader_state parents) ∙ same_length) at_each) ∙ ap MakeEntries same_entries
  where
    at_each : (t : ℕ) → t < length (map (loader_state parents) loaders) → get_or (map (loader_state parents) loaders) t idle ≡ get_or b.loaders t idle
    at_each t h =
        let low : t < length loaders = omega (arith, length-map loaders (loader_state parents)) in
        get_or-map (loader_state parents) loaders t no_row idle low ∙ loader_state-is parents (row_at loaders t) (loader_at b t) (rep t low) (short t)

-- the rows of a kept book represent its loaders
pub Represents-kept : {P : Type 0} (loads : ℕ → List ℕ) (Reached : ℕ → Type 0) (Right : ℕ → P → Type 0) (files : ℕ) (entries : List (Entry P)) (parents : List (Option ℕ)) (owners : List ℕ) (loaders : List Loader) → IsKept loads Reached Right files entries parents owners loaders → (t : ℕ) → t < length loaders → Represents parents (row_at loaders t) (loader_at (book_state entries parents loaders) t)
Represents-kept loads Reached Right files entries parents owners loaders kept t h =
    let same : loader_at (book_state entries parents loaders) t ≡ loader_state parents (row_at loaders t) = get_or-map (loader_state parents) loaders t no_row idle h in
    record {
      stack = kept.whole t h;
      awaited = sym (ap (λ (l : LoaderState). l.awaited) same);
      count = sym (ap (λ (l : LoaderState). l.count) same);
    }

-- the facts on rows and on the book that they represent, which keep a book
pub record StandsFor {P : Type 0} (loads : ℕ → List ℕ) (Reached : ℕ → Type 0) (Right : ℕ → P → Type 0) (files : ℕ) (entries : List (Entry P)) (parents : List (Option ℕ)) (owners : List ℕ) (loaders : List Loader) (b : BookState P) : Type 0 where
  pub size : length entries ≡ files
  pub few : files ≤ 10000
  pub parents_fit : length parents ≡ length entries
  pub owners_fit : length owners ≡ length entries
  pub seats_few : length loaders ≤ 64
  pub same_entries : entries ≡ b.entries
  pub same_length : length loaders ≡ length b.loaders
  pub represents : (t : ℕ) → t < length loaders → Represents parents (row_at loaders t) (loader_at b t)
  pub short : (t : ℕ) → length (stack_of b t) ≤ begun_count b
  pub owned : (t e : ℕ) → IsIn e (stack_of b t) → slice_index owners e ≡ t
  pub lawful : IsLawful loads Reached Right b

pub StandsFor-is : {P : Type 0} (loads : ℕ → List ℕ) (Reached : ℕ → Type 0) (Right : ℕ → P → Type 0) (files : ℕ) (entries : List (Entry P)) (parents : List (Option ℕ)) (owners : List ℕ) (loaders : List Loader) (b : BookState P) → StandsFor loads Reached Right files entries parents owners loaders b → book_state entries parents loaders ≡ b
StandsFor-is loads Reached Right files entries parents owners loaders b f =
    book_state-is entries parents loaders b f.same_entries f.same_length f.represents
    (λ t. let within = count_by-le-length is_begun b.entries in let same = ap length f.same_entries in let h = f.short t in let fit = f.parents_fit in omega arith)

pub IsKept-from : {P : Type 0} (loads : ℕ → List ℕ) (Reached : ℕ → Type 0) (Right : ℕ → P → Type 0) (files : ℕ) (entries : List (Entry P)) (parents : List (Option ℕ)) (owners : List ℕ) (loaders : List Loader) (b : BookState P) → StandsFor loads Reached Right files entries parents owners loaders b → IsKept loads Reached Right files entries parents owners loaders
IsKept-from loads Reached Right files entries parents owners loaders b f =
    let is = sym (StandsFor-is loads Reached Right files entries parents owners loaders b f) in
    record {
      size = f.size;
      few = f.few;
      parents_fit = f.parents_fit;
      owners_fit = f.owners_fit;
      seats_few = f.seats_few;
      whole = λ t h. subst (λ v. IsChain parents (row_at loaders t).top (stack_of v t)) is (f.represents t h).stack;
      short = λ t. subst (λ v. length (stack_of v t) ≤ begun_count v) is (f.short t);
      owned = subst (λ v. (t e : ℕ) → IsIn e (stack_of v t) → slice_index owners e ≡ t) is f.owned;
      lawful = subst (λ v. IsLawful loads Reached Right v) is f.lawful;
    }
