-- The rows after an entry is begun.
use Rattle.std.proofs.Common.{◌≡◌, ◌≢◌, ◌+◌, ◌<◌, ◌≤◌, ℕ, List, Option, Some, None, length, slice_index, get_or, set, refl, sym, subst, ap, ◌∙◌, inl, inr, arith}
use Rattle.std.proofs.lemmas.List.{length-map, length-set, get_or-set_same, get_or-set_other, get_or_read}
use Rattle.star_cache.specs.declared.entry.Entry.{Entry}
use Rattle.star_cache.specs.declared.entry.Entry.TheVariants.{Fresh, Running}
use Rattle.star_cache.specs.declared.book.Loader.{Loader}
use Rattle.star_cache.specs.State.{BookState, LoaderState, Loads, IsIn, top_of, idle, entry_at, loader_at, stack_of, awaited_by, is_begun, begun_count}
use Rattle.star_cache.specs.Rows.{book_state, loader_state, parent_of, IsChain, IsKept}
use Rattle.star_cache.specs.Step.{after_begin}
use Rattle.std.proofs.lemmas.List.Sums.{get_or-le-sum_by}
use Rattle.star_cache.proofs.Lists.{same_or_apart, count_by-set_more, count_by-lt}
use Rattle.star_cache.proofs.Begin.{IsLawful-begin, stack_new, stack_old, member_cases, not_in, loader_new, loader_old}
use Rattle.star_cache.proofs.RowsLemmas.{Represents, Represents-kept, StandsFor, row_at, no_row, IsChain-set}

-- the seat's row after it has begun n
abbrev pub begun_row : Loader → ℕ → Loader
begun_row row n = record { top = Some n; awaited = row.awaited; count = row.count + 1 }

module _ {P : Type 0} (loads : ℕ → List ℕ) (Reached : ℕ → Type 0) (Right : ℕ → P → Type 0) (files : ℕ) (entries : List (Entry P)) (parents : List (Option ℕ)) (owners : List ℕ) (loaders : List Loader) (kept : IsKept loads Reached Right files entries parents owners loaders) (s n : ℕ) (row : Loader) (there : s < length loaders) (read : row ≡ get_or loaders s row) (free : awaited_by (book_state entries parents loaders) s ≡ None) (fresh : entry_at (book_state entries parents loaders) n ≡ Fresh) (known : n < length entries) where
  there_in : s < length (book_state entries parents loaders).loaders
  there_in = omega (arith, there, length-map loaders (loader_state parents))

  is_row : row_at loaders s ≡ row
  is_row = sym (get_or_read loaders s row there read no_row)

  old_row : Represents parents row (loader_at (book_state entries parents loaders) s)
  old_row = subst (λ r. Represents parents r (loader_at (book_state entries parents loaders) s)) is_row (Represents-kept loads Reached Right files entries parents owners loaders kept s there)

  out : (t : ℕ) → IsIn n (stack_of (book_state entries parents loaders) t) → ⊥
  out = not_in loads Reached Right (book_state entries parents loaders) s n kept.lawful there_in free fresh known

  top_row : Represents (set parents n row.top) (begun_row row n) (loader_at (after_begin (book_state entries parents loaders) s n) s)
  top_row =
      let below : parent_of (set parents n row.top) n ≡ row.top = get_or-set_same parents n row.top None (let fit = kept.parents_fit in omega arith) in
      let chain = IsChain-set parents n row.top row.top (stack_of (book_state entries parents loaders) s) (out s) old_row.stack in
      let MakeCount : ℕ → ℕ = λ k. k + 1 in
      subst (λ v. Represents (set parents n row.top) (begun_row row n) v) (sym (loader_new loads Reached Right (book_state entries parents loaders) s n kept.lawful there_in free fresh known))
      record {
        stack = (refl, subst (λ v. IsChain (set parents n row.top) v (stack_of (book_state entries parents loaders) s)) (sym below) chain);
        awaited = old_row.awaited;
        count = ap MakeCount old_row.count;
      }

  represents : (t : ℕ) → t < length (set loaders s (begun_row row n)) → Represents (set parents n row.top) (row_at (set loaders s (begun_row row n)) t) (loader_at (after_begin (book_state entries parents loaders) s n) t)
  represents t h =
      elim (same_or_apart t s) [
        | inl same ↦
            subst (λ v. Represents (set parents n row.top) (row_at (set loaders s (begun_row row n)) v) (loader_at (after_begin (book_state entries parents loaders) s n) v)) (sym same)
            (subst (λ r. Represents (set parents n row.top) r (loader_at (after_begin (book_state entries parents loaders) s n) s)) (sym (get_or-set_same loaders s (begun_row row n) no_row there)) top_row)
        | inr apart ↦
            let low : t < length loaders = omega (arith, h, length-set loaders s (begun_row row n)) in
            let old = Represents-kept loads Reached Right files entries parents owners loaders kept t low in
            let same_row = get_or-set_other loaders s t (begun_row row n) no_row apart in
            let same_loader = loader_old loads Reached Right (book_state entries parents loaders) s n kept.lawful there_in free fresh known t apart in
            let now : Represents (set parents n row.top) (row_at loaders t) (loader_at (book_state entries parents loaders) t) = record { stack = IsChain-set parents n row.top (row_at loaders t).top (stack_of (book_state entries parents loaders) t) (out t) old.stack; awaited = old.awaited; count = old.count } in
            subst (λ v. Represents (set parents n row.top) (row_at (set loaders s (begun_row row n)) t) v) (sym same_loader) (subst (λ r. Represents (set parents n row.top) r (loader_at (book_state entries parents loaders) t)) (sym same_row) now)
      ]

  short : (t : ℕ) → length (stack_of (after_begin (book_state entries parents loaders) s n) t) ≤ begun_count (after_begin (book_state entries parents loaders) s n)
  short t =
      let more = count_by-set_more is_begun entries n Running Fresh known (ap is_begun fresh) refl in
      elim (same_or_apart t s) [
        | inl same ↦
            let old = kept.short s in
            let new = ap length (stack_new loads Reached Right (book_state entries parents loaders) s n kept.lawful there_in free fresh known) in
            let at_seat : length (stack_of (after_begin (book_state entries parents loaders) s n) s) ≤ begun_count (after_begin (book_state entries parents loaders) s n) = omega (arith, old, new, more) in
            subst (λ v. length (stack_of (after_begin (book_state entries parents loaders) s n) v) ≤ begun_count (after_begin (book_state entries parents loaders) s n)) (sym same) at_seat
        | inr apart ↦
            let old = kept.short t in
            let new = ap length (stack_old loads Reached Right (book_state entries parents loaders) s n kept.lawful there_in free fresh known t apart) in
            omega (arith, old, new, more)
      ]

  owned : (t e : ℕ) → IsIn e (stack_of (after_begin (book_state entries parents loaders) s n) t) → slice_index (set owners n s) e ≡ t
  owned t e h =
      elim (member_cases loads Reached Right (book_state entries parents loaders) s n kept.lawful there_in free fresh known t e h) [
        | inl new ↦
            let at_n : slice_index (set owners n s) n ≡ s = get_or-set_same owners n s 0 (let fit = kept.owners_fit in omega arith) in
            ap (λ v. slice_index (set owners n s) v) new.0 ∙ (at_n ∙ sym new.1)
        | inr old ↦
            let apart : e ≢ n = λ same. out t (subst (λ v. IsIn v (stack_of (book_state entries parents loaders) t)) same old) in
            get_or-set_other owners n e s 0 apart ∙ kept.owned t e old
      ]

  stands : Reached n → ((x : ℕ) → top_of (stack_of (book_state entries parents loaders) s) ≡ Some x → Loads loads x n) → StandsFor loads Reached Right files (set entries n Running) (set parents n row.top) (set owners n s) (set loaders s (begun_row row n)) (after_begin (book_state entries parents loaders) s n)
  stands reached loaded =
      let e = length-set entries n Running in
      let p = length-set parents n row.top in
      let o = length-set owners n s in
      let l = length-set loaders s (begun_row row n) in
      record {
        size = e ∙ kept.size;
        few = kept.few;
        parents_fit = p ∙ (kept.parents_fit ∙ sym e);
        owners_fit = o ∙ (kept.owners_fit ∙ sym e);
        seats_few = let old = kept.seats_few in omega (arith, l, old);
        same_entries = refl;
        same_length = l ∙ (sym (length-map loaders (loader_state parents)) ∙ sym (length-set (book_state entries parents loaders).loaders s _));
        represents = represents;
        short = short;
        owned = owned;
        lawful = IsLawful-begin loads Reached Right (book_state entries parents loaders) s n kept.lawful there_in free fresh known reached loaded;
      }

  -- the loader has begun fewer entries than there are
  pub count_fits : row.count < length entries
  count_fits =
      let below = count_by-lt_entries in
      let one = get_or-le-sum_by (λ (l : LoaderState). l.count) (book_state entries parents loaders).loaders s idle there_in in
      let all = kept.lawful.counted in
      let same = old_row.count in
      omega (arith, below, one, all, same)
    where
      count_by-lt_entries : begun_count (book_state entries parents loaders) < length entries
      count_by-lt_entries = count_by-lt is_begun entries n Running Fresh known (ap is_begun fresh) refl

  -- one more is begun
  pub begun_more : (k : ℕ) → k ≡ begun_count (book_state entries parents loaders) → k + 1 ≡ begun_count (after_begin (book_state entries parents loaders) s n)
  begun_more k is = let more = count_by-set_more is_begun entries n Running Fresh known (ap is_begun fresh) refl in omega (arith, more, is)

-- the seat begins n
pub StandsFor-begin : {P : Type 0} (loads : ℕ → List ℕ) (Reached : ℕ → Type 0) (Right : ℕ → P → Type 0) (files : ℕ) (entries : List (Entry P)) (parents : List (Option ℕ)) (owners : List ℕ) (loaders : List Loader) (kept : IsKept loads Reached Right files entries parents owners loaders) (s n : ℕ) (row : Loader) (b : BookState P) → book_state entries parents loaders ≡ b → s < length b.loaders → row ≡ get_or loaders s row → awaited_by b s ≡ None → entry_at b n ≡ Fresh → n < length b.entries → Reached n → ((x : ℕ) → top_of (stack_of b s) ≡ Some x → Loads loads x n) → StandsFor loads Reached Right files (set entries n Running) (set parents n row.top) (set owners n s) (set loaders s (begun_row row n)) (after_begin b s n)
StandsFor-begin loads Reached Right files entries parents owners loaders kept s n row b is there read =
    subst (λ v. s < length v.loaders → awaited_by v s ≡ None → entry_at v n ≡ Fresh → n < length v.entries → Reached n → ((x : ℕ) → top_of (stack_of v s) ≡ Some x → Loads loads x n) → StandsFor loads Reached Right files (set entries n Running) (set parents n row.top) (set owners n s) (set loaders s (begun_row row n)) (after_begin v s n)) is
    (λ here free fresh known. stands loads Reached Right files entries parents owners loaders kept s n row (omega (arith, here, length-map loaders (loader_state parents))) read free fresh known) there
