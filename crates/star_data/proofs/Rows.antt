-- Names that are put at their places in a row, one after the other.
use Rattle.std.proofs.Common.{arith, ◌≡◌, ℕ, zero, suc, List, [], ◌∷◌, ◌++◌, length, map, Option, Some, None, refl, ap, sym, subst, ◌∙◌}
use denote.Ref.{Bor}
use Rattle.std.specs.Prelude.{slice_get}
use Rattle.std.specs.List.{insert}
use Rattle.std.specs.Option.{option_and_then, option_map}
use Rattle.std.specs.declared.cmp.Ordering.{Ordering}
use Rattle.std.specs.declared.cmp.Ordering.TheVariants.{Less, Equal, Greater}
use Rattle.std.specs.Ordering.{match_ordering, nat_cmp}
use Rattle.std.specs.Cmp.Lexicographic.{slice_cmp}
use Rattle.serde_json.specs.Data.{Data, member, put}
use Rattle.star_store.specs.declared.values.Value.{Value}
use Rattle.star_store.specs.declared.values.Cell.{Cell}
use Rattle.star_data.specs.Data.{cell_of, entries_data, key_in}
use Rattle.star_data.specs.Paths.{AllStandInEach, StandsInEach}
use Rattle.star_data.specs.Rows.{IsRowOf, put_new}
use Rattle.star_data.specs.Texts.{row_data}
use Rattle.star_data.proofs.Options.{mapped}
use Rattle.star_data.proofs.Sent.{Row, at_greater, at_less, key_cmp, with_one}

-- the name comes after the first i names
abbrev pub After : List ℕ → Row → ℕ → Type 0
After k es zero = Unit {0}
After k [] (suc i) = ⊥
After k (e ∷ es) (suc i) = (slice_cmp nat_cmp k e.0.now ≡ Greater) × After k es i

module _ (k : Bor (List ℕ)) (v : Value) where
  -- ---- the place of a name

  turned : (x : Bor (List ℕ) × Value) (es : Row) (o : Ordering) → key_cmp k x.0 ≡ o → put_new (x ∷ es) k v ≡ match_ordering o (Some ((k, v) ∷ x ∷ es)) None (option_map (λ row. x ∷ row) (put_new es k v))
  turned x es o e = ap (λ r. match_ordering r (Some ((k, v) ∷ x ∷ es)) None (option_map (λ row. x ∷ row) (put_new es k v))) e

  pub after_more : (es : Row) (i : ℕ) (x : Bor (List ℕ) × Value) → After k.now es i → slice_get es i ≡ Some x → key_cmp k x.0 ≡ Greater → After k.now es (suc i)
  after_more [] i x was at is = absurd (let no : ⊥ = cc in no)
  after_more (e ∷ es) zero x was at is = (let same : e ≡ x = cc in ap (λ (z : Bor (List ℕ) × Value). key_cmp k z.0) same ∙ is, tt)
  after_more (e ∷ es) (suc i) x was at is = (was.0, after_more es i x was.1 at is)

  pub put_before : (es : Row) (i : ℕ) (x : Bor (List ℕ) × Value) → After k.now es i → slice_get es i ≡ Some x → key_cmp k x.0 ≡ Less → put_new es k v ≡ Some (insert es i (k, v))
  put_before [] i x was at is = absurd (let no : ⊥ = cc in no)
  put_before (e ∷ es) zero x was at is = turned e es Less (let same : e ≡ x = cc in ap (λ (z : Bor (List ℕ) × Value). key_cmp k z.0) same ∙ is)
  put_before (e ∷ es) (suc i) x was at is = turned e es Greater was.0 ∙ ap (option_map (λ row. e ∷ row)) (put_before es i x was.1 at is)

  pub put_never : (es : Row) (i : ℕ) (x : Bor (List ℕ) × Value) → After k.now es i → slice_get es i ≡ Some x → key_cmp k x.0 ≡ Equal → put_new es k v ≡ None
  put_never [] i x was at is = absurd (let no : ⊥ = cc in no)
  put_never (e ∷ es) zero x was at is = turned e es Equal (let same : e ≡ x = cc in ap (λ (z : Bor (List ℕ) × Value). key_cmp k z.0) same ∙ is)
  put_never (e ∷ es) (suc i) x was at is = turned e es Greater was.0 ∙ ap (option_map (λ row. e ∷ row)) (put_never es i x was.1 at is)

  pub put_last : (es : Row) (i : ℕ) → After k.now es i → i ≡ length es → put_new es k v ≡ Some (es ++ (k, v) ∷ [])
  put_last [] i was e = refl
  put_last (x ∷ es) zero was e = absurd (let no : ⊥ = omega arith in no)
  put_last (x ∷ es) (suc i) was e = turned x es Greater was.0 ∙ ap (option_map (λ row. x ∷ row)) (put_last es i was.1 (omega arith))

  -- ---- its data

  module _ (f : Value → Option Data) where
    pub put_data : (es new : Row) → put_new es k v ≡ Some new → row_data f new ≡ with_one f k v (row_data f es)
    put_data [] new e = let same : (k, v) ∷ [] ≡ new = cc in ap (row_data f) (sym same)
    put_data (x ∷ es) new e = turn (put_data es) (key_cmp k x.0) refl
      where
        turn : ((r : Row) → put_new es k v ≡ Some r → row_data f r ≡ with_one f k v (row_data f es)) → (o : Ordering) → key_cmp k x.0 ≡ o → row_data f new ≡ with_one f k v (row_data f (x ∷ es))
        turn more Less is =
            let there : Some ((k, v) ∷ x ∷ es) ≡ Some new = sym (turned x es Less is) ∙ e in
            let same : (k, v) ∷ x ∷ es ≡ new = cc in
            ap (row_data f) (sym same) ∙ at_less f k v x es (f v) (f x.1) (row_data f es) is
        turn more Equal is = absurd (let no : None ≡ Some new = sym (turned x es Equal is) ∙ e in let none : ⊥ = cc in none)
        turn more Greater is =
            let rest = mapped (λ row. x ∷ row) (put_new es k v) new (sym (turned x es Greater is) ∙ e) in
            ap (row_data f) (sym rest.2) ∙ (ap (λ q. option_and_then (λ c. option_map (member x.0.now c) q) (f x.1)) (more rest.0 rest.1) ∙ at_greater f k v x (f v) (f x.1) (row_data f es) is)

  -- ---- its values, inside of the values of a path

  module _ (look : Value → Option Cell) (path : List Value) where
    abbrev Stand : Row → Type 0
    Stand row = AllStandInEach look path (map (λ (e : Bor (List ℕ) × Value). e.1) row)

    ahead : (e : Bor (List ℕ) × Value) (row : Row) → StandsInEach look path e.1 → Stand row → Stand (e ∷ row)
    ahead e row h rest = record { all = λ i x at. by i x at }
      where
        by : (i : ℕ) (x : Value) → slice_get (e.1 ∷ map (λ (e : Bor (List ℕ) × Value). e.1) row) i ≡ Some x → StandsInEach look path x
        by zero x at = subst (StandsInEach look path) (let same : e.1 ≡ x = cc in same) h
        by (suc i) x at = rest.all i x at

    behind : (e : Bor (List ℕ) × Value) (row : Row) → Stand (e ∷ row) → Stand row
    behind e row all = record { all = λ i x at. all.all (suc i) x at }

    pub put_stands : (es new : Row) → put_new es k v ≡ Some new → Stand es → StandsInEach look path v → Stand new
    put_stands [] new e all one = let same : (k, v) ∷ [] ≡ new = cc in subst Stand same (ahead (k, v) [] one all)
    put_stands (x ∷ es) new e all one = turn (λ r is. put_stands es r is (behind x es all) one) (key_cmp k x.0) refl
      where
        turn : ((r : Row) → put_new es k v ≡ Some r → Stand r) → (o : Ordering) → key_cmp k x.0 ≡ o → Stand new
        turn more Less is =
            let there : Some ((k, v) ∷ x ∷ es) ≡ Some new = sym (turned x es Less is) ∙ e in
            let same : (k, v) ∷ x ∷ es ≡ new = cc in
            subst Stand same (ahead (k, v) (x ∷ es) one all)
        turn more Equal is = absurd (let no : None ≡ Some new = sym (turned x es Equal is) ∙ e in let none : ⊥ = cc in none)
        turn more Greater is =
            let rest = mapped (λ row. x ∷ row) (put_new es k v) new (sym (turned x es Greater is) ∙ e) in
            subst Stand rest.2 (ahead x rest.0 (all.all 0 x.1 refl) (more rest.0 rest.1))

-- ---- the row of some entries

pub row_more : (look : Value → Option Cell) (es left : List (Value × Value)) (e : Value × Value) (k : Bor (List ℕ)) (row new : Row) → es ≡ e ∷ left → key_in (cell_of look e.0) ≡ Some k.now
    → IsRowOf look left row → put_new row k e.1 ≡ Some new → IsRowOf look es new
row_more look es left e k row new at text was is = record {
  data_as = λ f.
      ap (entries_data look f) at
      ∙ (ap (option_and_then (λ n. option_and_then (λ d. option_map (put n d) (entries_data look f left)) (f e.1))) text
      ∙ (ap (λ ms. option_and_then (λ d. option_map (put k.now d) ms) (f e.1)) (was.data_as f) ∙ sym (put_data k e.1 f row new is)));
  stand = λ path all. (
      let whole : AllStandInEach look path (map (λ (e : Value × Value). e.1) (e ∷ left)) = subst (λ xs. AllStandInEach look path (map (λ (e : Value × Value). e.1) xs)) at all in
      let rest : AllStandInEach look path (map (λ (e : Value × Value). e.1) left) = record { all = λ i x there. whole.all (suc i) x there } in
      put_stands k e.1 look path row new is (was.stand path rest) (whole.all 0 e.1 refl)
      );
}
