-- Entries gathered for a new dictionary: the places that their contents give, and how these follow each put.
use Rattle.std.proofs.Common.{◌≡◌, ℕ, nat_eq, Bool, true, false, List, [], ◌∷◌, ◌++◌, map, Option, Some, None, IfSome, position, slice_get, slice_set, if◌then◌else◌, refl, ap, sym, subst, ◌∙◌}
use Rattle.std.specs.Cmp.Lexicographic.{pointwise}
use Rattle.std.specs.Option.{option_map}
use Rattle.std.proofs.lemmas.List.{map-append}
use Rattle.std.proofs.lemmas.Option.{get_or_from_slice_get}
use Rattle.std.proofs.Math.Seq.{map-set_same}
use Rattle.star_store.specs.declared.values.Value.{Value}
use Rattle.star_store.specs.declared.values.Value.TheVariants as value
use Rattle.star_store.specs.declared.values.Cell.{Cell}
use Rattle.star_store.specs.declared.values.Cell.TheVariants as cell
use Rattle.star_store.specs.declared.values.HeapCell.{HeapCell}
use Rattle.star_store.specs.declared.content.Atom.{Atom}
use Rattle.star_store.specs.Content.{KeepsKeys, content, same_atom, same_content}
use Rattle.star_store.specs.Index.{place_by}
use Rattle.star_store.specs.Key.{key_levels, same_key}
use Rattle.star_store.specs.Store.{Store, look, published_cells}
use Rattle.star_store.proofs.Contents.{contents_stay, same_keys}
use Rattle.star_store.proofs.Indexes.{alike}
use Rattle.star_meaning.specs.Laws.{KeepsKind}
use Rattle.star_meaning.specs.Program.{Setting}
use Rattle.star_meaning.specs.Run.{State, Action, Done}
use Rattle.star_meaning.specs.Values.{place_in}
use Rattle.star_meaning.proofs.Stays.{Keeps, Preserved, Stays}
use Rattle.star_machine.specs.DictBuilder.{Gathering, IsGathered, contents_of}

-- the tests of a key against keys are the tests of its content against their contents
key_tests : (see : Value → Option Cell) (n : ℕ) (key : Value) (es : List (Value × Value)) → map (λ e. same_key see n key e.0) es ≡ map (same_content (content see n key)) (map (λ e. content see n e.0) es)
key_tests see n key [] = refl
key_tests see n key (e ∷ es) = ap (λ (b : Bool). b ∷ map (λ d. same_key see n key d.0) es) (same_keys see n key e.0) ∙ ap (λ (bs : List Bool). same_content (content see n key) (content see n e.0) ∷ bs) (key_tests see n key es)

content_tests : (atoms : List Atom) (contents : List (List Atom)) → map (same_content (Some atoms)) (map Some contents) ≡ map (pointwise same_atom atoms) contents
content_tests atoms [] = refl
content_tests atoms (k ∷ contents) = ap (λ (bs : List Bool). pointwise same_atom atoms k ∷ bs) (content_tests atoms contents)

tests_at : (see : Value → Option Cell) (n : ℕ) (key : Value) (atoms : List Atom) (es : List (Value × Value)) (contents : List (List Atom)) → content see n key ≡ Some atoms → map (λ e. content see n e.0) es ≡ map Some contents → map (pointwise same_atom atoms) contents ≡ map (λ e. same_key see n key e.0) es
tests_at see n key atoms es contents h k =
    sym (content_tests atoms contents)
    ∙ ap (map (same_content (Some atoms))) (sym k)
    ∙ ap (λ (o : Option (List Atom)). map (same_content o) (map (λ e. content see n e.0) es)) (sym h)
    ∙ sym (key_tests see n key es)

found_at : (see : Value → Option Cell) (n : ℕ) (key : Value) (atoms : List Atom) (es : List (Value × Value)) (contents : List (List Atom)) → content see n key ≡ Some atoms → map (λ e. content see n e.0) es ≡ map Some contents → position (pointwise same_atom atoms) contents ≡ position (λ e. same_key see n key e.0) es
found_at see n key atoms es contents h k = alike (pointwise same_atom atoms) (λ e. same_key see n key e.0) contents es (tests_at see n key atoms es contents h k)

-- contents stay where no string and no tuple changes
each_stays : (see later : Value → Option Cell) (n : ℕ) → KeepsKeys see later → (es : List (Value × Value)) (contents : List (List Atom)) → map (λ e. content see n e.0) es ≡ map Some contents → map (λ e. content later n e.0) es ≡ map Some contents
each_stays see later n k [] [] h = refl
each_stays see later n k [] (a ∷ contents) h = cc
each_stays see later n k (e ∷ es) [] h = cc
each_stays see later n k (e ∷ es) (a ∷ contents) h =
    let first : content see n e.0 ≡ Some a = cc in
    let rest : map (λ d. content see n d.0) es ≡ map Some contents = cc in
    let one : content later n e.0 ≡ Some a = contents_stay see later n e.0 a k first in
    let all : map (λ d. content later n d.0) es ≡ map Some contents = each_stays see later n k es contents rest in
    cc

-- the place of a content is the place of its key
pub placed_at : (w : Setting) (s : State) (es : List (Value × Value)) (contents : List (List Atom)) (key : Value) (atoms : List Atom) → contents_of (look s.store w.shelf) es ≡ map Some contents → content (look s.store w.shelf) key_levels key ≡ Some atoms → place_by atoms contents ≡ place_in w s key es
placed_at w s es contents key atoms h k = found_at (look s.store w.shelf) key_levels key atoms es contents k h

-- another value leaves the contents of the keys
replaced : (see : Value → Option Cell) (es : List (Value × Value)) (at : ℕ) (e : Value × Value) (v : Value) (contents : List (List Atom)) → slice_get es at ≡ Some e → contents_of see es ≡ map Some contents → contents_of see (slice_set es at (e.0, v)) ≡ map Some contents
replaced see es at e v contents s h =
    map-set_same (λ (d : Value × Value). content see key_levels d.0) es at (e.0, v) (e.0, v) (ap (λ (d : Value × Value). content see key_levels d.0) (sym (get_or_from_slice_get es at e (e.0, v) s))) ∙ h

replaced_if : (w : Setting) (s : Store) (es : List (Value × Value)) (contents : Option (List (List Atom))) (at : ℕ) (e : Value × Value) (v : Value) → slice_get es at ≡ Some e → IsGathered w s (record { entries = es; contents = contents }) → IsGathered w s (record { entries = slice_set es at (e.0, v); contents = contents })
unfolding IsGathered
replaced_if w s es (Some ks) at e v h k = replaced (look s w.shelf) es at e v ks h k
replaced_if w s es None at e v h k = tt

pub replaced_in : (w : Setting) (s : Store) (g : Gathering) (es fs : List (Value × Value)) (contents : Option (List (List Atom))) (at : ℕ) (e : Value × Value) (v : Value) → record { entries = es; contents = contents } ≡ g → Some e ≡ slice_get es at → fs ≡ slice_set es at (e.0, v) → IsGathered w s g → IsGathered w s (record { entries = fs; contents = contents })
replaced_in w s g es fs contents at e v q h m k =
    subst (λ (xs : List (Value × Value)). IsGathered w s (record { entries = xs; contents = contents })) (sym m)
    (replaced_if w s es contents at e v (sym h) (subst (IsGathered w s) (sym q) k))

-- an entry after all others, with the content of its key
pub pushed : (see : Value → Option Cell) (es : List (Value × Value)) (e : Value × Value) (atoms : List Atom) (contents : List (List Atom)) → content see key_levels e.0 ≡ Some atoms → contents_of see es ≡ map Some contents → contents_of see (es ++ e ∷ []) ≡ map Some (contents ++ atoms ∷ [])
pushed see es e atoms contents k h =
    map-append (λ (d : Value × Value). content see key_levels d.0) es (e ∷ [])
    ∙ ap (λ l. l ++ content see key_levels e.0 ∷ []) h
    ∙ ap (λ o. map Some contents ++ o ∷ []) k
    ∙ sym (map-append Some contents (atoms ∷ []))

-- a run that ends well leaves contents as they are: no string and no tuple changes

seen_cell : (xs ys : List HeapCell) (at : ℕ) (c : Cell) → ((a : HeapCell) → slice_get xs at ≡ Some a → a.cell ≡ c → (b : HeapCell) × (slice_get ys at ≡ Some b) × (b.cell ≡ c)) → option_map (λ e. e.cell) (slice_get xs at) ≡ Some c → option_map (λ e. e.cell) (slice_get ys at) ≡ Some c
seen_cell xs ys at c f h = by (slice_get xs at) refl h
  where
    some_is : (x y : Cell) → Some x ≡ Some y → x ≡ y
    some_is x y e = cc

    by : (o : Option HeapCell) → slice_get xs at ≡ o → option_map (λ e. e.cell) o ≡ Some c → option_map (λ e. e.cell) (slice_get ys at) ≡ Some c
    by None e q = cc
    by (Some a) e q = let b = f a e (some_is a.cell c q) in ap (option_map (λ (d : HeapCell). d.cell)) b.1 ∙ ap Some b.2

stays_at : (w : Setting) (s t : State) (c : Cell) → Stays s t → ((d : Cell) → KeepsKind c d → d ≡ c) → (v : Value) → look s.store w.shelf v ≡ Some c → look t.store w.shelf v ≡ Some c
stays_at w s t c k same (value.Ref home at) h =
    ap (λ (n : ℕ). option_map (λ (e : HeapCell). e.cell) (slice_get (if nat_eq home n then t.store.cells else published_cells (slice_get w.shelf home)) at)) k.home
    ∙ by (nat_eq home s.store.home) h
  where
    by : (b : Bool) → option_map (λ e. e.cell) (slice_get (if b then s.store.cells else published_cells (slice_get w.shelf home)) at) ≡ Some c → option_map (λ e. e.cell) (slice_get (if b then t.store.cells else published_cells (slice_get w.shelf home)) at) ≡ Some c
    by true q = seen_cell s.store.cells t.store.cells at c (λ a e i. let b = k.cells at a e in (b.0, b.1, same b.0.cell (subst (λ d. KeepsKind d b.0.cell) i b.2.kind))) q
    by false q = q
stays_at w s t c k same value.NoneValue h = cc
stays_at w s t c k same (value.Bool b) h = cc
stays_at w s t c k same (value.Int n) h = cc
stays_at w s t c k same (value.Builtin b) h = cc

keys_stay : (w : Setting) (s t : State) → Stays s t → KeepsKeys (look s.store w.shelf) (look t.store w.shelf)
keys_stay w s t k = record {
  texts = λ v x h. stays_at w s t (cell.Text x) k (λ d e. e) v h;
  tuples = λ v xs h. stays_at w s t (cell.Tuple xs) k (λ d e. e) v h;
  structs = λ v fs h. stays_at w s t (cell.Struct fs) k (λ d e. e) v h;
}

stays_if : (w : Setting) (s t : State) (es : List (Value × Value)) (contents : Option (List (List Atom))) → Stays s t → IfSome contents (λ ks. contents_of (look s.store w.shelf) es ≡ map Some ks) → IfSome contents (λ ks. contents_of (look t.store w.shelf) es ≡ map Some ks)
stays_if w s t es (Some ks) k h = each_stays (look s.store w.shelf) (look t.store w.shelf) key_levels (keys_stay w s t k) es ks h
stays_if w s t es None k h = tt

stays_gathered : (w : Setting) (s t : State) (g : Gathering) → Stays s t → IsGathered w s.store g → IsGathered w t.store g
unfolding IsGathered
stays_gathered w s t g k h = stays_if w s t g.entries g.contents k h

pub still_gathered : {A : Type 0} (w : Setting) (s t : State) (g : Gathering) (m : Action A) (x : A) → Keeps m → m s ≡ Done x t → IsGathered w s.store g → IsGathered w t.store g
still_gathered w s t g m x k e h = stays_gathered w s t g (subst (λ o. Preserved s o) e (k.holds s)) h
