-- Sets over two shelves: each action does the same, and leaves what is visible.
use Rattle.std.proofs.Common.{◌≡◌, ℕ, nat_eq, Bool, true, false, not, List, [], ◌∷◌, length, filter, Option, is_some, cond, refl, ap, subst, ◌∙◌}
use Rattle.star_store.specs.declared.values.Value.{Value}
use Rattle.star_store.specs.declared.values.Value.TheVariants as value
use Rattle.star_store.specs.declared.arena.write.Change.TheVariants as change_to
use Rattle.star_meaning.specs.declared.fault.FaultCode.TheVariants as code
use Rattle.star_meaning.specs.declared.merge.Merge.{Merge}
use Rattle.star_meaning.specs.declared.merge.Merge.TheVariants as merge
use Rattle.star_meaning.specs.declared.merge.Relation.{Relation}
use Rattle.star_meaning.specs.declared.merge.Relation.TheVariants as relation
use Rattle.star_meaning.specs.Run.{State, each, give}
use Rattle.star_meaning.specs.Program.{Setting}
use Rattle.star_meaning.specs.Values.{new_set}
use Rattle.star_meaning.specs.Entries.{element, with_elements, with_entry}
use Rattle.star_meaning.specs.Subscript.{entries_in}
use Rattle.star_meaning.specs.Sets.{has_element, those_in, those_out, new_to, those_in_all, all_items, kept, added, merged, check_other, check_others, pay_elements, has_keys, check_elements, take_elements, merge_new, put_element, put_back, reset, keep_only, write_merged, merge_into, is_set, augment_set, is_related, relate}
use Rattle.star_unseen.specs.Veil.{AreVisible, Every, IsVisible, PairIsVisible, PairsAreVisible, StateIsVisible}
use Rattle.star_unseen.specs.Shelves.{Veil, with_other}
use Rattle.star_unseen.proofs.Rows.{every_append}
use Rattle.star_unseen.proofs.Binding.{every_filter}
use Rattle.star_unseen.proofs.Alike.{Alike, Any, alike_all_of, alike_check, alike_content, alike_each, alike_give, alike_pay, alike_seeing, alike_then}
use Rattle.star_unseen.proofs.Writes.{alike-change, alike-guard}
use Rattle.star_unseen.proofs.Values.{alike-check_key, alike-count_of, alike-new_set, alike-take_all, same-place_in}
use Rattle.star_unseen.proofs.Subscript.{alike-put_entry, visible-entries_in}
use Rattle.star_unseen.proofs.Entries.{visible-with_entry, same-with_entry}

-- rows of visible values
abbrev pub RowsAreVisible : {w : Setting} → Veil w → List (List Value) → Type 0
RowsAreVisible k xss = Every (AreVisible k.hides) xss

-- ---- elements

pub visible-with_elements : {w : Setting} (k : Veil w) (s : State) (es : List (Value × Value)) (xs : List Value) → PairsAreVisible k.hides es → AreVisible k.hides xs → PairsAreVisible k.hides (with_elements w s es xs)
visible-with_elements k s es [] h l = h
visible-with_elements {w = w} k s es (x ∷ xs) h l = visible-with_elements k s (with_entry w s es (element x)) xs (visible-with_entry k s es (element x) h (l.0, tt)) l.1

pub same-with_elements : {w : Setting} (k : Veil w) (s : State) (es : List (Value × Value)) (xs : List Value) → StateIsVisible k.hides w.home s → PairsAreVisible k.hides es → AreVisible k.hides xs → with_elements w s es xs ≡ with_elements (with_other k.other w) s es xs
same-with_elements k s es [] c h l = refl
same-with_elements {w = w} k s es (x ∷ xs) c h l =
    same-with_elements k s (with_entry w s es (element x)) xs c (visible-with_entry k s es (element x) h (l.0, tt)) l.1
    ∙ ap (λ fs. with_elements (with_other k.other w) s fs xs) (same-with_entry k s es (element x) c h (l.0, tt))

same_has : {w : Setting} (k : Veil w) (s : State) (es : List (Value × Value)) (x : Value) → StateIsVisible k.hides w.home s → PairsAreVisible k.hides es → IsVisible k.hides x → has_element w s es x ≡ has_element (with_other k.other w) s es x
same_has k s es x c h l = ap (λ (o : Option ℕ). is_some o) (same-place_in k s x es c l h)

-- two tests that agree on visible values keep the same of them
same_filter : {A : Type 0} (P : A → Type 0) (f g : A → Bool) (xs : List A) → Every P xs → ((x : A) → P x → f x ≡ g x) → filter f xs ≡ filter g xs
same_filter P f g [] h l = refl
same_filter P f g (x ∷ xs) h l =
    ap (λ b. cond b (x ∷ filter f xs) (filter f xs)) (l x h.0)
    ∙ ap (λ ys. cond (g x) (x ∷ ys) ys) (same_filter P f g xs h.1 l)

same_those_in : {w : Setting} (k : Veil w) (s : State) (fs es : List (Value × Value)) → StateIsVisible k.hides w.home s → PairsAreVisible k.hides fs → PairsAreVisible k.hides es → those_in w s fs es ≡ those_in (with_other k.other w) s fs es
same_those_in k s fs es c h l = same_filter (PairIsVisible k.hides) _ _ es l (λ e p. same_has k s fs e.0 c h p.0)

same_those_out : {w : Setting} (k : Veil w) (s : State) (fs es : List (Value × Value)) → StateIsVisible k.hides w.home s → PairsAreVisible k.hides fs → PairsAreVisible k.hides es → those_out w s fs es ≡ those_out (with_other k.other w) s fs es
same_those_out k s fs es c h l = same_filter (PairIsVisible k.hides) _ _ es l (λ e p. ap not (same_has k s fs e.0 c h p.0))

same_new_to : {w : Setting} (k : Veil w) (s : State) (es : List (Value × Value)) (xs : List Value) → StateIsVisible k.hides w.home s → PairsAreVisible k.hides es → AreVisible k.hides xs → new_to w s es xs ≡ new_to (with_other k.other w) s es xs
same_new_to k s es xs c h l = same_filter (IsVisible k.hides) _ _ xs l (λ x p. ap not (same_has k s es x c h p))

visible_all_items : {w : Setting} (k : Veil w) (xss : List (List Value)) → RowsAreVisible k xss → AreVisible k.hides (all_items xss)
visible_all_items k [] h = tt
visible_all_items k (xs ∷ xss) h = every_append (IsVisible k.hides) xs (all_items xss) h.0 (visible_all_items k xss h.1)

visible_in_all : {w : Setting} (k : Veil w) (s : State) (es : List (Value × Value)) (xss : List (List Value)) → PairsAreVisible k.hides es → PairsAreVisible k.hides (those_in_all w s es xss)
visible_in_all k s es [] h = h
visible_in_all {w = w} k s es (xs ∷ xss) h = visible_in_all k s (those_in w s (with_elements w s [] xs) es) xss (every_filter (PairIsVisible k.hides) _ es h)

same_in_all : {w : Setting} (k : Veil w) (s : State) (es : List (Value × Value)) (xss : List (List Value)) → StateIsVisible k.hides w.home s → PairsAreVisible k.hides es → RowsAreVisible k xss → those_in_all w s es xss ≡ those_in_all (with_other k.other w) s es xss
same_in_all k s es [] c h l = refl
same_in_all {w = w} k s es (xs ∷ xss) c h l =
    same_in_all k s (those_in w s (with_elements w s [] xs) es) xss c (every_filter (PairIsVisible k.hides) _ es h) l.1
    ∙ ap (λ fs. those_in_all (with_other k.other w) s fs xss)
    (same_those_in k s (with_elements w s [] xs) es c (visible-with_elements k s [] xs tt l.0) h
    ∙ ap (λ gs. those_in (with_other k.other w) s gs es) (same-with_elements k s [] xs c tt l.0))

visible_kept : {w : Setting} (k : Veil w) (s : State) (m : Merge) (es : List (Value × Value)) (xss : List (List Value)) → PairsAreVisible k.hides es → PairsAreVisible k.hides (kept w s m es xss)
visible_kept k s merge.Union es xss h = h
visible_kept k s merge.Intersection es xss h = visible_in_all k s es xss h
visible_kept k s merge.Difference es xss h = every_filter (PairIsVisible k.hides) _ es h
visible_kept k s merge.SymmetricDifference es xss h = every_filter (PairIsVisible k.hides) _ es h

same_out_of : {w : Setting} (k : Veil w) (s : State) (es : List (Value × Value)) (xs : List Value) → StateIsVisible k.hides w.home s → PairsAreVisible k.hides es → AreVisible k.hides xs → those_out w s (with_elements w s [] xs) es ≡ those_out (with_other k.other w) s (with_elements (with_other k.other w) s [] xs) es
same_out_of {w = w} k s es xs c h l =
    same_those_out k s (with_elements w s [] xs) es c (visible-with_elements k s [] xs tt l) h
    ∙ ap (λ fs. those_out (with_other k.other w) s fs es) (same-with_elements k s [] xs c tt l)

same_kept : {w : Setting} (k : Veil w) (s : State) (m : Merge) (es : List (Value × Value)) (xss : List (List Value)) → StateIsVisible k.hides w.home s → PairsAreVisible k.hides es → RowsAreVisible k xss → kept w s m es xss ≡ kept (with_other k.other w) s m es xss
same_kept k s merge.Union es xss c h l = refl
same_kept k s merge.Intersection es xss c h l = same_in_all k s es xss c h l
same_kept k s merge.Difference es xss c h l = same_out_of k s es (all_items xss) c h (visible_all_items k xss l)
same_kept k s merge.SymmetricDifference es xss c h l = same_out_of k s es (all_items xss) c h (visible_all_items k xss l)

visible_added : {w : Setting} (k : Veil w) (s : State) (m : Merge) (es : List (Value × Value)) (xss : List (List Value)) → RowsAreVisible k xss → AreVisible k.hides (added w s m es xss)
visible_added k s merge.Union es xss l = visible_all_items k xss l
visible_added k s merge.Intersection es xss l = tt
visible_added k s merge.Difference es xss l = tt
visible_added k s merge.SymmetricDifference es xss l = every_filter (IsVisible k.hides) _ (all_items xss) (visible_all_items k xss l)

same_added : {w : Setting} (k : Veil w) (s : State) (m : Merge) (es : List (Value × Value)) (xss : List (List Value)) → StateIsVisible k.hides w.home s → PairsAreVisible k.hides es → RowsAreVisible k xss → added w s m es xss ≡ added (with_other k.other w) s m es xss
same_added k s merge.Union es xss c h l = refl
same_added k s merge.Intersection es xss c h l = refl
same_added k s merge.Difference es xss c h l = refl
same_added k s merge.SymmetricDifference es xss c h l = same_new_to k s es (all_items xss) c h (visible_all_items k xss l)

visible_merged : {w : Setting} (k : Veil w) (s : State) (m : Merge) (es : List (Value × Value)) (xss : List (List Value)) → PairsAreVisible k.hides es → RowsAreVisible k xss → PairsAreVisible k.hides (merged w s m es xss)
visible_merged {w = w} k s m es xss h l = visible-with_elements k s (kept w s m es xss) (added w s m es xss) (visible_kept k s m es xss h) (visible_added k s m es xss l)

same_merged : {w : Setting} (k : Veil w) (s : State) (m : Merge) (es : List (Value × Value)) (xss : List (List Value)) → StateIsVisible k.hides w.home s → PairsAreVisible k.hides es → RowsAreVisible k xss → merged w s m es xss ≡ merged (with_other k.other w) s m es xss
same_merged {w = w} k s m es xss c h l =
    same-with_elements k s (kept w s m es xss) (added w s m es xss) c (visible_kept k s m es xss h) (visible_added k s m es xss l)
    ∙ ap (λ fs. with_elements (with_other k.other w) s fs (added w s m es xss)) (same_kept k s m es xss c h l)
    ∙ ap (λ xs. with_elements (with_other k.other w) s (kept (with_other k.other w) s m es xss) xs) (same_added k s m es xss c h l)

-- ---- the parts of a merge

pub alike-check_other : {w : Setting} (k : Veil w) (line : ℕ) (x : Value) → IsVisible k.hides x → Alike k Any (check_other w line x) (check_other (with_other k.other w) line x)
alike-check_other k line x h = alike_then (alike-count_of k line x h) (λ _ _. alike_give {A = Unit {0}} Any tt tt)

pub alike-check_others : {w : Setting} (k : Veil w) (line : ℕ) (xs : List Value) → AreVisible k.hides xs → Alike k Any (check_others w line xs) (check_others (with_other k.other w) line xs)
alike-check_others k line xs h = alike_all_of (IsVisible k.hides) _ _ xs h (λ x p. alike-check_other k line x p)

pub alike-pay_elements : {w : Setting} (k : Veil w) (line : ℕ) (m : Merge) (es : List (Value × Value)) → Alike k Any (pay_elements line m es) (pay_elements line m es)
alike-pay_elements k line merge.Union es = alike_give {A = Unit {0}} Any tt tt
alike-pay_elements k line merge.Intersection es = alike_pay line (length es)
alike-pay_elements k line merge.Difference es = alike_pay line (length es)
alike-pay_elements k line merge.SymmetricDifference es = alike_pay line (length es)

alike-check_elements : {w : Setting} (k : Veil w) (levels line : ℕ) (xs : List Value) (b : Bool) → AreVisible k.hides xs → Alike k Any (check_elements w levels line xs b) (check_elements (with_other k.other w) levels line xs b)
alike-check_elements k levels line xs true h = alike_give {A = Unit {0}} Any tt tt
alike-check_elements k levels line xs false h = alike_all_of (IsVisible k.hides) _ _ xs h (λ x p. alike-check_key k levels line x p)

pub alike-take_elements : {w : Setting} (k : Veil w) (levels line : ℕ) (x : Value) → IsVisible k.hides x → Alike k (AreVisible k.hides) (take_elements w levels line x) (take_elements (with_other k.other w) levels line x)
unfolding take_elements
alike-take_elements k levels line x h =
    alike_then (alike-take_all k line x h) (λ xs hx. alike_then (alike_content Any x _ _ h (λ c _. alike-check_elements k levels line xs (has_keys c) hx)) (λ _ _. alike_give (AreVisible k.hides) xs hx))

alike-take_each : {w : Setting} (k : Veil w) (levels line : ℕ) (xs : List Value) → AreVisible k.hides xs → Alike k (RowsAreVisible k) (each (take_elements w levels line) xs) (each (take_elements (with_other k.other w) levels line) xs)
alike-take_each {w = w} k levels line xs h = alike_each (IsVisible k.hides) (AreVisible k.hides) (take_elements w levels line) (take_elements (with_other k.other w) levels line) xs h (λ x p. alike-take_elements k levels line x p)

new_merged : {w : Setting} (k : Veil w) (line : ℕ) (m : Merge) (es : List (Value × Value)) (xss : List (List Value)) (s : State) → StateIsVisible k.hides w.home s → PairsAreVisible k.hides es → RowsAreVisible k xss → Alike k (IsVisible k.hides) (new_set line (merged w s m es xss)) (new_set line (merged (with_other k.other w) s m es xss))
new_merged {w = w} k line m es xss s c h l =
    subst (λ fs. Alike k (IsVisible k.hides) (new_set line (merged w s m es xss)) (new_set line fs)) (same_merged k s m es xss c h l)
    (alike-new_set k line (merged w s m es xss) (visible_merged k s m es xss h l))

pub alike-merge_new : {w : Setting} (k : Veil w) (levels line : ℕ) (m : Merge) (es : List (Value × Value)) (others : List Value) → PairsAreVisible k.hides es → AreVisible k.hides others → Alike k (IsVisible k.hides) (merge_new w levels line m es others) (merge_new (with_other k.other w) levels line m es others)
unfolding merge_new
alike-merge_new k levels line m es others h l =
    alike_then (alike-check_others k line others l) (λ _ _.
    alike_then (alike-pay_elements k line m es) (λ _ _.
    alike_then (alike-take_each k levels line others l) (λ xss hx.
    alike_seeing (IsVisible k.hides) _ _ (λ s c. new_merged k line m es xss s c h hx))))

-- ---- a merge that writes

pub alike-put_element : {w : Setting} (k : Veil w) (line : ℕ) (v x : Value) → IsVisible k.hides v → IsVisible k.hides x → Alike k Any (put_element w line v x) (put_element (with_other k.other w) line v x)
alike-put_element k line v x h l = alike-put_entry k line v x value.NoneValue h l tt

alike-put_back : {w : Setting} (k : Veil w) (line : ℕ) (v : Value) (e : Value × Value) → IsVisible k.hides v → PairIsVisible k.hides e → Alike k Any (put_back w line v e) (put_back (with_other k.other w) line v e)
alike-put_back k line v e h l = alike_then (alike-change k line v (change_to.Put e.0 e.1) h l) (λ _ _. alike_give {A = Unit {0}} Any tt tt)

alike-reset : {w : Setting} (k : Veil w) (line : ℕ) (v : Value) (es : List (Value × Value)) → IsVisible k.hides v → PairsAreVisible k.hides es → Alike k Any (reset w line v es) (reset (with_other k.other w) line v es)
alike-reset k line v es h l = alike_then (alike-change k line v change_to.Clear h tt) (λ _ _. alike_all_of (PairIsVisible k.hides) _ _ es l (λ e p. alike-put_back k line v e h p))

alike-keep_only : {w : Setting} (k : Veil w) (line : ℕ) (v : Value) (m : Merge) (es : List (Value × Value)) → IsVisible k.hides v → PairsAreVisible k.hides es → Alike k Any (keep_only w line v m es) (keep_only (with_other k.other w) line v m es)
alike-keep_only k line v merge.Union es h l = alike_give {A = Unit {0}} Any tt tt
alike-keep_only k line v merge.Intersection es h l = alike-reset k line v es h l
alike-keep_only k line v merge.Difference es h l = alike-reset k line v es h l
alike-keep_only k line v merge.SymmetricDifference es h l = alike-reset k line v es h l

alike-write_merged : {w : Setting} (k : Veil w) (line : ℕ) (v : Value) (es : List (Value × Value)) (xs : List Value) (m : Merge) → IsVisible k.hides v → PairsAreVisible k.hides es → AreVisible k.hides xs → Alike k Any (write_merged w line v es xs m) (write_merged (with_other k.other w) line v es xs m)
alike-write_merged k line v es xs m h l q = alike_then (alike-keep_only k line v m es h l) (λ _ _. alike_all_of (IsVisible k.hides) _ _ xs q (λ x p. alike-put_element k line v x h p))

written_merged : {w : Setting} (k : Veil w) (line : ℕ) (v : Value) (m : Merge) (es : List (Value × Value)) (xss : List (List Value)) (s : State) → StateIsVisible k.hides w.home s → IsVisible k.hides v → PairsAreVisible k.hides es → RowsAreVisible k xss
    → Alike k Any (write_merged w line v (kept w s m es xss) (added w s m es xss) m) (write_merged (with_other k.other w) line v (kept (with_other k.other w) s m es xss) (added (with_other k.other w) s m es xss) m)
written_merged {w = w} k line v m es xss s c hv h l =
    subst (λ fs. Alike k Any (write_merged w line v (kept w s m es xss) (added w s m es xss) m) (write_merged (with_other k.other w) line v fs (added (with_other k.other w) s m es xss) m)) (same_kept k s m es xss c h l)
    (subst (λ xs. Alike k Any (write_merged w line v (kept w s m es xss) (added w s m es xss) m) (write_merged (with_other k.other w) line v (kept w s m es xss) xs m)) (same_added k s m es xss c h l)
    (alike-write_merged k line v (kept w s m es xss) (added w s m es xss) m hv (visible_kept k s m es xss h) (visible_added k s m es xss l)))

pub alike-merge_into : {w : Setting} (k : Veil w) (levels line : ℕ) (m : Merge) (v : Value) (others : List Value) → IsVisible k.hides v → AreVisible k.hides others → Alike k Any (merge_into w levels line m v others) (merge_into (with_other k.other w) levels line m v others)
unfolding merge_into
alike-merge_into k levels line m v others h l =
    alike_then (alike-check_others k line others l) (λ _ _.
    alike_then (alike-guard k line v h) (λ _ _.
    alike_then (alike_content Any v _ _ h (λ c _. alike-pay_elements k line m (entries_in c))) (λ _ _.
    alike_then (alike-take_each k levels line others l) (λ xss hx.
    alike_content Any v _ _ h (λ c hc. alike_seeing Any _ _ (λ s d. written_merged k line v m (entries_in c) xss s d h (visible-entries_in k c hc) hx))))))

pub alike-augment_set : {w : Setting} (k : Veil w) (levels line : ℕ) (m : Merge) (x y : Value) → IsVisible k.hides x → IsVisible k.hides y → Alike k (IsVisible k.hides) (augment_set w levels line m x y) (augment_set (with_other k.other w) levels line m x y)
alike-augment_set k levels line m x y h l =
    alike_then (alike_content Any y _ _ l (λ c _. alike_check code.BadType line (is_set c))) (λ _ _.
    alike_then (alike-merge_into k levels line m x (y ∷ []) h (l, tt)) (λ _ _. alike_give (IsVisible k.hides) x h))

-- ---- relations

same_related : {w : Setting} (k : Veil w) (s : State) (r : Relation) (es : List (Value × Value)) (xs : List Value) → StateIsVisible k.hides w.home s → PairsAreVisible k.hides es → AreVisible k.hides xs → is_related w s r es xs ≡ is_related (with_other k.other w) s r es xs
same_related {w = w} k s relation.IsDisjoint es xs c h l =
    ap (λ (fs : List (Value × Value)). nat_eq (length fs) 0)
    (same_those_in k s (with_elements w s [] xs) es c (visible-with_elements k s [] xs tt l) h
    ∙ ap (λ gs. those_in (with_other k.other w) s gs es) (same-with_elements k s [] xs c tt l))
same_related k s relation.IsSubset es xs c h l = ap (λ (fs : List (Value × Value)). nat_eq (length fs) 0) (same_out_of k s es xs c h l)
same_related k s relation.IsSuperset es xs c h l = ap (λ (ys : List Value). nat_eq (length ys) 0) (same_new_to k s es xs c h l)

pub alike-relate : {w : Setting} (k : Veil w) (levels line : ℕ) (r : Relation) (es : List (Value × Value)) (other : Value) → PairsAreVisible k.hides es → IsVisible k.hides other → Alike k (IsVisible k.hides) (relate w levels line r es other) (relate (with_other k.other w) levels line r es other)
unfolding relate
alike-relate {w = w} k levels line r es other h l =
    alike_then (alike-check_other k line other l) (λ _ _.
    alike_then (alike_pay line (length es)) (λ _ _.
    alike_then (alike-take_elements k levels line other l) (λ xs hx.
    alike_seeing (IsVisible k.hides) _ _ (λ s c.
    subst (λ b. Alike k (IsVisible k.hides) (give (value.Bool (is_related w s r es xs))) (give (value.Bool b))) (same_related k s r es xs c h hx)
    (alike_give (IsVisible k.hides) (value.Bool (is_related w s r es xs)) tt)))))
