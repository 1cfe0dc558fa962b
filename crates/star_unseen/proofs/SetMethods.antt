-- `set` and the methods of sets over two shelves: each does the same, and leaves what is visible.
use Rattle.std.proofs.Common.{ℕ, [], ◌∷◌, Option, Some, None, slice_get, subst}
use Rattle.star_store.specs.declared.values.Value.{Value}
use Rattle.star_store.specs.declared.values.Value.TheVariants as value
use Rattle.star_store.specs.declared.names.SetMethod.{SetMethod}
use Rattle.star_store.specs.declared.names.SetMethod.TheVariants as set_method
use Rattle.star_store.specs.declared.arena.write.Change.TheVariants as change_to
use Rattle.star_meaning.specs.declared.fault.FaultCode.TheVariants as code
use Rattle.star_meaning.specs.declared.merge.Merge.{Merge}
use Rattle.star_meaning.specs.declared.merge.Merge.TheVariants as merge
use Rattle.star_meaning.specs.declared.merge.Relation.{Relation}
use Rattle.star_meaning.specs.declared.merge.Relation.TheVariants as relation
use Rattle.star_meaning.specs.declared.given.Arguments.{Arguments}
use Rattle.star_meaning.specs.Run.{◌>>=◌}
use Rattle.star_meaning.specs.Program.{Setting}
use Rattle.star_meaning.specs.Values.{content, place_in, new_set}
use Rattle.star_meaning.specs.Entries.{with_elements}
use Rattle.star_meaning.specs.Subscript.{entries_in}
use Rattle.star_meaning.specs.SetMethods.{elements_of, call_set, call_add, take_element, call_out, call_first, call_merge, call_merge_into, call_merge_one, call_merge_one_into, call_relate, call_on_set}
use Rattle.star_meaning.specs.Arguments.{only_one, positional}
use Rattle.star_unseen.specs.Veil.{AreVisible, IsVisible, VisibleIfThere, PairIsVisible}
use Rattle.star_unseen.specs.Shelves.{Veil, with_other}
use Rattle.star_unseen.proofs.Rows.{every_get}
use Rattle.star_unseen.proofs.Visible.{ArgumentsAreVisible}
use Rattle.star_unseen.proofs.Alike.{Alike, alike_found, alike_give, alike_seeing, alike_then}
use Rattle.star_unseen.proofs.Writes.{alike-change, alike-guard}
use Rattle.star_unseen.proofs.Values.{alike-check_key, alike-new_set}
use Rattle.star_unseen.proofs.Subscript.{same_place}
use Rattle.star_unseen.proofs.Arguments.{alike-no_value, alike-none_or_one, alike-only_one, alike-positional}
use Rattle.star_unseen.proofs.Sets.{visible-with_elements, same-with_elements, alike-take_elements, alike-merge_new, alike-merge_into, alike-put_element, alike-relate}
use Rattle.star_unseen.proofs.ListMethods.{alike-call_clear}
use Rattle.star_unseen.proofs.DictMethods.{alike-with_entries_of}

one_argument : {w : Setting} (k : Veil w) (line : ℕ) (g : Arguments) → ArgumentsAreVisible k.hides g → Alike k (IsVisible k.hides) (positional line g >>= only_one line) (positional line g >>= only_one line)
one_argument k line g h = alike_then (alike-positional k line g h) (λ xs hx. alike-only_one k line xs hx)

alike-elements_of : {w : Setting} (k : Veil w) (levels line : ℕ) (o : Option Value) → VisibleIfThere k.hides o → Alike k (AreVisible k.hides) (elements_of w levels line o) (elements_of (with_other k.other w) levels line o)
alike-elements_of k levels line None h = alike_give (AreVisible k.hides) [] tt
alike-elements_of k levels line (Some x) h = alike-take_elements k levels line x h

pub alike-call_set : {w : Setting} (k : Veil w) (levels line : ℕ) (g : Arguments) → ArgumentsAreVisible k.hides g → Alike k (IsVisible k.hides) (call_set w levels line g) (call_set (with_other k.other w) levels line g)
alike-call_set {w = w} k levels line g h =
    alike_then (alike_then (alike-positional k line g h) (λ xs hx. alike-none_or_one k line xs hx)) (λ x hx.
    alike_then (alike-elements_of k levels line x hx) (λ xs l.
    alike_seeing (IsVisible k.hides) _ _ (λ s c.
    subst (λ fs. Alike k (IsVisible k.hides) (new_set line (with_elements w s [] xs)) (new_set line fs)) (same-with_elements k s [] xs c tt l)
    (alike-new_set k line (with_elements w s [] xs) (visible-with_elements k s [] xs tt l)))))

alike-call_add : {w : Setting} (k : Veil w) (levels line : ℕ) (v : Value) (g : Arguments) → IsVisible k.hides v → ArgumentsAreVisible k.hides g → Alike k (IsVisible k.hides) (call_add w levels line v g) (call_add (with_other k.other w) levels line v g)
alike-call_add k levels line v g h l =
    alike_then (one_argument k line g l) (λ x hx. alike_then (alike-guard k line v h) (λ _ _. alike_then (alike-check_key k levels line x hx) (λ _ _.
    alike_then (alike-put_element k line v x h hx) (λ _ _. alike_give (IsVisible k.hides) value.NoneValue tt))))

alike-take_element : {w : Setting} (k : Veil w) (line : ℕ) (v x : Value) (absent : Option Value) (o : Option ℕ) → IsVisible k.hides v → IsVisible k.hides x → VisibleIfThere k.hides absent → Alike k (IsVisible k.hides) (take_element w line v x absent o) (take_element (with_other k.other w) line v x absent o)
alike-take_element k line v x absent (Some i) h l q = alike_then (alike-change k line v (change_to.Delete x) h l) (λ _ _. alike_give (IsVisible k.hides) value.NoneValue tt)
alike-take_element k line v x absent None h l q = alike_found (IsVisible k.hides) code.Key line absent q

alike-call_out : {w : Setting} (k : Veil w) (levels line : ℕ) (absent : Option Value) (v : Value) (g : Arguments) → VisibleIfThere k.hides absent → IsVisible k.hides v → ArgumentsAreVisible k.hides g → Alike k (IsVisible k.hides) (call_out w levels line absent v g) (call_out (with_other k.other w) levels line absent v g)
alike-call_out {w = w} k levels line absent v g q h l =
    alike_then (one_argument k line g l) (λ x hx. alike_then (alike-guard k line v h) (λ _ _. alike_then (alike-check_key k levels line x hx) (λ _ _.
    alike_seeing (IsVisible k.hides) _ _ (λ s c.
    subst (λ o. Alike k (IsVisible k.hides) (take_element w line v x absent (place_in w s x (entries_in (content w s v)))) (take_element (with_other k.other w) line v x absent o)) (same_place k s v x c h hx)
    (alike-take_element k line v x absent (place_in w s x (entries_in (content w s v))) h hx q)))))

alike-call_first : {w : Setting} (k : Veil w) (line : ℕ) (v : Value) (g : Arguments) → IsVisible k.hides v → ArgumentsAreVisible k.hides g → Alike k (IsVisible k.hides) (call_first w line v g) (call_first (with_other k.other w) line v g)
alike-call_first k line v g h l =
    alike_then (alike_then (alike-positional k line g l) (λ xs hx. alike-no_value k line xs hx)) (λ _ _. alike_then (alike-guard k line v h) (λ _ _.
    alike_then (alike-with_entries_of k (PairIsVisible k.hides) v _ _ h (λ es he. alike_found (PairIsVisible k.hides) code.Key line (slice_get es 0) (every_get (PairIsVisible k.hides) es 0 he))) (λ e he.
    alike_then (alike-change k line v (change_to.Delete e.0) h he.0) (λ _ _. alike_give (IsVisible k.hides) e.0 he.0))))

alike-call_merge : {w : Setting} (k : Veil w) (levels line : ℕ) (m : Merge) (v : Value) (g : Arguments) → IsVisible k.hides v → ArgumentsAreVisible k.hides g → Alike k (IsVisible k.hides) (call_merge w levels line m v g) (call_merge (with_other k.other w) levels line m v g)
alike-call_merge k levels line m v g h l = alike_then (alike-positional k line g l) (λ xs hx. alike-with_entries_of k (IsVisible k.hides) v _ _ h (λ es he. alike-merge_new k levels line m es xs he hx))

alike-call_merge_into : {w : Setting} (k : Veil w) (levels line : ℕ) (m : Merge) (v : Value) (g : Arguments) → IsVisible k.hides v → ArgumentsAreVisible k.hides g → Alike k (IsVisible k.hides) (call_merge_into w levels line m v g) (call_merge_into (with_other k.other w) levels line m v g)
alike-call_merge_into k levels line m v g h l = alike_then (alike-positional k line g l) (λ xs hx. alike_then (alike-merge_into k levels line m v xs h hx) (λ _ _. alike_give (IsVisible k.hides) value.NoneValue tt))

alike-call_merge_one : {w : Setting} (k : Veil w) (levels line : ℕ) (v : Value) (g : Arguments) → IsVisible k.hides v → ArgumentsAreVisible k.hides g → Alike k (IsVisible k.hides) (call_merge_one w levels line v g) (call_merge_one (with_other k.other w) levels line v g)
alike-call_merge_one k levels line v g h l = alike_then (one_argument k line g l) (λ x hx. alike-with_entries_of k (IsVisible k.hides) v _ _ h (λ es he. alike-merge_new k levels line merge.SymmetricDifference es (x ∷ []) he (hx, tt)))

alike-call_merge_one_into : {w : Setting} (k : Veil w) (levels line : ℕ) (v : Value) (g : Arguments) → IsVisible k.hides v → ArgumentsAreVisible k.hides g → Alike k (IsVisible k.hides) (call_merge_one_into w levels line v g) (call_merge_one_into (with_other k.other w) levels line v g)
alike-call_merge_one_into k levels line v g h l = alike_then (one_argument k line g l) (λ x hx. alike_then (alike-merge_into k levels line merge.SymmetricDifference v (x ∷ []) h (hx, tt)) (λ _ _. alike_give (IsVisible k.hides) value.NoneValue tt))

alike-call_relate : {w : Setting} (k : Veil w) (levels line : ℕ) (r : Relation) (v : Value) (g : Arguments) → IsVisible k.hides v → ArgumentsAreVisible k.hides g → Alike k (IsVisible k.hides) (call_relate w levels line r v g) (call_relate (with_other k.other w) levels line r v g)
alike-call_relate k levels line r v g h l = alike_then (one_argument k line g l) (λ x hx. alike-with_entries_of k (IsVisible k.hides) v _ _ h (λ es he. alike-relate k levels line r es x he hx))

pub alike-call_on_set : {w : Setting} (k : Veil w) (levels line : ℕ) (m : SetMethod) (v : Value) (g : Arguments) → IsVisible k.hides v → ArgumentsAreVisible k.hides g → Alike k (IsVisible k.hides) (call_on_set w levels line m v g) (call_on_set (with_other k.other w) levels line m v g)
unfolding call_on_set
alike-call_on_set k levels line set_method.Add v g h l = alike-call_add k levels line v g h l
alike-call_on_set k levels line set_method.Clear v g h l = alike-call_clear k line v g h l
alike-call_on_set k levels line set_method.Difference v g h l = alike-call_merge k levels line merge.Difference v g h l
alike-call_on_set k levels line set_method.DifferenceUpdate v g h l = alike-call_merge_into k levels line merge.Difference v g h l
alike-call_on_set k levels line set_method.Discard v g h l = alike-call_out k levels line (Some value.NoneValue) v g tt h l
alike-call_on_set k levels line set_method.Intersection v g h l = alike-call_merge k levels line merge.Intersection v g h l
alike-call_on_set k levels line set_method.IntersectionUpdate v g h l = alike-call_merge_into k levels line merge.Intersection v g h l
alike-call_on_set k levels line set_method.Isdisjoint v g h l = alike-call_relate k levels line relation.IsDisjoint v g h l
alike-call_on_set k levels line set_method.Issubset v g h l = alike-call_relate k levels line relation.IsSubset v g h l
alike-call_on_set k levels line set_method.Issuperset v g h l = alike-call_relate k levels line relation.IsSuperset v g h l
alike-call_on_set k levels line set_method.Pop v g h l = alike-call_first k line v g h l
alike-call_on_set k levels line set_method.Remove v g h l = alike-call_out k levels line None v g tt h l
alike-call_on_set k levels line set_method.SymmetricDifference v g h l = alike-call_merge_one k levels line v g h l
alike-call_on_set k levels line set_method.SymmetricDifferenceUpdate v g h l = alike-call_merge_one_into k levels line v g h l
alike-call_on_set k levels line set_method.Union v g h l = alike-call_merge k levels line merge.Union v g h l
alike-call_on_set k levels line set_method.Update v g h l = alike-call_merge_into k levels line merge.Union v g h l
