-- The methods of dictionaries over two shelves: each does the same, and leaves what is visible.
use Rattle.std.proofs.Common.{◌≡◌, ℕ, List, [], ◌∷◌, map, Option, Some, None, slice_get, ap, subst, ◌∙◌}
use Rattle.star_store.specs.declared.values.Value.{Value}
use Rattle.star_store.specs.declared.values.Value.TheVariants as value
use Rattle.star_store.specs.declared.arena.write.Change.TheVariants as change_to
use Rattle.star_meaning.specs.declared.fault.FaultCode.TheVariants as code
use Rattle.star_meaning.specs.declared.given.Arguments.{Arguments}
use Rattle.star_meaning.specs.Run.{State, Action, ◌>>=◌, give}
use Rattle.star_meaning.specs.Program.{Setting}
use Rattle.star_meaning.specs.Values.{content, value_in}
use Rattle.star_meaning.specs.Subscript.{entries_in}
use Rattle.star_meaning.specs.Arguments.{no_value, one_or_two, positional}
use Rattle.star_meaning.specs.DictMethods.{with_entries_of, value_under, else_given, call_get, pair_up, call_items, call_keys, call_values, take_out, call_dict_pop, call_popitem, put_default, call_setdefault, call_update}
use Rattle.star_unseen.specs.Veil.{AreVisible, IsVisible, VisibleIfThere, PairIsVisible, PairsAreVisible, StateIsVisible}
use Rattle.star_unseen.specs.Shelves.{Veil, with_other}
use Rattle.star_unseen.proofs.Rows.{every_get, every_map}
use Rattle.star_unseen.proofs.Looks.{visible_content, same_content}
use Rattle.star_unseen.proofs.Visible.{ArgumentsAreVisible, WithMaybe}
use Rattle.star_unseen.proofs.Alike.{Alike, Any, alike_content, alike_each, alike_found, alike_give, alike_seeing, alike_then}
use Rattle.star_unseen.proofs.Writes.{alike-change, alike-guard}
use Rattle.star_unseen.proofs.Values.{alike-check_key, alike-new_list, alike-new_tuple, visible-value_in, same-value_in}
use Rattle.star_unseen.proofs.Subscript.{alike-put_entry, visible-entries_in}
use Rattle.star_unseen.proofs.Arguments.{alike-no_value, alike-none_or_one, alike-one_or_two, alike-positional}
use Rattle.star_unseen.proofs.Pairs.{alike-update_with}

pub alike-with_entries_of : {A : Type 0} {w : Setting} (k : Veil w) (P : A → Type 0) (d : Value) (f g : List (Value × Value) → Action A) → IsVisible k.hides d → ((es : List (Value × Value)) → PairsAreVisible k.hides es → Alike k P (f es) (g es)) → Alike k P (with_entries_of w d f) (with_entries_of (with_other k.other w) d g)
alike-with_entries_of k P d f g h hf = alike_content P d _ _ h (λ c hc. hf (entries_in c) (visible-entries_in k c hc))

-- a visible key has the same value in a dictionary over both shelves
same_value : {w : Setting} (k : Veil w) (s : State) (d key : Value) → StateIsVisible k.hides w.home s → IsVisible k.hides d → IsVisible k.hides key → value_in w s key (entries_in (content w s d)) ≡ value_in (with_other k.other w) s key (entries_in (content (with_other k.other w) s d))
same_value {w = w} k s d key c hd hk =
    same-value_in k s key (entries_in (content w s d)) c hk (visible-entries_in k (content w s d) (visible_content k s d c hd))
    ∙ ap (λ x. value_in (with_other k.other w) s key (entries_in x)) (same_content k s d hd)

pub alike-value_under : {w : Setting} (k : Veil w) (d key : Value) → IsVisible k.hides d → IsVisible k.hides key → Alike k (VisibleIfThere k.hides) (value_under w d key) (value_under (with_other k.other w) d key)
alike-value_under {w = w} k d key hd hk = alike_seeing (VisibleIfThere k.hides) _ _ (λ s c. subst (λ o. Alike k (VisibleIfThere k.hides) (give (value_in w s key (entries_in (content w s d)))) (give o)) (same_value k s d key c hd hk)
    (alike_give (VisibleIfThere k.hides) (value_in w s key (entries_in (content w s d))) (visible-value_in k s key (entries_in (content w s d)) (visible-entries_in k (content w s d) (visible_content k s d c hd)))))

pub visible-else_given : {w : Setting} (k : Veil w) (o d : Option Value) → VisibleIfThere k.hides o → VisibleIfThere k.hides d → IsVisible k.hides (else_given o d)
visible-else_given k (Some v) d h l = h
visible-else_given k None (Some v) h l = l
visible-else_given k None None h l = tt

-- the positional arguments of methods
one_or_two_arguments : {w : Setting} (k : Veil w) (line : ℕ) (g : Arguments) → ArgumentsAreVisible k.hides g → Alike k (WithMaybe k.hides) (positional line g >>= one_or_two line) (positional line g >>= one_or_two line)
one_or_two_arguments k line g h = alike_then (alike-positional k line g h) (λ xs hx. alike-one_or_two k line xs hx)

no_argument : {w : Setting} (k : Veil w) (line : ℕ) (g : Arguments) → ArgumentsAreVisible k.hides g → Alike k Any (positional line g >>= no_value line) (positional line g >>= no_value line)
no_argument k line g h = alike_then (alike-positional k line g h) (λ xs hx. alike-no_value k line xs hx)

pub alike-call_get : {w : Setting} (k : Veil w) (levels line : ℕ) (d : Value) (g : Arguments) → IsVisible k.hides d → ArgumentsAreVisible k.hides g → Alike k (IsVisible k.hides) (call_get w levels line d g) (call_get (with_other k.other w) levels line d g)
alike-call_get k levels line d g hd hg = alike_then (one_or_two_arguments k line g hg) (λ a ha. alike_then (alike-check_key k levels line a.0 ha.0) (λ _ _. alike_then (alike-value_under k d a.0 hd ha.0) (λ v hv. alike_give (IsVisible k.hides) (else_given v a.1) (visible-else_given k v a.1 hv ha.1))))

pub alike-pair_up : {w : Setting} (k : Veil w) (line : ℕ) (e : Value × Value) → PairIsVisible k.hides e → Alike k (IsVisible k.hides) (pair_up line e) (pair_up line e)
alike-pair_up k line e h = alike-new_tuple k line (e.0 ∷ e.1 ∷ []) (h.0, (h.1, tt))

pub alike-call_items : {w : Setting} (k : Veil w) (line : ℕ) (d : Value) (g : Arguments) → IsVisible k.hides d → ArgumentsAreVisible k.hides g → Alike k (IsVisible k.hides) (call_items w line d g) (call_items (with_other k.other w) line d g)
alike-call_items k line d g hd hg = alike_then (no_argument k line g hg) (λ _ _. alike_then (alike-with_entries_of k (AreVisible k.hides) d _ _ hd (λ es h. alike_each (PairIsVisible k.hides) (IsVisible k.hides) (pair_up line) (pair_up line) es h (λ e he. alike-pair_up k line e he))) (λ ps hp. alike-new_list k line ps hp))

pub alike-call_keys : {w : Setting} (k : Veil w) (line : ℕ) (d : Value) (g : Arguments) → IsVisible k.hides d → ArgumentsAreVisible k.hides g → Alike k (IsVisible k.hides) (call_keys w line d g) (call_keys (with_other k.other w) line d g)
alike-call_keys k line d g hd hg = alike_then (no_argument k line g hg) (λ _ _. alike-with_entries_of k (IsVisible k.hides) d _ _ hd (λ es h. alike-new_list k line (map (λ e. e.0) es) (every_map (PairIsVisible k.hides) (IsVisible k.hides) (λ e. e.0) (λ e p. p.0) es h)))

pub alike-call_values : {w : Setting} (k : Veil w) (line : ℕ) (d : Value) (g : Arguments) → IsVisible k.hides d → ArgumentsAreVisible k.hides g → Alike k (IsVisible k.hides) (call_values w line d g) (call_values (with_other k.other w) line d g)
alike-call_values k line d g hd hg = alike_then (no_argument k line g hg) (λ _ _. alike-with_entries_of k (IsVisible k.hides) d _ _ hd (λ es h. alike-new_list k line (map (λ e. e.1) es) (every_map (PairIsVisible k.hides) (IsVisible k.hides) (λ e. e.1) (λ e p. p.1) es h)))

pub alike-take_out : {w : Setting} (k : Veil w) (line : ℕ) (d key : Value) (o x : Option Value) → IsVisible k.hides d → IsVisible k.hides key → VisibleIfThere k.hides o → VisibleIfThere k.hides x → Alike k (IsVisible k.hides) (take_out w line d key o x) (take_out (with_other k.other w) line d key o x)
alike-take_out k line d key (Some v) x hd hk h hx = alike_then (alike-change k line d (change_to.Delete key) hd hk) (λ _ _. alike_give (IsVisible k.hides) v h)
alike-take_out k line d key None x hd hk h hx = alike_found (IsVisible k.hides) code.Key line x hx

pub alike-call_dict_pop : {w : Setting} (k : Veil w) (levels line : ℕ) (d : Value) (g : Arguments) → IsVisible k.hides d → ArgumentsAreVisible k.hides g → Alike k (IsVisible k.hides) (call_dict_pop w levels line d g) (call_dict_pop (with_other k.other w) levels line d g)
alike-call_dict_pop k levels line d g hd hg = alike_then (one_or_two_arguments k line g hg) (λ a ha. alike_then (alike-guard k line d hd) (λ _ _. alike_then (alike-check_key k levels line a.0 ha.0) (λ _ _. alike_then (alike-value_under k d a.0 hd ha.0) (λ v hv. alike-take_out k line d a.0 v a.1 hd ha.0 hv ha.1))))

pub alike-call_popitem : {w : Setting} (k : Veil w) (line : ℕ) (d : Value) (g : Arguments) → IsVisible k.hides d → ArgumentsAreVisible k.hides g → Alike k (IsVisible k.hides) (call_popitem w line d g) (call_popitem (with_other k.other w) line d g)
alike-call_popitem k line d g hd hg = alike_then (no_argument k line g hg) (λ _ _. alike_then (alike-guard k line d hd) (λ _ _.
    alike_then (alike-with_entries_of k (PairIsVisible k.hides) d _ _ hd (λ es h. alike_found (PairIsVisible k.hides) code.Key line (slice_get es 0) (every_get (PairIsVisible k.hides) es 0 h))) (λ e he.
    alike_then (alike-pair_up k line e he) (λ p hp. alike_then (alike-change k line d (change_to.Delete e.0) hd he.0) (λ _ _. alike_give (IsVisible k.hides) p hp)))))

pub alike-put_default : {w : Setting} (k : Veil w) (line : ℕ) (d key : Value) (o x : Option Value) → IsVisible k.hides d → IsVisible k.hides key → VisibleIfThere k.hides o → VisibleIfThere k.hides x → Alike k (IsVisible k.hides) (put_default w line d key o x) (put_default (with_other k.other w) line d key o x)
alike-put_default k line d key (Some v) x hd hk h hx = alike_give (IsVisible k.hides) v h
alike-put_default k line d key None x hd hk h hx = alike_then (alike-put_entry k line d key (else_given None x) hd hk (visible-else_given k None x tt hx)) (λ _ _. alike_give (IsVisible k.hides) (else_given None x) (visible-else_given k None x tt hx))

pub alike-call_setdefault : {w : Setting} (k : Veil w) (levels line : ℕ) (d : Value) (g : Arguments) → IsVisible k.hides d → ArgumentsAreVisible k.hides g → Alike k (IsVisible k.hides) (call_setdefault w levels line d g) (call_setdefault (with_other k.other w) levels line d g)
alike-call_setdefault k levels line d g hd hg = alike_then (one_or_two_arguments k line g hg) (λ a ha. alike_then (alike-guard k line d hd) (λ _ _. alike_then (alike-check_key k levels line a.0 ha.0) (λ _ _. alike_then (alike-value_under k d a.0 hd ha.0) (λ v hv. alike-put_default k line d a.0 v a.1 hd ha.0 hv ha.1))))

pub alike-call_update : {w : Setting} (k : Veil w) (levels line : ℕ) (d : Value) (g : Arguments) → IsVisible k.hides d → ArgumentsAreVisible k.hides g → Alike k (IsVisible k.hides) (call_update w levels line d g) (call_update (with_other k.other w) levels line d g)
alike-call_update k levels line d g hd hg = alike_then (alike-none_or_one k line g.positional hg.0) (λ x hx. alike_then (alike-update_with k levels line d x g.named _ _ hd hx hg.1 (alike-guard k line d hd)) (λ _ _. alike_give (IsVisible k.hides) value.NoneValue tt))
