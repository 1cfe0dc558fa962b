-- The pairs of `dict` and `update` over two shelves: each action does the same, and leaves what is visible.
use Rattle.std.proofs.Common.{ℕ, Bool, true, false, List, [], ◌∷◌, Option, Some, None, subst}
use Rattle.star_store.specs.declared.values.Value.{Value}
use Rattle.star_store.specs.declared.values.Cell.TheVariants as cell
use Rattle.star_meaning.specs.declared.fault.FaultCode.TheVariants as code
use Rattle.star_meaning.specs.declared.given.KeywordArgument.{KeywordArgument}
use Rattle.star_meaning.specs.Run.{Action, give}
use Rattle.star_meaning.specs.Program.{Setting}
use Rattle.star_meaning.specs.Values.{Content, Held, Nowhere}
use Rattle.star_meaning.specs.Entries.{with_entry}
use Rattle.star_meaning.specs.Pairs.{Pairs, two_items, pair_of, taken_entries, pairs_in, pairs_of, pairs_count, check_pair, put_pair, put_named, put_pairs, with_pair, with_pairs, with_named, dict_of, update_with}
use Rattle.star_unseen.specs.Veil.{AreVisible, Hides, IsVisible, VisibleIfThere, PairIsVisible, PairsAreVisible}
use Rattle.star_unseen.specs.Shelves.{Veil, with_other}
use Rattle.star_unseen.proofs.Looks.{ContentIsVisible}
use Rattle.star_unseen.proofs.Visible.{KeywordIsVisible, KeywordsAreVisible}
use Rattle.star_unseen.proofs.Alike.{Alike, Any, alike_all_of, alike_content, alike_each, alike_fail, alike_give, alike_if, alike_pay, alike_seeing, alike_then}
use Rattle.star_unseen.proofs.Values.{alike-check_key, alike-count_of, alike-new_dict, alike-take_all, alike-take_items}
use Rattle.star_unseen.proofs.Subscript.{alike-put_entry}
use Rattle.star_unseen.proofs.Arguments.{alike-key_for}
use Rattle.star_unseen.proofs.Entries.{visible-with_entry, same-with_entry}

-- pairs that lead to nothing hidden
abbrev pub ThePairsAreVisible : Hides → Pairs → Type 0
ThePairsAreVisible hides ps = PairsAreVisible hides ps.pairs

-- ---- taking pairs

pub alike-two_items : {w : Setting} (k : Veil w) (line : ℕ) (xs : List Value) → AreVisible k.hides xs → Alike k (PairIsVisible k.hides) (two_items line xs) (two_items line xs)
alike-two_items k line (x ∷ y ∷ []) h = alike_give (PairIsVisible k.hides) (x, y) (h.0, h.1.0)
alike-two_items k line _ h = alike_fail (Value × Value) (PairIsVisible k.hides) code.BadValue line

pub alike-pair_of : {w : Setting} (k : Veil w) (line : ℕ) (x : Value) → IsVisible k.hides x → Alike k (PairIsVisible k.hides) (pair_of w line x) (pair_of (with_other k.other w) line x)
alike-pair_of k line x h = alike_then (alike-take_all k line x h) (λ xs hx. alike-two_items k line xs hx)

pub alike-taken_entries : {w : Setting} (k : Veil w) (line : ℕ) (es : List (Value × Value)) → PairsAreVisible k.hides es → Alike k (PairsAreVisible k.hides) (taken_entries line es) (taken_entries line es)
alike-taken_entries k line es h = alike_each (PairIsVisible k.hides) (PairIsVisible k.hides) _ _ es h (λ e p. alike_then (alike_pay line 1) (λ _ _. alike_give (PairIsVisible k.hides) e p))

-- the pairs of the items of an iterable
alike_pairs : {w : Setting} (k : Veil w) (line : ℕ) (x : Value) (n : ℕ) → IsVisible k.hides x → Alike k (ThePairsAreVisible k.hides) (pairs_in w line x n Nowhere) (pairs_in (with_other k.other w) line x n Nowhere)
alike_pairs {w = w} k line x n h = alike_then (alike-take_items k line x n h) (λ xs hx. alike_then (alike_each (IsVisible k.hides) (PairIsVisible k.hides) (pair_of w line) (pair_of (with_other k.other w) line) xs hx (λ y p. alike-pair_of k line y p)) (λ ps hp. alike_give (ThePairsAreVisible k.hides) (record { are_keys = false; pairs = ps }) hp))

pub alike-pairs_in : {w : Setting} (k : Veil w) (line : ℕ) (x : Value) (n : ℕ) (c : Content) → IsVisible k.hides x → ContentIsVisible k.hides c → Alike k (ThePairsAreVisible k.hides) (pairs_in w line x n c) (pairs_in (with_other k.other w) line x n c)
alike-pairs_in k line x n (Held (cell.Dict es)) h hc = alike_then (alike-taken_entries k line es hc) (λ ps hp. alike_give (ThePairsAreVisible k.hides) (record { are_keys = true; pairs = ps }) hp)
alike-pairs_in k line x n _ h hc = alike_pairs k line x n h

pub alike-pairs_of : {w : Setting} (k : Veil w) (line : ℕ) (o : Option Value) (n : ℕ) → VisibleIfThere k.hides o → Alike k (ThePairsAreVisible k.hides) (pairs_of w line o n) (pairs_of (with_other k.other w) line o n)
unfolding pairs_of
alike-pairs_of k line None n h = alike_give (ThePairsAreVisible k.hides) (record { are_keys = true; pairs = [] }) tt
alike-pairs_of k line (Some x) n h = alike_content (ThePairsAreVisible k.hides) x _ _ h (λ c hc. alike-pairs_in k line x n c h hc)

pub alike-pairs_count : {w : Setting} (k : Veil w) (line : ℕ) (o : Option Value) → VisibleIfThere k.hides o → Alike k Any (pairs_count w line o) (pairs_count (with_other k.other w) line o)
alike-pairs_count k line None h = alike_give {A = ℕ} Any 0 tt
alike-pairs_count k line (Some x) h = alike-count_of k line x h

-- ---- into an existing dictionary

pub alike-check_pair : {w : Setting} (k : Veil w) (levels line : ℕ) (are_keys : Bool) (key : Value) → IsVisible k.hides key → Alike k Any (check_pair w levels line are_keys key) (check_pair (with_other k.other w) levels line are_keys key)
alike-check_pair k levels line are_keys key h = alike_if Any are_keys _ _ _ _ (alike_give {A = Unit {0}} Any tt tt) (alike-check_key k levels line key h)

pub alike-put_pair : {w : Setting} (k : Veil w) (levels line : ℕ) (d : Value) (are_keys : Bool) (e : Value × Value) → IsVisible k.hides d → PairIsVisible k.hides e → Alike k Any (put_pair w levels line d are_keys e) (put_pair (with_other k.other w) levels line d are_keys e)
alike-put_pair k levels line d are_keys e hd he = alike_then (alike-check_pair k levels line are_keys e.0 he.0) (λ _ _. alike-put_entry k line d e.0 e.1 hd he.0 he.1)

pub alike-put_named : {w : Setting} (k : Veil w) (line : ℕ) (d : Value) (n : KeywordArgument) → IsVisible k.hides d → KeywordIsVisible k.hides n → Alike k Any (put_named w line d n) (put_named (with_other k.other w) line d n)
alike-put_named k line d n hd hn = alike_then (alike-key_for k line n hn) (λ key hk. alike-put_entry k line d key n.value hd hk hn.1)

pub alike-put_pairs : {w : Setting} (k : Veil w) (levels line : ℕ) (d : Value) (ps : Pairs) (ns : List KeywordArgument) → IsVisible k.hides d → ThePairsAreVisible k.hides ps → KeywordsAreVisible k.hides ns → Alike k Any (put_pairs w levels line d ps ns) (put_pairs (with_other k.other w) levels line d ps ns)
unfolding put_pairs
alike-put_pairs k levels line d ps ns hd hp hn = alike_then (alike_all_of (PairIsVisible k.hides) _ _ ps.pairs hp (λ e he. alike-put_pair k levels line d ps.are_keys e hd he)) (λ _ _. alike_all_of (KeywordIsVisible k.hides) _ _ ns hn (λ n h. alike-put_named k line d n hd h))

-- ---- into a new dictionary

pub alike-with_pair : {w : Setting} (k : Veil w) (levels line : ℕ) (are_keys : Bool) (es : List (Value × Value)) (e : Value × Value) → PairsAreVisible k.hides es → PairIsVisible k.hides e → Alike k (PairsAreVisible k.hides) (with_pair w levels line are_keys es e) (with_pair (with_other k.other w) levels line are_keys es e)
alike-with_pair {w = w} k levels line are_keys es e h he = alike_then (alike-check_pair k levels line are_keys e.0 he.0) (λ _ _.
    alike_seeing (PairsAreVisible k.hides) _ _ (λ s c. subst (λ fs. Alike k (PairsAreVisible k.hides) (give (with_entry w s es e)) (give fs)) (same-with_entry k s es e c h he) (alike_give (PairsAreVisible k.hides) (with_entry w s es e) (visible-with_entry k s es e h he))))

pub alike-with_pairs : {w : Setting} (k : Veil w) (levels line : ℕ) (are_keys : Bool) (es ps : List (Value × Value)) → PairsAreVisible k.hides es → PairsAreVisible k.hides ps → Alike k (PairsAreVisible k.hides) (with_pairs w levels line are_keys es ps) (with_pairs (with_other k.other w) levels line are_keys es ps)
alike-with_pairs k levels line are_keys es [] h hp = alike_give (PairsAreVisible k.hides) es h
alike-with_pairs k levels line are_keys es (e ∷ ps) h hp = alike_then (alike-with_pair k levels line are_keys es e h hp.0) (λ fs hf. alike-with_pairs k levels line are_keys fs ps hf hp.1)

pub alike-with_named : {w : Setting} (k : Veil w) (line : ℕ) (es : List (Value × Value)) (ns : List KeywordArgument) → PairsAreVisible k.hides es → KeywordsAreVisible k.hides ns → Alike k (PairsAreVisible k.hides) (with_named w line es ns) (with_named (with_other k.other w) line es ns)
alike-with_named k line es [] h hn = alike_give (PairsAreVisible k.hides) es h
alike-with_named {w = w} k line es (n ∷ ns) h hn = alike_then (alike-key_for k line n hn.0) (λ key hk.
    alike_seeing (PairsAreVisible k.hides) _ _ (λ s c. subst (λ fs. Alike k (PairsAreVisible k.hides) (with_named w line (with_entry w s es (key, n.value)) ns) (with_named (with_other k.other w) line fs ns)) (same-with_entry k s es (key, n.value) c h (hk, hn.0.1))
    (alike-with_named k line (with_entry w s es (key, n.value)) ns (visible-with_entry k s es (key, n.value) h (hk, hn.0.1)) hn.1)))

pub alike-dict_of : {w : Setting} (k : Veil w) (levels line : ℕ) (ps : Pairs) (ns : List KeywordArgument) → ThePairsAreVisible k.hides ps → KeywordsAreVisible k.hides ns → Alike k (IsVisible k.hides) (dict_of w levels line ps ns) (dict_of (with_other k.other w) levels line ps ns)
unfolding dict_of
alike-dict_of k levels line ps ns hp hn = alike_then (alike-with_pairs k levels line ps.are_keys [] ps.pairs tt hp) (λ es h. alike_then (alike-with_named k line es ns h hn) (λ fs hf. alike-new_dict k line fs hf))

-- ---- `update`

pub alike-update_with : {w : Setting} (k : Veil w) (levels line : ℕ) (d : Value) (o : Option Value) (ns : List KeywordArgument) (m n : Action (Unit {0})) → IsVisible k.hides d → VisibleIfThere k.hides o → KeywordsAreVisible k.hides ns → Alike k Any m n → Alike k Any (update_with w levels line d o ns m) (update_with (with_other k.other w) levels line d o ns n)
unfolding update_with
alike-update_with k levels line d o ns m n hd ho hn h = alike_then (alike-pairs_count k line o ho) (λ c _. alike_then h (λ _ _. alike_then (alike-pairs_of k line o c ho) (λ ps hp. alike-put_pairs k levels line d ps ns hd hp hn)))
