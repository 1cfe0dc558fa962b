-- New dictionaries: of a display, of pairs, of named values.
use Rattle.std.proofs.Common.{◌≡◌, ℕ, List, [], ◌∷◌, Option, Some, None, Bool, true, false, not, is_some, refl, ap}
use Rattle.star_store.specs.declared.values.Value.{Value}
use Rattle.star_store.specs.declared.values.Value.TheVariants as value
use Rattle.star_store.specs.declared.values.Cell.{Cell}
use Rattle.star_store.specs.declared.values.Cell.TheVariants as cell
use Rattle.star_meaning.specs.declared.fault.FaultCode.TheVariants as code
use Rattle.star_meaning.specs.declared.given.KeywordArgument.{KeywordArgument}
use Rattle.star_meaning.specs.Arguments.{comes_twice, key_for, name_key}
use Rattle.star_meaning.specs.Binding.{key_and_value}
use Rattle.star_meaning.specs.Expressions.{fresh_entries, fresh_entry}
use Rattle.star_meaning.specs.Entries.{with_entry}
use Rattle.star_meaning.specs.Pairs.{Pairs, check_pair, dict_of, pair_of, pairs_in, pairs_of, taken_entries, with_named, with_pair, with_pairs}
use Rattle.star_meaning.specs.Program.{Setting, seen}
use Rattle.star_meaning.specs.Run.{State, check, each, give, pay, seeing, ◌>>=◌}
use Rattle.star_meaning.specs.Values.{Content, Held, check_key, content, held, new_dict, place_in, take_items}
use Rattle.star_meaning.proofs.Invariants.{respects_each}
use Rattle.star_once.specs.Keys.{Differ, IsThere, KeysDiffer}
use Rattle.star_once.proofs.After.{After, AllThere, Some_answer, after_then, all_stay, check_after, check_key_after, check_key_same, differ_there, given_now, held_then, new_dict_differs, new_text_after, pay_same, plain, with_entry_differs}
use Rattle.star_meaning.proofs.KeepsPairs.{respects-pair_of}
use Rattle.star_meaning.proofs.KeepsValues.{respects-take_items}
use Rattle.star_once.proofs.Keys.{differ_stays, there_stays}
use Rattle.star_once.proofs.BoundArguments.{IsText, KeyIsText, KeysAre, NamedAll, named_stays, names_differ, text_there}
use Rattle.star_once.proofs.Writes as writes

-- ---- displays

pub fresh_entry_after : (w : Setting) (levels line : ℕ) (es : List (Value × Value)) (e : Value × Value) (s : State) → KeysDiffer w s → Differ (seen w s) es → After w s (λ t fs. Differ (seen w t) fs) (fresh_entry w levels line es e s)
fresh_entry_after w levels line es e s h d =
    after_then w s (λ t x. IsThere (seen w t) e.0 × Differ (seen w t) es) (λ t fs. Differ (seen w t) fs) (check_key w levels line e.0 s) _
    (check_key_same w levels line e.0 s (λ look. Differ look es) h d)
    (λ x t k stay p. after_then w t (λ u y. not (is_some (place_in w t e.0 es)) ≡ true) (λ u fs. Differ (seen w u) fs) (check code.Key line (not (is_some (place_in w t e.0 es))) t) _
    (check_after w code.Key line (not (is_some (place_in w t e.0 es))) t k)
    (λ y u l stays q. given_now w u (λ v fs. Differ (seen w v) fs) (with_entry w u es e) l (with_entry_differs w u es e (differ_stays (seen w t) (seen w u) es stays p.1) (there_stays (seen w t) (seen w u) e.0 stays p.0))))

pub fresh_entries_after : (w : Setting) (levels line : ℕ) (es more : List (Value × Value)) (s : State) → KeysDiffer w s → Differ (seen w s) es → After w s (λ t fs. Differ (seen w t) fs) (fresh_entries w levels line es more s)
fresh_entries_after w levels line es [] s h d = given_now w s (λ t fs. Differ (seen w t) fs) es h d
fresh_entries_after w levels line es (e ∷ more) s h d =
    after_then w s (λ t fs. Differ (seen w t) fs) (λ t fs. Differ (seen w t) fs) (fresh_entry w levels line es e s) (λ fs. fresh_entries w levels line fs more)
    (fresh_entry_after w levels line es e s h d) (λ fs t k stay p. fresh_entries_after w levels line fs more t k p)

-- ---- pairs

abbrev pub PairsThere : (Value → Option Cell) → Pairs → Type 0
PairsThere look ps = ps.are_keys ≡ true → AllThere look ps.pairs

check_pair_after : (w : Setting) (levels line : ℕ) (b : Bool) (k : Value) (s : State) → KeysDiffer w s → (b ≡ true → IsThere (seen w s) k) → After w s (λ t x. IsThere (seen w t) k) (check_pair w levels line b k s)
check_pair_after w levels line true k s h t = given_now {A = Unit {0}} w s (λ t x. IsThere (seen w t) k) tt h (t refl)
check_pair_after w levels line false k s h t = check_key_after w levels line k s h

with_pair_after : (w : Setting) (levels line : ℕ) (b : Bool) (es : List (Value × Value)) (e : Value × Value) (s : State) → KeysDiffer w s → Differ (seen w s) es → (b ≡ true → IsThere (seen w s) e.0) → After w s (λ t fs. Differ (seen w t) fs) (with_pair w levels line b es e s)
with_pair_after w levels line b es e s h d t =
    after_then w s (λ t x. IsThere (seen w t) e.0) (λ t fs. Differ (seen w t) fs) (check_pair w levels line b e.0 s) _
    (check_pair_after w levels line b e.0 s h t)
    (λ x u k stay p. given_now w u (λ v fs. Differ (seen w v) fs) (with_entry w u es e) k (with_entry_differs w u es e (differ_stays (seen w s) (seen w u) es stay d) p))

with_pairs_after : (w : Setting) (levels line : ℕ) (b : Bool) (es ps : List (Value × Value)) (s : State) → KeysDiffer w s → Differ (seen w s) es → (b ≡ true → AllThere (seen w s) ps) → After w s (λ t fs. Differ (seen w t) fs) (with_pairs w levels line b es ps s)
with_pairs_after w levels line b es [] s h d t = given_now w s (λ t fs. Differ (seen w t) fs) es h d
with_pairs_after w levels line b es (e ∷ ps) s h d t =
    after_then w s (λ t fs. Differ (seen w t) fs) (λ t fs. Differ (seen w t) fs) (with_pair w levels line b es e s) (λ fs. with_pairs w levels line b fs ps)
    (with_pair_after w levels line b es e s h d (λ c. (t c).0))
    (λ fs u k stay p. with_pairs_after w levels line b fs ps u k p (λ c. all_stay (seen w s) (seen w u) ps stay (t c).1))

-- the key of a value by name leads to the string of the name
name_key_after : (w : Setting) (line : ℕ) (n : KeywordArgument) (o : Option Value) (s : State) → KeysDiffer w s → KeyIsText (seen w s) o n.name → After w s (λ t k. IsText (seen w t) k n.name) (name_key line n o s)
unfolding name_key
name_key_after w line n (Some k) s h t = given_now w s (λ t k. IsText (seen w t) k n.name) k h t
name_key_after w line n None s h t = new_text_after w line n.name s h

pub key_for_after : (w : Setting) (line : ℕ) (n : KeywordArgument) (s : State) → KeysDiffer w s → KeyIsText (seen w s) n.key n.name → After w s (λ t k. IsText (seen w t) k n.name) (key_for line n s)
key_for_after w line n s h t = name_key_after w line n n.key s h t

with_named_after : (w : Setting) (line : ℕ) (es : List (Value × Value)) (ns : List KeywordArgument) (s : State) → KeysDiffer w s → Differ (seen w s) es → NamedAll (seen w s) ns → After w s (λ t fs. Differ (seen w t) fs) (with_named w line es ns s)
with_named_after w line es [] s h d t = given_now w s (λ t fs. Differ (seen w t) fs) es h d
with_named_after w line es (n ∷ ns) s h d t =
    after_then w s (λ t k. IsText (seen w t) k n.name) (λ t fs. Differ (seen w t) fs) (key_for line n s) (λ k. seeing (λ s. with_named w line (with_entry w s es (k, n.value)) ns))
    (key_for_after w line n s h t.0)
    (λ k u l stay p. with_named_after w line (with_entry w u es (k, n.value)) ns u l
    (with_entry_differs w u es (k, n.value) (differ_stays (seen w s) (seen w u) es stay d) (text_there (seen w u) k n.name p)) (named_stays (seen w s) (seen w u) stay ns t.1))

pub dict_of_differs : (w : Setting) (levels line : ℕ) (ps : Pairs) (ns : List KeywordArgument) (s : State) → KeysDiffer w s → PairsThere (seen w s) ps → NamedAll (seen w s) ns → writes.Held w (dict_of w levels line ps ns s)
unfolding dict_of
dict_of_differs w levels line ps ns s h t n =
    held_then w s (λ t fs. Differ (seen w t) fs) (with_pairs w levels line ps.are_keys [] ps.pairs s) (λ es. with_named w line es ns >>= new_dict line)
    (with_pairs_after w levels line ps.are_keys [] ps.pairs s h tt t)
    (λ es u k stay p. held_then w u (λ t fs. Differ (seen w t) fs) (with_named w line es ns u) (new_dict line)
    (with_named_after w line es ns u k p (named_stays (seen w s) (seen w u) stay ns n))
    (λ fs v l stays q. new_dict_differs w line fs v l q))

-- the entries that are taken are those that are there
taken_after : (w : Setting) (line : ℕ) (es : List (Value × Value)) (s : State) → KeysDiffer w s → AllThere (seen w s) es → After w s (λ t fs. AllThere (seen w t) fs) (taken_entries line es s)
taken_after w line [] s h t = given_now w s (λ t fs. AllThere (seen w t) fs) [] h tt
taken_after w line (e ∷ es) s h t =
    after_then w s (λ t x. IsThere (seen w t) x.0 × AllThere (seen w t) es) (λ t fs. AllThere (seen w t) fs) ((pay line 1 >>= λ _. give e) s) (λ x. taken_entries line es >>= λ xs. give (x ∷ xs))
    (after_then w s (λ u x. IsThere (seen w u) e.0 × AllThere (seen w u) es) (λ u x. IsThere (seen w u) x.0 × AllThere (seen w u) es) (pay line 1 s) (λ _. give e)
    (pay_same w line 1 s (λ look. IsThere look e.0 × AllThere look es) h t)
    (λ x u k stay p. given_now w u (λ u x. IsThere (seen w u) x.0 × AllThere (seen w u) es) e k p))
    (λ x u k stay p. after_then w u (λ t fs. AllThere (seen w t) fs) (λ t fs. AllThere (seen w t) fs) (taken_entries line es u) (λ xs. give (x ∷ xs))
    (taken_after w line es u k p.1)
    (λ fs v l stays q. given_now w v (λ t fs. AllThere (seen w t) fs) (x ∷ fs) l (there_stays (seen w u) (seen w v) x.0 stays p.0, q)))

other_pairs : (w : Setting) (line : ℕ) (x : Value) (n : ℕ) (s : State) → KeysDiffer w s → After w s (λ t ps. PairsThere (seen w t) ps) ((take_items w line x n >>= λ xs. each (pair_of w line) xs >>= λ ps. give (record { are_keys = false; pairs = ps })) s)
other_pairs w line x n s h =
    after_then w s Some_answer (λ t ps. PairsThere (seen w t) ps) (take_items w line x n s) (λ xs. each (pair_of w line) xs >>= λ ps. give (record { are_keys = false; pairs = ps }))
    (plain w (take_items w line x n) (λ inv. respects-take_items w line x n) s h)
    (λ xs u k stay p. after_then w u Some_answer (λ t ps. PairsThere (seen w t) ps) (each (pair_of w line) xs u) (λ ps. give (record { are_keys = false; pairs = ps }))
    (plain w (each (pair_of w line) xs) (λ inv. respects_each (pair_of w line) xs (respects-pair_of w line)) u k)
    (λ ps v l stays q. given_now w v (λ t ps. PairsThere (seen w t) ps) (record { are_keys = false; pairs = ps }) l (λ c. absurd (let no : ⊥ = cc in no))))

dict_pairs : (w : Setting) (line : ℕ) (es : List (Value × Value)) (s : State) → KeysDiffer w s → Differ (seen w s) es → After w s (λ t ps. PairsThere (seen w t) ps) ((taken_entries line es >>= λ ps. give (record { are_keys = true; pairs = ps })) s)
dict_pairs w line es s h d =
    after_then w s (λ t fs. AllThere (seen w t) fs) (λ t ps. PairsThere (seen w t) ps) (taken_entries line es s) (λ ps. give (record { are_keys = true; pairs = ps }))
    (taken_after w line es s h (differ_there (seen w s) es d))
    (λ ps v l stays q. given_now w v (λ t ps. PairsThere (seen w t) ps) (record { are_keys = true; pairs = ps }) l (λ c. q))

pairs_in_after : (w : Setting) (line : ℕ) (x : Value) (n : ℕ) (c : Content) (s : State) → KeysDiffer w s → ((es : List (Value × Value)) → c ≡ Held (cell.Dict es) → Differ (seen w s) es) → After w s (λ t ps. PairsThere (seen w t) ps) (pairs_in w line x n c s)
pairs_in_after w line x n (Held (cell.Dict es)) s h d = dict_pairs w line es s h (d es refl)
pairs_in_after w line x n _ s h d = other_pairs w line x n s h

-- the entries of a dictionary that a run sees differ
pub held_differ : (w : Setting) (s : State) (v : Value) (es : List (Value × Value)) → KeysDiffer w s → content w s v ≡ Held (cell.Dict es) → Differ (seen w s) es
held_differ w s v es h e = h v es (held_is w s v (cell.Dict es) e)
  where
    unheld : (o : Option Cell) (c : Cell) → held o ≡ Held c → o ≡ Some c
    unheld (Some d) c e = let same : d ≡ c = cc in ap Some same
    unheld None c e = absurd (let no : ⊥ = cc in no)

    held_is : (w : Setting) (s : State) (v : Value) (c : Cell) → content w s v ≡ Held c → seen w s v ≡ Some c
    held_is w s (value.Ref h a) c e = unheld (seen w s (value.Ref h a)) c e
    held_is w s value.NoneValue c e = absurd (let no : ⊥ = cc in no)
    held_is w s (value.Bool b) c e = absurd (let no : ⊥ = cc in no)
    held_is w s (value.Int n) c e = absurd (let no : ⊥ = cc in no)
    held_is w s (value.Builtin b) c e = absurd (let no : ⊥ = cc in no)

pub pairs_of_after : (w : Setting) (line : ℕ) (o : Option Value) (n : ℕ) (s : State) → KeysDiffer w s → After w s (λ t ps. PairsThere (seen w t) ps) (pairs_of w line o n s)
unfolding pairs_of
pairs_of_after w line None n s h = given_now w s (λ t ps. PairsThere (seen w t) ps) (record { are_keys = true; pairs = [] }) h (λ c. tt)
pairs_of_after w line (Some x) n s h = pairs_in_after w line x n (content w s x) s h (λ es e. held_differ w s x es h e)

-- ---- entries of names

pub entries_after_names : (w : Setting) (line : ℕ) (ns : List KeywordArgument) (s : State) → KeysDiffer w s → NamedAll (seen w s) ns → After w s (λ t es. KeysAre (seen w t) ns es) (each (key_and_value line) ns s)
entries_after_names w line [] s h t = given_now w s (λ t es. KeysAre (seen w t) [] es) [] h tt
entries_after_names w line (n ∷ ns) s h t =
    after_then w s (λ t e. IsText (seen w t) e.0 n.name) (λ t es. KeysAre (seen w t) (n ∷ ns) es) (key_and_value line n s) (λ y. each (key_and_value line) ns >>= λ ys. give (y ∷ ys))
    (after_then w s (λ t k. IsText (seen w t) k n.name) (λ t e. IsText (seen w t) e.0 n.name) (key_for line n s) (λ k. give {A = Value × Value} (k, n.value))
    (key_for_after w line n s h t.0) (λ k u l stay p. given_now {A = Value × Value} w u (λ t e. IsText (seen w t) e.0 n.name) (k, n.value) l p))
    (λ e u k stay p. after_then w u (λ t es. KeysAre (seen w t) ns es) (λ t es. KeysAre (seen w t) (n ∷ ns) es) (each (key_and_value line) ns u) (λ ys. give (e ∷ ys))
    (entries_after_names w line ns u k (named_stays (seen w s) (seen w u) stay ns t.1))
    (λ es v l stays q. given_now w v (λ t es. KeysAre (seen w t) (n ∷ ns) es) (e ∷ es) l (stays e.0 (cell.Text n.name) p tt, q)))

pub named_dict : (w : Setting) (line : ℕ) (ns : List KeywordArgument) (s : State) → KeysDiffer w s → NamedAll (seen w s) ns → comes_twice ns ≡ false → writes.Held w ((each (key_and_value line) ns >>= new_dict line) s)
named_dict w line ns s h t once =
    held_then w s (λ t es. KeysAre (seen w t) ns es) (each (key_and_value line) ns s) (new_dict line)
    (entries_after_names w line ns s h t) (λ es u k stay p. new_dict_differs w line es u k (names_differ (seen w u) ns es once p))
