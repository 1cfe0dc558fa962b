-- The arguments of calls over two shelves: each action does the same, and leaves what is visible.
use Rattle.std.proofs.Common.{◌≡◌, ℕ, List, [], ◌∷◌, ◌++◌, length, not, nat_eq, Option, Some, None, slice_get, refl, ap, ◌∙◌}
use Rattle.std.specs.List.{list_all}
use Rattle.std.specs.Option.{option_map}
use Rattle.star_store.specs.declared.values.Value.{Value}
use Rattle.star_store.specs.declared.values.Cell.TheVariants as cell
use Rattle.star_outline.specs.Names.{same_name}
use Rattle.star_meaning.specs.declared.fault.FaultCode.TheVariants as code
use Rattle.star_meaning.specs.declared.given.Arguments.{Arguments}
use Rattle.star_meaning.specs.declared.given.KeywordArgument.{KeywordArgument}
use Rattle.star_meaning.specs.Run.{State}
use Rattle.star_meaning.specs.Program.{Setting}
use Rattle.star_meaning.specs.Values.{Content, Held, content, text_of}
use Rattle.star_meaning.specs.Arguments.{EvaluatedArgument, Plain, Named, Star, StarStar, positional_of, named_of, star_of, star_star_of, star_count, take_star, named_entry, before_all, named_entries, names_in, star_star_names, take_names, comes_twice, given, name_key, key_for, positional, with_name, only_one, none_or_one, one_or_two, two, two_or_three, no_value}
use Rattle.star_unseen.specs.Veil.{AreVisible, Every, IsVisible, Maybe, VisibleIfThere, PairIsVisible, PairsAreVisible}
use Rattle.star_unseen.specs.Shelves.{Veil, with_other}
use Rattle.star_unseen.proofs.Rows.{every_append, every_get, maybe_map}
use Rattle.star_unseen.proofs.Looks.{ContentIsVisible, visible_content, same_content}
use Rattle.star_unseen.proofs.Visible.{ArgumentIsVisible, ArgumentsAreVisible, KeywordIsVisible, KeywordsAreVisible, TwoWithMaybe, WithMaybe}
use Rattle.star_unseen.proofs.Alike.{Alike, Any, alike_check, alike_each, alike_fail, alike_finds, alike_give, alike_pay, alike_seeing, alike_then}
use Rattle.star_unseen.proofs.Values.{alike-count_of, alike-new_text, alike-take_items}

-- ---- the parts of the evaluated arguments

pub visible-positional_of : {w : Setting} (k : Veil w) (ps : List EvaluatedArgument) → Every (ArgumentIsVisible k.hides) ps → AreVisible k.hides (positional_of ps)
visible-positional_of k [] h = tt
visible-positional_of k (Plain v ∷ ps) h = (h.0, visible-positional_of k ps h.1)
visible-positional_of k (Named n v ∷ ps) h = visible-positional_of k ps h.1
visible-positional_of k (Star v ∷ ps) h = visible-positional_of k ps h.1
visible-positional_of k (StarStar v ∷ ps) h = visible-positional_of k ps h.1

pub visible-named_of : {w : Setting} (k : Veil w) (ps : List EvaluatedArgument) → Every (ArgumentIsVisible k.hides) ps → KeywordsAreVisible k.hides (named_of ps)
visible-named_of k [] h = tt
visible-named_of k (Plain v ∷ ps) h = visible-named_of k ps h.1
visible-named_of k (Named n v ∷ ps) h = ((tt, h.0), visible-named_of k ps h.1)
visible-named_of k (Star v ∷ ps) h = visible-named_of k ps h.1
visible-named_of k (StarStar v ∷ ps) h = visible-named_of k ps h.1

pub visible-star_of : {w : Setting} (k : Veil w) (ps : List EvaluatedArgument) → Every (ArgumentIsVisible k.hides) ps → VisibleIfThere k.hides (star_of ps)
visible-star_of k [] h = tt
visible-star_of k (Plain v ∷ ps) h = visible-star_of k ps h.1
visible-star_of k (Named n v ∷ ps) h = visible-star_of k ps h.1
visible-star_of k (Star v ∷ ps) h = h.0
visible-star_of k (StarStar v ∷ ps) h = visible-star_of k ps h.1

pub visible-star_star_of : {w : Setting} (k : Veil w) (ps : List EvaluatedArgument) → Every (ArgumentIsVisible k.hides) ps → VisibleIfThere k.hides (star_star_of ps)
visible-star_star_of k [] h = tt
visible-star_star_of k (Plain v ∷ ps) h = visible-star_star_of k ps h.1
visible-star_star_of k (Named n v ∷ ps) h = visible-star_star_of k ps h.1
visible-star_star_of k (Star v ∷ ps) h = visible-star_star_of k ps h.1
visible-star_star_of k (StarStar v ∷ ps) h = h.0

-- ---- what `*` adds

pub alike-star_count : {w : Setting} (k : Veil w) (line : ℕ) (o : Option Value) → VisibleIfThere k.hides o → Alike k Any (star_count w line o) (star_count (with_other k.other w) line o)
alike-star_count k line None h = alike_give {A = ℕ} Any 0 tt
alike-star_count k line (Some v) h = alike-count_of k line v h

pub alike-take_star : {w : Setting} (k : Veil w) (line : ℕ) (o : Option Value) (n : ℕ) → VisibleIfThere k.hides o → Alike k (AreVisible k.hides) (take_star w line o n) (take_star (with_other k.other w) line o n)
alike-take_star k line None n h = alike_give {A = List Value} (AreVisible k.hides) [] tt
alike-take_star k line (Some v) n h = alike-take_items k line v n h

-- ---- what `**` adds

pub same-named_entry : {w : Setting} (k : Veil w) (s : State) (e : Value × Value) (o : Option (List ℕ)) → named_entry w s e o ≡ named_entry (with_other k.other w) s e o
same-named_entry k s e None = refl
same-named_entry k s e (Some t) = refl

pub visible-named_entry : {w : Setting} (k : Veil w) (s : State) (e : Value × Value) (o : Option (List ℕ)) → PairIsVisible k.hides e → Maybe (KeywordIsVisible k.hides) (named_entry w s e o)
visible-named_entry k s e None h = tt
visible-named_entry k s e (Some t) h = h

pub visible-before_all : {A : Type 0} (P : A → Type 0) (o : Option A) (os : Option (List A)) → Maybe P o → Maybe (Every P) os → Maybe (Every P) (before_all o os)
visible-before_all P (Some x) (Some xs) h l = (h, l)
visible-before_all P (Some x) None h l = tt
visible-before_all P None os h l = tt

pub same-named_entries : {w : Setting} (k : Veil w) (s : State) (es : List (Value × Value)) → PairsAreVisible k.hides es → named_entries w s es ≡ named_entries (with_other k.other w) s es
same-named_entries k s [] h = refl
same-named_entries {w = w} k s (e ∷ es) h =
    ap (λ c. before_all (named_entry w s e (text_of c)) (named_entries w s es)) (same_content k s e.0 h.0.0)
    ∙ ap (λ o. before_all o (named_entries w s es)) (same-named_entry k s e (text_of (content (with_other k.other w) s e.0)))
    ∙ ap (λ ns. before_all (named_entry (with_other k.other w) s e (text_of (content (with_other k.other w) s e.0))) ns) (same-named_entries k s es h.1)

pub visible-named_entries : {w : Setting} (k : Veil w) (s : State) (es : List (Value × Value)) → PairsAreVisible k.hides es → Maybe (KeywordsAreVisible k.hides) (named_entries w s es)
visible-named_entries k s [] h = tt
visible-named_entries {w = w} k s (e ∷ es) h = visible-before_all (KeywordIsVisible k.hides) (named_entry w s e (text_of (content w s e.0))) (named_entries w s es) (visible-named_entry k s e (text_of (content w s e.0)) h.0) (visible-named_entries k s es h.1)

pub same-names_in : {w : Setting} (k : Veil w) (s : State) (c : Content) → ContentIsVisible k.hides c → names_in w s c ≡ names_in (with_other k.other w) s c
same-names_in k s (Held (cell.Dict es)) h = same-named_entries k s es h
same-names_in k s _ h = refl

pub visible-names_in : {w : Setting} (k : Veil w) (s : State) (c : Content) → ContentIsVisible k.hides c → Maybe (KeywordsAreVisible k.hides) (names_in w s c)
visible-names_in k s (Held (cell.Dict es)) h = visible-named_entries k s es h
visible-names_in k s _ h = tt

pub alike-star_star_names : {w : Setting} (k : Veil w) (line : ℕ) (o : Option Value) → VisibleIfThere k.hides o → Alike k (KeywordsAreVisible k.hides) (star_star_names w line o) (star_star_names (with_other k.other w) line o)
alike-star_star_names k line None h = alike_give {A = List KeywordArgument} (KeywordsAreVisible k.hides) [] tt
alike-star_star_names {w = w} k line (Some v) h = alike_seeing (KeywordsAreVisible k.hides) _ _ (λ s c. alike_finds (KeywordsAreVisible k.hides) code.BadType line (names_in w s (content w s v)) (names_in (with_other k.other w) s (content (with_other k.other w) s v))
    (same-names_in k s (content w s v) (visible_content k s v c h) ∙ ap (λ x. names_in (with_other k.other w) s x) (same_content k s v h))
    (visible-names_in k s (content w s v) (visible_content k s v c h)))

pub alike-take_names : {w : Setting} (k : Veil w) (line : ℕ) (ns : List KeywordArgument) → KeywordsAreVisible k.hides ns → Alike k (KeywordsAreVisible k.hides) (take_names line ns) (take_names line ns)
alike-take_names k line ns h = alike_each (KeywordIsVisible k.hides) (KeywordIsVisible k.hides) _ _ ns h (λ n p. alike_then (alike_pay line 1) (λ _ _. alike_give (KeywordIsVisible k.hides) n p))

-- ---- the arguments of a call

pub alike-given : {w : Setting} (k : Veil w) (line : ℕ) (ps : List EvaluatedArgument) → Every (ArgumentIsVisible k.hides) ps → Alike k (ArgumentsAreVisible k.hides) (given w line ps) (given (with_other k.other w) line ps)
unfolding given
alike-given k line ps h = alike_then (alike-star_count k line (star_of ps) (visible-star_of k ps h)) (λ n _.
    alike_then (alike-star_star_names k line (star_star_of ps) (visible-star_star_of k ps h)) (λ names hn.
    alike_then (alike-take_star k line (star_of ps) n (visible-star_of k ps h)) (λ xs hx.
    alike_then (alike-take_names k line names hn) (λ ns hs.
    alike_then (alike_check code.Args line (not (comes_twice (named_of ps ++ ns)))) (λ _ _.
    alike_give (ArgumentsAreVisible k.hides) (record { positional = positional_of ps ++ xs; named = named_of ps ++ ns }) (every_append (IsVisible k.hides) (positional_of ps) xs (visible-positional_of k ps h) hx, every_append (KeywordIsVisible k.hides) (named_of ps) ns (visible-named_of k ps h) hs))))))

pub alike-name_key : {w : Setting} (k : Veil w) (line : ℕ) (n : KeywordArgument) (o : Option Value) → KeywordIsVisible k.hides n → VisibleIfThere k.hides o → Alike k (IsVisible k.hides) (name_key line n o) (name_key line n o)
unfolding name_key
alike-name_key k line n (Some v) h l = alike_give (IsVisible k.hides) v l
alike-name_key k line n None h l = alike-new_text k line n.name

pub alike-key_for : {w : Setting} (k : Veil w) (line : ℕ) (n : KeywordArgument) → KeywordIsVisible k.hides n → Alike k (IsVisible k.hides) (key_for line n) (key_for line n)
alike-key_for k line n h = alike-name_key k line n n.key h h.0

pub alike-positional : {w : Setting} (k : Veil w) (line : ℕ) (g : Arguments) → ArgumentsAreVisible k.hides g → Alike k (AreVisible k.hides) (positional line g) (positional line g)
alike-positional k line g h = alike_then (alike_check code.Args line (nat_eq (length g.named) 0)) (λ _ _. alike_give (AreVisible k.hides) g.positional h.0)

pub alike-with_name : {w : Setting} (k : Veil w) (line : ℕ) (name : List ℕ) (g : Arguments) → ArgumentsAreVisible k.hides g → Alike k (λ p. AreVisible k.hides p.0 × VisibleIfThere k.hides p.1) (with_name line name g) (with_name line name g)
alike-with_name k line name g h = alike_then (alike_check code.Args line (list_all (λ n. same_name n.name name) g.named)) (λ _ _.
    alike_give (λ p. AreVisible k.hides p.0 × VisibleIfThere k.hides p.1) (g.positional, option_map (λ n. n.value) (slice_get g.named 0)) (h.0, maybe_map (KeywordIsVisible k.hides) (IsVisible k.hides) (λ n. n.value) (λ n p. p.1) (slice_get g.named 0) (every_get (KeywordIsVisible k.hides) g.named 0 h.1)))

-- ---- numbers of positional arguments

pub alike-only_one : {w : Setting} (k : Veil w) (line : ℕ) (xs : List Value) → AreVisible k.hides xs → Alike k (IsVisible k.hides) (only_one line xs) (only_one line xs)
alike-only_one k line (x ∷ []) h = alike_give (IsVisible k.hides) x h.0
alike-only_one k line _ h = alike_fail Value (IsVisible k.hides) code.Args line

pub alike-none_or_one : {w : Setting} (k : Veil w) (line : ℕ) (xs : List Value) → AreVisible k.hides xs → Alike k (VisibleIfThere k.hides) (none_or_one line xs) (none_or_one line xs)
alike-none_or_one k line [] h = alike_give {A = Option Value} (VisibleIfThere k.hides) None tt
alike-none_or_one k line (x ∷ []) h = alike_give (VisibleIfThere k.hides) (Some x) h.0
alike-none_or_one k line _ h = alike_fail (Option Value) (VisibleIfThere k.hides) code.Args line

pub alike-one_or_two : {w : Setting} (k : Veil w) (line : ℕ) (xs : List Value) → AreVisible k.hides xs → Alike k (WithMaybe k.hides) (one_or_two line xs) (one_or_two line xs)
alike-one_or_two k line (x ∷ []) h = alike_give (WithMaybe k.hides) (x, None) (h.0, tt)
alike-one_or_two k line (x ∷ y ∷ []) h = alike_give (WithMaybe k.hides) (x, Some y) (h.0, h.1.0)
alike-one_or_two k line _ h = alike_fail (Value × Option Value) (WithMaybe k.hides) code.Args line

pub alike-two : {w : Setting} (k : Veil w) (line : ℕ) (xs : List Value) → AreVisible k.hides xs → Alike k (PairIsVisible k.hides) (two line xs) (two line xs)
alike-two k line (x ∷ y ∷ []) h = alike_give (PairIsVisible k.hides) (x, y) (h.0, h.1.0)
alike-two k line _ h = alike_fail (Value × Value) (PairIsVisible k.hides) code.Args line

pub alike-two_or_three : {w : Setting} (k : Veil w) (line : ℕ) (xs : List Value) → AreVisible k.hides xs → Alike k (TwoWithMaybe k.hides) (two_or_three line xs) (two_or_three line xs)
alike-two_or_three k line (x ∷ y ∷ []) h = alike_give (TwoWithMaybe k.hides) (x, y, None) (h.0, h.1.0, tt)
alike-two_or_three k line (x ∷ y ∷ z ∷ []) h = alike_give (TwoWithMaybe k.hides) (x, y, Some z) (h.0, h.1.0, h.1.1.0)
alike-two_or_three k line _ h = alike_fail (Value × Value × Option Value) (TwoWithMaybe k.hides) code.Args line

pub alike-no_value : {w : Setting} (k : Veil w) (line : ℕ) (xs : List Value) → AreVisible k.hides xs → Alike k Any (no_value line xs) (no_value line xs)
alike-no_value k line [] h = alike_give {A = Unit {0}} Any tt tt
alike-no_value k line _ h = alike_fail (Unit {0}) Any code.Args line
