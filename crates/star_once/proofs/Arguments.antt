-- The values by name that a call gives: the keys of those from `**` are strings, and no name comes twice.
use Rattle.std.proofs.Common.{◌≡◌, ℕ, List, [], ◌∷◌, ◌++◌, Option, Some, None, Bool, true, false, not, refl, ap, subst}
use Rattle.star_store.specs.declared.values.Value.{Value}
use Rattle.star_store.specs.declared.values.Value.TheVariants as value
use Rattle.star_store.specs.declared.values.Cell.{Cell}
use Rattle.star_store.specs.declared.values.Cell.TheVariants as cell
use Rattle.star_meaning.specs.declared.fault.FaultCode.{FaultCode}
use Rattle.star_meaning.specs.declared.fault.FaultCode.TheVariants as code
use Rattle.star_meaning.specs.declared.given.Arguments.{Arguments}
use Rattle.star_meaning.specs.declared.given.KeywordArgument.{KeywordArgument}
use Rattle.star_meaning.specs.Arguments.{Named, EvaluatedArgument, Plain, Star, StarStar, before_all, comes_twice, given, named_entries, named_entry, named_of, names_in, positional_of, star_count, star_of, star_star_names, star_star_of, take_names, take_star}
use Rattle.star_meaning.specs.Program.{Setting, seen}
use Rattle.star_meaning.specs.Run.{State, check, found, give, pay, ◌>>=◌}
use Rattle.star_meaning.specs.Values.{BuiltInFunction, Content, Held, Nothing, Nowhere, Number, Truth, content, held, text_of}
use Rattle.star_once.specs.Keys.{KeysDiffer}
use Rattle.star_once.proofs.After.{After, Some_answer, after_then, check_after, given_now, pay_same, plain}
use Rattle.star_meaning.proofs.KeepsArguments.{respects-star_count, respects-take_star}
use Rattle.star_once.proofs.Keys.{Stay}
use Rattle.star_once.proofs.BoundArguments.{IsText, KeyIsText, NamedAll, NamedOnce, named_append, named_stays}

named_of_all : (look : Value → Option Cell) (ps : List EvaluatedArgument) → NamedAll look (named_of ps)
named_of_all look [] = tt
named_of_all look (Plain v ∷ ps) = named_of_all look ps
named_of_all look (Named n v ∷ ps) = (tt, named_of_all look ps)
named_of_all look (Star v ∷ ps) = named_of_all look ps
named_of_all look (StarStar v ∷ ps) = named_of_all look ps

-- ---- the entries of a dictionary by name

text_is : (w : Setting) (s : State) (v : Value) (t : List ℕ) → text_of (content w s v) ≡ Some t → IsText (seen w s) v t
text_is w s (value.Ref h a) t e = by (seen w s (value.Ref h a)) e
  where
    by : (o : Option Cell) → text_of (held o) ≡ Some t → o ≡ Some (cell.Text t)
    by (Some (cell.Text u)) e = let same : u ≡ t = cc in ap (λ z. Some (cell.Text z)) same
    by (Some (cell.Tuple xs)) e = absurd (let no : ⊥ = cc in no)
    by (Some (cell.List xs)) e = absurd (let no : ⊥ = cc in no)
    by (Some (cell.Dict xs)) e = absurd (let no : ⊥ = cc in no)
    by (Some (cell.Range xs)) e = absurd (let no : ⊥ = cc in no)
    by (Some (cell.Set xs)) e = absurd (let no : ⊥ = cc in no)
    by (Some (cell.Func xs)) e = absurd (let no : ⊥ = cc in no)
    by (Some (cell.Frame xs)) e = absurd (let no : ⊥ = cc in no)
    by (Some (cell.Bound m xs)) e = absurd (let no : ⊥ = cc in no)
    by (Some (cell.Struct xs)) e = absurd (let no : ⊥ = cc in no)
    by None e = absurd (let no : ⊥ = cc in no)
text_is w s value.NoneValue t e = absurd (let no : ⊥ = cc in no)
text_is w s (value.Bool b) t e = absurd (let no : ⊥ = cc in no)
text_is w s (value.Int n) t e = absurd (let no : ⊥ = cc in no)
text_is w s (value.Builtin b) t e = absurd (let no : ⊥ = cc in no)

-- a row of values by name, if it is there
AllNamed : (Value → Option Cell) → Option (List KeywordArgument) → Type 0
AllNamed look o = (ns : List KeywordArgument) → o ≡ Some ns → NamedAll look ns

first_named : (w : Setting) (s : State) (e : Value × Value) (o : Option (List ℕ)) (rest : Option (List KeywordArgument)) → text_of (content w s e.0) ≡ o → AllNamed (seen w s) rest → AllNamed (seen w s) (before_all (named_entry w s e o) rest)
unfolding AllNamed
first_named w s e None rest is h ns k = absurd (let no : ⊥ = cc in no)
first_named w s e (Some t) None is h ns k = absurd (let no : ⊥ = cc in no)
first_named w s e (Some t) (Some ms) is h ns k =
    let same : record { name = t; key = Some e.0; value = e.1 } ∷ ms ≡ ns = cc in
    subst (NamedAll (seen w s)) same (text_is w s e.0 t is, h ms refl)

entries_named : (w : Setting) (s : State) (es : List (Value × Value)) → AllNamed (seen w s) (named_entries w s es)
unfolding AllNamed
entries_named w s [] = λ ns k. let same : [] ≡ ns = cc in subst (NamedAll (seen w s)) same tt
entries_named w s (e ∷ es) = first_named w s e (text_of (content w s e.0)) (named_entries w s es) refl (entries_named w s es)

content_named : (w : Setting) (s : State) (c : Content) → AllNamed (seen w s) (names_in w s c)
unfolding AllNamed
content_named w s (Held (cell.Dict es)) = entries_named w s es
content_named w s (Held (cell.Text es)) = λ ns k. absurd (let no : ⊥ = cc in no)
content_named w s (Held (cell.Tuple es)) = λ ns k. absurd (let no : ⊥ = cc in no)
content_named w s (Held (cell.List es)) = λ ns k. absurd (let no : ⊥ = cc in no)
content_named w s (Held (cell.Range es)) = λ ns k. absurd (let no : ⊥ = cc in no)
content_named w s (Held (cell.Set es)) = λ ns k. absurd (let no : ⊥ = cc in no)
content_named w s (Held (cell.Func es)) = λ ns k. absurd (let no : ⊥ = cc in no)
content_named w s (Held (cell.Frame es)) = λ ns k. absurd (let no : ⊥ = cc in no)
content_named w s (Held (cell.Bound m es)) = λ ns k. absurd (let no : ⊥ = cc in no)
content_named w s (Held (cell.Struct es)) = λ ns k. absurd (let no : ⊥ = cc in no)
content_named w s Nothing = λ ns k. absurd (let no : ⊥ = cc in no)
content_named w s (Truth b) = λ ns k. absurd (let no : ⊥ = cc in no)
content_named w s (Number z) = λ ns k. absurd (let no : ⊥ = cc in no)
content_named w s (BuiltInFunction b) = λ ns k. absurd (let no : ⊥ = cc in no)
content_named w s Nowhere = λ ns k. absurd (let no : ⊥ = cc in no)

found_named : (w : Setting) (c : FaultCode) (line : ℕ) (o : Option (List KeywordArgument)) (s : State) → KeysDiffer w s → AllNamed (seen w s) o → After w s (λ t ns. NamedAll (seen w t) ns) (found c line o s)
unfolding AllNamed
found_named w c line None s h a = tt
found_named w c line (Some ns) s h a = (h, (λ v d e f. e), a ns refl)

names_after : (w : Setting) (line : ℕ) (o : Option Value) (s : State) → KeysDiffer w s → After w s (λ t ns. NamedAll (seen w t) ns) (star_star_names w line o s)
names_after w line None s h = given_now w s (λ t ns. NamedAll (seen w t) ns) [] h tt
names_after w line (Some v) s h = found_named w code.BadType line (names_in w s (content w s v)) s h (content_named w s (content w s v))

taken_names : (w : Setting) (line : ℕ) (ns : List KeywordArgument) (s : State) → KeysDiffer w s → NamedAll (seen w s) ns → After w s (λ t ms. NamedAll (seen w t) ms) (take_names line ns s)
taken_names w line [] s h t = given_now w s (λ t ms. NamedAll (seen w t) ms) [] h tt
taken_names w line (n ∷ ns) s h t =
    after_then w s (λ t m. KeyIsText (seen w t) m.key m.name × NamedAll (seen w t) ns) (λ t ms. NamedAll (seen w t) ms) ((pay line 1 >>= λ _. give n) s) (λ y. take_names line ns >>= λ ys. give (y ∷ ys))
    (after_then w s (λ u x. KeyIsText (seen w u) n.key n.name × NamedAll (seen w u) ns) (λ u m. KeyIsText (seen w u) m.key m.name × NamedAll (seen w u) ns) (pay line 1 s) (λ _. give n)
    (pay_same w line 1 s (λ look. KeyIsText look n.key n.name × NamedAll look ns) h t)
    (λ x u k stay p. given_now w u (λ u m. KeyIsText (seen w u) m.key m.name × NamedAll (seen w u) ns) n k p))
    (λ m u k stay p. after_then w u (λ t ms. NamedAll (seen w t) ms) (λ t ms. NamedAll (seen w t) ms) (take_names line ns u) (λ ys. give (m ∷ ys))
    (taken_names w line ns u k p.1)
    (λ ms v l stays q. given_now w v (λ t ms. NamedAll (seen w t) ms) (m ∷ ms) l (one_stays (seen w u) (seen w v) stays m p.0, q)))
  where
    one_stays : (look see : Value → Option Cell) → Stay look see → (m : KeywordArgument) → KeyIsText look m.key m.name → KeyIsText see m.key m.name
    one_stays look see k m h = (named_stays look see k (m ∷ []) (h, tt)).0

not_true : (b : Bool) → not b ≡ true → b ≡ false
not_true true h = absurd (let no : ⊥ = cc in no)
not_true false h = refl

last_step : (w : Setting) (line : ℕ) (plain : List Value) (ns : List KeywordArgument) (s : State) → KeysDiffer w s → NamedAll (seen w s) ns → After {A = Arguments} w s (λ t g. NamedOnce (seen w t) g.named) ((check code.Args line (not (comes_twice ns)) >>= λ _. give {A = Arguments} (record { positional = plain; named = ns })) s)
last_step w line plain ns s h n =
    after_then w s (λ t x. not (comes_twice ns) ≡ true) (λ t g. NamedOnce (seen w t) g.named) (check code.Args line (not (comes_twice ns)) s) (λ _. give {A = Arguments} (record { positional = plain; named = ns }))
    (check_after w code.Args line (not (comes_twice ns)) s h)
    (λ x u k stay p. given_now {A = Arguments} w u (λ t g. NamedOnce (seen w t) g.named) (record { positional = plain; named = ns }) k (named_stays (seen w s) (seen w u) stay ns n, not_true (comes_twice ns) p))

pub given_after : (w : Setting) (line : ℕ) (ps : List EvaluatedArgument) (s : State) → KeysDiffer w s → After {A = Arguments} w s (λ t g. NamedOnce (seen w t) g.named) (given w line ps s)
unfolding given
given_after w line ps s h =
    after_then w s Some_answer (λ t g. NamedOnce (seen w t) g.named) (star_count w line (star_of ps) s) _
    (plain w (star_count w line (star_of ps)) (λ inv. respects-star_count w line (star_of ps)) s h)
    (λ n t k stay p. after_then w t (λ u ns. NamedAll (seen w u) ns) (λ u g. NamedOnce (seen w u) g.named) (star_star_names w line (star_star_of ps) t) _
    (names_after w line (star_star_of ps) t k)
    (λ names u l stays q. after_then w u Some_answer (λ v g. NamedOnce (seen w v) g.named) (take_star w line (star_of ps) n u) _
    (plain w (take_star w line (star_of ps) n) (λ inv. respects-take_star w line (star_of ps) n) u l)
    (λ xs v m stayed r. after_then w v (λ x ns. NamedAll (seen w x) ns) (λ x g. NamedOnce (seen w x) g.named) (take_names line names v) _
    (taken_names w line names v m (named_stays (seen w u) (seen w v) stayed names q))
    (λ ns x o kept z. last_step w line (positional_of ps ++ xs) (named_of ps ++ ns) x o (named_append (seen w x) (named_of ps) ns (named_of_all (seen w x) ps) z)))))
