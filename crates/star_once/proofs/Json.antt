-- Decoded JSON: no name comes twice in an object.
use Rattle.std.proofs.Common.{◌≡◌, ℕ, zero, suc, List, [], ◌∷◌, length, Bool, true, false, not, Option, Some, None, refl}
use Rattle.std.specs.List.{list_any}
use Rattle.json.specs.Json as json
use Rattle.star_store.specs.declared.values.Value.{Value}
use Rattle.star_store.specs.declared.values.Value.TheVariants as value
use Rattle.star_store.specs.declared.values.Cell.{Cell}
use Rattle.star_store.specs.declared.values.Cell.TheVariants as cell
use Rattle.star_outline.specs.Names.{same_name}
use Rattle.star_meaning.specs.declared.fault.FaultCode.TheVariants as code
use Rattle.star_meaning.specs.declared.given.Arguments.{Arguments}
use Rattle.star_meaning.specs.Arguments.{only_one, positional}
use Rattle.star_meaning.specs.Json.{built, call_decode, decoded, decoded_items, decoded_members, document}
use Rattle.star_meaning.specs.Program.{Setting, seen}
use Rattle.star_meaning.specs.Run.{Action, Done, Failed, Outcome, State, check, found, give, pay, ◌>>=◌}
use Rattle.star_meaning.specs.Spelling.{spelled}
use Rattle.star_meaning.specs.Values.{new_dict, new_int, new_list, new_text, want_text}
use Rattle.star_meaning.proofs.Invariants.{respects_found, respects_pay, respects_then}
use Rattle.star_meaning.proofs.KeepsArguments.{respects-only_one, respects-positional}
use Rattle.star_meaning.proofs.KeepsValues.{keeps-new_dict, respects-new_int, respects-new_list, respects-new_text, respects-want_text}
use Rattle.star_meaning.proofs.Stays as stays
use Rattle.star_once.specs.Keys.{ApartFrom, Differ, KeysDiffer}
use Rattle.star_once.proofs.After.{After, Some_answer, after_held, after_then, check_after, given_now, held_then, new_dict_differs, new_text_after, pay_after, plain}
use Rattle.star_once.proofs.BoundArguments.{IsText, neither, text_there, texts_apart}
use Rattle.star_once.proofs.Stores.{stays_seen}
use Rattle.star_once.proofs.Writes as writes

-- entries whose keys are strings, none of which is among some names
abbrev Fresh : (Value → Option Cell) → List (List ℕ) → List (Value × Value) → Type 0
Fresh look before [] = Unit {0}
Fresh look before (e ∷ es) = ((t : List ℕ) × IsText look e.0 t × (list_any (same_name t) before ≡ false)) × Fresh look before es

-- and whose keys differ
abbrev FreshAll : (Value → Option Cell) → List (List ℕ) → List (Value × Value) → Type 0
FreshAll look before es = Fresh look before es × Differ look es

fresh_less : (look : Value → Option Cell) (name : List ℕ) (before : List (List ℕ)) (es : List (Value × Value)) → Fresh look (name ∷ before) es → Fresh look before es
fresh_less look name before [] f = tt
fresh_less look name before (e ∷ es) f =
    let t = (f.0).0 in
    let two = neither (same_name t name) (list_any (same_name t) before) (f.0).2 in
    ((t, (f.0).1, two.1), fresh_less look name before es f.1)

fresh_apart : (look : Value → Option Cell) (k : Value) (name : List ℕ) (before : List (List ℕ)) (es : List (Value × Value)) → IsText look k name → Fresh look (name ∷ before) es → ApartFrom look k es
fresh_apart look k name before [] a f = tt
fresh_apart look k name before (e ∷ es) a f =
    let t = (f.0).0 in
    let two = neither (same_name t name) (list_any (same_name t) before) (f.0).2 in
    (texts_apart look k e.0 name t a (f.0).1 two.0, fresh_apart look k name before es a f.1)

not_true : (b : Bool) → not b ≡ true → b ≡ false
not_true true h = absurd (let no : ⊥ = cc in no)
not_true false h = refl

one_more : (look : Value → Option Cell) (before : List (List ℕ)) (name : List ℕ) (k v : Value) (es : List (Value × Value)) → IsText look k name → not (list_any (same_name name) before) ≡ true → FreshAll look (name ∷ before) es → FreshAll look before ((k, v) ∷ es)
one_more look before name k v es p q g =
    (((name, p, not_true (list_any (same_name name) before) q), fresh_less look name before es g.0), (text_there look k name p, fresh_apart look k name before es p g.0, g.1))

-- each value is decoded so
abbrev Decodes : Setting → (json.Json → Action Value) → Type 0
Decodes w f = (j : json.Json) (s : State) → KeysDiffer w s → After w s Some_answer (f j s)

items_after : (w : Setting) (f : json.Json → Action Value) → Decodes w f → (js : json.Items) (s : State) → KeysDiffer w s → After w s Some_answer (decoded_items f js s)
items_after w f a json.no_items s h = given_now {A = List Value} w s Some_answer [] h tt
items_after w f a (json.item j js) s h =
    after_then w s Some_answer Some_answer (f j s) (λ v. decoded_items f js >>= λ vs. give (v ∷ vs)) (a j s h)
    (λ v t k stay p. after_then w t Some_answer Some_answer (decoded_items f js t) (λ vs. give (v ∷ vs)) (items_after w f a js t k)
    (λ vs u l stays q. given_now w u Some_answer (v ∷ vs) l tt))

members_after : (w : Setting) (line : ℕ) (f : json.Json → Action Value) → Decodes w f → (before : List (List ℕ)) (ms : json.Members) (s : State) → KeysDiffer w s → After w s (λ t es. FreshAll (seen w t) before es) (decoded_members line f before ms s)
members_after w line f a before json.no_members s h = given_now {A = List (Value × Value)} w s (λ t es. FreshAll (seen w t) before es) [] h (tt, tt)
members_after w line f a before (json.member name j ms) s h =
    after_then w s (λ t k. IsText (seen w t) k name) (λ t es. FreshAll (seen w t) before es) (new_text line name s) _
    (new_text_after w line name s h)
    (λ k t i stay p. after_then w t (λ u x. not (list_any (same_name name) before) ≡ true) (λ t es. FreshAll (seen w t) before es) (check code.Key line (not (list_any (same_name name) before)) t) _
    (check_after w code.Key line (not (list_any (same_name name) before)) t i)
    (λ x u l stays q. after_then w u Some_answer (λ t es. FreshAll (seen w t) before es) (f j u) _
    (a j u l)
    (λ v y m stayed r. after_then w y (λ t es. FreshAll (seen w t) (name ∷ before) es) (λ t es. FreshAll (seen w t) before es) (decoded_members line f (name ∷ before) ms y) (λ es. give ((k, v) ∷ es))
    (members_after w line f a (name ∷ before) ms y m)
    (λ es z n stood g. given_now w z (λ t es. FreshAll (seen w t) before es) ((k, v) ∷ es) n
    (one_more (seen w z) before name k v es (stood k (cell.Text name) (stayed k (cell.Text name) (stays k (cell.Text name) p tt) tt) tt) q g)))))

with_stay : {A : Type 0} (w : Setting) (s : State) (o : Outcome A) → writes.Held w o → stays.Preserved s o → After w s Some_answer o
with_stay w s (Done x t) h k = (h, stays_seen w s t k, tt)
with_stay w s (Failed f lines) h k = tt

built_after : (w : Setting) (line : ℕ) (f : json.Json → Action Value) → Decodes w f → (j : json.Json) (s : State) → KeysDiffer w s → After w s Some_answer (built line f j s)
built_after w line f a json.null s h = given_now w s Some_answer value.NoneValue h tt
built_after w line f a (json.boolean b) s h = given_now w s Some_answer (value.Bool b) h tt
built_after w line f a (json.number t) s h = plain w (found code.BadValue line (spelled t) >>= new_int line) (λ inv. respects_then _ _ (respects_found code.BadValue line (spelled t)) (λ z. respects-new_int line z)) s h
built_after w line f a (json.string t) s h = plain w (new_text line t) (λ inv. respects-new_text line t) s h
built_after w line f a (json.array js) s h =
    after_then w s Some_answer Some_answer (decoded_items f js s) (new_list line) (items_after w f a js s h)
    (λ xs t k stay p. plain w (new_list line xs) (λ inv. respects-new_list line xs) t k)
built_after w line f a (json.object ms) s h =
    after_then w s (λ t es. FreshAll (seen w t) [] es) Some_answer (decoded_members line f [] ms s) (new_dict line) (members_after w line f a [] ms s h)
    (λ es t k stay p. with_stay w t (new_dict line es t) (new_dict_differs w line es t k p.1) ((keeps-new_dict {q = false} line es).stays.holds t))

decoded_after : (w : Setting) (line levels : ℕ) → Decodes w (decoded line levels)
unfolding decoded
decoded_after w line zero j s h = tt
decoded_after w line (suc levels) j s h =
    after_then w s Some_answer Some_answer (pay line 1 s) (λ _. built line (decoded line levels) j) (pay_after w line 1 s h)
    (λ x t k stay p. built_after w line (decoded line levels) (decoded_after w line levels) j t k)

found_after : (w : Setting) (line levels : ℕ) (o : Option json.Json) (s : State) → KeysDiffer w s → writes.Held w ((found code.BadValue line o >>= decoded line levels) s)
found_after w line levels None s h = tt
found_after w line levels (Some j) s h = after_held w s Some_answer (decoded line levels j s) (decoded_after w line levels j s h)

pub decode_differs : (w : Setting) (levels line : ℕ) (g : Arguments) (s : State) → KeysDiffer w s → writes.Held w (call_decode w levels line g s)
decode_differs w levels line g s h =
    held_then w s Some_answer ((positional line g >>= only_one line >>= want_text w line) s) (λ t. pay line (length t) >>= λ _. found code.BadValue line (document t) >>= decoded line levels)
    (plain w (positional line g >>= only_one line >>= want_text w line) (λ inv. respects_then _ _ (respects_then _ _ (respects-positional line g) (λ xs. respects-only_one line xs)) (λ v. respects-want_text w line v)) s h)
    (λ t u k stay p. held_then w u Some_answer (pay line (length t) u) (λ _. found code.BadValue line (document t) >>= decoded line levels)
    (pay_after w line (length t) u k)
    (λ x v l stays q. found_after w line levels (document t) v l))
