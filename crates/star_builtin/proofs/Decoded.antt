-- A value of JSON is built once its visit is paid; an object, one member more at a time.
use Rattle.std.proofs.Common.{◌≡◌, ◌<◌, ◌+◌, ℕ, suc, List, [], ◌∷◌, ◌++◌, drop, get_or, length, not, refl, ap, sym, ◌∙◌, append_assoc}
use Rattle.std.proofs.lemmas.List.{drop_more}
use Rattle.std.specs.List.{list_any}
use Rattle.json.specs.Json.{Json, Members, member}
use Rattle.star_store.specs.declared.values.Value.{Value}
use Rattle.star_outline.specs.Names.{same_name}
use Rattle.star_meaning.specs.declared.fault.FaultCode.TheVariants as code
use Rattle.star_meaning.specs.Json.{built, decoded, decoded_members}
use Rattle.star_meaning.specs.Run.{State, Outcome, Done, Failed, Action, and_then, check, give, pay}
use Rattle.star_meaning.specs.Values.{new_text}
use Rattle.star_machine.specs.Refines.{with_front}
use Rattle.star_builtin.specs.Parts.{new_name}

pub decoded_step : (line n : ℕ) (j : Json) (s t : State) → pay line 1 s ≡ Done tt t → decoded line (suc n) j s ≡ built line (decoded line n) j t
unfolding decoded
decoded_step line n j s t e = ap (λ o. and_then o (λ _. built line (decoded line n) j)) e

-- what follows a name that was new
checked : {K A : Type 0} (o : Outcome (Unit {0})) (g : K → Action A) (z k : K) (t : State) → and_then o (λ _. give z) ≡ Done k t → and_then o (λ _. g z) ≡ g k t
checked (Done x u) g z k t e = cc
checked (Failed f lines) g z k t e = cc

named : {K A : Type 0} (o : Outcome K) (c : Action (Unit {0})) (g : K → Action A) (k : K) (t : State) → and_then o (λ z. λ u. and_then (c u) (λ _. give z)) ≡ Done k t
    → and_then o (λ z. λ u. and_then (c u) (λ _. g z)) ≡ g k t
named (Done z u) c g k t e = checked (c u) g z k t e
named (Failed f lines) c g k t e = cc

front_more : {B : Type 0} (o : Outcome (List B)) (front : List B) (y : B) → with_front (front ++ y ∷ []) o ≡ with_front front (and_then o (λ ys. give (y ∷ ys)))
front_more (Done ys u) front y = ap (λ xs. Done xs u) (append_assoc front (y ∷ []) ys)
front_more (Failed f lines) front y = refl

-- a member whose name was new, and whose value was built, leaves those after it
pub member_more : (line : ℕ) (f : Json → Action Value) (before after : List (List ℕ)) (ms rest : Members) (name : List ℕ) (j : Json) (s t u : State) (front entries : List (Value × Value)) (k v : Value) (whole : Outcome (List (Value × Value)))
    → ms ≡ member name j rest → new_name line before name s ≡ Done k t → f j t ≡ Done v u → after ≡ name ∷ before → entries ≡ front ++ (k, v) ∷ []
    → with_front front (decoded_members line f before ms s) ≡ whole → with_front entries (decoded_members line f after rest u) ≡ whole
member_more line f before after ms rest name j s t u front entries k v whole next new done more pushed held =
    let after_name : decoded_members line f before (member name j rest) s ≡ and_then (f j t) (λ x. λ w. and_then (decoded_members line f (name ∷ before) rest w) (λ es. give ((k, x) ∷ es))) =
    named (new_text line name s) (check code.Key line (not (list_any (same_name name) before))) (λ z. λ w. and_then (f j w) (λ x. λ y. and_then (decoded_members line f (name ∷ before) rest y) (λ es. give ((z, x) ∷ es)))) k t new in
    let step : decoded_members line f before (member name j rest) s ≡ and_then (decoded_members line f (name ∷ before) rest u) (λ es. give ((k, v) ∷ es)) =
    after_name ∙ ap (λ o. and_then o (λ x. λ w. and_then (decoded_members line f (name ∷ before) rest w) (λ es. give ((k, x) ∷ es)))) done in
    ap (λ zs. with_front zs (decoded_members line f after rest u)) pushed
    ∙ (ap (λ b. with_front (front ++ (k, v) ∷ []) (decoded_members line f b rest u)) more
    ∙ (front_more (decoded_members line f (name ∷ before) rest u) front (k, v)
    ∙ (ap (with_front front) (sym step) ∙ (ap (λ l. with_front front (decoded_members line f before l s)) (sym next) ∙ held))))

-- the items from one on are that one and those after it
pub next_item : {A : Type 0} (xs : List A) (i : ℕ) (x : A) → i < length xs → x ≡ get_or xs i x → drop i xs ≡ x ∷ drop (i + 1) xs
next_item xs i x h e = drop_more xs i x h ∙ ap (λ y. y ∷ drop (i + 1) xs) (sym e)
