-- Pairs of actions that do the same over two shelves: `json`.
use Rattle.std.proofs.Common.{ℕ, zero, suc, List, [], ◌∷◌, length, Option, Some, None, Bool, not, codes}
use Rattle.std.specs.List.{list_all, list_any}
use Rattle.json.specs.Json as json
use Rattle.star_store.specs.declared.values.Value.{Value}
use Rattle.star_store.specs.declared.values.Value.TheVariants as value
use Rattle.star_store.specs.declared.layout.Layout.TheVariants as layout
use Rattle.star_outline.specs.Names.{same_name}
use Rattle.star_meaning.specs.declared.fault.FaultCode.TheVariants as code
use Rattle.star_meaning.specs.declared.given.Arguments.{Arguments}
use Rattle.star_meaning.specs.Run.{Action}
use Rattle.star_meaning.specs.Program.{Setting}
use Rattle.star_meaning.specs.Binding.{value_named}
use Rattle.star_meaning.specs.Json.{built, call_decode, call_encode, call_encode_indent, decoded, decoded_items, decoded_members, document, is_of_lines, text_or}
use Rattle.star_meaning.specs.Spelling.{spelled}
use Rattle.star_unseen.specs.Veil.{AreVisible, IsVisible, PairsAreVisible, VisibleIfThere}
use Rattle.star_unseen.specs.Shelves.{Veil, with_other}
use Rattle.star_unseen.proofs.Visible.{ArgumentsAreVisible}
use Rattle.star_unseen.proofs.Alike.{Alike, Any, alike_check, alike_fail, alike_found, alike_give, alike_pay, alike_then}
use Rattle.star_unseen.proofs.Arguments.{alike-only_one, alike-positional}
use Rattle.star_unseen.proofs.Binding.{visible-value_named}
use Rattle.star_unseen.proofs.Values.{any_found, alike-encoded, alike-new_dict, alike-new_int, alike-new_list, alike-new_text, alike-want_text}

pub alike-call_encode : {w : Setting} (k : Veil w) (levels line : ℕ) (g : Arguments) → ArgumentsAreVisible k.hides g → Alike k (IsVisible k.hides) (call_encode w levels line g) (call_encode (with_other k.other w) levels line g)
alike-call_encode k levels line g h =
    alike_then (alike_then (alike_then (alike-positional k line g h) (λ xs l. alike-only_one k line xs l)) (λ v l. alike-encoded k levels line layout.Compact v l)) (λ t _. alike-new_text k line t)

alike-text_or : {w : Setting} (k : Veil w) (line : ℕ) (otherwise : List ℕ) (o : Option Value) → VisibleIfThere k.hides o → Alike k Any (text_or w line otherwise o) (text_or (with_other k.other w) line otherwise o)
alike-text_or k line otherwise None h = alike_give {A = List ℕ} Any otherwise tt
alike-text_or k line otherwise (Some v) h = alike-want_text k line v h

pub alike-call_encode_indent : {w : Setting} (k : Veil w) (levels line : ℕ) (g : Arguments) → ArgumentsAreVisible k.hides g → Alike k (IsVisible k.hides) (call_encode_indent w levels line g) (call_encode_indent (with_other k.other w) levels line g)
alike-call_encode_indent k levels line g h =
    alike_then (alike_check code.Args line (list_all is_of_lines g.named)) (λ _ _.
    alike_then (alike-only_one k line g.positional h.0) (λ x r.
    alike_then (alike-text_or k line [] (value_named (codes "prefix") g.named) (visible-value_named k (codes "prefix") g.named h.1)) (λ prefix _.
    alike_then (alike-text_or k line (9 ∷ []) (value_named (codes "indent") g.named) (visible-value_named k (codes "indent") g.named h.1)) (λ indent _.
    alike_then (alike-encoded k levels line (layout.Lines prefix indent) x r) (λ t _. alike-new_text k line t)))))

-- ---- decoding

alike-decoded_items : {w : Setting} (k : Veil w) (f : json.Json → Action Value) → ((j : json.Json) → Alike k (IsVisible k.hides) (f j) (f j)) → (js : json.Items) → Alike k (AreVisible k.hides) (decoded_items f js) (decoded_items f js)
alike-decoded_items k f h json.no_items = alike_give {A = List Value} (AreVisible k.hides) [] tt
alike-decoded_items k f h (json.item j js) =
    alike_then (h j) (λ v p. alike_then (alike-decoded_items k f h js) (λ vs ps. alike_give (AreVisible k.hides) (v ∷ vs) (p, ps)))

alike-decoded_members : {w : Setting} (k : Veil w) (line : ℕ) (f : json.Json → Action Value) → ((j : json.Json) → Alike k (IsVisible k.hides) (f j) (f j)) → (before : List (List ℕ)) (ms : json.Members) → Alike k (PairsAreVisible k.hides) (decoded_members line f before ms) (decoded_members line f before ms)
alike-decoded_members k line f h before json.no_members = alike_give {A = List (Value × Value)} (PairsAreVisible k.hides) [] tt
alike-decoded_members k line f h before (json.member name j ms) =
    alike_then (alike-new_text k line name) (λ x p. alike_then (alike_check code.Key line (not (list_any (same_name name) before))) (λ _ _.
    alike_then (h j) (λ v q. alike_then (alike-decoded_members k line f h (name ∷ before) ms) (λ es r. alike_give (PairsAreVisible k.hides) ((x, v) ∷ es) ((p, q), r)))))

alike-built : {w : Setting} (k : Veil w) (line : ℕ) (f : json.Json → Action Value) → ((j : json.Json) → Alike k (IsVisible k.hides) (f j) (f j)) → (j : json.Json) → Alike k (IsVisible k.hides) (built line f j) (built line f j)
alike-built k line f h json.null = alike_give (IsVisible k.hides) value.NoneValue tt
alike-built k line f h (json.boolean b) = alike_give (IsVisible k.hides) (value.Bool b) tt
alike-built k line f h (json.number t) = alike_then (alike_found Any code.BadValue line (spelled t) (any_found (spelled t))) (λ z _. alike-new_int k line z)
alike-built k line f h (json.string t) = alike-new_text k line t
alike-built k line f h (json.array js) = alike_then (alike-decoded_items k f h js) (λ xs l. alike-new_list k line xs l)
alike-built k line f h (json.object ms) = alike_then (alike-decoded_members k line f h [] ms) (λ es l. alike-new_dict k line es l)

alike-decoded : {w : Setting} (k : Veil w) (line levels : ℕ) (j : json.Json) → Alike k (IsVisible k.hides) (decoded line levels j) (decoded line levels j)
unfolding decoded
alike-decoded k line zero j = alike_fail Value (IsVisible k.hides) code.Deep line
alike-decoded k line (suc levels) j = alike_then (alike_pay line 1) (λ _ _. alike-built k line (decoded line levels) (alike-decoded k line levels) j)

pub alike-call_decode : {w : Setting} (k : Veil w) (levels line : ℕ) (g : Arguments) → ArgumentsAreVisible k.hides g → Alike k (IsVisible k.hides) (call_decode w levels line g) (call_decode (with_other k.other w) levels line g)
alike-call_decode k levels line g h =
    alike_then (alike_then (alike_then (alike-positional k line g h) (λ xs l. alike-only_one k line xs l)) (λ v l. alike-want_text k line v l)) (λ t _.
    alike_then (alike_pay line (length t)) (λ _ _.
    alike_then (alike_found {A = json.Json} Any code.BadValue line (document t) (any_found (document t))) (λ j _. alike-decoded k line levels j)))
