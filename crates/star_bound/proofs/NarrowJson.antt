-- Actions that keep frames narrow: Json.
use Rattle.std.proofs.Common.{ℕ, zero, suc, List, ◌∷◌, Option, Some, None, Bool, not}
use Rattle.std.specs.List.{list_any}
use Rattle.json.specs.Json as json
use Rattle.star_store.specs.declared.values.Value.{Value}
use Rattle.star_outline.specs.Names.{same_name}
use Rattle.star_meaning.specs.declared.fault.FaultCode.TheVariants as code
use Rattle.star_meaning.specs.Run.{Action, check}
use Rattle.star_meaning.specs.Program.{Setting}
use Rattle.star_meaning.specs.Values.{new_text}
use Rattle.star_meaning.specs.declared.given.Arguments.{Arguments}
use Rattle.star_meaning.specs.Recorded.{call_recorded, inputs_of, json_member}
use Rattle.star_meaning.specs.Json.{built, call_decode, call_encode, call_encode_indent, decoded, decoded_items, decoded_members, text_or}
use Rattle.star_bound.proofs.Narrow.{narrow, narrow_give, narrow_then, Narrows}
use Rattle.star_bound.proofs.NarrowArguments.{narrow-positional, narrow-only_one}
use Rattle.star_bound.proofs.NarrowValues.{narrow-encoded, narrow-new_text, narrow-new_int, narrow-new_list, narrow-new_dict, narrow-want_text}

pub narrow-call_encode : {most : ℕ} → (w : Setting) (levels : ℕ) (line : ℕ) (g : Arguments) → Narrows most (call_encode w levels line g)
narrow-call_encode w levels line g = search (narrow, narrow-encoded, narrow-new_text, narrow-positional, narrow-only_one) depth 14

pub narrow-json_member : {most : ℕ} → (w : Setting) (levels : ℕ) (line : ℕ) (f : List ℕ × Value) → Narrows most (json_member w levels line f)
narrow-json_member w levels line f = search (narrow, narrow-encoded) depth 14

pub narrow-inputs_of : {most : ℕ} → (w : Setting) (levels : ℕ) (line : ℕ) (g : Arguments) → Narrows most (inputs_of w levels line g)
narrow-inputs_of w levels line g = search (narrow, narrow-encoded, narrow-json_member) depth 14

pub narrow-call_recorded : {most : ℕ} → (w : Setting) (levels : ℕ) (line : ℕ) (i : ℕ) (g : Arguments) → Narrows most (call_recorded w levels line i g)
narrow-call_recorded w levels line i g = search (narrow, narrow-inputs_of) depth 14

pub narrow-text_or : {most : ℕ} → (w : Setting) (line : ℕ) (otherwise : List ℕ) (o : Option Value) → Narrows most (text_or w line otherwise o)
narrow-text_or w line otherwise None = search narrow depth 14
narrow-text_or w line otherwise (Some v) = search (narrow, narrow-want_text) depth 14

pub narrow-call_encode_indent : {most : ℕ} → (w : Setting) (levels : ℕ) (line : ℕ) (g : Arguments) → Narrows most (call_encode_indent w levels line g)
narrow-call_encode_indent w levels line g = search (narrow, narrow-encoded, narrow-new_text, narrow-text_or, narrow-only_one) depth 14

pub narrow-decoded_items : {most : ℕ} → (f : json.Json → Action Value) (js : json.Items) → ((j : json.Json) → Narrows most (f j)) → Narrows most (decoded_items f js)
narrow-decoded_items f json.no_items k0 = search narrow depth 14
narrow-decoded_items {most = most} f (json.item j js) k0 = narrow_then (f j) _ (k0 j) (λ v. narrow_then (decoded_items f js) _ (narrow-decoded_items f js k0) (λ vs. narrow_give (v ∷ vs)))

pub narrow-decoded_members : {most : ℕ} → (line : ℕ) (f : json.Json → Action Value) (before : List (List ℕ)) (ms : json.Members) → ((j : json.Json) → Narrows most (f j)) → Narrows most (decoded_members line f before ms)
narrow-decoded_members line f before json.no_members k0 = search narrow depth 14
narrow-decoded_members {most = most} line f before (json.member name j ms) k0 =
    let test : (b : Bool) → Narrows most (check code.Key line b) = λ b. search narrow depth 14 in
    narrow_then (new_text line name) _ (narrow-new_text line name) (λ k. narrow_then (check code.Key line (not (list_any (same_name name) before))) _ (test _) (λ _.
    narrow_then (f j) _ (k0 j) (λ v. narrow_then (decoded_members line f (name ∷ before) ms) _ (narrow-decoded_members line f (name ∷ before) ms k0) (λ es. narrow_give ((k, v) ∷ es)))))

pub narrow-built : {most : ℕ} → (line : ℕ) (f : json.Json → Action Value) (j : json.Json) → ((j : json.Json) → Narrows most (f j)) → Narrows most (built line f j)
narrow-built line f json.null k0 = search narrow depth 14
narrow-built line f (json.boolean b) k0 = search narrow depth 14
narrow-built line f (json.number t) k0 = search (narrow, narrow-new_int) depth 14
narrow-built line f (json.string t) k0 = search (narrow, narrow-new_text) depth 14
narrow-built line f (json.array js) k0 = search (narrow, narrow-decoded_items, narrow-new_list) depth 14
narrow-built line f (json.object ms) k0 = search (narrow, narrow-decoded_members, narrow-new_dict) depth 14

pub narrow-decoded : {most : ℕ} → (line : ℕ) (levels : ℕ) (j : json.Json) → Narrows most (decoded line levels j)
unfolding decoded
narrow-decoded line zero j = search narrow depth 14
narrow-decoded {most = most} line (suc levels) j = let h1 : (z : json.Json) → Narrows most (decoded line levels z) = λ z. narrow-decoded line levels z in search (narrow, narrow-built, h1) depth 14

pub narrow-call_decode : {most : ℕ} → (w : Setting) (levels : ℕ) (line : ℕ) (g : Arguments) → Narrows most (call_decode w levels line g)
narrow-call_decode w levels line g = search (narrow, narrow-want_text, narrow-positional, narrow-only_one, narrow-decoded) depth 14
