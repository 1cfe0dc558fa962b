-- Actions that make no more than they pay: Json.
use Rattle.std.proofs.Common.{ℕ, zero, suc, List, ◌∷◌, Option, Some, None, Bool, not}
use Rattle.std.specs.List.{list_any}
use Rattle.json.specs.Json as json
use Rattle.star_store.specs.declared.values.Value.{Value}
use Rattle.star_outline.specs.Names.{same_name}
use Rattle.star_meaning.specs.declared.fault.FaultCode.TheVariants as code
use Rattle.star_meaning.specs.Run.{Action, check}
use Rattle.star_meaning.specs.Program.{Setting}
use Rattle.star_meaning.specs.Values.{new_text}
use Rattle.star_meaning.specs.declared.given.Arguments.{Arguments}
use Rattle.star_meaning.specs.Recorded.{call_recorded, inputs_of, json_member}
use Rattle.star_meaning.specs.Json.{built, call_decode, call_encode, call_encode_indent, decoded, decoded_items, decoded_members, text_or}
use Rattle.star_bound.proofs.Within.{Bounded, bounded_give, bounded_record, bounded_then}
use Rattle.star_bound.proofs.Bounds.{bounded}
use Rattle.star_bound.proofs.BoundArguments.{bounded-positional, bounded-only_one}
use Rattle.star_bound.proofs.BoundValues.{bounded-encoded, bounded-new_text, bounded-new_int, bounded-new_list, bounded-new_dict, bounded-want_text}

pub bounded-call_encode : (w : Setting) (levels : ℕ) (line : ℕ) (g : Arguments) → Bounded (call_encode w levels line g)
bounded-call_encode w levels line g = search (bounded, bounded-encoded, bounded-new_text, bounded-positional, bounded-only_one) depth 14

pub bounded-json_member : (w : Setting) (levels : ℕ) (line : ℕ) (f : List ℕ × Value) → Bounded (json_member w levels line f)
bounded-json_member w levels line f = search (bounded, bounded-encoded) depth 14

pub bounded-inputs_of : (w : Setting) (levels : ℕ) (line : ℕ) (g : Arguments) → Bounded (inputs_of w levels line g)
bounded-inputs_of w levels line g = search (bounded, bounded-encoded, bounded-json_member) depth 14

pub bounded-call_recorded : (w : Setting) (levels : ℕ) (line : ℕ) (i : ℕ) (g : Arguments) → Bounded (call_recorded w levels line i g)
bounded-call_recorded w levels line i g = search (bounded, bounded-inputs_of, bounded_record) depth 14

pub bounded-text_or : (w : Setting) (line : ℕ) (otherwise : List ℕ) (o : Option Value) → Bounded (text_or w line otherwise o)
bounded-text_or w line otherwise None = search bounded depth 14
bounded-text_or w line otherwise (Some v) = search (bounded, bounded-want_text) depth 14

pub bounded-call_encode_indent : (w : Setting) (levels : ℕ) (line : ℕ) (g : Arguments) → Bounded (call_encode_indent w levels line g)
bounded-call_encode_indent w levels line g = search (bounded, bounded-encoded, bounded-new_text, bounded-text_or, bounded-only_one) depth 14

pub bounded-decoded_items : (f : json.Json → Action Value) (js : json.Items) → ((j : json.Json) → Bounded (f j)) → Bounded (decoded_items f js)
bounded-decoded_items f json.no_items k0 = search bounded depth 14
bounded-decoded_items f (json.item j js) k0 = bounded_then (f j) _ (k0 j) (λ v. bounded_then (decoded_items f js) _ (bounded-decoded_items f js k0) (λ vs. bounded_give (v ∷ vs)))

pub bounded-decoded_members : (line : ℕ) (f : json.Json → Action Value) (before : List (List ℕ)) (ms : json.Members) → ((j : json.Json) → Bounded (f j)) → Bounded (decoded_members line f before ms)
bounded-decoded_members line f before json.no_members k0 = search bounded depth 14
bounded-decoded_members line f before (json.member name j ms) k0 =
    let test : (b : Bool) → Bounded (check code.Key line b) = λ b. search bounded depth 14 in
    bounded_then (new_text line name) _ (bounded-new_text line name) (λ k. bounded_then (check code.Key line (not (list_any (same_name name) before))) _ (test _) (λ _.
    bounded_then (f j) _ (k0 j) (λ v. bounded_then (decoded_members line f (name ∷ before) ms) _ (bounded-decoded_members line f (name ∷ before) ms k0) (λ es. bounded_give ((k, v) ∷ es)))))

pub bounded-built : (line : ℕ) (f : json.Json → Action Value) (j : json.Json) → ((j : json.Json) → Bounded (f j)) → Bounded (built line f j)
bounded-built line f json.null k0 = search bounded depth 14
bounded-built line f (json.boolean b) k0 = search bounded depth 14
bounded-built line f (json.number t) k0 = search (bounded, bounded-new_int) depth 14
bounded-built line f (json.string t) k0 = search (bounded, bounded-new_text) depth 14
bounded-built line f (json.array js) k0 = search (bounded, bounded-decoded_items, bounded-new_list) depth 14
bounded-built line f (json.object ms) k0 = search (bounded, bounded-decoded_members, bounded-new_dict) depth 14

pub bounded-decoded : (line : ℕ) (levels : ℕ) (j : json.Json) → Bounded (decoded line levels j)
unfolding decoded
bounded-decoded line zero j = search bounded depth 14
bounded-decoded line (suc levels) j = let h1 : (z : json.Json) → Bounded (decoded line levels z) = λ z. bounded-decoded line levels z in search (bounded, bounded-built, h1) depth 14

pub bounded-call_decode : (w : Setting) (levels : ℕ) (line : ℕ) (g : Arguments) → Bounded (call_decode w levels line g)
bounded-call_decode w levels line g = search (bounded, bounded-want_text, bounded-positional, bounded-only_one, bounded-decoded) depth 14
