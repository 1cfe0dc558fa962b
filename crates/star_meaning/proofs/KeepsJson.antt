-- Actions that respect every invariant of runs, or keep all of them: `json`.
use Rattle.std.proofs.Common.{ℕ, zero, suc, List, ◌∷◌, Option, Some, None, Bool, not}
use Rattle.std.specs.List.{list_any}
use Rattle.json.specs.Json as json
use Rattle.star_store.specs.declared.values.Value.{Value}
use Rattle.star_outline.specs.Names.{same_name}
use Rattle.star_meaning.specs.declared.fault.FaultCode.TheVariants as code
use Rattle.star_meaning.specs.Run.{Action, check}
use Rattle.star_meaning.specs.Program.{Setting}
use Rattle.star_meaning.specs.Values.{new_text}
use Rattle.star_meaning.specs.declared.given.Arguments.{Arguments}
use Rattle.star_meaning.specs.Json.{built, call_decode, call_encode, call_encode_indent, decoded, decoded_items, decoded_members, text_or}
use Rattle.star_meaning.specs.Recorded.{call_recorded, inputs_of, json_member, record_call}
use Rattle.star_meaning.specs.declared.said.RecordedCall.{RecordedCall}
use Rattle.star_meaning.proofs.Invariants.{Invariant, Respects, respects}
use Rattle.star_meaning.proofs.Keeps.{keeps, keeps_give, keeps_then, kept_by, Keeps}
use Rattle.star_meaning.proofs.KeepsArguments.{respects-positional, respects-only_one}
use Rattle.star_meaning.proofs.KeepsValues.{respects-encoded, respects-new_text, respects-want_text, keeps-new_dict}

pub respects-call_encode : (w : Setting) {inv : Invariant w} (levels : ℕ) (line : ℕ) (g : Arguments) → Respects inv (call_encode w levels line g)
respects-call_encode w levels line g = search (respects, respects-encoded, respects-new_text, respects-positional, respects-only_one) depth 14

pub respects-json_member : (w : Setting) {inv : Invariant w} (levels : ℕ) (line : ℕ) (f : List ℕ × Value) → Respects inv (json_member w levels line f)
respects-json_member w levels line f = search (respects, respects-encoded) depth 14

pub respects-inputs_of : (w : Setting) {inv : Invariant w} (levels : ℕ) (line : ℕ) (g : Arguments) → Respects inv (inputs_of w levels line g)
respects-inputs_of w levels line g = search (respects, respects-encoded, respects-json_member) depth 14

pub respects-record_call : {w : Setting} {inv : Invariant w} → (line : ℕ) (c : RecordedCall) → Respects inv (record_call line c)
respects-record_call line c = search respects depth 14

pub respects-call_recorded : (w : Setting) {inv : Invariant w} (levels : ℕ) (line : ℕ) (i : ℕ) (g : Arguments) → Respects inv (call_recorded w levels line i g)
respects-call_recorded w levels line i g = search (respects, respects-inputs_of, respects-record_call) depth 14

pub respects-text_or : (w : Setting) {inv : Invariant w} (line : ℕ) (otherwise : List ℕ) (o : Option Value) → Respects inv (text_or w line otherwise o)
respects-text_or w line otherwise None = search respects depth 14
respects-text_or w line otherwise (Some v) = search (respects, respects-want_text) depth 14

pub respects-call_encode_indent : (w : Setting) {inv : Invariant w} (levels : ℕ) (line : ℕ) (g : Arguments) → Respects inv (call_encode_indent w levels line g)
respects-call_encode_indent w levels line g = search (respects, respects-encoded, respects-new_text, respects-text_or, respects-only_one) depth 14

pub keeps-decoded_items : {q : Bool} → (f : json.Json → Action Value) (js : json.Items) → ((j : json.Json) → Keeps q (f j)) → Keeps q (decoded_items f js)
keeps-decoded_items f json.no_items k0 = search keeps depth 14
keeps-decoded_items {q = q} f (json.item j js) k0 = keeps_then (f j) _ (k0 j) (λ v. keeps_then (decoded_items f js) _ (keeps-decoded_items f js k0) (λ vs. keeps_give (v ∷ vs)))

pub keeps-decoded_members : {q : Bool} → (line : ℕ) (f : json.Json → Action Value) (before : List (List ℕ)) (ms : json.Members) → ((j : json.Json) → Keeps q (f j)) → Keeps q (decoded_members line f before ms)
keeps-decoded_members line f before json.no_members k0 = search keeps depth 14
keeps-decoded_members {q = q} line f before (json.member name j ms) k0 =
    let text : Keeps q (new_text line name) = search keeps depth 14 in
    let test : (b : Bool) → Keeps q (check code.Key line b) = λ b. search keeps depth 14 in
    keeps_then (new_text line name) _ text (λ k. keeps_then (check code.Key line (not (list_any (same_name name) before))) _ (test _) (λ _.
    keeps_then (f j) _ (k0 j) (λ v. keeps_then (decoded_members line f (name ∷ before) ms) _ (keeps-decoded_members line f (name ∷ before) ms k0) (λ es. keeps_give ((k, v) ∷ es)))))

pub keeps-built : {q : Bool} → (line : ℕ) (f : json.Json → Action Value) (j : json.Json) → ((j : json.Json) → Keeps q (f j)) → Keeps q (built line f j)
keeps-built line f json.null k0 = search keeps depth 14
keeps-built line f (json.boolean b) k0 = search keeps depth 14
keeps-built line f (json.number t) k0 = search keeps depth 14
keeps-built line f (json.string t) k0 = search keeps depth 14
keeps-built line f (json.array js) k0 = search (keeps, keeps-decoded_items) depth 14
keeps-built line f (json.object ms) k0 = search (keeps, keeps-decoded_members, keeps-new_dict) depth 14

pub keeps-decoded : {q : Bool} → (line : ℕ) (levels : ℕ) (j : json.Json) → Keeps q (decoded line levels j)
unfolding decoded
keeps-decoded line zero j = search keeps depth 14
keeps-decoded {q = q} line (suc levels) j = let h1 : (z : json.Json) → Keeps q (decoded line levels z) = λ z. keeps-decoded line levels z in search (keeps, keeps-built, h1) depth 14

pub keeps-call_decode : {q : Bool} → (w : Setting) (levels : ℕ) (line : ℕ) (g : Arguments) → Keeps q (call_decode w levels line g)
keeps-call_decode w levels line g = search (keeps, kept_by w, respects-want_text, respects-positional, respects-only_one, keeps-decoded) depth 14
