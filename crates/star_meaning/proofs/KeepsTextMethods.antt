-- Actions that respect every invariant of runs: the methods of strings.
use Rattle.star_store.specs.declared.values.Value.{Value}
use Rattle.star_meaning.specs.Program.{Setting}
use Rattle.star_meaning.specs.declared.given.Arguments.{Arguments}
use Rattle.std.proofs.Common.{ℕ, List, [], ◌∷◌, Option, Some, None, Bool}
use Rattle.star_meaning.specs.TextMethods.{pay_for_bytes, want_choices, call_edge, one_to_three, call_find, call_join, want_cuts, one_and_maybe, call_split, want_set, call_strip, call_case, two_or_three, call_replace, call_format}
use Rattle.star_meaning.proofs.Invariants.{Invariant, Respects, respects}
use Rattle.star_meaning.proofs.KeepsValues.{respects-want_int, respects-want_text, respects-new_text, respects-new_list, respects-count_of, respects-take_items}
use Rattle.star_meaning.proofs.KeepsSubscript.{respects-want_part}
use Rattle.star_meaning.proofs.KeepsArguments.{respects-positional, respects-only_one, respects-none_or_one, respects-no_value}
use Rattle.star_meaning.proofs.KeepsFormat.{respects-formatted}

pub respects-pay_for_bytes : {w : Setting} {inv : Invariant w} → (line : ℕ) (t : List ℕ) → Respects inv (pay_for_bytes line t)
respects-pay_for_bytes line t = search respects depth 14

pub respects-want_choices : (w : Setting) {inv : Invariant w} (line : ℕ) (v : Value) → Respects inv (want_choices w line v)
respects-want_choices w line v = search respects depth 14

pub respects-call_edge : (w : Setting) {inv : Invariant w} (line : ℕ) (test : (List ℕ → List ℕ → Bool)) (t : List ℕ) (g : Arguments) → Respects inv (call_edge w line test t g)
respects-call_edge w line test t g = search (respects, respects-positional, respects-only_one, respects-pay_for_bytes, respects-want_choices) depth 14

pub respects-one_to_three : {w : Setting} {inv : Invariant w} → (line : ℕ) (a1 : List Value) → Respects inv (one_to_three line a1)
respects-one_to_three line (x ∷ []) = search respects depth 14
respects-one_to_three line (x ∷ a ∷ []) = search respects depth 14
respects-one_to_three line (x ∷ a ∷ b ∷ []) = search respects depth 14
respects-one_to_three line _ = search respects depth 14

pub respects-call_find : (w : Setting) {inv : Invariant w} (line : ℕ) (t : List ℕ) (g : Arguments) → Respects inv (call_find w line t g)
respects-call_find w line t g = search (respects, respects-want_text, respects-want_part, respects-positional, respects-pay_for_bytes, respects-one_to_three) depth 14

pub respects-call_join : (w : Setting) {inv : Invariant w} (line : ℕ) (t : List ℕ) (g : Arguments) → Respects inv (call_join w line t g)
respects-call_join w line t g = search (respects, respects-new_text, respects-count_of, respects-take_items, respects-positional, respects-only_one, respects-pay_for_bytes) depth 14

pub respects-want_cuts : (w : Setting) {inv : Invariant w} (line : ℕ) (a2 : Option Value) → Respects inv (want_cuts w line a2)
respects-want_cuts w line None = search respects depth 14
respects-want_cuts w line (Some v) = search (respects, respects-want_int) depth 14

pub respects-one_and_maybe : {w : Setting} {inv : Invariant w} → (line : ℕ) (a1 : List Value) → Respects inv (one_and_maybe line a1)
respects-one_and_maybe line (x ∷ []) = search respects depth 14
respects-one_and_maybe line (x ∷ n ∷ []) = search respects depth 14
respects-one_and_maybe line _ = search respects depth 14

pub respects-call_split : (w : Setting) {inv : Invariant w} (line : ℕ) (t : List ℕ) (g : Arguments) → Respects inv (call_split w line t g)
respects-call_split w line t g = search (respects, respects-want_text, respects-new_text, respects-new_list, respects-positional, respects-pay_for_bytes, respects-want_cuts, respects-one_and_maybe) depth 14

pub respects-want_set : (w : Setting) {inv : Invariant w} (line : ℕ) (a2 : Option Value) → Respects inv (want_set w line a2)
respects-want_set w line None = search respects depth 14
respects-want_set w line (Some v) = search (respects, respects-want_text) depth 14

pub respects-call_strip : (w : Setting) {inv : Invariant w} (line : ℕ) (front : Bool) (back : Bool) (t : List ℕ) (g : Arguments) → Respects inv (call_strip w line front back t g)
respects-call_strip w line front back t g = search (respects, respects-new_text, respects-positional, respects-none_or_one, respects-pay_for_bytes, respects-want_set) depth 14

pub respects-call_case : {w : Setting} {inv : Invariant w} → (line : ℕ) (f : (ℕ → ℕ)) (t : List ℕ) (g : Arguments) → Respects inv (call_case line f t g)
respects-call_case line f t g = search (respects, respects-new_text, respects-positional, respects-no_value, respects-pay_for_bytes) depth 14

pub respects-two_or_three : {w : Setting} {inv : Invariant w} → (line : ℕ) (a1 : List Value) → Respects inv (two_or_three line a1)
respects-two_or_three line (a ∷ b ∷ []) = search respects depth 14
respects-two_or_three line (a ∷ b ∷ n ∷ []) = search respects depth 14
respects-two_or_three line _ = search respects depth 14

pub respects-call_replace : (w : Setting) {inv : Invariant w} (line : ℕ) (t : List ℕ) (g : Arguments) → Respects inv (call_replace w line t g)
respects-call_replace w line t g = search (respects, respects-want_text, respects-new_text, respects-positional, respects-pay_for_bytes, respects-want_cuts, respects-two_or_three) depth 14

pub respects-call_format : (w : Setting) {inv : Invariant w} (levels : ℕ) (line : ℕ) (t : List ℕ) (g : Arguments) → Respects inv (call_format w levels line t g)
respects-call_format w levels line t g = search (respects, respects-new_text, respects-formatted, respects-pay_for_bytes) depth 14
