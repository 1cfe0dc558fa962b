-- Actions that respect every invariant of runs: attributes, structs and characters.
use Rattle.std.proofs.Common.{ℕ, List, Option, Some, None}
use Rattle.star_store.specs.declared.values.Value.{Value}
use Rattle.star_meaning.specs.Program.{Setting}
use Rattle.star_meaning.specs.declared.given.Arguments.{Arguments}
use Rattle.star_meaning.specs.Attributes.{Attribute, Field, OfType, attribute, attribute_or, attribute_value, call_dir, call_getattr, call_hasattr}
use Rattle.star_meaning.specs.Characters.{call_chr, call_hash, call_ord}
use Rattle.star_meaning.specs.Structs.{call_struct, new_struct}
use Rattle.star_meaning.proofs.Invariants.{Invariant, Respects, respects}
use Rattle.star_meaning.proofs.KeepsArguments.{respects-positional, respects-only_one, respects-two, respects-two_or_three, respects-no_value}
use Rattle.star_meaning.proofs.KeepsValues.{respects-with_content, respects-want_int, respects-want_text, respects-new_text, respects-new_list}

pub respects-attribute_value : {w : Setting} {inv : Invariant w} (line : ℕ) (x : Value) (a : Attribute) → Respects inv (attribute_value line x a)
respects-attribute_value line x (Field v) = search respects depth 14
respects-attribute_value line x (OfType m) = search respects depth 14

pub respects-attribute : (w : Setting) {inv : Invariant w} (line : ℕ) (x : Value) (name : List ℕ) → Respects inv (attribute w line x name)
unfolding attribute
respects-attribute w line x name = search (respects, respects-with_content, respects-attribute_value) depth 14

pub respects-call_hasattr : (w : Setting) {inv : Invariant w} (line : ℕ) (g : Arguments) → Respects inv (call_hasattr w line g)
respects-call_hasattr w line g = search (respects, respects-with_content, respects-want_text, respects-positional, respects-two) depth 14

pub respects-attribute_or : {w : Setting} {inv : Invariant w} (line : ℕ) (x : Value) (d : Option Value) (o : Option Attribute) → Respects inv (attribute_or line x d o)
respects-attribute_or line x d (Some a) = search (respects, respects-attribute_value) depth 14
respects-attribute_or line x d None = search respects depth 14

pub respects-call_getattr : (w : Setting) {inv : Invariant w} (line : ℕ) (g : Arguments) → Respects inv (call_getattr w line g)
respects-call_getattr w line g = search (respects, respects-with_content, respects-want_text, respects-positional, respects-two_or_three, respects-attribute_or) depth 14

pub respects-call_dir : (w : Setting) {inv : Invariant w} (line : ℕ) (g : Arguments) → Respects inv (call_dir w line g)
respects-call_dir w line g = search (respects, respects-with_content, respects-new_text, respects-new_list, respects-positional, respects-only_one) depth 14

pub respects-call_ord : (w : Setting) {inv : Invariant w} (line : ℕ) (g : Arguments) → Respects inv (call_ord w line g)
respects-call_ord w line g = search (respects, respects-want_text, respects-positional, respects-only_one) depth 14

pub respects-call_chr : (w : Setting) {inv : Invariant w} (line : ℕ) (g : Arguments) → Respects inv (call_chr w line g)
respects-call_chr w line g = search (respects, respects-want_int, respects-new_text, respects-positional, respects-only_one) depth 14

pub respects-call_hash : (w : Setting) {inv : Invariant w} (line : ℕ) (g : Arguments) → Respects inv (call_hash w line g)
respects-call_hash w line g = search (respects, respects-want_text, respects-positional, respects-only_one) depth 14

pub respects-new_struct : {w : Setting} {inv : Invariant w} (line : ℕ) (fs : List (List ℕ × Value)) → Respects inv (new_struct line fs)
respects-new_struct line fs = search respects depth 14

pub respects-call_struct : {w : Setting} {inv : Invariant w} (line : ℕ) (g : Arguments) → Respects inv (call_struct line g)
respects-call_struct line g = search (respects, respects-no_value, respects-new_struct) depth 14
