-- Actions that keep frames narrow: Attributes, structs and characters.
use Rattle.star_store.specs.declared.values.Value.{Value}
use Rattle.std.proofs.Common.{ℕ, List, Option, Some, None}
use Rattle.star_meaning.specs.Program.{Setting}
use Rattle.star_meaning.specs.declared.given.Arguments.{Arguments}
use Rattle.star_meaning.specs.Attributes.{Attribute, Field, OfType, attribute, attribute_or, attribute_value, call_dir, call_getattr, call_hasattr}
use Rattle.star_meaning.specs.Characters.{call_chr, call_hash, call_ord}
use Rattle.star_meaning.specs.Structs.{call_struct, new_struct}
use Rattle.star_bound.proofs.Narrow.{narrow, Narrows}
use Rattle.star_bound.proofs.NarrowValues.{narrow-with_content, narrow-want_int, narrow-want_text, narrow-new_text, narrow-new_list}
use Rattle.star_bound.proofs.NarrowArguments.{narrow-positional, narrow-only_one, narrow-two, narrow-two_or_three, narrow-no_value}

pub narrow-attribute_value : {most : ℕ} → (line : ℕ) (x : Value) (a : Attribute) → Narrows most (attribute_value line x a)
narrow-attribute_value line x (Field v) = search narrow depth 14
narrow-attribute_value line x (OfType m) = search narrow depth 14

pub narrow-attribute : {most : ℕ} → (w : Setting) (line : ℕ) (x : Value) (name : List ℕ) → Narrows most (attribute w line x name)
unfolding attribute
narrow-attribute w line x name = search (narrow, narrow-with_content, narrow-attribute_value) depth 14

pub narrow-call_hasattr : {most : ℕ} → (w : Setting) (line : ℕ) (g : Arguments) → Narrows most (call_hasattr w line g)
narrow-call_hasattr w line g = search (narrow, narrow-with_content, narrow-want_text, narrow-positional, narrow-two) depth 14

pub narrow-attribute_or : {most : ℕ} → (line : ℕ) (x : Value) (d : Option Value) (o : Option Attribute) → Narrows most (attribute_or line x d o)
narrow-attribute_or line x d (Some a) = search (narrow, narrow-attribute_value) depth 14
narrow-attribute_or line x d None = search narrow depth 14

pub narrow-call_getattr : {most : ℕ} → (w : Setting) (line : ℕ) (g : Arguments) → Narrows most (call_getattr w line g)
narrow-call_getattr w line g = search (narrow, narrow-with_content, narrow-want_text, narrow-positional, narrow-two_or_three, narrow-attribute_or) depth 14

pub narrow-call_dir : {most : ℕ} → (w : Setting) (line : ℕ) (g : Arguments) → Narrows most (call_dir w line g)
narrow-call_dir w line g = search (narrow, narrow-with_content, narrow-new_text, narrow-new_list, narrow-positional, narrow-only_one) depth 14

pub narrow-call_ord : {most : ℕ} → (w : Setting) (line : ℕ) (g : Arguments) → Narrows most (call_ord w line g)
narrow-call_ord w line g = search (narrow, narrow-want_text, narrow-positional, narrow-only_one) depth 14

pub narrow-call_chr : {most : ℕ} → (w : Setting) (line : ℕ) (g : Arguments) → Narrows most (call_chr w line g)
narrow-call_chr w line g = search (narrow, narrow-want_int, narrow-new_text, narrow-positional, narrow-only_one) depth 14

pub narrow-call_hash : {most : ℕ} → (w : Setting) (line : ℕ) (g : Arguments) → Narrows most (call_hash w line g)
narrow-call_hash w line g = search (narrow, narrow-want_text, narrow-positional, narrow-only_one) depth 14

pub narrow-new_struct : {most : ℕ} → (line : ℕ) (fs : List (List ℕ × Value)) → Narrows most (new_struct line fs)
narrow-new_struct line fs = search narrow depth 14

pub narrow-call_struct : {most : ℕ} → (line : ℕ) (g : Arguments) → Narrows most (call_struct line g)
narrow-call_struct line g = search (narrow, narrow-no_value, narrow-new_struct) depth 14
