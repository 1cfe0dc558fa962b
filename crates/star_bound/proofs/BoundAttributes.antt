-- Actions that make no more than they pay: Attributes, structs and characters.
use Rattle.star_store.specs.declared.values.Value.{Value}
use Rattle.std.proofs.Common.{ℕ, List, Option, Some, None}
use Rattle.star_meaning.specs.Program.{Setting}
use Rattle.star_meaning.specs.declared.given.Arguments.{Arguments}
use Rattle.star_meaning.specs.Attributes.{Attribute, Field, OfType, attribute, attribute_or, attribute_value, call_dir, call_getattr, call_hasattr}
use Rattle.star_meaning.specs.Characters.{call_chr, call_hash, call_ord}
use Rattle.star_meaning.specs.Structs.{call_struct, new_struct}
use Rattle.star_bound.proofs.Within.{Bounded}
use Rattle.star_bound.proofs.Bounds.{bounded}
use Rattle.star_bound.proofs.BoundValues.{bounded-with_content, bounded-want_int, bounded-want_text, bounded-new_text, bounded-new_list}
use Rattle.star_bound.proofs.BoundArguments.{bounded-positional, bounded-only_one, bounded-two, bounded-two_or_three, bounded-no_value}

pub bounded-attribute_value : (line : ℕ) (x : Value) (a : Attribute) → Bounded (attribute_value line x a)
bounded-attribute_value line x (Field v) = search bounded depth 14
bounded-attribute_value line x (OfType m) = search bounded depth 14

pub bounded-attribute : (w : Setting) (line : ℕ) (x : Value) (name : List ℕ) → Bounded (attribute w line x name)
unfolding attribute
bounded-attribute w line x name = search (bounded, bounded-with_content, bounded-attribute_value) depth 14

pub bounded-call_hasattr : (w : Setting) (line : ℕ) (g : Arguments) → Bounded (call_hasattr w line g)
bounded-call_hasattr w line g = search (bounded, bounded-with_content, bounded-want_text, bounded-positional, bounded-two) depth 14

pub bounded-attribute_or : (line : ℕ) (x : Value) (d : Option Value) (o : Option Attribute) → Bounded (attribute_or line x d o)
bounded-attribute_or line x d (Some a) = search (bounded, bounded-attribute_value) depth 14
bounded-attribute_or line x d None = search bounded depth 14

pub bounded-call_getattr : (w : Setting) (line : ℕ) (g : Arguments) → Bounded (call_getattr w line g)
bounded-call_getattr w line g = search (bounded, bounded-with_content, bounded-want_text, bounded-positional, bounded-two_or_three, bounded-attribute_or) depth 14

pub bounded-call_dir : (w : Setting) (line : ℕ) (g : Arguments) → Bounded (call_dir w line g)
bounded-call_dir w line g = search (bounded, bounded-with_content, bounded-new_text, bounded-new_list, bounded-positional, bounded-only_one) depth 14

pub bounded-call_ord : (w : Setting) (line : ℕ) (g : Arguments) → Bounded (call_ord w line g)
bounded-call_ord w line g = search (bounded, bounded-want_text, bounded-positional, bounded-only_one) depth 14

pub bounded-call_chr : (w : Setting) (line : ℕ) (g : Arguments) → Bounded (call_chr w line g)
bounded-call_chr w line g = search (bounded, bounded-want_int, bounded-new_text, bounded-positional, bounded-only_one) depth 14

pub bounded-call_hash : (w : Setting) (line : ℕ) (g : Arguments) → Bounded (call_hash w line g)
bounded-call_hash w line g = search (bounded, bounded-want_text, bounded-positional, bounded-only_one) depth 14

pub bounded-new_struct : (line : ℕ) (fs : List (List ℕ × Value)) → Bounded (new_struct line fs)
bounded-new_struct line fs = search bounded depth 14

pub bounded-call_struct : (line : ℕ) (g : Arguments) → Bounded (call_struct line g)
bounded-call_struct line g = search (bounded, bounded-no_value, bounded-new_struct) depth 14
