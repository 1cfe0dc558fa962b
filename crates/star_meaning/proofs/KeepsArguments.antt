-- Actions that respect every invariant of runs: arguments.
use Rattle.star_store.specs.declared.values.Value.{Value}
use Rattle.star_meaning.specs.Program.{Setting}
use Rattle.std.proofs.Common.{ℕ, List, [], ◌∷◌, Option, Some, None, Bool}
use Rattle.star_meaning.specs.declared.given.KeywordArgument.{KeywordArgument}
use Rattle.star_meaning.specs.declared.given.Arguments.{Arguments}
use Rattle.star_meaning.specs.Arguments.{star_count, take_star, star_star_names, take_names, given, name_key, key_for, positional, with_name, only_one, none_or_one, one_or_two, two, two_or_three, no_value, EvaluatedArgument}
use Rattle.star_meaning.proofs.Invariants.{Invariant, Respects, respects}
use Rattle.star_meaning.proofs.Keeps.{keeps, kept_by, Keeps}
use Rattle.star_meaning.proofs.KeepsValues.{respects-new_text, respects-count_of, respects-take_items}

pub respects-star_count : (w : Setting) {inv : Invariant w} (line : ℕ) (a2 : Option Value) → Respects inv (star_count w line a2)
respects-star_count w line None = search respects depth 14
respects-star_count w line (Some v) = search (respects, respects-count_of) depth 14

pub respects-take_star : (w : Setting) {inv : Invariant w} (line : ℕ) (a2 : Option Value) (n : ℕ) → Respects inv (take_star w line a2 n)
respects-take_star w line None n = search respects depth 14
respects-take_star w line (Some v) n = search (respects, respects-take_items) depth 14

pub respects-star_star_names : (w : Setting) {inv : Invariant w} (line : ℕ) (a2 : Option Value) → Respects inv (star_star_names w line a2)
respects-star_star_names w line None = search respects depth 14
respects-star_star_names w line (Some v) = search respects depth 14

pub respects-take_names : {w : Setting} {inv : Invariant w} → (line : ℕ) (ns : List KeywordArgument) → Respects inv (take_names line ns)
respects-take_names line ns = search respects depth 14

pub respects-name_key : {w : Setting} {inv : Invariant w} → (line : ℕ) (n : KeywordArgument) (a2 : Option Value) → Respects inv (name_key line n a2)
unfolding name_key
respects-name_key line n (Some k) = search respects depth 14
respects-name_key line n None = search (respects, respects-new_text) depth 14

pub respects-key_for : {w : Setting} {inv : Invariant w} → (line : ℕ) (n : KeywordArgument) → Respects inv (key_for line n)
respects-key_for line n = search (respects, respects-name_key) depth 14

pub respects-positional : {w : Setting} {inv : Invariant w} → (line : ℕ) (g : Arguments) → Respects inv (positional line g)
respects-positional line g = search respects depth 14

pub respects-with_name : {w : Setting} {inv : Invariant w} → (line : ℕ) (name : List ℕ) (g : Arguments) → Respects inv (with_name line name g)
respects-with_name line name g = search respects depth 14

pub respects-only_one : {w : Setting} {inv : Invariant w} → (line : ℕ) (a1 : List Value) → Respects inv (only_one line a1)
respects-only_one line (x ∷ []) = search respects depth 14
respects-only_one line _ = search respects depth 14

pub respects-none_or_one : {w : Setting} {inv : Invariant w} → (line : ℕ) (a1 : List Value) → Respects inv (none_or_one line a1)
respects-none_or_one line [] = search respects depth 14
respects-none_or_one line (x ∷ []) = search respects depth 14
respects-none_or_one line _ = search respects depth 14

pub respects-one_or_two : {w : Setting} {inv : Invariant w} → (line : ℕ) (a1 : List Value) → Respects inv (one_or_two line a1)
respects-one_or_two line (x ∷ []) = search respects depth 14
respects-one_or_two line (x ∷ y ∷ []) = search respects depth 14
respects-one_or_two line _ = search respects depth 14

pub respects-two : {w : Setting} {inv : Invariant w} → (line : ℕ) (a1 : List Value) → Respects inv (two line a1)
respects-two line (x ∷ y ∷ []) = search respects depth 14
respects-two line _ = search respects depth 14

pub respects-two_or_three : {w : Setting} {inv : Invariant w} → (line : ℕ) (a1 : List Value) → Respects inv (two_or_three line a1)
respects-two_or_three line (x ∷ y ∷ []) = search respects depth 14
respects-two_or_three line (x ∷ y ∷ z ∷ []) = search respects depth 14
respects-two_or_three line _ = search respects depth 14

pub respects-no_value : {w : Setting} {inv : Invariant w} → (line : ℕ) (a1 : List Value) → Respects inv (no_value line a1)
respects-no_value line [] = search respects depth 14
respects-no_value line _ = search respects depth 14

pub keeps-given : {q : Bool} → (w : Setting) (line : ℕ) (ps : List EvaluatedArgument) → Keeps q (given w line ps)
unfolding given
keeps-given w line ps = search (keeps, kept_by w, respects-star_count, respects-take_star, respects-star_star_names, respects-take_names) depth 14

pub keeps-name_key : {q : Bool} → (line : ℕ) (n : KeywordArgument) (a2 : Option Value) → Keeps q (name_key line n a2)
unfolding name_key
keeps-name_key line n (Some k) = search keeps depth 14
keeps-name_key line n None = search keeps depth 14

pub keeps-key_for : {q : Bool} → (line : ℕ) (n : KeywordArgument) → Keeps q (key_for line n)
keeps-key_for line n = search (keeps, keeps-name_key) depth 14
