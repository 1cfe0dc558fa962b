-- Actions that respect every invariant of runs: pairs.
use Rattle.star_store.specs.declared.values.Value.{Value}
use Rattle.star_store.specs.declared.values.Cell.TheVariants as cell
use Rattle.star_meaning.specs.Program.{Setting}
use Rattle.star_meaning.specs.Values.{Content, Held}
use Rattle.star_meaning.specs.declared.given.KeywordArgument.{KeywordArgument}
use Rattle.std.proofs.Common.{ℕ, List, [], ◌∷◌, Option, Some, None, Bool}
use Rattle.star_meaning.specs.Run.{Action}
use Rattle.star_meaning.specs.Pairs.{two_items, pair_of, taken_entries, pairs_in, pairs_of, pairs_count, check_pair, put_pair, put_named, put_pairs, with_pair, with_pairs, with_named, dict_of, update_with, Pairs}
use Rattle.star_meaning.proofs.Invariants.{Invariant, Respects, respects}
use Rattle.star_meaning.proofs.Keeps.{keeps, kept_by, Keeps}
use Rattle.star_meaning.proofs.KeepsValues.{respects-with_content, keeps-new_dict, respects-count_of, respects-take_items, respects-take_all, respects-check_key}
use Rattle.star_meaning.proofs.KeepsSubscript.{respects-put_entry}
use Rattle.star_meaning.proofs.KeepsArguments.{respects-key_for}

pub respects-two_items : {w : Setting} {inv : Invariant w} → (line : ℕ) (a1 : List Value) → Respects inv (two_items line a1)
respects-two_items line (k ∷ v ∷ []) = search respects depth 14
respects-two_items line _ = search respects depth 14

pub respects-pair_of : (w : Setting) {inv : Invariant w} (line : ℕ) (x : Value) → Respects inv (pair_of w line x)
respects-pair_of w line x = search (respects, respects-take_all, respects-two_items) depth 14

pub respects-taken_entries : {w : Setting} {inv : Invariant w} → (line : ℕ) (es : List (Value × Value)) → Respects inv (taken_entries line es)
respects-taken_entries line es = search respects depth 14

pub respects-pairs_in : (w : Setting) {inv : Invariant w} (line : ℕ) (x : Value) (n : ℕ) (a4 : Content) → Respects inv (pairs_in w line x n a4)
respects-pairs_in w line x n (Held (cell.Dict es)) = search (respects, respects-taken_entries) depth 14
respects-pairs_in w line x n _ = search (respects, respects-take_items, respects-pair_of) depth 14

pub respects-pairs_of : (w : Setting) {inv : Invariant w} (line : ℕ) (a2 : Option Value) (n : ℕ) → Respects inv (pairs_of w line a2 n)
unfolding pairs_of
respects-pairs_of w line None n = search respects depth 14
respects-pairs_of w line (Some x) n = search (respects, respects-with_content, respects-pairs_in) depth 14

pub respects-pairs_count : (w : Setting) {inv : Invariant w} (line : ℕ) (a2 : Option Value) → Respects inv (pairs_count w line a2)
respects-pairs_count w line None = search respects depth 14
respects-pairs_count w line (Some x) = search (respects, respects-count_of) depth 14

pub respects-check_pair : (w : Setting) {inv : Invariant w} (levels : ℕ) (line : ℕ) (are_keys : Bool) (k : Value) → Respects inv (check_pair w levels line are_keys k)
respects-check_pair w levels line are_keys k = search (respects, respects-check_key) depth 14

pub respects-put_pair : (w : Setting) {inv : Invariant w} (levels : ℕ) (line : ℕ) (d : Value) (are_keys : Bool) (e : Value × Value) → Respects inv (put_pair w levels line d are_keys e)
respects-put_pair w levels line d are_keys e = search (respects, respects-put_entry, respects-check_pair) depth 14

pub respects-put_named : (w : Setting) {inv : Invariant w} (line : ℕ) (d : Value) (n : KeywordArgument) → Respects inv (put_named w line d n)
respects-put_named w line d n = search (respects, respects-put_entry, respects-key_for) depth 14

pub respects-put_pairs : (w : Setting) {inv : Invariant w} (levels : ℕ) (line : ℕ) (d : Value) (ps : Pairs) (ns : List KeywordArgument) → Respects inv (put_pairs w levels line d ps ns)
unfolding put_pairs
respects-put_pairs w levels line d ps ns = search (respects, respects-put_pair, respects-put_named) depth 14

pub respects-update_with : (w : Setting) {inv : Invariant w} (levels : ℕ) (line : ℕ) (d : Value) (x : Option Value) (ns : List KeywordArgument) (guarded : Action (Unit {0})) → Respects inv guarded → Respects inv (update_with w levels line d x ns guarded)
unfolding update_with
respects-update_with w levels line d x ns guarded k0 = search (respects, respects-pairs_of, respects-pairs_count, respects-put_pairs) depth 14

pub keeps-with_pair : {q : Bool} → (w : Setting) (levels : ℕ) (line : ℕ) (are_keys : Bool) (es : List (Value × Value)) (e : Value × Value) → Keeps q (with_pair w levels line are_keys es e)
keeps-with_pair w levels line are_keys es e = search (keeps, kept_by w, respects-check_pair) depth 14

pub keeps-with_pairs : {q : Bool} → (w : Setting) (levels : ℕ) (line : ℕ) (are_keys : Bool) (es : List (Value × Value)) (a5 : List (Value × Value)) → Keeps q (with_pairs w levels line are_keys es a5)
keeps-with_pairs w levels line are_keys es [] = search keeps depth 14
keeps-with_pairs {q = q} w levels line are_keys es (e ∷ ps) = let h1 : (z4 : List (Value × Value)) → Keeps q (with_pairs w levels line are_keys z4 ps) = λ z4. keeps-with_pairs w levels line are_keys z4 ps in search (keeps, keeps-with_pair, h1) depth 14

pub keeps-with_named : {q : Bool} → (w : Setting) (line : ℕ) (es : List (Value × Value)) (a3 : List KeywordArgument) → Keeps q (with_named w line es a3)
keeps-with_named w line es [] = search keeps depth 14
keeps-with_named {q = q} w line es (n ∷ ns) = let h1 : (z2 : List (Value × Value)) → Keeps q (with_named w line z2 ns) = λ z2. keeps-with_named w line z2 ns in search (keeps, kept_by w, respects-key_for, h1) depth 14

pub keeps-dict_of : {q : Bool} → (w : Setting) (levels : ℕ) (line : ℕ) (ps : Pairs) (ns : List KeywordArgument) → Keeps q (dict_of w levels line ps ns)
unfolding dict_of
keeps-dict_of w levels line ps ns = search (keeps, keeps-new_dict, keeps-with_pairs, keeps-with_named) depth 14
