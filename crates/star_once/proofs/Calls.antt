-- Calls: the entries of `**name`, the run of a function, and the calls of functions, built-in functions and methods.
use Rattle.std.proofs.Common.{◌≡◌, ℕ, ◌+◌, List, [], ◌∷◌, Option, Some, None, false, refl, Bool, true}
use Rattle.std.specs.Ordering.{is_gt, is_lt}
use Rattle.std.specs.declared.cmp.Ordering.{Ordering}
use Rattle.star_store.specs.declared.names.BuiltIn.{BuiltIn}
use Rattle.star_store.specs.declared.names.BuiltIn.TheVariants as built_in
use Rattle.star_store.specs.declared.values.Function.{Function}
use Rattle.star_store.specs.declared.values.Value.{Value}
use Rattle.star_tree.specs.declared.tree.Argument.{Argument}
use Rattle.star_tree.specs.declared.tree.Expression.{Expression}
use Rattle.star_tree.specs.declared.tree.Name.{Name}
use Rattle.star_outline.specs.Definitions.{Definition}
use Rattle.star_meaning.specs.declared.fault.FaultCode.TheVariants as code
use Rattle.star_meaning.specs.declared.given.Arguments.{Arguments}
use Rattle.star_meaning.specs.declared.site.Site.{Site}
use Rattle.star_meaning.specs.Arguments.{EvaluatedArgument, given, none_or_one}
use Rattle.star_meaning.specs.Binding.{Names, One, Rest, BoundArgument, bound_to, build_argument, build_arguments}
use Rattle.star_meaning.specs.BuiltIns.{call_built_in, call_dict}
use Rattle.star_meaning.specs.Calls.{ABuiltIn, AFunction, AMethod, Callee, activate, best_by_key, call_node, called, called_built_in, called_by_key, called_plainly, deactivate, key_of, keyed, only, run, run_body, sorted_by_key, takes_key, with_keys}
use Rattle.star_meaning.specs.Semantics.{Semantics}
use Rattle.star_meaning.specs.Pairs.{dict_of, pairs_count, pairs_of}
use Rattle.star_meaning.specs.Program.{Setting, Variables, seen}
use Rattle.star_meaning.specs.Run.{Done, Failed, Outcome, State, all_of, each, found, give, pay, ◌>>=◌}
use Rattle.star_meaning.proofs.KeepsBinding as base
use Rattle.star_meaning.proofs.Stays as stays
use Rattle.star_once.specs.Keys.{KeysDiffer}
use Rattle.star_once.proofs.After.{After, Some_answer, after_then, given_now, held_then, plain}
use Rattle.star_once.proofs.Dicts.{dict_of_differs, named_dict, pairs_of_after}
use Rattle.star_once.proofs.Json.{decode_differs}
use Rattle.star_meaning.proofs.KeepsJson.{respects-call_encode, respects-call_encode_indent, respects-call_recorded}
use Rattle.star_once.proofs.Arguments.{given_after}
use Rattle.star_once.proofs.Keeps.{AllKeep, Keeps, KeepsWhere, VariablesKeep, keeps, once_by}
use Rattle.star_meaning.proofs.KeepsArguments.{respects-none_or_one}
use Rattle.star_meaning.proofs.KeepsAttributes.{respects-call_chr, respects-call_dir, respects-call_getattr, respects-call_hasattr, respects-call_hash, respects-call_ord, respects-call_struct}
use Rattle.star_meaning.proofs.KeepsSets.{respects-call_set}
use Rattle.star_meaning.proofs.KeepsBuiltIns.{respects-call_abs, respects-call_all, respects-call_any, respects-call_best, respects-call_bool, respects-call_enumerate, respects-call_fail, respects-call_int, respects-call_len, respects-call_list, respects-call_print, respects-call_range, respects-call_repr, respects-call_reversed, respects-call_sorted, respects-call_str, respects-call_tuple, respects-call_type, respects-call_zip}
use Rattle.star_meaning.proofs.KeepsCallee.{respects-callee}
use Rattle.star_meaning.proofs.KeepsOrders.{respects-asked_for_best, respects-asked_to_sort, respects-best_by, respects-sort_by}
use Rattle.star_once.proofs.KeepsCalls.{keeps-pass, keeps-run_body}
use Rattle.star_meaning.proofs.KeepsMethods.{respects-call_method}
use Rattle.star_meaning.proofs.KeepsPairs.{respects-pairs_count}
use Rattle.star_meaning.proofs.KeepsValues.{respects-new_tuple}
use Rattle.star_once.proofs.BoundArguments.{NamedAll, NamedOnce, ShareOnce, SharesOnce, bound_once, named_stays, shares_stay}
use Rattle.star_once.proofs.Stores.{stays_seen}
use Rattle.star_once.proofs.Writes as writes

-- ---- shares

made_differs : (w : Setting) (line : ℕ) (x : BoundArgument) (s : State) → KeysDiffer w s → ShareOnce (seen w s) x → writes.Held w (build_argument line x s)
made_differs w line (One v) s h o = h
made_differs w line (Rest xs) s h o = (once_by (respects-new_tuple {w = w} line xs)).holds s h
made_differs w line (Names ns) s h o = named_dict w line ns s h o.0 o.1

with_stay : {A : Type 0} (w : Setting) (s : State) (o : Outcome A) → writes.Held w o → stays.Preserved s o → After w s Some_answer o
with_stay w s (Done x t) h k = (h, stays_seen w s t k, tt)
with_stay w s (Failed f lines) h k = tt

made_after : (w : Setting) (line : ℕ) (x : BoundArgument) (s : State) → KeysDiffer w s → ShareOnce (seen w s) x → After w s Some_answer (build_argument line x s)
made_after w line x s h o = with_stay w s (build_argument line x s) (made_differs w line x s h o) ((base.keeps-build_argument {q = false} line x).stays.holds s)

each_made : (w : Setting) (line : ℕ) (xs : List (Name × BoundArgument)) (s : State) → KeysDiffer w s → SharesOnce (seen w s) xs → After w s Some_answer (each {B = Name × Value} (λ (x : Name × BoundArgument). build_argument line x.1 >>= λ v. give (x.0, v)) xs s)
each_made w line [] s h o = given_now {A = List (Name × Value)} w s Some_answer [] h tt
each_made w line (x ∷ xs) s h o =
    after_then w s Some_answer Some_answer ((build_argument line x.1 >>= λ v. give {A = Name × Value} (x.0, v)) s) (λ y. each {B = Name × Value} (λ (x : Name × BoundArgument). build_argument line x.1 >>= λ v. give (x.0, v)) xs >>= λ ys. give (y ∷ ys))
    (after_then w s Some_answer Some_answer (build_argument line x.1 s) (λ v. give {A = Name × Value} (x.0, v)) (made_after w line x.1 s h o.0) (λ v t k stay p. given_now {A = Name × Value} w t Some_answer (x.0, v) k tt))
    (λ y t k stay p. after_then w t Some_answer Some_answer (each {B = Name × Value} (λ (x : Name × BoundArgument). build_argument line x.1 >>= λ v. give (x.0, v)) xs t) (λ ys. give (y ∷ ys))
    (each_made w line xs t k (shares_stay (seen w s) (seen w t) stay xs o.1)) (λ ys u l stays q. given_now w u Some_answer (y ∷ ys) l tt))

shares_after : (w : Setting) (line : ℕ) (xs : List (Name × BoundArgument)) (s : State) → KeysDiffer w s → SharesOnce (seen w s) xs → After w s Some_answer (build_arguments line xs s)
unfolding build_arguments
shares_after w line xs s h o = each_made w line xs s h o

-- ---- the run of a function

body_keeps : (w : Setting) (vs : Variables) (m : Semantics) (q : Site) (f : Function) (d : Definition) (values : List (Name × Value)) → VariablesKeep w vs → AllKeep w m
    → Keeps w (all_of (λ (x : Name × Value). vs.bind q x.0 x.1) values >>= λ _. activate f >>= λ _. run_body m q d.body >>= λ v. deactivate >>= λ _. give v)
body_keeps w vs m q f d values k l = search (keeps, keeps-run_body) depth 14

frame_keeps : (w : Setting) (vs : Variables) (m : Semantics) (p : Site) (f : Function) (d : Definition) (values : List (Name × Value)) → VariablesKeep w vs → AllKeep w m
    → Keeps w (pay p.line 1 >>= λ _. vs.frame f.file (1 + f.definition) (Some f.frame) >>= λ frame.
    all_of (λ (x : Name × Value). vs.bind (record { file = f.file; frame = frame; line = p.line }) x.0 x.1) values >>= λ _. activate f >>= λ _. run_body m (record { file = f.file; frame = frame; line = p.line }) d.body >>= λ v. deactivate >>= λ _. give v)
frame_keeps w vs m p f d values k l = search (keeps, body_keeps) depth 14

pub run_keeps : (w : Setting) (vs : Variables) (m : Semantics) (p : Site) (f : Function) (d : Definition) (shares : List (Name × BoundArgument)) → VariablesKeep w vs → AllKeep w m → KeepsWhere w (λ s. SharesOnce (seen w s) shares) (run vs m p f d shares)
run_keeps w vs m p f d shares k l = record { holds = λ s h o. held_then w s Some_answer (build_arguments p.line shares s) _ (shares_after w p.line shares s h o) (λ values t i stay x. (frame_keeps w vs m p f d values k l).holds t i) }

-- ---- calls

dict_differs : (w : Setting) (levels line : ℕ) (g : Arguments) (s : State) → KeysDiffer w s → NamedAll (seen w s) g.named → writes.Held w (call_dict w levels line g s)
dict_differs w levels line g s h n =
    held_then w s Some_answer (none_or_one line g.positional s) _
    (plain w (none_or_one line g.positional) (λ inv. respects-none_or_one line g.positional) s h)
    (λ x t k stay p. held_then w t Some_answer (pairs_count w line x t) _
    (plain w (pairs_count w line x) (λ inv. respects-pairs_count w line x) t k)
    (λ c u l stays q. held_then w u _ (pairs_of w line x c u) (λ ps. dict_of w levels line ps g.named)
    (pairs_of_after w line x c u l)
    (λ ps v m stayed r. dict_of_differs w levels line ps g.named v m r
    (named_stays (seen w u) (seen w v) stayed g.named (named_stays (seen w t) (seen w u) stays g.named (named_stays (seen w s) (seen w t) stay g.named n))))))

built_in_differs : (w : Setting) (levels line : ℕ) (b : BuiltIn) (g : Arguments) (s : State) → KeysDiffer w s → NamedAll (seen w s) g.named → writes.Held w (call_built_in w levels line b g s)
unfolding call_built_in
built_in_differs w levels line built_in.Abs g s h n = (once_by (respects-call_abs w line g)).holds s h
built_in_differs w levels line built_in.All g s h n = (once_by (respects-call_all w line g)).holds s h
built_in_differs w levels line built_in.Any g s h n = (once_by (respects-call_any w line g)).holds s h
built_in_differs w levels line built_in.Bool g s h n = (once_by (respects-call_bool w line g)).holds s h
built_in_differs w levels line built_in.Dict g s h n = dict_differs w levels line g s h n
built_in_differs w levels line built_in.Enumerate g s h n = (once_by (respects-call_enumerate w line g)).holds s h
built_in_differs w levels line built_in.Fail g s h n = (once_by (respects-call_fail w levels line g)).holds s h
built_in_differs w levels line built_in.Int g s h n = (once_by (respects-call_int w line g)).holds s h
built_in_differs w levels line built_in.Len g s h n = (once_by (respects-call_len w line g)).holds s h
built_in_differs w levels line built_in.List g s h n = (once_by (respects-call_list w line g)).holds s h
built_in_differs w levels line built_in.Max g s h n = (once_by (respects-call_best w levels line is_gt g)).holds s h
built_in_differs w levels line built_in.Min g s h n = (once_by (respects-call_best w levels line is_lt g)).holds s h
built_in_differs w levels line built_in.Print g s h n = (once_by (respects-call_print w levels line g)).holds s h
built_in_differs w levels line built_in.Range g s h n = (once_by (respects-call_range w line g)).holds s h
built_in_differs w levels line built_in.Repr g s h n = (once_by (respects-call_repr w levels line g)).holds s h
built_in_differs w levels line built_in.Reversed g s h n = (once_by (respects-call_reversed w line g)).holds s h
built_in_differs w levels line built_in.Sorted g s h n = (once_by (respects-call_sorted w levels line g)).holds s h
built_in_differs w levels line built_in.Str g s h n = (once_by (respects-call_str w levels line g)).holds s h
built_in_differs w levels line built_in.Tuple g s h n = (once_by (respects-call_tuple w line g)).holds s h
built_in_differs w levels line built_in.Type g s h n = (once_by (respects-call_type w line g)).holds s h
built_in_differs w levels line built_in.Zip g s h n = (once_by (respects-call_zip w line g)).holds s h
built_in_differs w levels line built_in.Chr g s h n = (once_by (respects-call_chr w line g)).holds s h
built_in_differs w levels line built_in.Dir g s h n = (once_by (respects-call_dir w line g)).holds s h
built_in_differs w levels line built_in.Getattr g s h n = (once_by (respects-call_getattr w line g)).holds s h
built_in_differs w levels line built_in.Hasattr g s h n = (once_by (respects-call_hasattr w line g)).holds s h
built_in_differs w levels line built_in.Hash g s h n = (once_by (respects-call_hash w line g)).holds s h
built_in_differs w levels line built_in.Json g s h n = tt
built_in_differs w levels line built_in.Ord g s h n = (once_by (respects-call_ord w line g)).holds s h
built_in_differs w levels line built_in.Set g s h n = (once_by (respects-call_set w levels line g)).holds s h
built_in_differs w levels line built_in.Struct g s h n = (once_by {w = w} (respects-call_struct line g)).holds s h
built_in_differs w levels line built_in.JsonDecode g s h n = decode_differs w levels line g s h
built_in_differs w levels line built_in.JsonEncode g s h n = (once_by (respects-call_encode w levels line g)).holds s h
built_in_differs w levels line built_in.JsonEncodeIndent g s h n = (once_by (respects-call_encode_indent w levels line g)).holds s h
built_in_differs w levels line (built_in.Recorded i) g s h n = (once_by (respects-call_recorded w levels line i g)).holds s h

found_call : (w : Setting) (m : Semantics) (p : Site) (f : Function) (d : Definition) (o : Option (List (Name × BoundArgument))) (s : State) → AllKeep w m → KeysDiffer w s → ((xs : List (Name × BoundArgument)) → o ≡ Some xs → SharesOnce (seen w s) xs) → writes.Held w ((found code.Args p.line o >>= m.call p f d) s)
found_call w m p f d None s k h a = tt
found_call w m p f d (Some xs) s k h a = (k.call p f d xs).holds s h (a xs refl)

plainly_differs : (w : Setting) (levels : ℕ) (m : Semantics) (p : Site) (c : Callee) (g : Arguments) (s : State) → AllKeep w m → KeysDiffer w s → NamedOnce (seen w s) g.named → writes.Held w (called_plainly w levels m p c g s)
plainly_differs w levels m p (AFunction f d) g s k h n = found_call w m p f d (bound_to d.parameters f.defaults g) s k h (bound_once (seen w s) d.parameters f.defaults g n)
plainly_differs w levels m p (ABuiltIn b) g s k h n = built_in_differs w levels p.line b g s h n.0
plainly_differs w levels m p (AMethod b x) g s k h n = (once_by (respects-call_method w levels p.line b x g)).holds s h

-- a key is the answer of a call with one value and no names
plain_only : (w : Setting) (levels : ℕ) (m : Semantics) (p : Site) (c : Callee) (x : Value) → AllKeep w m → Keeps w (called_plainly w levels m p c (only x))
plain_only w levels m p c x k = record { holds = λ s h. plainly_differs w levels m p c (only x) s k h (tt, refl) }

keeps-key_of : (w : Setting) (levels : ℕ) (m : Semantics) (p : Site) (f x : Value) → AllKeep w m → Keeps w (key_of w levels m p f x)
keeps-key_of w levels m p f x k = search (keeps, once_by, respects-callee, plain_only) depth 14

keeps-keyed : (w : Setting) (levels : ℕ) (m : Semantics) (p : Site) (f x : Value) → AllKeep w m → Keeps w (keyed w levels m p f x)
keeps-keyed w levels m p f x k = search (keeps, keeps-key_of) depth 14

keeps-with_keys : (w : Setting) (levels : ℕ) (m : Semantics) (p : Site) (o : Option Value) (xs : List Value) → AllKeep w m → Keeps w (with_keys w levels m p o xs)
keeps-with_keys w levels m p None xs k = search keeps depth 14
keeps-with_keys w levels m p (Some f) xs k = search (keeps, keeps-keyed) depth 14

keeps-sorted_by_key : (w : Setting) (levels : ℕ) (m : Semantics) (p : Site) (g : Arguments) → AllKeep w m → Keeps w (sorted_by_key w levels m p g)
keeps-sorted_by_key w levels m p g k = search (keeps, once_by, respects-asked_to_sort, respects-sort_by, keeps-with_keys) depth 14

keeps-best_by_key : (w : Setting) (levels : ℕ) (m : Semantics) (p : Site) (better : Ordering → Bool) (g : Arguments) → AllKeep w m → Keeps w (best_by_key w levels m p better g)
keeps-best_by_key w levels m p better g k = search (keeps, once_by, respects-asked_for_best, respects-best_by, keeps-with_keys) depth 14

by_key_differs : (w : Setting) (levels : ℕ) (m : Semantics) (p : Site) (b : BuiltIn) (g : Arguments) (s : State) → AllKeep w m → KeysDiffer w s → NamedAll (seen w s) g.named → writes.Held w (called_by_key w levels m p b g s)
by_key_differs w levels m p built_in.Sorted g s k h n = (keeps-sorted_by_key w levels m p g k).holds s h
by_key_differs w levels m p built_in.Max g s k h n = (keeps-best_by_key w levels m p is_gt g k).holds s h
by_key_differs w levels m p built_in.Min g s k h n = (keeps-best_by_key w levels m p is_lt g k).holds s h
by_key_differs w levels m p b g s k h n = built_in_differs w levels p.line b g s h n

called_built_in_differs : (w : Setting) (levels : ℕ) (m : Semantics) (p : Site) (b : BuiltIn) (g : Arguments) (c : Bool) (s : State) → AllKeep w m → KeysDiffer w s → NamedAll (seen w s) g.named → writes.Held w (called_built_in w levels m p b g c s)
called_built_in_differs w levels m p b g true s k h n = by_key_differs w levels m p b g s k h n
called_built_in_differs w levels m p b g false s k h n = built_in_differs w levels p.line b g s h n

called_differs : (w : Setting) (levels : ℕ) (m : Semantics) (p : Site) (c : Callee) (g : Arguments) (s : State) → AllKeep w m → KeysDiffer w s → NamedOnce (seen w s) g.named → writes.Held w (called w levels m p c g s)
called_differs w levels m p (AFunction f d) g s k h n = plainly_differs w levels m p (AFunction f d) g s k h n
called_differs w levels m p (ABuiltIn b) g s k h n = called_built_in_differs w levels m p b g (takes_key w.language.dialect g) s k h n.0
called_differs w levels m p (AMethod b x) g s k h n = plainly_differs w levels m p (AMethod b x) g s k h n

given_called : (w : Setting) (levels : ℕ) (m : Semantics) (p : Site) (ps : List EvaluatedArgument) (c : Callee) → AllKeep w m → Keeps w (given w p.line ps >>= λ g. called w levels m p c g)
given_called w levels m p ps c k = record { holds = λ s h. held_then w s _ (given w p.line ps s) (λ g. called w levels m p c g) (given_after w p.line ps s h) (λ g t i stay n. called_differs w levels m p c g t k i n) }

pub keeps-call_node : (w : Setting) (levels : ℕ) (m : Semantics) (p : Site) (f : Expression) (es : List Argument) → AllKeep w m → Keeps w (call_node w levels m p f es)
keeps-call_node w levels m p f es k = search (keeps, once_by, keeps-pass, respects-callee, given_called) depth 14
