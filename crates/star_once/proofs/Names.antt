-- No two globals of a file have the same name: those of its block differ, and its globals are some of these, in byte order.
use Rattle.std.proofs.Common.{◌≡◌, ℕ, zero, suc, ◌+◌, Bool, true, false, not, List, [], ◌∷◌, ◌++◌, length, map, slice_get, Option, Some, None, if◌then◌else◌, refl, ap, sym, subst, ◌∙◌, arith}
use Rattle.std.specs.List.{Contains, filter, list_any}
use Rattle.std.specs.Option.{option_flatten, option_map}
use Rattle.std.specs.Ordering.{is_lt, nat_cmp}
use Rattle.std.specs.Cmp.Lexicographic.{slice_cmp}
use Rattle.std.proofs.lemmas.Slice.Eq.{bytes_eq-Decides}
use Rattle.star_store.specs.declared.values.Value.{Value}
use Rattle.star_store.specs.Store.{Shelf}
use Rattle.star_tree.specs.declared.tree.Statement.{Statement}
use Rattle.star_outline.specs.Names.{once, same_name}
use Rattle.star_outline.specs.Outlines.{block_names, loaded_names, names_in, outline}
use Rattle.star_meaning.specs.declared.said.Said.{Said}
use Rattle.star_meaning.specs.Local.{Trees}
use Rattle.star_meaning.specs.Semantics.{block}
use Rattle.star_meaning.specs.Module.{Ended, Good, Local, Stopped, bound_names, by_name, end, global_text, globals_of, if_bound, last_line, local_of, meaning, most_levels, put_by_name, run_file, slots_of, start, without_loaded}
use Rattle.star_meaning.specs.Module as modules
use Rattle.star_meaning.specs.Program.{Setting, Variables, blocks_in, names_of, outline_of, seen}
use Rattle.star_meaning.specs.Run.{Action, Done, Failed, Outcome, State, and_then, each, pay}
use Rattle.star_meaning.specs.Values.{repr}
use Rattle.star_meaning.specs.Variables.{by_names, frame_of}
use Rattle.star_plan.specs.Plan.{Plan, trees}
use Rattle.star_plan.specs.Results.{if_good, result}
use Rattle.star_plan.specs.Runs.{given, run_by_names}
use Rattle.star_plan.proofs.Outcomes.{never}
use Rattle.star_plan.proofs.Seen.{ran-is, result-sound}
use Rattle.star_plan.proofs.Stay.{result-from}
use Rattle.star_once.specs.Names.{GlobalsStandOnce, NamesDiffer}
use Rattle.star_once.proofs.Keys.{with_or_without}

-- a name is none of these
abbrev Free : List ℕ → List (List ℕ) → Type 0
Free n [] = Unit {0}
Free n (m ∷ ms) = (m ≡ n → ⊥) × Free n ms

abbrev AllFree : List (List ℕ) → Type 0
AllFree [] = Unit {0}
AllFree (n ∷ ns) = Free n ns × AllFree ns

not_there : (n : List ℕ) (ns : List (List ℕ)) → Free n ns → Contains ns n → ⊥
not_there n [] free (k, lt, e) = omega arith
not_there n (m ∷ ms) free (zero, lt, e) = free.0 e
not_there n (m ∷ ms) free (suc k, lt, e) = not_there n ms free.1 (k, omega arith, e)

differ : (ns : List (List ℕ)) → AllFree ns → NamesDiffer ns
differ [] free = tt
differ (n ∷ ns) free = (not_there n ns free.0, differ ns free.1)

-- ---- the names of a block

filter_free : (n : List ℕ) (f : List ℕ → Bool) (ns : List (List ℕ)) → Free n ns → Free n (filter f ns)
filter_free n f [] free = tt
filter_free n f (m ∷ ms) free =
    let rest = filter_free n f ms free.1 in
    with_or_without (λ ns. Free n ns) (f m) m (filter f ms) (free.0, rest) rest

filter_all : (f : List ℕ → Bool) (ns : List (List ℕ)) → AllFree ns → AllFree (filter f ns)
filter_all f [] free = tt
filter_all f (n ∷ ns) free =
    let rest = filter_all f ns free.1 in
    with_or_without (λ ms. AllFree ms) (f n) n (filter f ns) (filter_free n f ns free.0, rest) rest

not_same : (b : Bool) → not b ≡ true → b ≡ true → ⊥
not_same true h k = let bad : ⊥ = cc in bad
not_same false h k = let bad : ⊥ = cc in bad

others : (n : List ℕ) (ns : List (List ℕ)) → Free n (filter (λ m. not (same_name m n)) ns)
others n [] = tt
others n (m ∷ ms) = by (not (same_name m n)) refl (others n ms)
  where
    by : (b : Bool) → not (same_name m n) ≡ b → Free n (filter (λ m. not (same_name m n)) ms) → Free n (if b then m ∷ filter (λ m. not (same_name m n)) ms else filter (λ m. not (same_name m n)) ms)
    by true is rest = ((λ same. not_same (same_name m n) is ((bytes_eq-Decides m n).1 same)), rest)
    by false is rest = rest

once_free : (ns : List (List ℕ)) → AllFree (once ns)
once_free [] = tt
once_free (n ∷ ns) = (others n (once ns), filter_all (λ m. not (same_name m n)) (once ns) (once_free ns))

file_free : (ts : Trees) (n : ℕ) → AllFree (names_in (blocks_in (option_flatten (slice_get (map (option_map outline) ts) n))) 0)
file_free [] n = tt
file_free (None ∷ ts) zero = tt
file_free (Some ss ∷ ts) zero = once_free (block_names ss ++ loaded_names ss)
file_free (t ∷ ts) (suc n) = file_free ts n

-- ---- some of them, in byte order

abbrev names : {A : Type 0} → List (List ℕ × A) → List (List ℕ)
names xs = map (λ x. x.0) xs

bound_free : (n : List ℕ) (ns : List (List ℕ)) (vs : List (Option Value)) → Free n ns → Free n (names (bound_names ns vs))
bound_free n [] vs free = tt
bound_free n (m ∷ ms) [] free = tt
bound_free n (m ∷ ms) (None ∷ vs) free = bound_free n ms vs free.1
bound_free n (m ∷ ms) (Some v ∷ vs) free = (free.0, bound_free n ms vs free.1)

bound_all : (ns : List (List ℕ)) (vs : List (Option Value)) → AllFree ns → AllFree (names (bound_names ns vs))
bound_all [] vs free = tt
bound_all (m ∷ ms) [] free = tt
bound_all (m ∷ ms) (None ∷ vs) free = bound_all ms vs free.1
bound_all (m ∷ ms) (Some v ∷ vs) free = (bound_free m ms vs free.0, bound_all ms vs free.1)

own_free : (n : List ℕ) (loads : List (List ℕ)) (gs : List (List ℕ × Value)) → Free n (names gs) → Free n (names (without_loaded loads gs))
own_free n loads [] free = tt
own_free n loads (g ∷ gs) free = by (list_any (same_name g.0) loads) (own_free n loads gs free.1)
  where
    by : (b : Bool) → Free n (names (without_loaded loads gs)) → Free n (names (if b then without_loaded loads gs else g ∷ without_loaded loads gs))
    by true rest = rest
    by false rest = (free.0, rest)

own_all : (loads : List (List ℕ)) (gs : List (List ℕ × Value)) → AllFree (names gs) → AllFree (names (without_loaded loads gs))
own_all loads [] free = tt
own_all loads (g ∷ gs) free = by (list_any (same_name g.0) loads) (own_free g.0 loads gs free.0) (own_all loads gs free.1)
  where
    by : (b : Bool) → Free g.0 (names (without_loaded loads gs)) → AllFree (names (without_loaded loads gs)) → AllFree (names (if b then without_loaded loads gs else g ∷ without_loaded loads gs))
    by true one rest = rest
    by false one rest = (one, rest)

put_free : (n : List ℕ) (x : List ℕ × Value) (ys : List (List ℕ × Value)) → (x.0 ≡ n → ⊥) → Free n (names ys) → Free n (names (put_by_name x ys))
put_free n x [] other free = (other, tt)
put_free n x (y ∷ ys) other free = by (is_lt (slice_cmp nat_cmp y.0 x.0)) (put_free n x ys other free.1)
  where
    by : (b : Bool) → Free n (names (put_by_name x ys)) → Free n (names (if b then y ∷ put_by_name x ys else x ∷ y ∷ ys))
    by true rest = (free.0, rest)
    by false rest = (other, free)

put_all : (x : List ℕ × Value) (ys : List (List ℕ × Value)) → Free x.0 (names ys) → AllFree (names ys) → AllFree (names (put_by_name x ys))
put_all x [] free all = (tt, tt)
put_all x (y ∷ ys) free all = by (is_lt (slice_cmp nat_cmp y.0 x.0)) (put_free y.0 x ys (λ same. free.0 (sym same)) all.0) (put_all x ys free.1 all.1)
  where
    by : (b : Bool) → Free y.0 (names (put_by_name x ys)) → AllFree (names (put_by_name x ys)) → AllFree (names (if b then y ∷ put_by_name x ys else x ∷ y ∷ ys))
    by true one rest = (one, rest)
    by false one rest = (free, all)

sorted_free : (n : List ℕ) (xs : List (List ℕ × Value)) → Free n (names xs) → Free n (names (by_name xs))
sorted_free n [] free = tt
sorted_free n (x ∷ xs) free = put_free n x (by_name xs) free.0 (sorted_free n xs free.1)

sorted_all : (xs : List (List ℕ × Value)) → AllFree (names xs) → AllFree (names (by_name xs))
sorted_all [] free = tt
sorted_all (x ∷ xs) free = put_all x (by_name xs) (sorted_free x.0 xs free.0) (sorted_all xs free.1)

globals_free : (w : Setting) (s : State) (frame : Value) → AllFree (names_of w w.home 0) → AllFree (names (globals_of w s frame))
globals_free w s frame free = sorted_all _ (own_all (modules.loaded_names (outline_of w w.home)) (bound_names (names_of w w.home 0) (slots_of (frame_of (seen w s frame)))) (bound_all (names_of w w.home 0) (slots_of (frame_of (seen w s frame))) free))

-- ---- the answer of a run

abbrev Gives : {A : Type 0} → (A → Type 0) → Outcome A → Type 0
Gives P (Done x t) = P x
Gives P (Failed f lines) = Unit {0}

gives_then : {A B : Type 0} (P : A → Type 0) (Q : B → Type 0) (o : Outcome A) (f : A → Action B) → Gives P o → ((x : A) (t : State) → P x → Gives Q (f x t)) → Gives Q (and_then o f)
gives_then P Q (Done x t) f h k = k x t h
gives_then P Q (Failed e lines) f h k = tt

abbrev Any : {A : Type 0} → A → Type 0
Any x = Unit {0}

any : {A : Type 0} (o : Outcome A) → Gives Any o
any (Done x t) = tt
any (Failed f lines) = tt

text_named : (w : Setting) (levels line : ℕ) (g : List ℕ × Value) (s : State) → Gives (λ (t : List ℕ × List ℕ). t.0 ≡ g.0) (global_text w levels line g s)
text_named w levels line g s = gives_then Any (λ (t : List ℕ × List ℕ). t.0 ≡ g.0) (repr w levels line g.1 s) _ (any (repr w levels line g.1 s)) (λ t u a. gives_then Any (λ (t : List ℕ × List ℕ). t.0 ≡ g.0) (pay line (1 + length t) u) _ (any (pay line (1 + length t) u)) (λ x v b. refl))

texts_named : (w : Setting) (levels line : ℕ) (gs : List (List ℕ × Value)) (s : State) → Gives (λ (ts : List (List ℕ × List ℕ)). names ts ≡ names gs) (each (global_text w levels line) gs s)
texts_named w levels line [] s = refl
texts_named w levels line (g ∷ gs) s =
    gives_then (λ (t : List ℕ × List ℕ). t.0 ≡ g.0) (λ (ts : List (List ℕ × List ℕ)). names ts ≡ names (g ∷ gs)) (global_text w levels line g s) _ (text_named w levels line g s)
    (λ t u a. gives_then (λ (ts : List (List ℕ × List ℕ)). names ts ≡ names gs) (λ (ts : List (List ℕ × List ℕ)). names ts ≡ names (g ∷ gs)) (each (global_text w levels line) gs u) _ (texts_named w levels line gs u)
    (λ ts v b. ap (λ n. n ∷ names ts) a ∙ ap (λ ns. g.0 ∷ ns) b))

-- the globals of a module at its end differ, and its texts have their names
abbrev Named : Ended → Type 0
Named e = AllFree (names e.globals) × (names e.texts ≡ names e.globals)

end_named : (w : Setting) (levels line : ℕ) (frame : Value) (s : State) → AllFree (names_of w w.home 0) → Gives Named (end w levels line frame s)
end_named w levels line frame s free =
    gives_then (λ (ts : List (List ℕ × List ℕ)). names ts ≡ names (globals_of w s frame)) Named (each (global_text w levels line) (globals_of w s frame) s) _ (texts_named w levels line (globals_of w s frame) s)
    (λ ts t named. (globals_free w s frame free, named))

run_named : (vs : Variables) (w : Setting) (levels : ℕ) (ss : List Statement) (s : State) → AllFree (names_of w w.home 0) → Gives Named (run_file vs w levels ss s)
run_named vs w levels ss s free =
    gives_then Any Named (vs.frame w.home 0 None s) _ (any (vs.frame w.home 0 None s))
    (λ frame t a. gives_then Any Named (block ((meaning vs w levels).stmt (record { file = w.home; frame = frame; line = 1 })) ss t) _ (any (block ((meaning vs w levels).stmt (record { file = w.home; frame = frame; line = 1 })) ss t))
    (λ f u b. end_named w levels (last_line 1 ss) frame u free))

-- a module that ended well
abbrev GoodNamed : List (List ℕ × Value) → List (List ℕ × List ℕ) → Type 0
GoodNamed globals texts = AllFree (names globals) × (names texts ≡ names globals)

local_named : (w : Setting) (o : Outcome Ended) (shelf : Shelf) (globals : List (List ℕ × Value)) (texts : List (List ℕ × List ℕ)) (lines : List Said) → Gives Named o → local_of w o ≡ Good shelf globals texts lines → GoodNamed globals texts
local_named w (Done e t) shelf globals texts lines named is =
    let one : e.globals ≡ globals = cc in
    let two : e.texts ≡ texts = cc in
    (subst (λ z. AllFree (names z)) one named.0, ap names (sym two) ∙ (named.1 ∙ ap names one))
local_named w (Failed f printed) shelf globals texts lines named is = absurd (let bad : ⊥ = cc in bad)

of_result : (plan : Plan) (d n : ℕ) (shelf : Shelf) (globals : List (List ℕ × Value)) (texts : List (List ℕ × List ℕ)) (lines : List Said) → result plan (suc d) n ≡ Some (Good shelf globals texts lines) → GoodNamed globals texts
of_result plan d n shelf globals texts lines is =
    let from = result-from plan d n (Good shelf globals texts lines) is in
    let sound = result-sound plan (suc d) n (Good shelf globals texts lines) is in
    local_named (given plan n from.0) (run_by_names plan n sound.0 from.0) shelf globals texts lines
    (run_named (by_names (given plan n from.0)) (given plan n from.0) most_levels sound.0 (start (given plan n from.0) plan.mode.steps) (file_free (trees plan) n))
    (ran-is plan n sound.0 from.0 sound.1 ∙ from.2)

at_depth : (plan : Plan) (d n : ℕ) (shelf : Shelf) (globals : List (List ℕ × Value)) (texts : List (List ℕ × List ℕ)) (lines : List Said) → result plan d n ≡ Some (Good shelf globals texts lines) → GoodNamed globals texts
at_depth plan zero n shelf globals texts lines is = absurd (never plan n (Good shelf globals texts lines, ap if_good is))
at_depth plan (suc d) n shelf globals texts lines is = of_result plan d n shelf globals texts lines is

pub globals_stand_once : GlobalsStandOnce
globals_stand_once plan n shelf globals texts lines is =
    let named = at_depth plan is.0 n shelf globals texts lines is.1 in
    (differ (names globals) named.0, named.1)
