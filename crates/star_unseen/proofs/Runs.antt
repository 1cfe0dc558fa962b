-- The run of a file over both shelves, by induction on the levels that may still be opened.
use Rattle.std.proofs.Common.{◌≡◌, ℕ, zero, suc, ◌+◌, Bool, true, false, if◌then◌else◌, nat_eq, List, [], ◌∷◌, length, Option, Some, None, ap, subst, ◌∙◌}
use Rattle.std.proofs.lemmas.Bool.{false≢true}
use Rattle.std.specs.Cmp.Lexicographic.{slice_cmp}
use Rattle.std.specs.List.{list_any}
use Rattle.std.specs.Ordering.{is_lt, nat_cmp}
use Rattle.star_store.specs.declared.values.Frame.{Frame}
use Rattle.star_store.specs.declared.values.Value.{Value}
use Rattle.star_tree.specs.declared.tree.Statement.{Statement}
use Rattle.star_scope.specs.declared.placement.StatementContext.{StatementContext}
use Rattle.star_scope.specs.Placement.{in_statements, misplaced, of_file, of_prelude}
use Rattle.star_outline.specs.Names.{same_name}
use Rattle.star_outline.specs.Outlines.{Outline, names_in}
use Rattle.star_outline.specs.Syntax.{expression, form_of, position_of, target}
use Rattle.star_meaning.specs.declared.fault.FaultCode.TheVariants as code
use Rattle.star_meaning.specs.declared.site.Flow.{Flow}
use Rattle.star_meaning.specs.declared.site.Site.{Site}
use Rattle.star_meaning.specs.Module.{Ended, at_line, bound_names, by_name, end, global_text, globals_of, if_bound, last_line, loaded_names, meaning, nothing_opens, one_more, put_by_name, run_file, slots_of, without_loaded}
use Rattle.star_meaning.specs.Program.{Setting, Variables, blocks_in, names_of, outline_of, seen}
use Rattle.star_meaning.specs.Run.{State, each, give, ◌>>=◌}
use Rattle.star_meaning.specs.Semantics.{Read, Semantics}
use Rattle.star_meaning.specs.Variables.{by_names, frame_of}
use Rattle.star_unseen.specs.Veil.{Every, Hides, IsVisible, Maybe, VisibleIfThere, StateIsVisible}
use Rattle.star_unseen.specs.Shelves.{LoadsAreShared, Veil, with_other}
use Rattle.star_unseen.proofs.Alike.{Alike, Any, FlowIsVisible, alike_block, alike_each, alike_fail, alike_give, alike_pay, alike_seeing, alike_then}
use Rattle.star_unseen.proofs.Calls.{alike-run}
use Rattle.star_unseen.proofs.Visible.{ReadIsVisible, SiteIsVisible}
use Rattle.star_unseen.proofs.Expressions.{alike-node}
use Rattle.star_unseen.proofs.Parts.{AllAlike, IsPlaced, VariablesAlike, placed_each, placed_form}
use Rattle.star_unseen.proofs.Statements.{alike-statement}
use Rattle.star_unseen.proofs.Targets.{alike-parts_node, alike-target_node}
use Rattle.star_unseen.proofs.Values.{alike-repr}
use Rattle.star_unseen.proofs.Variables.{FrameIsVisible, GlobalsAreVisible, alike-bind_name, alike-new_frame, alike-read_name, visible-frame_of, same-frame_of}

-- ---- the parts of a program

pub names_alike : {w : Setting} (k : Veil w) → VariablesAlike k (by_names w) (by_names (with_other k.other w))
names_alike k = record {
  read = λ p x c. alike-read_name k p x c;
  bind = λ p x v c h. alike-bind_name k p x v c h;
  frame = λ file number parent c h. alike-new_frame k file number parent c h;
}

-- a statement of the running file has a line of its own, and the same frame
line_visible : (hides : Hides) (b : Bool) (p : Site) (line : ℕ) → SiteIsVisible hides p → SiteIsVisible hides (if b then record p { line = line } else p)
line_visible hides true p line h = h
line_visible hides false p line h = h

pub visible-at_line : {w : Setting} (k : Veil w) (p : Site) (x : Statement) → SiteIsVisible k.hides p → SiteIsVisible k.hides (at_line w p x)
visible-at_line {w = w} k p x h = line_visible k.hides (nat_eq p.file w.home) p (position_of x).line h

pub alike-nothing_opens : {w : Setting} (k : Veil w) → AllAlike k (nothing_opens w) (nothing_opens (with_other k.other w))
alike-nothing_opens {w = w} k = record {
  expr = λ p e c. alike_fail Value (IsVisible k.hides) code.Deep p.line;
  stmt = λ p x here c h. alike_fail Flow (FlowIsVisible k.hides) code.Deep (at_line w p x).line;
  assign = λ p t v c h. alike_fail (Unit {0}) Any code.Deep p.line;
  parts = λ p e i c. alike_fail Read (ReadIsVisible k.hides) code.Deep p.line;
  call = λ p f d shares c hf hd hs. alike_fail Value (IsVisible k.hides) code.Deep p.line;
}

pub alike-one_more : {w : Setting} (k : Veil w) (vs us : Variables) (levels : ℕ) (m n : Semantics) → VariablesAlike k vs us → AllAlike k m n → AllAlike k (one_more vs w levels m) (one_more us (with_other k.other w) levels n)
alike-one_more {w = w} k vs us levels m n a b = record {
  expr = λ p e c. alike_then (alike_pay p.line 1) (λ _ _. alike-node k vs us levels m n p (expression e) a b c);
  stmt = λ p x here c h. alike_then (alike_pay (at_line w p x).line 1) (λ _ _. alike-statement k vs us levels m n (at_line w p x) (position_of x) (form_of x) here a b (visible-at_line k p x c) (placed_form k here x h));
  assign = λ p t v c h. alike_then (alike_pay p.line 1) (λ _ _. alike-target_node k vs us levels m n p (target t) v a b c h);
  parts = λ p e i c. alike_then (alike_pay p.line 1) (λ _ _. alike-parts_node k levels m n p e i b c);
  call = λ p f d shares c hf hd hs. alike-run k vs us m n p f d shares a b c hf hd hs;
}

pub alike-meaning : {w : Setting} (k : Veil w) (vs us : Variables) (levels : ℕ) → VariablesAlike k vs us → AllAlike k (meaning vs w levels) (meaning us (with_other k.other w) levels)
unfolding meaning
alike-meaning k vs us zero a = alike-nothing_opens k
alike-meaning {w = w} k vs us (suc levels) a = alike-one_more k vs us levels (meaning vs w levels) (meaning us (with_other k.other w) levels) a (alike-meaning k vs us levels a)

-- ---- the globals of a module

every_if : {A : Type 0} (P : A → Type 0) (b : Bool) (xs ys : List A) → Every P xs → Every P ys → Every P (if b then xs else ys)
every_if P true xs ys h i = h
every_if P false xs ys h i = i

visible-put_by_name : (hides : Hides) (x : List ℕ × Value) (ys : List (List ℕ × Value)) → IsVisible hides x.1 → GlobalsAreVisible hides ys → GlobalsAreVisible hides (put_by_name x ys)
visible-put_by_name hides x [] h i = (h, tt)
visible-put_by_name hides x (y ∷ ys) h i = every_if (λ g. IsVisible hides g.1) (is_lt (slice_cmp nat_cmp y.0 x.0)) (y ∷ put_by_name x ys) (x ∷ y ∷ ys) (i.0, visible-put_by_name hides x ys h i.1) (h, i)

visible-by_name : (hides : Hides) (xs : List (List ℕ × Value)) → GlobalsAreVisible hides xs → GlobalsAreVisible hides (by_name xs)
visible-by_name hides [] h = tt
visible-by_name hides (x ∷ xs) h = visible-put_by_name hides x (by_name xs) h.0 (visible-by_name hides xs h.1)

visible-if_bound : (hides : Hides) (name : List ℕ) (o : Option Value) (rest : List (List ℕ × Value)) → VisibleIfThere hides o → GlobalsAreVisible hides rest → GlobalsAreVisible hides (if_bound name o rest)
visible-if_bound hides name None rest h i = i
visible-if_bound hides name (Some v) rest h i = (h, i)

visible-bound_names : (hides : Hides) (names : List (List ℕ)) (slots : List (Option Value)) → Every (VisibleIfThere hides) slots → GlobalsAreVisible hides (bound_names names slots)
visible-bound_names hides [] slots h = tt
visible-bound_names hides (x ∷ names) [] h = tt
visible-bound_names hides (x ∷ names) (v ∷ slots) h = visible-if_bound hides x v (bound_names names slots) h.0 (visible-bound_names hides names slots h.1)

visible-without_loaded : (hides : Hides) (loaded : List (List ℕ)) (gs : List (List ℕ × Value)) → GlobalsAreVisible hides gs → GlobalsAreVisible hides (without_loaded loaded gs)
visible-without_loaded hides loaded [] h = tt
visible-without_loaded hides loaded (g ∷ gs) h =
    every_if (λ x. IsVisible hides x.1) (list_any (same_name g.0) loaded) (without_loaded loaded gs) (g ∷ without_loaded loaded gs) (visible-without_loaded hides loaded gs h.1) (h.0, visible-without_loaded hides loaded gs h.1)

visible-slots_of : (hides : Hides) (o : Option Frame) → Maybe (FrameIsVisible hides) o → Every (VisibleIfThere hides) (slots_of o)
visible-slots_of hides None h = tt
visible-slots_of hides (Some f) h = h.1

pub visible-globals_of : {w : Setting} (k : Veil w) (s : State) (frame : Value) → StateIsVisible k.hides w.home s → IsVisible k.hides frame → GlobalsAreVisible k.hides (globals_of w s frame)
visible-globals_of {w = w} k s frame c h =
    visible-by_name k.hides _ (visible-without_loaded k.hides (loaded_names (outline_of w w.home)) _
    (visible-bound_names k.hides (names_of w w.home 0) (slots_of (frame_of (seen w s frame))) (visible-slots_of k.hides (frame_of (seen w s frame)) (visible-frame_of k s frame c h))))

abbrev globals_by : Option Outline → Option Frame → List (List ℕ × Value)
globals_by o f = by_name (without_loaded (loaded_names o) (bound_names (names_in (blocks_in o) 0) (slots_of f)))

pub same-globals_of : {w : Setting} (k : Veil w) (s : State) (frame : Value) → IsVisible k.hides frame → globals_of w s frame ≡ globals_of (with_other k.other w) s frame
same-globals_of {w = w} k s frame h =
    ap (λ o. globals_by o (frame_of (seen w s frame))) (k.outline w.home k.own_file)
    ∙ ap (λ f. globals_by (outline_of (with_other k.other w) w.home) f) (same-frame_of k s frame h)

-- ---- the run of a file

pub alike-global_text : {w : Setting} (k : Veil w) (levels line : ℕ) (g : List ℕ × Value) → IsVisible k.hides g.1 → Alike k Any (global_text w levels line g) (global_text (with_other k.other w) levels line g)
alike-global_text k levels line g h = alike_then (alike-repr k levels line g.1 h) (λ t _. alike_then (alike_pay line (1 + length t)) (λ _ _. alike_give Any (g.0, t) tt))

-- no global of an ended module leads to a hidden cell
abbrev pub EndedIsVisible : Hides → Ended → Type 0
EndedIsVisible hides e = Every (λ g. IsVisible hides g.1) e.globals

pub alike-end : {w : Setting} (k : Veil w) (levels line : ℕ) (frame : Value) → IsVisible k.hides frame → Alike k (EndedIsVisible k.hides) (end w levels line frame) (end (with_other k.other w) levels line frame)
alike-end {w = w} k levels line frame h = alike_seeing (EndedIsVisible k.hides) _ _ (λ s c.
    subst (λ gs. Alike k (EndedIsVisible k.hides) (each (global_text w levels line) (globals_of w s frame) >>= λ ts. give (record { globals = globals_of w s frame; texts = ts }))
    (each (global_text (with_other k.other w) levels line) gs >>= λ ts. give (record { globals = gs; texts = ts }))) (same-globals_of k s frame h)
    (alike_then (alike_each (λ g. IsVisible k.hides g.1) Any (global_text w levels line) (global_text (with_other k.other w) levels line) (globals_of w s frame) (visible-globals_of k s frame c h) (λ g hg. alike-global_text k levels line g hg)) (λ ts _.
    alike_give (EndedIsVisible k.hides) (record { globals = globals_of w s frame; texts = ts }) (visible-globals_of k s frame c h))))

pub alike-run_file : {w : Setting} (k : Veil w) (vs us : Variables) (levels : ℕ) (ss : List Statement) (here : StatementContext) → VariablesAlike k vs us → Every (IsPlaced k here) ss
    → Alike k (EndedIsVisible k.hides) (run_file vs w levels ss) (run_file us (with_other k.other w) levels ss)
alike-run_file {w = w} k vs us levels ss here a h =
    alike_then (a.frame w.home 0 None k.own_file tt) (λ frame hf.
    alike_then (alike_block (IsPlaced k here) _ _ ss h (λ x hx. (alike-meaning k vs us levels a).stmt (record { file = w.home; frame = frame; line = 1 }) x here (hf, k.own_file) hx)) (λ _ _.
    alike-end k levels (last_line 1 ss) frame hf))

abbrev pub RunsAlike : {w : Setting} → Veil w → ℕ → List Statement → Type 0
RunsAlike {w = w} k levels ss = Alike k (EndedIsVisible k.hides) (run_file (by_names w) w levels ss) (run_file (by_names (with_other k.other w)) (with_other k.other w) levels ss)

-- a file in which nothing is misplaced, in its surroundings
pub file_alike : {w : Setting} (k : Veil w) (levels : ℕ) (ss : List Statement) (here : StatementContext) → in_statements ss here ≡ [] → (here.in_file ≡ true → Every (LoadsAreShared k) ss) → RunsAlike k levels ss
file_alike {w = w} k levels ss here h r = alike-run_file k (by_names w) (by_names (with_other k.other w)) levels ss here (names_alike k) (placed_each k here ss h r)

-- .. the file of a run, of which all names that it loads are read
pub own_alike : {w : Setting} (k : Veil w) (levels : ℕ) (ss : List Statement) → misplaced ss ≡ [] → Every (LoadsAreShared k) ss → RunsAlike k levels ss
own_alike k levels ss h r = file_alike k levels ss of_file h (λ _. r)

-- .. the prelude's own file
pub prelude_alike : {w : Setting} (k : Veil w) (levels : ℕ) (ss : List Statement) → in_statements ss of_prelude ≡ [] → RunsAlike k levels ss
prelude_alike k levels ss h = file_alike k levels ss of_prelude h (λ e. absurd (false≢true e))
