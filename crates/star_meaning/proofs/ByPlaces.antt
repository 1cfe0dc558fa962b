-- The run of a file by places is its run by names, by induction on the levels that may still be opened.
use Rattle.std.proofs.Common.{◌≡◌, ℕ, zero, suc, List, [], ◌∷◌, Option, Some, None, refl, sym, subst, nat_eq, Bool, true, false, if◌then◌else◌}
use Rattle.star_store.specs.declared.values.Value.{Value}
use Rattle.star_tree.specs.declared.tree.Statement.{Statement}
use Rattle.star_outline.specs.Syntax.{expression, form_of, position_of, target}
use Rattle.star_scope.specs.Uses.{in_statement, uses}
use Rattle.star_meaning.specs.declared.site.Site.{Site}
use Rattle.star_meaning.specs.Run.{Outcome, Done, Failed, Action, ◌>>=◌, pay}
use Rattle.star_meaning.specs.Program.{Setting}
use Rattle.star_meaning.specs.Variables.{by_names}
use Rattle.star_meaning.specs.Semantics.{Semantics}
use Rattle.star_meaning.specs.Module.{Ended, at_line, end, last_line, meaning, most_levels, nothing_opens, one_more, run_file, start}
use Rattle.star_meaning.specs.Local.{Trees}
use Rattle.star_meaning.specs.Places.{FitAfter, PlacesMeanNames, Stands, Tables, by_places}
use Rattle.star_meaning.proofs.Agree.{Agree, Good, agree_block, agree_fail, agree_frame, agree_kept, agree_then}
use Rattle.star_meaning.proofs.AgreeParts.{AllAgree, Known, Scene, agree-parts_node, agree-target_node}
use Rattle.star_meaning.proofs.AgreeCalls.{agree-run}
use Rattle.star_meaning.proofs.AgreeNodes.{agree-node, agree-statement}
use Rattle.star_meaning.proofs.DefinedFiles.{definitions_stand, uses_are}
use Rattle.star_meaning.proofs.UsesOf.{Sub, all, by, every, of_expression, of_statement, of_target}
use Rattle.star_meaning.proofs.Keeps.{Keeps, keeps, keeps_pay}
use Rattle.star_meaning.proofs.KeepsModule.{keeps-global_text}

-- a statement of the running file has a line of its own, and has the same place
pub line_file : (b : Bool) (p : Site) (line : ℕ) → (if b then record p { line = line } else p).file ≡ p.file
line_file true p line = refl
line_file false p line = refl

pub line_frame : (b : Bool) (p : Site) (line : ℕ) → (if b then record p { line = line } else p).frame ≡ p.frame
line_frame true p line = refl
line_frame false p line = refl

pub none_agree : (trees : Trees) (w : Setting) → AllAgree trees w (nothing_opens w) (nothing_opens w)
none_agree trees w = record {
  expr = λ p e ss chain h k. agree_fail _ trees w p.file chain (Some p.frame) _ _;
  stmt = λ p x ss chain h k. agree_fail _ trees w p.file chain (Some p.frame) _ _;
  assign = λ p t v ss chain h k. agree_fail _ trees w p.file chain (Some p.frame) _ _;
  parts = λ p e i ss chain h k l. agree_fail _ trees w p.file chain (Some p.frame) _ _;
  call = λ p f d xs ss chain h k l named. agree_fail _ trees w f.file chain (Some f.frame) _ _;
}

scene : (tables : Tables) (trees : Trees) (w : Setting) (m n : Semantics) (p : Site) (ss : List Statement) (chain : List ℕ) → Known tables trees w → AllAgree trees w m n → Stands trees p.file ss → Scene tables trees w m n p ss chain
scene tables trees w m n p ss chain k a h = record { known = k; parts = a; stands = h }

pub paying : {A : Type 0} (trees : Trees) (w : Setting) (file : ℕ) (chain : List ℕ) (frame : Option Value) (line : ℕ) (a b : Action A) → Agree trees w file chain frame a b → Agree trees w file chain frame (pay line 1 >>= λ _. a) (pay line 1 >>= λ _. b)
paying trees w file chain frame line a b h = agree_then trees w file chain frame _ _ _ _ (agree_kept trees w file chain frame _ (keeps_pay line 1)) (λ _. h)

abbrev StatementAgrees : Tables → Trees → Setting → ℕ → Semantics → Semantics → Statement → List ℕ → Site → ℕ → Value → Type 0
StatementAgrees tables trees w levels m n x chain p file frame = Agree trees w file chain (Some frame) ((one_more (by_places tables w) w levels m).stmt p x) ((one_more (by_names w) w levels n).stmt p x)

stmt_agree : (tables : Tables) (trees : Trees) (w : Setting) (levels : ℕ) (m n : Semantics) (p : Site) (x : Statement) (ss : List Statement) (chain : List ℕ) → Known tables trees w → AllAgree trees w m n → Stands trees p.file ss → Sub (in_statement x chain) (uses ss)
    → Agree trees w p.file chain (Some p.frame) ((one_more (by_places tables w) w levels m).stmt p x) ((one_more (by_names w) w levels n).stmt p x)
stmt_agree tables trees w levels m n p x ss chain k a h s =
    let q : Site = at_line w p x in
    let file : q.file ≡ p.file = line_file (nat_eq p.file w.home) p (position_of x).line in
    let frame : q.frame ≡ p.frame = line_frame (nat_eq p.file w.home) p (position_of x).line in
    let there : Stands trees q.file ss = subst (λ z. Stands trees z ss) (sym file) h in
    let agrees : Agree trees w q.file chain (Some q.frame) ((one_more (by_places tables w) w levels m).stmt p x) ((one_more (by_names w) w levels n).stmt p x) =
    paying trees w q.file chain (Some q.frame) q.line _ _ (agree-statement tables trees w m n q ss chain (scene tables trees w m n q ss chain k a there) levels (position_of x) (form_of x) (by _ _ (uses ss) (of_statement x chain) s)) in
    subst (λ z. StatementAgrees tables trees w levels m n x chain p z p.frame) file (subst (λ z. StatementAgrees tables trees w levels m n x chain p q.file z) frame agrees)

more_agree : (tables : Tables) (trees : Trees) (w : Setting) (levels : ℕ) (m n : Semantics) → Known tables trees w → AllAgree trees w m n → AllAgree trees w (one_more (by_places tables w) w levels m) (one_more (by_names w) w levels n)
more_agree tables trees w levels m n k a = record {
  expr = λ p e ss chain h s. paying trees w p.file chain (Some p.frame) p.line _ _ (agree-node tables trees w m n p ss chain (scene tables trees w m n p ss chain k a h) levels (expression e) (by _ _ (uses ss) (of_expression e chain) s));
  stmt = λ p x ss chain h s. stmt_agree tables trees w levels m n p x ss chain k a h s;
  assign = λ p t v ss chain h s. paying trees w p.file chain (Some p.frame) p.line _ _ (agree-target_node tables trees w m n p ss chain (scene tables trees w m n p ss chain k a h) levels (target t) v (by _ _ (uses ss) (of_target t chain) s));
  parts = λ p e i ss chain h s u. paying trees w p.file chain (Some p.frame) p.line _ _ (agree-parts_node tables trees w m n p ss chain (scene tables trees w m n p ss chain k a h) levels e i s u);
  call = λ p f d xs ss chain h s is named. agree-run tables trees w m n p f d xs ss chain k a h s is named;
}

pub meaning_agrees : (tables : Tables) (trees : Trees) (w : Setting) (levels : ℕ) → Known tables trees w → AllAgree trees w (meaning (by_places tables w) w levels) (meaning (by_names w) w levels)
unfolding meaning
meaning_agrees tables trees w zero k = none_agree trees w
meaning_agrees tables trees w (suc levels) k = more_agree tables trees w levels (meaning (by_places tables w) w levels) (meaning (by_names w) w levels) k (meaning_agrees tables trees w levels k)

pub keeps-end : (w : Setting) (levels line : ℕ) (frame : Value) → Keeps true (end w levels line frame)
keeps-end w levels line frame = search (keeps, keeps-global_text) depth 14

file_agrees : (tables : Tables) (trees : Trees) (w : Setting) (levels : ℕ) (ss : List Statement) → Known tables trees w → Stands trees w.home ss → Agree trees w w.home [] None (run_file (by_places tables w) w levels ss) (run_file (by_names w) w levels ss)
file_agrees tables trees w levels ss k h =
    let a = meaning_agrees tables trees w levels k in
    agree_frame tables trees w k.resolved w.home 0 ss [] None _ _ h (λ v.
    agree_then trees w w.home (0 ∷ []) (Some v) _ _ _ _
    (agree_block trees w w.home (0 ∷ []) (Some v) (λ x. Sub (in_statement x (0 ∷ [])) (uses ss)) _ _ (λ x s. a.stmt (record { file = w.home; frame = v; line = 1 }) x ss (0 ∷ []) h s) ss
    (every in_statement ss (0 ∷ []) (uses ss) (by _ _ (uses ss) (uses_are ss) (all (uses ss)))))
    (λ _. agree_kept trees w w.home (0 ∷ []) (Some v) _ (keeps-end w levels (last_line 1 ss) v)))

after : (trees : Trees) (w : Setting) (steps : ℕ) (o : Outcome Ended) → Good trees w (start w steps) o → FitAfter trees w o
after trees w steps (Done e t) h = h.1
after trees w steps (Failed f lines) h = tt

pub places_mean_names : PlacesMeanNames
places_mean_names tables trees w ss steps o stands resolved fit =
    let known : Known tables trees w = record { resolved = record { outlines = o; files = resolved }; definitions = definitions_stand trees w o (λ file us h. (resolved file us h).numbers) } in
    let r = (file_agrees tables trees w most_levels ss known stands).holds (start w steps) fit refl in
    (r.0, after trees w steps (run_file (by_names w) w most_levels ss (start w steps)) r.1)
