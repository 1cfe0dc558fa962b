-- The run of a file by places with other outlines is its run by names, by induction on the levels that may still be
-- opened.
use Rattle.std.proofs.Common.{◌≡◌, ℕ, zero, suc, List, [], ◌∷◌, Option, Some, None, refl, ap, sym, subst, nat_eq}
use Rattle.star_store.specs.declared.values.Value.{Value}
use Rattle.star_tree.specs.declared.tree.Statement.{Statement}
use Rattle.star_outline.specs.Syntax.{expression, form_of, position_of, target}
use Rattle.star_scope.specs.Uses.{in_statement, uses}
use Rattle.star_meaning.specs.declared.site.Site.{Site}
use Rattle.star_meaning.specs.Run.{Action, ◌>>=◌, each, give, seeing}
use Rattle.star_meaning.specs.Program.{Setting, blocks_in, outline_of, seen}
use Rattle.star_meaning.specs.Values.{repr}
use Rattle.star_outline.specs.Outlines.{Outline, names_in}
use Rattle.star_meaning.specs.Variables.{by_names, frame_of}
use Rattle.star_meaning.specs.Semantics.{Semantics}
use Rattle.star_meaning.specs.Module.{Ended, bound_names, by_name, global_text, loaded_names, slots_of, without_loaded, at_line, end, last_line, meaning, most_levels, one_more, run_file, start}
use Rattle.star_meaning.specs.Local.{Trees, outlines}
use Rattle.star_meaning.specs.Places.{AllFit, IsResolved, Stands, Tables, by_places}
use Rattle.star_meaning.proofs.Agree.{Agree, agree_block, agree_frame, agree_then}
use Rattle.star_meaning.proofs.AgreeParts.{AllAgree, Known, Scene}
use Rattle.star_needs.proofs.SeenParts.{agree-parts_node, agree-target_node}
use Rattle.star_needs.proofs.SeenCalls.{agree-run}
use Rattle.star_needs.proofs.SeenNodes.{agree-node, agree-statement}
use Rattle.star_meaning.proofs.DefinedFiles.{definitions_stand, uses_are}
use Rattle.star_meaning.proofs.UsesOf.{Sub, all, by, every, of_expression, of_statement, of_target}
use Rattle.star_meaning.proofs.ByPlaces.{line_file, line_frame, none_agree, paying, keeps-end}
use Rattle.star_needs.proofs.Outlines.{with_outlines}
use Rattle.star_needs.proofs.Sight.{Sight, alike}

scene : (tables : Tables) (trees : Trees) (w : Setting) (sight : Sight trees w) (m n : Semantics) (p : Site) (ss : List Statement) (chain : List ℕ) → Known tables trees w → AllAgree trees w m n → Stands trees p.file ss → Scene tables trees w m n p ss chain
scene tables trees w sight m n p ss chain k a h = record { known = k; parts = a; stands = h }

abbrev StatementAgrees : Tables → (trees : Trees) → (w : Setting) → Sight trees w → ℕ → Semantics → Semantics → Statement → List ℕ → Site → ℕ → Value → Type 0
StatementAgrees tables trees w sight levels m n x chain p file frame = Agree trees w file chain (Some frame) ((one_more (by_places tables (with_outlines sight.outlines w)) (with_outlines sight.outlines w) levels m).stmt p x) ((one_more (by_names w) w levels n).stmt p x)

stmt_agree : (tables : Tables) (trees : Trees) (w : Setting) (sight : Sight trees w) (levels : ℕ) (m n : Semantics) (p : Site) (x : Statement) (ss : List Statement) (chain : List ℕ) → Known tables trees w → AllAgree trees w m n → Stands trees p.file ss → Sub (in_statement x chain) (uses ss)
    → Agree trees w p.file chain (Some p.frame) ((one_more (by_places tables (with_outlines sight.outlines w)) (with_outlines sight.outlines w) levels m).stmt p x) ((one_more (by_names w) w levels n).stmt p x)
stmt_agree tables trees w sight levels m n p x ss chain k a h s =
    let q : Site = at_line w p x in
    let file : q.file ≡ p.file = line_file (nat_eq p.file w.home) p (position_of x).line in
    let frame : q.frame ≡ p.frame = line_frame (nat_eq p.file w.home) p (position_of x).line in
    let there : Stands trees q.file ss = subst (λ z. Stands trees z ss) (sym file) h in
    let agrees : Agree trees w q.file chain (Some q.frame) ((one_more (by_places tables (with_outlines sight.outlines w)) (with_outlines sight.outlines w) levels m).stmt p x) ((one_more (by_names w) w levels n).stmt p x) =
    paying trees w q.file chain (Some q.frame) q.line _ _ (agree-statement tables trees w sight m n q ss chain (scene tables trees w sight m n q ss chain k a there) levels (position_of x) (form_of x) (by _ _ (uses ss) (of_statement x chain) s)) in
    subst (λ z. StatementAgrees tables trees w sight levels m n x chain p z p.frame) file (subst (λ z. StatementAgrees tables trees w sight levels m n x chain p q.file z) frame agrees)

more_agree : (tables : Tables) (trees : Trees) (w : Setting) (sight : Sight trees w) (levels : ℕ) (m n : Semantics) → Known tables trees w → AllAgree trees w m n → AllAgree trees w (one_more (by_places tables (with_outlines sight.outlines w)) (with_outlines sight.outlines w) levels m) (one_more (by_names w) w levels n)
more_agree tables trees w sight levels m n k a = record {
  expr = λ p e ss chain h s. paying trees w p.file chain (Some p.frame) p.line _ _ (agree-node tables trees w sight m n p ss chain (scene tables trees w sight m n p ss chain k a h) levels (expression e) (by _ _ (uses ss) (of_expression e chain) s));
  stmt = λ p x ss chain h s. stmt_agree tables trees w sight levels m n p x ss chain k a h s;
  assign = λ p t v ss chain h s. paying trees w p.file chain (Some p.frame) p.line _ _ (agree-target_node tables trees w sight m n p ss chain (scene tables trees w sight m n p ss chain k a h) levels (target t) v (by _ _ (uses ss) (of_target t chain) s));
  parts = λ p e i ss chain h s u. paying trees w p.file chain (Some p.frame) p.line _ _ (agree-parts_node tables trees w sight m n p ss chain (scene tables trees w sight m n p ss chain k a h) levels e i s u);
  call = λ p f d xs ss chain h s is named. agree-run tables trees w sight m n p f d xs ss chain k a h s is named;
}

pub meaning_agrees : (tables : Tables) (trees : Trees) (w : Setting) (sight : Sight trees w) (levels : ℕ) → Known tables trees w → AllAgree trees w (meaning (by_places tables (with_outlines sight.outlines w)) (with_outlines sight.outlines w) levels) (meaning (by_names w) w levels)
unfolding meaning
meaning_agrees tables trees w sight zero k = none_agree trees w
meaning_agrees tables trees w sight (suc levels) k = more_agree tables trees w sight levels (meaning (by_places tables (with_outlines sight.outlines w)) (with_outlines sight.outlines w) levels) (meaning (by_names w) w levels) k (meaning_agrees tables trees w sight levels k)

abbrev ending : Option Outline → Setting → ℕ → ℕ → Value → Action Ended
ending o w levels line frame =
    seeing (λ s. each (global_text w levels line) (by_name (without_loaded (loaded_names o) (bound_names (names_in (blocks_in o) 0) (slots_of (frame_of (seen w s frame))))))
    >>= λ ts. give (record { globals = by_name (without_loaded (loaded_names o) (bound_names (names_in (blocks_in o) 0) (slots_of (frame_of (seen w s frame))))); texts = ts }))

same-end : (os : List (Option Outline)) (w : Setting) (levels line : ℕ) (frame : Value) → outline_of (with_outlines os w) w.home ≡ outline_of w w.home → end (with_outlines os w) levels line frame ≡ end w levels line frame
unfolding repr
same-end os w levels line frame e = ap (λ o. ending o w levels line frame) e

file_agrees : (tables : Tables) (trees : Trees) (w : Setting) (sight : Sight trees w) (levels : ℕ) (ss : List Statement) → Known tables trees w → Stands trees w.home ss → Agree trees w w.home [] None (run_file (by_places tables (with_outlines sight.outlines w)) (with_outlines sight.outlines w) levels ss) (run_file (by_names w) w levels ss)
file_agrees tables trees w sight levels ss k h =
    let a = meaning_agrees tables trees w sight levels k in
    agree_frame tables trees w k.resolved w.home 0 ss [] None _ _ h (λ v.
    agree_then trees w w.home (0 ∷ []) (Some v) _ _ _ _
    (agree_block trees w w.home (0 ∷ []) (Some v) (λ x. Sub (in_statement x (0 ∷ [])) (uses ss)) _ _ (λ x s. a.stmt (record { file = w.home; frame = v; line = 1 }) x ss (0 ∷ []) h s) ss
    (every in_statement ss (0 ∷ []) (uses ss) (by _ _ (uses ss) (uses_are ss) (all (uses ss)))))
    (λ _. alike trees w w.home (0 ∷ []) (Some v) _ _ (same-end sight.outlines w levels (last_line 1 ss) v (sight.same w.home ss h)) (keeps-end w levels (last_line 1 ss) v)))

-- The run of a file by places with other outlines is its run by names, if these are the same for all files whose
-- functions are seen.
pub outlines_seen : (tables : Tables) (trees : Trees) (w : Setting) (ss : List Statement) (steps : ℕ) → w.outlines ≡ outlines trees → Stands trees w.home ss
    → ((file : ℕ) (us : List Statement) → Stands trees file us → IsResolved tables w file us) → AllFit trees w (start w steps) → (sight : Sight trees w)
    → run_file (by_places tables (with_outlines sight.outlines w)) (with_outlines sight.outlines w) most_levels ss (start w steps) ≡ run_file (by_names w) w most_levels ss (start w steps)
outlines_seen tables trees w ss steps o stands resolved fit sight =
    let known : Known tables trees w = record { resolved = record { outlines = o; files = resolved }; definitions = definitions_stand trees w o (λ file us h. (resolved file us h).numbers) } in
    ((file_agrees tables trees w sight most_levels ss known stands).holds (start w steps) fit refl).0
