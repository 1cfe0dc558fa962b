-- A plan has one written text, and one answer.
use Rattle.std.proofs.Common.{arith, ◌≡◌, ◌⊎◌, ◌<◌, ◌↔◌, ℕ, zero, suc, Bool, true, false, List, [], ◌∷◌, ◌++◌, Result, Ok, Err, map, refl, ap, sym, subst, ◌∙◌, inl, inr}
use Rattle.std.specs.Prelude.{Contains, string_bytes}
use Rattle.std.specs.List.{All, AllPairs}
use Rattle.std.proofs.lemmas.List.Kept.{AllPairs-from_increasing}
use Rattle.serde_json.specs.Data.{Data}
use Rattle.star_label.specs.Files.{File}
use Rattle.star_cache.specs.State.{Loads}
use Rattle.star_cache.specs.Walk.{IsOnCycle}
use Rattle.star_plan.specs.Plan.{Plan, loaded}
use Rattle.star_meaning.specs.Module.{Good}
use Rattle.star_meaning.specs.declared.said.Said.{Said}
use Rattle.star_plan.specs.Results.{Outcome, Ran}
use Rattle.star_plan.proofs.Outcomes.{one-outcome}
use Rattle.star_report.specs.Calls.{AreCalls, HasFailed, HasSaid, IsFirstNotOk, IsNotOk, SaidBy, calls_from, label_json}
use Rattle.star_report.specs.Got.{AreGot, HasGot, IsFirstLack, got_of, got_text}
use Rattle.star_report.specs.Graph.{IsGraph, IsGraphText, IsNode, Node, graph_text}
use Rattle.star_report.specs.Output.{IsAnswer, IsOutput}
use Rattle.star_report.specs.declared.got.Lack.{Lack}
use Rattle.star_report.specs.declared.wanted.Output.{Output}
use Rattle.star_report.specs.declared.wanted.Output.TheVariants.{Calls, Check, Global, Graph, Report}
use Rattle.star_report.proofs.OneText.{one_full_text}
use Rattle.star_reply.proofs.Checks.{one_check_text}
use Rattle.star_plan.proofs.Rising.{same_rising}
use Rattle.star_reply.proofs.Goods.{all_good_too, same_answer}
use Rattle.star_reply.proofs.Rows.{same_rows}

-- ---- globals

one_has : (plan : Plan) (name : List ℕ) (n : ℕ) (r s : Result Data Lack) → HasGot plan name n r → HasGot plan name n s → r ≡ s
one_has plan name n r s (o, x, e) (p, y, g) = sym e ∙ (ap (got_of name) (one-outcome plan n o p x y) ∙ g)

one_got : (plan : Plan) (name ns : List ℕ) (ds es : List Data) → AreGot plan name ns ds → AreGot plan name ns es → ds ≡ es
one_got plan name [] [] [] a b = refl
one_got plan name [] [] (e ∷ es) a b = absurd b
one_got plan name [] (d ∷ ds) es a b = absurd a
one_got plan name (n ∷ ns) [] es a b = absurd a
one_got plan name (n ∷ ns) (d ∷ ds) [] a b = absurd b
one_got plan name (n ∷ ns) (d ∷ ds) (e ∷ es) a b =
    let both : Ok d ≡ Ok e = one_has plan name n (Ok d) (Ok e) a.0 b.0 in
    let head : d ≡ e = cc in
    ap (λ x. x ∷ ds) head ∙ ap (λ xs. e ∷ xs) (one_got plan name ns ds es a.1 b.1)

got_at : (plan : Plan) (name before : List ℕ) (n : ℕ) (after : List ℕ) (ds : List Data) → AreGot plan name (before ++ n ∷ after) ds → (d : Data) × HasGot plan name n (Ok d)
got_at plan name [] n after [] are = absurd are
got_at plan name [] n after (d ∷ ds) are = (d, are.0)
got_at plan name (x ∷ before) n after [] are = absurd are
got_at plan name (x ∷ before) n after (d ∷ ds) are = got_at plan name before n after ds are.1

no_lack : (plan : Plan) (name roots : List ℕ) (ds : List Data) (n : ℕ) (why : Lack) → AreGot plan name roots ds → IsFirstLack plan name roots n why → ⊥
no_lack plan name roots ds n why are lack =
    let there = got_at plan name lack.before n lack.after ds (subst (λ ns. AreGot plan name ns ds) lack.files_are are) in
    let both : Ok there.0 ≡ Err why = one_has plan name n (Ok there.0) (Err why) there.1 lack.lacks in
    let no : ⊥ = cc in
    no

-- ---- calls

calls_as : (o : Outcome) (cs ds : List Said) → SaidBy o cs → SaidBy o ds → cs ≡ ds
calls_as (Ran (Good shelf globals texts said)) cs ds h k = h ∙ sym k
calls_as o cs ds h k = absurd h

not_both : (o : Outcome) (cs : List Said) → SaidBy o cs → IsNotOk o → ⊥
not_both (Ran (Good shelf globals texts said)) cs h k = k
not_both o cs h k = absurd h

same_calls : (plan : Plan) (n : ℕ) (cs ds : List Said) → HasSaid plan n cs → HasSaid plan n ds → cs ≡ ds
same_calls plan n cs ds (o, x, h) (p, y, k) = calls_as p cs ds (subst (λ q. SaidBy q cs) (one-outcome plan n o p x y) h) k

one_calls : (files : List File) (plan : Plan) (name ns a b : List ℕ) → AreCalls files plan name ns a → AreCalls files plan name ns b → a ≡ b
one_calls files plan name [] a b h k = h ∙ sym k
one_calls files plan name (n ∷ ns) a b (cs, more, has, rest, is) (ds, other, too, left, also) =
    is
    ∙ ap (λ (xs : List Said). calls_from (label_json files n) name xs ++ more) (same_calls plan n cs ds has too)
    ∙ ap (λ t. calls_from (label_json files n) name ds ++ t) (one_calls files plan name ns more other rest left)
    ∙ sym also

calls_at : (files : List File) (plan : Plan) (name before : List ℕ) (n : ℕ) (after text : List ℕ) → AreCalls files plan name (before ++ n ∷ after) text → (cs : List Said) × HasSaid plan n cs
calls_at files plan name [] n after text (cs, more, has, rest, is) = (cs, has)
calls_at files plan name (x ∷ before) n after text (cs, more, has, rest, is) = calls_at files plan name before n after more rest

ok_and_not : (plan : Plan) (n : ℕ) (cs : List Said) → HasSaid plan n cs → HasFailed plan n → ⊥
ok_and_not plan n cs (o, x, h) (p, y, k) = not_both p cs (subst (λ q. SaidBy q cs) (one-outcome plan n o p x y) h) k

no_failed : (files : List File) (plan : Plan) (name roots text : List ℕ) (n : ℕ) → AreCalls files plan name roots text → IsFirstNotOk files plan name roots n → ⊥
no_failed files plan name roots text n are first =
    let there = calls_at files plan name first.before n first.after text (subst (λ ns. AreCalls files plan name ns text) first.files_are are) in
    ok_and_not plan n there.0 there.1 first.lacks

-- ---- graphs

-- the type of the items of a list
abbrev item_of : {A : Type 0} → List A → Type 0
item_of {A} xs = A

-- the type of edges
abbrev Edge : Type 0
Edge = item_of (let v : Node = record { file = 0; is_ok = true; edges = [] } in v.edges)

same_test : {A : Type 0} (b c : Bool) → (b ≡ true) ↔ A → (c ≡ true) ↔ A → b ≡ c
same_test true true f g = refl
same_test false false f g = refl
same_test true false f g = sym (g.1 (f.0 refl))
same_test false true f g = f.1 (g.0 refl)

abbrev Tests : (Edge → Type 0) → List Edge → Type 0
Tests A es = All (λ (e : Edge). (e.on_cycle ≡ true) ↔ A e) es

one_edge : (A : ℕ → Type 0) (e f : Edge) → e.to ≡ f.to → (e.on_cycle ≡ true) ↔ A e.to → (f.on_cycle ≡ true) ↔ A f.to → e ≡ f
one_edge A e f to p q =
    let cycle : e.on_cycle ≡ f.on_cycle = same_test e.on_cycle f.on_cycle p (subst (λ n. (f.on_cycle ≡ true) ↔ A n) (sym to) q) in
    ap (λ n. let x : Edge = record { to = n; on_cycle = e.on_cycle } in x) to ∙ ap (λ b. let x : Edge = record { to = f.to; on_cycle = b } in x) cycle

same_edges : (A : ℕ → Type 0) (es fs : List Edge) → map (λ (e : Edge). e.to) es ≡ map (λ (e : Edge). e.to) fs → Tests (λ (e : Edge). A e.to) es → Tests (λ (e : Edge). A e.to) fs → es ≡ fs
same_edges A = same_rows (λ (e : Edge). e.to) (λ (e : Edge). (e.on_cycle ≡ true) ↔ A e.to) (one_edge A)

same_node : (plan : Plan) (v w : Node) → v.file ≡ w.file → IsNode plan v → IsNode plan w → v ≡ w
same_node plan v w at p q =
    let other : IsNode plan (record { file = v.file; is_ok = w.is_ok; edges = w.edges }) = subst (λ n. IsNode plan (record { file = n; is_ok = w.is_ok; edges = w.edges })) (sym at) q in
    let ok : v.is_ok ≡ w.is_ok = same_test v.is_ok w.is_ok p.ok other.ok in
    let edges : v.edges ≡ w.edges = same_edges (IsOnCycle (Loads (loaded plan)) v.file) v.edges w.edges (p.edges ∙ sym other.edges) p.cycles other.cycles in
    ap (λ n. let x : Node = record { file = n; is_ok = v.is_ok; edges = v.edges } in x) at
    ∙ (ap (λ b. let x : Node = record { file = w.file; is_ok = b; edges = v.edges } in x) ok ∙ ap (λ es. let x : Node = record { file = w.file; is_ok = w.is_ok; edges = es } in x) edges)

same_nodes : (plan : Plan) (vs ws : List Node) → map (λ (v : Node). v.file) vs ≡ map (λ (v : Node). v.file) ws → All (IsNode plan) vs → All (IsNode plan) ws → vs ≡ ws
same_nodes plan = same_rows (λ (v : Node). v.file) (IsNode plan) (same_node plan)

one_graph : (plan : Plan) (vs ws : List Node) → IsGraph plan vs → IsGraph plan ws → vs ≡ ws
one_graph plan vs ws x y =
    let ns : List ℕ = map (λ (v : Node). v.file) vs in
    let ms : List ℕ = map (λ (v : Node). v.file) ws in
    same_nodes plan vs ws (same_rising ns ms (AllPairs-from_increasing ns x.in_order) (AllPairs-from_increasing ms y.in_order) (λ n h. (y.all n).0 ((x.all n).1 h)) (λ n h. (x.all n).0 ((y.all n).1 h))) x.each y.each

one_graph_text : (files : List File) (plan : Plan) (a b : List ℕ) → IsGraphText files plan a → IsGraphText files plan b → a ≡ b
one_graph_text files plan a b (vs, x, e) (ws, y, g) = e ∙ (ap (graph_text files) (one_graph plan vs ws x y) ∙ sym g)

-- ---- the written text

one_reply : (plan : Plan) (ok well : Bool) → IsAnswer plan ok → IsAnswer plan well → ok ≡ well
one_reply plan ok well (ks, are, good, bad) (js, also, fine, ill) = same_answer ok well good bad fine ill (all_good_too plan ks js are also) (all_good_too plan js ks also are)

pub one_output : (output : Output) (files : List File) (plan : Plan) (a b : List ℕ) (ok well : Bool) → IsOutput output files plan a ok → IsOutput output files plan b well → (a ≡ b) × (ok ≡ well)
one_output (Report wanted) files plan a b ok well h k = (one_full_text wanted files plan a b h.0 k.0, one_reply plan ok well h.1 k.1)
one_output (Global name) files plan a b true true (ds, x, e) (es, y, g) = (e ∙ (ap got_text (one_got plan (string_bytes name) plan.roots ds es x y) ∙ sym g), refl)
one_output (Global name) files plan a b true false (ds, x, e) ((n, why, y), g) = absurd (no_lack plan (string_bytes name) plan.roots ds n why x y)
one_output (Global name) files plan a b false true ((n, why, x), e) (ds, y, g) = absurd (no_lack plan (string_bytes name) plan.roots ds n why y x)
one_output (Global name) files plan a b false false (x, e) (y, g) = (e ∙ sym g, refl)
one_output (Calls name) files plan a b true true h k = (one_calls files plan (string_bytes name) plan.roots a b h k, refl)
one_output (Calls name) files plan a b true false h ((n, k), g) = absurd (no_failed files plan (string_bytes name) plan.roots a n h k)
one_output (Calls name) files plan a b false true ((n, h), e) k = absurd (no_failed files plan (string_bytes name) plan.roots b n k h)
one_output (Calls name) files plan a b false false (x, e) (y, g) = (e ∙ sym g, refl)
one_output Graph files plan a b ok well h k = (one_graph_text files plan a b h.0 k.0, one_reply plan ok well h.1 k.1)
one_output (Check only_roots calls) files plan a b ok well h k = (one_check_text only_roots calls files plan a b h.0 k.0, same_test ok well h.1 k.1)
