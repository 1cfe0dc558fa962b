-- Every run keeps the invariants of its parts, by induction on the levels that may still be opened.
use Rattle.std.proofs.Common.{ℕ, zero, suc}
use Rattle.star_outline.specs.Syntax.{expression, target, position_of, form_of}
use Rattle.star_meaning.specs.Program.{Setting, Variables}
use Rattle.star_meaning.specs.Variables.{by_names}
use Rattle.star_meaning.specs.Semantics.{Semantics}
use Rattle.star_meaning.specs.Module.{meaning, nothing_opens, one_more, at_line}
use Rattle.star_meaning.proofs.Keeps.{AllKeep, VariablesKeep, keeps_fail, keeps_pay, keeps_then}
use Rattle.star_meaning.proofs.KeepsVariables.{keeps-read_name, keeps-bind_name, keeps-new_frame}
use Rattle.star_meaning.proofs.KeepsTargets.{keeps-target_node, keeps-parts_node}
use Rattle.star_meaning.proofs.KeepsExpressions.{keeps-node}
use Rattle.star_meaning.proofs.KeepsStatements.{keeps-statement}
use Rattle.star_meaning.proofs.KeepsCalls.{keeps-run}

pub names_keep : (w : Setting) → VariablesKeep (by_names w)
names_keep w = record { read = keeps-read_name w; bind = keeps-bind_name w; frame = keeps-new_frame w }

none_keep : (w : Setting) → AllKeep (nothing_opens w)
none_keep w = record {
  expr = λ p e. keeps_fail _ _ _;
  stmt = λ p x. keeps_fail _ _ _;
  assign = λ p t v. keeps_fail _ _ _;
  parts = λ p e i. keeps_fail _ _ _;
  call = λ p f d shares. keeps_fail _ _ _;
}

more_keep : (vs : Variables) (w : Setting) (n : ℕ) (m : Semantics) → VariablesKeep vs → AllKeep m → AllKeep (one_more vs w n m)
more_keep vs w n m k h = record {
  expr = λ p e. keeps_then _ _ (keeps_pay p.line 1) (λ _. keeps-node vs w n m p (expression e) k h);
  stmt = λ p x. keeps_then _ _ (keeps_pay (at_line w p x).line 1) (λ _. keeps-statement vs w n m (at_line w p x) (position_of x) (form_of x) k h);
  assign = λ p t v. keeps_then _ _ (keeps_pay p.line 1) (λ _. keeps-target_node vs w n m p (target t) v k h);
  parts = λ p e i. keeps_then _ _ (keeps_pay p.line 1) (λ _. keeps-parts_node w n m p e i h);
  call = λ p f d shares. keeps-run vs m p f d shares k h;
}

pub meaning_keeps : (vs : Variables) (w : Setting) (n : ℕ) → VariablesKeep vs → AllKeep (meaning vs w n)
unfolding meaning
meaning_keeps vs w zero k = none_keep w
meaning_keeps vs w (suc n) k = more_keep vs w n (meaning vs w n) k (meaning_keeps vs w n k)
