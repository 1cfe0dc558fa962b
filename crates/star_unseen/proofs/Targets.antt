-- Targets over both shelves.
use Rattle.std.proofs.Common.{ℕ, nat_eq, List, [], ◌∷◌, length}
use Rattle.star_store.specs.declared.values.Value.{Value}
use Rattle.star_tree.specs.declared.tree.Expression.{Expression}
use Rattle.star_tree.specs.declared.tree.Target.{Target}
use Rattle.star_tree.specs.declared.tree.Argument.TheOpen as tree
use Rattle.star_outline.specs.Syntax.{TargetForm, target}
use Rattle.star_meaning.specs.declared.fault.FaultCode.TheVariants as code
use Rattle.star_meaning.specs.declared.site.Site.{Site}
use Rattle.star_meaning.specs.Program.{Setting, Variables}
use Rattle.star_meaning.specs.Semantics.{Semantics}
use Rattle.star_meaning.specs.Targets.{parts_node, target_node, to_each, to_form, to_target, unpack}
use Rattle.star_unseen.specs.Veil.{AreVisible, IsVisible}
use Rattle.star_unseen.specs.Shelves.{Veil, with_other}
use Rattle.star_unseen.proofs.Alike.{Alike, Any, alike_check, alike_fail, alike_give, alike_then}
use Rattle.star_unseen.proofs.Visible.{ReadIsVisible, SiteIsVisible}
use Rattle.star_unseen.proofs.Parts.{AllAlike, VariablesAlike}
use Rattle.star_unseen.proofs.Subscript.{alike-index, alike-set_index}
use Rattle.star_unseen.proofs.Values.{alike-take_all}

pub alike-to_form : {w : Setting} (k : Veil w) (vs us : Variables) (m n : Semantics) (p : Site) (t : Target) (v : Value) (x : TargetForm) → VariablesAlike k vs us → AllAlike k m n → SiteIsVisible k.hides p → IsVisible k.hides v → Alike k Any (to_form vs m p t v x) (to_form us n p t v x)
alike-to_form k vs us m n p t v (tree.Target-F.Target::Name x) a b c h = a.bind p x v c h
alike-to_form k vs us m n p t v (tree.Target-F.Target::Index e i) a b c h = b.assign p t v c h
alike-to_form k vs us m n p t v (tree.Target-F.Target::Tuple ts) a b c h = b.assign p t v c h
alike-to_form k vs us m n p t v (tree.Target-F.Target::List ts) a b c h = b.assign p t v c h

pub alike-to_target : {w : Setting} (k : Veil w) (vs us : Variables) (m n : Semantics) (p : Site) (t : Target) (v : Value) → VariablesAlike k vs us → AllAlike k m n → SiteIsVisible k.hides p → IsVisible k.hides v → Alike k Any (to_target vs m p t v) (to_target us n p t v)
alike-to_target k vs us m n p t v a b c h = alike-to_form k vs us m n p t v (target t) a b c h

pub alike-to_each : {w : Setting} (k : Veil w) (vs us : Variables) (m n : Semantics) (p : Site) (ts : List Target) (xs : List Value) → VariablesAlike k vs us → AllAlike k m n → SiteIsVisible k.hides p → AreVisible k.hides xs → Alike k Any (to_each vs m p ts xs) (to_each us n p ts xs)
alike-to_each k vs us m n p [] [] a b c h = alike_give {A = Unit {0}} Any tt tt
alike-to_each k vs us m n p (t ∷ ts) (x ∷ xs) a b c h = alike_then (alike-to_target k vs us m n p t x a b c h.0) (λ _ _. alike-to_each k vs us m n p ts xs a b c h.1)
alike-to_each k vs us m n p [] (x ∷ xs) a b c h = alike_fail (Unit {0}) Any code.BadValue p.line
alike-to_each k vs us m n p (t ∷ ts) [] a b c h = alike_fail (Unit {0}) Any code.BadValue p.line

pub alike-unpack : {w : Setting} (k : Veil w) (vs us : Variables) (m n : Semantics) (p : Site) (ts : List Target) (v : Value) → VariablesAlike k vs us → AllAlike k m n → SiteIsVisible k.hides p → IsVisible k.hides v → Alike k Any (unpack vs w m p ts v) (unpack us (with_other k.other w) n p ts v)
alike-unpack k vs us m n p ts v a b c h =
    alike_then (alike-take_all k p.line v h) (λ xs hs.
    alike_then (alike_check code.BadValue p.line (nat_eq (length xs) (length ts))) (λ _ _.
    alike-to_each k vs us m n p ts xs a b c hs))

pub alike-target_node : {w : Setting} (k : Veil w) (vs us : Variables) (levels : ℕ) (m n : Semantics) (p : Site) (x : TargetForm) (v : Value) → VariablesAlike k vs us → AllAlike k m n → SiteIsVisible k.hides p → IsVisible k.hides v → Alike k Any (target_node vs w levels m p x v) (target_node us (with_other k.other w) levels n p x v)
alike-target_node k vs us levels m n p (tree.Target-F.Target::Name x) v a b c h = a.bind p x v c h
alike-target_node k vs us levels m n p (tree.Target-F.Target::Index e i) v a b c h =
    alike_then (b.expr p e c) (λ x hx. alike_then (b.expr p i c) (λ j hj. alike-set_index k levels p.line x j v hx hj h))
alike-target_node k vs us levels m n p (tree.Target-F.Target::Tuple ts) v a b c h = alike-unpack k vs us m n p ts v a b c h
alike-target_node k vs us levels m n p (tree.Target-F.Target::List ts) v a b c h = alike-unpack k vs us m n p ts v a b c h

pub alike-parts_node : {w : Setting} (k : Veil w) (levels : ℕ) (m n : Semantics) (p : Site) (e i : Expression) → AllAlike k m n → SiteIsVisible k.hides p → Alike k (ReadIsVisible k.hides) (parts_node w levels m p e i) (parts_node (with_other k.other w) levels n p e i)
alike-parts_node k levels m n p e i b c =
    alike_then (b.expr p e c) (λ x hx. alike_then (b.expr p i c) (λ j hj. alike_then (alike-index k levels p.line x j hx hj) (λ v hv.
    alike_give (ReadIsVisible k.hides) (record { base = x; index = j; old = v }) (hx, hj, hv))))
