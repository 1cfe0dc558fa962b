-- Load statements one after another.
use Rattle.std.proofs.Common.{◌≡◌, ◌<◌, ◌+◌, ℕ, List, [], ◌∷◌, ◌++◌, Option, refl, ap, sym, ◌∙◌, length, map, append-nil, take}
use Rattle.std.proofs.Math.ListN.{get_or}
use Rattle.std.specs.List.{flat_map}
use Rattle.std.proofs.lemmas.List.{map-append, append_assoc, take_more}
use Rattle.std.proofs.lemmas.Grind.{flat_map-append}
use Rattle.star_label.specs.Files.{File}
use Rattle.star_scope.specs.declared.error.LocatedFault.{LocatedFault}
use Rattle.star_scope.specs.declared.loads.LoadTarget.{LoadTarget}
use Rattle.star_scope.specs.declared.loads.Load.{Load}
use Rattle.star_tree.specs.declared.tree.Form.{Form, out-Form, roll-Form, roll-out-Form, out-roll-Form}
use Rattle.star_tree.specs.declared.tree.Arm.{Arm}
use Rattle.star_tree.specs.declared.tree.Statement.{Statement}
use Rattle.star_tree.specs.declared.tree.Form.TheOpen as form
use Rattle.star_tree.specs.declared.tree.Form.TheVariants as v
use Rattle.star_tree.specs.declared.tree.Position.{Position}
use Rattle.star_tree.specs.declared.tree.Literal.{Literal}
use Rattle.star_tree.specs.declared.tree.LoadedName.{LoadedName}
use Rattle.star_scope.specs.Faults.{first_from}
use Rattle.star_scope.specs.Loads.{Adds, AllLead, LeadsTo, Read, Written, faults_of, load_at, load_in, load_of, module_fault, private_fault, written, written_in}
use Rattle.star_scope.proofs.Faults.{first_joined, first_none}

all_lead : (files : List File) (here : List ℕ) (xs ys : List Read) → AllLead files here xs → AllLead files here ys → AllLead files here (xs ++ ys)
all_lead files here [] ys h k = k
all_lead files here (x ∷ xs) ys h k = (h.0, all_lead files here xs ys h.1 k)

pub add_none : (files : List File) (here : List ℕ) (before : List Load) (found : Option LocatedFault) → Adds files here [] before before found found
add_none files here before found = record {
  reads = [];
  are = (refl, tt);
  loads = sym (append-nil before);
  faults = sym (first_none found);
}

pub add_one : (files : List File) (here : List ℕ) (w : Written) (l : LoadTarget) (before after : List Load) (found more : Option LocatedFault)
    → LeadsTo files here w.module_string.text l
    → after ≡ before ++ load_at w.position l
    → more ≡ first_from (first_from found (module_fault w.module_string.position l)) (flat_map private_fault w.names)
    → Adds files here (w ∷ []) before after found more
add_one files here w l before after found more leads loads faults = record {
  reads = (w, l) ∷ [];
  are = (refl, (leads, tt));
  loads = loads ∙ ap (λ ls. before ++ ls) (sym (append-nil (load_at w.position l)));
  faults = faults ∙ sym (first_joined found (module_fault w.module_string.position l) (flat_map private_fault w.names))
      ∙ ap (λ fs. first_from found fs) (sym (append-nil (faults_of (w, l))));
}

pub add_both : (files : List File) (here : List ℕ) (vs ws : List Written) (a b c : List Load) (f g h : Option LocatedFault)
    → Adds files here vs a b f g → Adds files here ws b c g h → Adds files here (vs ++ ws) a c f h
add_both files here vs ws a b c f g h x y = record {
  reads = x.reads ++ y.reads;
  are = (
    map-append (λ r. r.0) x.reads y.reads ∙ ap (λ us. us ++ map (λ r. r.0) y.reads) x.are.0 ∙ ap (λ us. vs ++ us) y.are.0,
    all_lead files here x.reads y.reads x.are.1 y.are.1,
  );
  loads = y.loads ∙ ap (λ ls. ls ++ flat_map load_of y.reads) x.loads ∙ append_assoc a (flat_map load_of x.reads) (flat_map load_of y.reads)
      ∙ ap (λ ls. a ++ ls) (sym (flat_map-append load_of x.reads y.reads));
  faults = y.faults ∙ ap (λ o. first_from o (flat_map faults_of y.reads)) x.faults
      ∙ sym (first_joined f (flat_map faults_of x.reads) (flat_map faults_of y.reads))
      ∙ ap (λ fs. first_from f fs) (sym (flat_map-append faults_of x.reads y.reads));
}

-- a load statement, and a statement of another form
pub is_load : (p : Position) (l : Literal) (ns : List LoadedName) → load_in p (out-Form (v.Load l ns)) ≡ record { position = p; module_string = l; names = ns } ∷ []
is_load p l ns = ap (load_in p) (ap out-Form (sym (v.rolls-Load l ns)) ∙ out-roll-Form (form.Load l ns))

level : (p : Position) (f : form.Form-F Form Arm Statement) → ((l : Literal) (ns : List LoadedName) → f ≡ form.Load l ns → ⊥) → load_in p f ≡ []
level p (form.Load l ns) other = elim (other l ns refl) [ ]
level p _ other = refl

pub not_load : (p : Position) (f : Form) → ((l : Literal) (ns : List LoadedName) → f ≡ v.Load l ns → ⊥) → load_in p (out-Form f) ≡ []
not_load p f other = level p (out-Form f) (λ l ns e. other l ns (sym (roll-out-Form f) ∙ ap roll-Form e ∙ v.rolls-Load l ns))

-- the load statements of statements and one statement more
pub written_more : (ss : List Statement) (i : ℕ) (s : Statement) → i < length ss → s ≡ get_or ss i s → written (take (i + 1) ss) ≡ written (take i ss) ++ written_in s
written_more ss i s lt is =
    ap written (take_more ss i s lt) ∙ flat_map-append written_in (take i ss) (get_or ss i s ∷ [])
    ∙ ap (λ ws. written (take i ss) ++ ws) (append-nil (written_in (get_or ss i s)) ∙ ap written_in (sym is))
