use Rattle.std.proofs.Common.{rules, ◌≡◌, [], ◌∷◌, ap, sym, ◌∙◌, subst}
use Rattle.star_tree.specs.declared.tree.Form.{out-Form}
use Rattle.star_tree.specs.declared.tree.Statement.{out-Statement}
use Rattle.std.specs.List.{flat_map}
use Rattle.star_scope.specs.Faults.{first_from}
use Rattle.star_scope.specs.Loads.{Adds, LeadsTo, Written, load_in, module_fault, private_fault, written_in}
use Rattle.star_scope.proofs.LoadStatements.{add_none, add_one, is_load, not_load}
use Rattle.star_scope.proofs.loads.add_statement.Goals as goal

pub returns-in_ok-push_load-in-Load-clause-adds : goal.returns-in_ok-push_load-in-Load-clause-adds
returns-in_ok-push_load-in-Load-clause-adds c =
    let files = c.args.files.now in
    let here = c.args.package.now in
    let w : Written = record { position = (out-Statement c.args.statement.now).position; module_string = c.in-Load.module_string; names = c.in-Load.names } in
    let whole : written_in c.args.statement.now ≡ w ∷ [] =
    ap (λ f. load_in (out-Statement c.args.statement.now).position (out-Form f)) c.in-Load.is ∙ is_load _ c.in-Load.module_string c.in-Load.names in
    let faults : c.private_faults-loads.result ≡ first_from (first_from c.args.loads.now.first (module_fault w.module_string.position c.in_ok-lead-in-Load.lead)) (flat_map private_fault w.names) =
    search rules in
    subst (λ ws. Adds files here ws c.args.loads.now.loads.items c.push_load.new.loads.items c.args.loads.now.first c.private_faults-loads.result) (sym whole)
    (add_one files here w c.in_ok-lead-in-Load.lead c.args.loads.now.loads.items c.push_load.new.loads.items c.args.loads.now.first c.private_faults-loads.result
    (subst (λ t. LeadsTo files here t c.in_ok-lead-in-Load.lead) c.as_str.ensures c.in_ok-lead-in-Load.ensures.leads) c.in_ok-push_load-in-Load.ensures faults)

pub returns-in_default : goal.returns-in_default
returns-in_default c =
    let files = c.args.files.now in
    let here = c.args.package.now in
    let none : written_in c.args.statement.now ≡ [] = not_load _ (out-Statement c.args.statement.now).form c.in_default.not-Load in
    record {
      adds = subst (λ ws. Adds files here ws c.args.loads.now.loads.items c.args.loads.now.loads.items c.args.loads.now.first c.args.loads.now.first) (sym none)
          (add_none files here c.args.loads.now.loads.items c.args.loads.now.first);
      memory = tt;
    }
