use Rattle.std.proofs.Common.{rules, ◌≡◌, if◌then◌else◌}
use Rattle.std.specs.Cmp.Lexicographic.{slice_cmp}
use Rattle.std.specs.Ordering.{nat_cmp}
use Rattle.std.specs.BTreeSet.{insert_key}
use Rattle.star_scope.specs.Bound.{binding, is_in, names_of}
use Rattle.star_scope.specs.Conflicts.{conflict_at}
use Rattle.star_scope.specs.Faults.{first_from}
use Rattle.star_scope.proofs.Bindings.{bind_one}
use Rattle.star_scope.proofs.conflicts.bind.Goals as goal

pub returns : goal.returns
returns c =
    let old = c.args.bound.now in
    let name = c.args.name.now in
    let all : names_of c.insert.new.names ≡ insert_key (slice_cmp nat_cmp) (names_of old.all) name.text = search rules in
    let own : names_of c.insert_where.new.names ≡ (if c.args.alone then insert_key (slice_cmp nat_cmp) (names_of old.alone) name.text else names_of old.alone) = search rules in
    let found : c.conflict-bound.result ≡ first_from old.found (conflict_at (is_in (if c.args.alone then names_of old.all else names_of old.alone) name.text) name.position) = search rules in
    bind_one old (record { all = c.insert.new.names; alone = c.insert_where.new.names; found = c.conflict-bound.result }) (binding name c.args.alone) all own found
