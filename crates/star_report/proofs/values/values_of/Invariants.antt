use Rattle.std.proofs.Common.{◌≡◌, filter, fold, map, take, string_bytes}
use Rattle.std.specs.Option.{option_copied}
use Rattle.serde_json.specs.Data.{no_members, string}
use Rattle.serde_json.specs.View.{view}
use Rattle.star_store.specs.Store.{look}
use Rattle.star_report.specs.Shelf.{globals_in}
use Rattle.star_report.specs.Texts.{AreTexts}
use Rattle.star_report.specs.Values.{global_data, is_opaque, with_value}
use Rattle.star_report.proofs.values.values_of.Given as goal

abbrev pub invariant-loop-global : goal.invariant-loop-global
invariant-loop-global l =
    let f = global_data (look l.arena l.homes) (globals_in (option_copied l.fn.own)) in
    record {
      values : AreTexts l.all.values.entries (fold (with_value f) no_members (map (λ g. string_bytes g.0) (take l.global-index l.shown)));
      opaque : map view l.all.opaque.items ≡ map string (filter (is_opaque f) (map (λ g. string_bytes g.0) (take l.global-index l.shown)));
    }
