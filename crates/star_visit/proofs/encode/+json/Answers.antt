use Rattle.std.proofs.Common.{◌≡◌, Some, length, rules, refl, arith, append_assoc, ◌∙◌, ◌++◌}
use Rattle.std.proofs.lemmas.Option.{slice_get_past, slice_get_read}
use Rattle.json.specs.Print.{quoted}
use Rattle.star_store.specs.Json.{colon, comma, line, members}
use Rattle.star_visit.specs.Sheets.{look_in}
use Rattle.star_visit.proofs.encode.+json.Goals as goal

pub put_dict-returns-clause-answer : goal.put_dict-returns-clause-answer
put_dict-returns-clause-answer t c =
    let e : members (look_in c.args.source.now) c.args.entries.now ≡ Some c.in-Some-2.members.items = search rules in
    rw (e, ← c.as_slice-3.ensures.value) c.put_object-2.ensures.answer

pub put_member-returns-in_err-put_json-clause-answer : goal.put_member-returns-in_err-put_json-clause-answer
put_member-returns-in_err-put_json-clause-answer t c =
    let xs = c.args.members.now in
    let there = slice_get_read xs (length xs) c.args.i c.index-members-i.result refl c.if-i-members.true c.index-members-i.is in
    let begun : c.begin_item.new.self.out ≡ c.args.sheet.now.out ++ (comma c.args.i ++ line c.args.source.now.layout.now c.args.depth) = c.in_ok-begin_item.ensures.said ∙ append_assoc c.args.sheet.now.out (comma c.args.i) (line c.args.source.now.layout.now c.args.depth) in
    let named : c.say_name.new.self.out ≡ c.begin_item.new.self.out ++ (quoted c.index-members-i.result.0 ++ colon c.args.source.now.layout.now) = c.in_ok-say_name.ensures.said ∙ append_assoc c.begin_item.new.self.out (quoted c.index-members-i.result.0) (colon c.args.source.now.layout.now) in
    rw (there, ← begun, ← named, ← c.in_ok-begin_item.ensures.steps, ← c.in_ok-say_name.ensures.steps) (search rules)

pub put_member-returns-in_ok-put_json-clause-answer : goal.put_member-returns-in_ok-put_json-clause-answer
put_member-returns-in_ok-put_json-clause-answer t c =
    let xs = c.args.members.now in
    let there = slice_get_read xs (length xs) c.args.i c.index-members-i.result refl c.if-i-members.true c.index-members-i.is in
    let begun : c.begin_item.new.self.out ≡ c.args.sheet.now.out ++ (comma c.args.i ++ line c.args.source.now.layout.now c.args.depth) = c.in_ok-begin_item.ensures.said ∙ append_assoc c.args.sheet.now.out (comma c.args.i) (line c.args.source.now.layout.now c.args.depth) in
    let named : c.say_name.new.self.out ≡ c.begin_item.new.self.out ++ (quoted c.index-members-i.result.0 ++ colon c.args.source.now.layout.now) = c.in_ok-say_name.ensures.said ∙ append_assoc c.begin_item.new.self.out (quoted c.index-members-i.result.0) (colon c.args.source.now.layout.now) in
    rw (there, ← begun, ← named, ← c.in_ok-begin_item.ensures.steps, ← c.in_ok-say_name.ensures.steps) c.in_ok-put_json.ensures.answer

pub put_member-returns-in_ok-say-clause-answer : goal.put_member-returns-in_ok-say-clause-answer
put_member-returns-in_ok-say-clause-answer t c =
    let begun : c.begin_item.new.self.out ≡ c.args.sheet.now.out ++ (comma c.args.i ++ line c.args.source.now.layout.now c.args.depth) = c.in_ok-begin_item.ensures.said ∙ append_assoc c.args.sheet.now.out (comma c.args.i) (line c.args.source.now.layout.now c.args.depth) in
    rw (slice_get_past c.args.members.now c.args.i (omega (arith, c.if-i-members.false)), c.in_ok-say.ensures.said, begun, c.in_ok-say.ensures.steps, c.in_ok-begin_item.ensures.steps) refl
