use Rattle.std.proofs.Common.{◌≡◌, ◌≢◌, ◌<◌, ◌≤◌, ◌+◌, false, length, arith, sym, subst}
use Rattle.star_label.specs.Files.{text_at}
use Rattle.star_needs.proofs.Moves.{length_same}
use Rattle.star_memo.specs.declared.readings.Readings.{Readings}
use Rattle.star_memo.proofs.ReadingsStay.{StayBelow, all_stay, more_stay, none_stay, one_goes}
use Rattle.star_memo.proofs.readings.Readings.forget_changed.Goals as goal
use Rattle.star_memo.proofs.readings.Readings.forget_changed.Goals.{then-not-has_text, else-not-has_text}

pub loop-n-init : goal.loop-n-init
loop-n-init c = none_stay c.args.compared.now.before c.args.compared.now.files c.args.self.now

pub loop-n-preserved : goal.loop-n-preserved
loop-n-preserved c =
    let before = c.args.compared.now.before in
    let files = c.args.compared.now.files in
    let old = c.args.self.now in
    let so_far = c.loop-n.invariant in
    let size = length_same before files c.requires in
    let less : c.loop-n.n < length files = omega (arith, c.count-n-end.ensures.count, c.loop-n-test.true) in
    let other : c.has_text.result ≡ false → text_at before c.loop-n.n ≢ text_at files c.loop-n.n = λ no text. (let is = c.has_text.ensures.same (omega (arith, size, less)) less text in let none : ⊥ = cc (is, no) in none) in
    let Next = λ (r : Readings). StayBelow before files (c.loop-n.n + 1) old r in
    elim c.if-not-has_text.branch [
      | then-not-has_text w ↦ subst Next (sym w.self-is) (record {
        prelude = so_far.prelude;
        language = so_far.language;
        reads = one_goes before files c.loop-n.n old.reads.all.items c.loop-n.self.reads.all.items w.forget.new.row.items (other w.if-not-has_text.true) w.forget.ensures.gone w.forget.ensures.others so_far.reads;
        parses = one_goes before files c.loop-n.n old.parses.items c.loop-n.self.parses.items w.forget-then-not-has_text.new.row.items (other w.if-not-has_text.true) w.forget-then-not-has_text.ensures.gone w.forget-then-not-has_text.ensures.others so_far.parses;
      })
      | else-not-has_text w ↦ subst Next (sym w.self-is) (more_stay before files c.loop-n.n old c.loop-n.self (c.has_text.ensures.text w.if-not-has_text.false) so_far)
    ]

pub returns-clause-left : goal.returns-clause-left
returns-clause-left c =
    let all : length c.args.compared.now.files ≤ c.loop-n.n = omega (arith, c.count-n-end.ensures.count, c.loop-n-test.false) in
    all_stay c.args.compared.now.before c.args.compared.now.files c.loop-n.n c.args.self.now c.loop-n.self c.requires all c.loop-n.invariant
