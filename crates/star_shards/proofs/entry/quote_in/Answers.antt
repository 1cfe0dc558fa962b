use Rattle.std.proofs.Common.{◌≡◌, ◌<◌, ◌≤◌, true, false, get_or, length, sym, ◌∙◌, arith}
use Rattle.std.specs.Prelude.{nat_eq}
use Rattle.std.proofs.lemmas.Bool.Decides.{nat_tests}
use Rattle.star_shards.proofs.Strings.{quote_escaped, quote_here, quote_past, quote_step}
use Rattle.star_shards.proofs.entry.quote_in.Goals as goal

pub returns-then-byte-eq34-clause-quote : goal.returns-then-byte-eq34-clause-quote
returns-then-byte-eq34-clause-quote c =
    let lt : c.loop-i.i < length c.args.bytes.now = omega arith in
    let on : nat_eq (get_or c.args.bytes.now c.loop-i.i 0) 34 ≡ true = grind (arith, nat_tests, c.if-byte-eq34.true) in
    sym (quote_here c.loop-i.i c.args.bytes.now lt on) ∙ c.loop-i.invariant

pub returns-then-byte-eq92-clause-quote : goal.returns-then-byte-eq92-clause-quote
returns-then-byte-eq92-clause-quote c =
    let lt : c.loop-i.i < length c.args.bytes.now = omega arith in
    let off : nat_eq (get_or c.args.bytes.now c.loop-i.i 0) 34 ≡ false = grind (arith, nat_tests, c.if-byte-eq34.false) in
    let on : nat_eq (get_or c.args.bytes.now c.loop-i.i 0) 92 ≡ true = grind (arith, nat_tests, c.if-byte-eq92.true) in
    sym (quote_escaped c.loop-i.i c.args.bytes.now lt off on) ∙ c.loop-i.invariant

pub loop-i-preserved : goal.loop-i-preserved
loop-i-preserved c =
    let lt : c.loop-i.i < length c.args.bytes.now = omega arith in
    let off : nat_eq (get_or c.args.bytes.now c.loop-i.i 0) 34 ≡ false = grind (arith, nat_tests, c.if-byte-eq34.false) in
    let other : nat_eq (get_or c.args.bytes.now c.loop-i.i 0) 92 ≡ false = grind (arith, nat_tests, c.if-byte-eq92.false) in
    sym (quote_step c.loop-i.i c.args.bytes.now lt off other) ∙ c.loop-i.invariant

pub returns-clause-quote : goal.returns-clause-quote
returns-clause-quote c =
    let le : length c.args.bytes.now ≤ c.loop-i.i = omega arith in
    sym (quote_past c.loop-i.i c.args.bytes.now le) ∙ c.loop-i.invariant
