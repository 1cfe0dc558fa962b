use Rattle.std.proofs.Common.{rules, ◌≡◌, ◌∙◌, Some, None, ap, lit<, subst, sym}
use Rattle.std.specs.Prelude.{IfOk, Result, Ok, Err}
use Rattle.std.specs.Option.{option_and_then}
use Rattle.std.proofs.lemmas.Str.Pattern.{split_parts}
use Rattle.star_label.specs.Label.{parts}
use Rattle.star_label.proofs.Parts.{parts-free, parts-split}
use Rattle.star_words.specs.Words.{Leads, folders_of, led, led_by}
use Rattle.star_words.proofs.Paths.{then_some}
use Rattle.star_words.proofs.words.enter_all.Goals as goal

if_ok : {A E : Type 0} (P Q : A → Type 0) (r : Result A E) → IfOk r P → ((x : A) → P x → Q x) → IfOk r Q
if_ok P Q (Ok x) h k = k x h
if_ok P Q (Err e) h k = tt

pub returns-then-not-branch : goal.returns-then-not-branch
returns-then-not-branch c =
    let p = split_parts 47 c.loop-first.rest.now (Some (c.in-Some.first, c.in-Some.more)) c.in-Some.ensures.cases (lit< tt) in
    let first = c.in-Some.first.now in
    let more = c.in-Some.more.now in
    let fs = folders_of c.loop-first.folders.items in
    let none : led fs first ≡ None = subst (λ b. Leads (led fs first) b (folders_of c.enter.new.folders.items)) c.if-not-branch.true c.in_ok-enter.ensures in
    sym c.loop-first.invariant.0 ∙ ap (λ t. led_by fs (parts t)) p.0 ∙ ap (led_by fs) (parts-split first more p.1) ∙ ap (option_and_then (λ gs. led_by gs (parts more))) none

pub loop-first-preserved : goal.loop-first-preserved
loop-first-preserved c =
    let p = split_parts 47 c.loop-first.rest.now (Some (c.in-Some.first, c.in-Some.more)) c.in-Some.ensures.cases (lit< tt) in
    let first = c.in-Some.first.now in
    let more = c.in-Some.more.now in
    let fs = folders_of c.loop-first.folders.items in
    let new = folders_of c.enter.new.folders.items in
    let some : led fs first ≡ Some new = subst (λ b. Leads (led fs first) b new) c.if-not-branch.false c.in_ok-enter.ensures in
    let step = ap (λ t. led_by fs (parts t)) p.0 ∙ ap (led_by fs) (parts-split first more p.1) ∙ ap (option_and_then (λ gs. led_by gs (parts more))) some in
    (sym step ∙ c.loop-first.invariant.0, search rules)

pub returns : goal.returns
returns c =
    let p = split_parts 47 c.loop-first.rest.now None c.in_default.ensures.cases (lit< tt) in
    let rest = c.loop-first.rest.now in
    let fs = folders_of c.loop-first.folders.items in
    let same = sym (then_some (led fs rest)) ∙ sym (ap (led_by fs) (parts-free rest p)) ∙ c.loop-first.invariant.0 in
    if_ok _ _ c.enter-2.result c.enter-2.ensures (λ there h. subst (λ o. Leads o there (folders_of c.enter-2.new.folders.items)) same h)
