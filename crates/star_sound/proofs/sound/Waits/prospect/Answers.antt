use Rattle.std.proofs.Common.{◌≡◌, ◌<◌, ◌∙◌, [], false, true, length, subst, sym}
use Rattle.std.specs.Option.{option_map}
use Rattle.std.proofs.lemmas.List.{get_or_default, length-map}
use Rattle.star_sound.specs.Sound.{IsFirstLack, NeedsAll, rows_of}
use Rattle.star_sound.specs.Waiting.{AreWaitingBy, IsMarked, lists, passed_of}
use Rattle.star_sound.proofs.Steps.{lack_at}
use Rattle.star_sound.proofs.sound.Waits.prospect.Goals as goal

pub returns-in-Some-2 : goal.returns-in-Some-2
returns-in-Some-2 c =
    let w = c.args.self.now in
    let n = c.args.n in
    let rows = rows_of c.args.needs.now in
    let ns = c.in-Some-2.field-0.now in
    let settled = c.requires.settled in
    let size : length rows ≡ length c.args.needs.now = length-map c.args.needs.now (option_map (λ v. v.items)) in
    let has : NeedsAll rows n ns = c.in-Some-2.ensures in
    let was : AreWaitingBy rows w.sound.items w.passed.items (lists w) [] [] = subst (λ todo. AreWaitingBy rows w.sound.items w.passed.items (lists w) todo []) settled.told settled.waiting in
    let in_sound : n < length w.sound.items = subst (λ k. n < k) (sym (settled.sized.sound ∙ size)) c.requires.file in
    let in_passed : n < length w.passed.items = subst (λ k. n < k) (sym (settled.sized.passed ∙ size)) c.requires.file in
    let clear : IsMarked w.sound.items n → ⊥ = λ h.
    let both : true ≡ false = sym h ∙ (get_or_default w.sound.items n false c.index.result.now in_sound ∙ (sym c.index.ensures ∙ c.if-index.false)) in
    let no : ⊥ = cc in
    no in
    let place : passed_of w.passed.items n ≡ c.index-in-Some-2.result.now = get_or_default w.passed.items n 0 c.index-in-Some-2.result.now in_passed ∙ sym c.index-in-Some-2.ensures in
    (ns, has, subst (IsFirstLack rows ns) place (lack_at rows w.sound.items w.passed.items (lists w) was n ns has clear))
