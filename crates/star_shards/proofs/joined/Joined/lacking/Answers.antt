use Rattle.std.proofs.Common.{◌≡◌, ℕ, List, Bor, Option, None, Some, true, false, String, Global, map, ap, sym, ◌∙◌}
use Rattle.std.specs.Prelude.{All, IfSome, string_bytes}
use Rattle.std.proofs.lemmas.List.Elements.{All-weaker}
use Rattle.star_shards.specs.Entries.{label_of}
use Rattle.star_shards.specs.Joined.{is_among}
use Rattle.star_shards.specs.Read.{IsRead, has, texts}
use Rattle.star_shards.specs.declared.entry.Entry.{Entry}
use Rattle.star_shards.proofs.Writing.{labels_are}
use Rattle.star_shards.proofs.joined.Joined.lacking.Goals as goal

pub returns-clause-none : goal.returns-clause-none
returns-clause-none c =
    let es = c.args.self.now.entries.items in
    let m = c.in_ok-labels.labels in
    λ all none. All-weaker (λ (w : String Global). has m (string_bytes w) ≡ true) (λ (w : String Global). is_among (map label_of (texts es)) (string_bytes w) ≡ true)
    (λ w h. ap (λ ls. is_among ls (string_bytes w)) (labels_are es all) ∙ ap (λ (xs : List Entry). is_among (map (λ e. e.label.now) xs) (string_bytes w)) (sym c.as_slice.ensures.value)
    ∙ sym (c.in_ok-labels.ensures (string_bytes w)) ∙ h)
    c.args.roots.now (c.first_lacking.ensures.none none)

weaker : (o : Option (Bor (List ℕ))) (P Q : Bor (List ℕ) → Type 0) → ((w : Bor (List ℕ)) → P w → Q w) → IfSome o P → IfSome o Q
weaker None P Q f h = tt
weaker (Some w) P Q f h = f w h

pub returns-clause-some : goal.returns-clause-some
returns-clause-some c =
    let es = c.args.self.now.entries.items in
    let m = c.in_ok-labels.labels in
    λ all. weaker c.first_lacking.result (λ w. has m w.now ≡ false) (λ w. is_among (map label_of (texts es)) w.now ≡ false)
    (λ w h. ap (λ ls. is_among ls w.now) (labels_are es all) ∙ ap (λ (xs : List Entry). is_among (map (λ e. e.label.now) xs) w.now) (sym c.as_slice.ensures.value)
    ∙ sym (c.in_ok-labels.ensures w.now) ∙ h)
    c.first_lacking.ensures.some
