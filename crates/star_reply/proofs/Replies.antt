-- One report, one reply.
use Rattle.std.proofs.Common.{◌≡◌, ◌++◌, ℕ, Bool, true, false, if◌then◌else◌, List, length, Option, Some, Result, Ok, Err, ap, sym, ◌∙◌, subst, refl}
use Rattle.std.proofs.Common.{None}
use Rattle.std.proofs.lemmas.List.{append-nil}
use Rattle.std.specs.Prelude.{nat_lt}
use Rattle.star_dialect.specs.declared.Mode.{Mode}
use Rattle.star_alone.specs.Alone.{asked_within, bytes_limit}
use Rattle.std.specs.Io.KnownBytes.{Consumes, IsAtEnd}
use Rattle.star_label.specs.Files.{File, IsOrdered}
use Rattle.star_bundle.specs.Bundle.{Asked, asked_among, asked_of}
use Rattle.star_bundle.specs.declared.error.ServeError.{ServeError}
use Rattle.star_bundle.specs.declared.error.ServeError.TheVariants.{TooBig}
use Rattle.star_plan.specs.Plan.{Plan}
use Rattle.star_plan.proofs.Plans.{one-plan}
use Rattle.star_report.specs.Output.{IsOutput}
use Rattle.star_report.specs.declared.wanted.Output.{Output}
use Rattle.star_serve.specs.Serve.{Reports}
use Rattle.star_reply.specs.Laws.{AloneReplies, Answers, OneAnswer, OneReply, OneReplyDir, OneServed, Replies}
use Rattle.star_reply.proofs.Ordered.{asked, asked_files, walked}
use Rattle.star_reply.proofs.Outputs.{one_output}
use Rattle.star_reply.proofs.Walks.{one_walk}

-- a request has one reply
one_reported : (output : Output) (a : Asked) → IsOrdered a.files → (mode : Mode) (before : List ℕ) (x y : Option (List ℕ)) (ok well : Bool) → Reports output a mode (Some before) x ok → Reports output a mode (Some before) y well → (x ≡ y) × (ok ≡ well)
one_reported output a is mode before x y ok well (s, h, (p, planned, roots, prelude, paid, out)) (t, k, (q, also, own_roots, own_prelude, own_paid, too)) =
    let plan = one-plan a.files is p q planned also (roots ∙ sym own_roots) (prelude ∙ sym own_prelude) (paid ∙ sym own_paid) in
    let same = one_output output a.files q s t ok well (subst (λ (r : Plan). IsOutput output a.files r s ok) plan out) too in
    (h ∙ (ap (λ z. Some (before ++ z)) same.0 ∙ sym k), same.1)

ok_same : (r : Result Asked ServeError) (a b : Asked) → r ≡ Ok a → r ≡ Ok b → b ≡ a
ok_same r a b h k = cc

pub one_answer : OneAnswer
one_answer files is output roots prelude mode before x y ok well h k =
    let same = ok_same (asked_among roots prelude files) h.0 k.0 h.1 k.1 in
    one_reported output h.0 (subst IsOrdered (sym (asked_files roots prelude files h.0 h.1)) is) mode before x y ok well h.2 (subst (λ (a : Asked). Reports output a mode (Some before) y well) same k.2)

pub one_reply : OneReply
one_reply output roots prelude mode input before x y ok well h k =
    let same = ok_same _ h.0 k.0 h.1 k.1 in
    one_reported output h.0 (asked roots prelude input h.0 h.1) mode before x y ok well h.2 (subst (λ (a : Asked). Reports output a mode (Some before) y well) same k.2)

-- an input within the limit is asked for as any other
by_limit : (b : Bool) (r : Result Asked ServeError) (a : Asked) → (if b then Err TooBig else r) ≡ Ok a → r ≡ Ok a
by_limit true r a e = absurd (let no : ⊥ = cc in no)
by_limit false r a e = e

within_limit : (roots : List (List ℕ)) (prelude : Option (List ℕ)) (input : List ℕ) (a : Asked) → asked_within roots prelude input ≡ Ok a → asked_of roots prelude input ≡ Ok a
unfolding asked_within
within_limit roots prelude input a e = by_limit (nat_lt bytes_limit (length input)) (asked_of roots prelude input) a e

pub alone_replies : AloneReplies
alone_replies wanted roots prelude mode input a e text ok h = (a, within_limit roots prelude input a e, (text, refl, h))

pub one_reply_dir : OneReplyDir
one_reply_dir output roots prelude mode held all before x y ok well h k =
    let same = one_walk held all k.0 h.0 k.1 h.1 in
    one_answer h.0 (walked held h.0 h.1) output roots prelude mode before x y ok well h.2 (subst (λ fs. Answers output fs roots prelude mode before y well) same k.2)

pub all_read : (left rest : Option (List ℕ)) (all input : List ℕ) → left ≡ Some all → Consumes left rest input → IsAtEnd rest → input ≡ all
all_read None rest all input e h k = absurd (let no : ⊥ = cc in no)
all_read (Some xs) None all input e h k = absurd h
all_read (Some xs) (Some ys) all input e h k =
    let same : xs ≡ all = cc in
    sym (append-nil input) ∙ (ap (λ r. input ++ r) (sym k) ∙ (sym h ∙ same))

pub one_served : OneServed
one_served output roots prelude mode old new other all before e x y ok well h k =
    let a = all_read old.left new.left all h.0 e h.1.0.0.1 h.1.0.1 in
    let b = all_read old.left other.left all k.0 e k.1.0.0.1 k.1.0.1 in
    one_reply output roots prelude mode all before x y ok well (subst (λ i. Replies output roots prelude mode i before x ok) a h.2) (subst (λ i. Replies output roots prelude mode i before y well) b k.2)
