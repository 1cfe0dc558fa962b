use Rattle.std.proofs.Common.{◌∙◌, suc, arith, subst, sym}
use Rattle.star_repo.specs.Held.{Fits, Held, Said}
use Rattle.star_repo.specs.Reach.{AreReachedFiles}
use Rattle.star_repo.specs.Refusal.{Pass}
use Rattle.star_repo.specs.Views.{IsOnWay, Says, labels_of, words_of}
use Rattle.star_repo.proofs.Turns.{turned}
use Rattle.star_repo.proofs.reach.read_reached.Goals as goal

pub rounds-preserved : goal.rounds-preserved
rounds-preserved g c =
    let inv = c.rounds.invariant in
    let words = words_of c.args.words.keys in
    let next = c.in-Ok-Next.next in
    let says = g.F.Repo.says c.rounds.folder in
    let turn = turned (g.F.Repo.says c.args.folder.now) says words inv.on_way.0 c.rounds.round _ _ inv.same inv.on_way.1 inv.all_read inv.fresh c.in-Ok-Next.ensures.turns c.in-Ok-Next.field-0-is in
    record {
      on_way = (suc inv.on_way.0, subst (λ (s : Said). IsOnWay s words (suc inv.on_way.0) next.found (labels_of next.waiting.keys)) inv.same turn.0);
      all_read = turn.1;
      fresh = turn.2;
      same = c.in-Ok-Next.ensures.same ∙ inv.same;
      failed = omega (arith, inv.failed, c.in-Ok-Next.ensures.failed);
    }

pub rounds-smaller : goal.rounds-smaller
rounds-smaller g c =
    let inv = c.rounds.invariant in
    let turn = turned (g.F.Repo.says c.args.folder.now) (g.F.Repo.says c.rounds.folder) (words_of c.args.words.keys) inv.on_way.0 c.rounds.round _ _ inv.same inv.on_way.1 inv.all_read inv.fresh c.in-Ok-Next.ensures.turns c.in-Ok-Next.field-0-is in
    omega (arith, turn.3, c.in-Ok-Next.next.found.few_files)

pub ended-requires : goal.ended-requires
ended-requires g c =
    let inv = c.rounds.invariant in
    let turn = turned (g.F.Repo.says c.args.folder.now) (g.F.Repo.says c.rounds.folder) (words_of c.args.words.keys) inv.on_way.0 c.rounds.round _ _ inv.same inv.on_way.1 inv.all_read inv.fresh c.in-Ok-End.ensures.turns c.in-Ok-End.field-0-is in
    (g.F.Repo.says c.rounds.folder, words_of c.args.words.keys, inv.on_way.0, turn.0, turn.2)

pub returns-in-Ok-End-clause-files : goal.returns-in-Ok-End-clause-files
returns-in-Ok-End-clause-files g c =
    let inv = c.rounds.invariant in
    let turn = turned (g.F.Repo.says c.args.folder.now) (g.F.Repo.says c.rounds.folder) (words_of c.args.words.keys) inv.on_way.0 c.rounds.round _ _ inv.same inv.on_way.1 inv.all_read inv.fresh c.in-Ok-End.ensures.turns c.in-Ok-End.field-0-is in
    let files = c.in_ok-ended-in-Ok-End.field-0.files in
    subst (λ (s : Said). (held : Held) × Fits s held × AreReachedFiles held (words_of c.args.words.keys) files × Pass files) inv.same (c.in_ok-ended-in-Ok-End.ensures.files (g.F.Repo.says c.rounds.folder) (words_of c.args.words.keys) inv.on_way.0 turn.0 turn.2)

pub returns-in-Ok-End-clause-parsed : goal.returns-in-Ok-End-clause-parsed
returns-in-Ok-End-clause-parsed g c =
    let inv = c.rounds.invariant in
    let turn = turned (g.F.Repo.says c.args.folder.now) (g.F.Repo.says c.rounds.folder) (words_of c.args.words.keys) inv.on_way.0 c.rounds.round _ _ inv.same inv.on_way.1 inv.all_read inv.fresh c.in-Ok-End.ensures.turns c.in-Ok-End.field-0-is in
    c.in_ok-ended-in-Ok-End.ensures.parsed turn.1

pub returns-in-Err-clause-refused : goal.returns-in-Err-clause-refused
returns-in-Err-clause-refused g c =
    let inv = c.rounds.invariant in
    let words = words_of c.args.words.keys in
    let round = c.rounds.round in
    let way = subst (λ (s : Said). IsOnWay s words inv.on_way.0 round.found (labels_of round.waiting.keys)) (sym inv.same) inv.on_way.1 in
    subst (λ (s : Said). Says s words c.in-Err.error) inv.same (c.in-Err.ensures.refused words inv.on_way.0 way)
