-- Refusals change nothing, and what a call is told is decided by the world.
use Rattle.std.proofs.Common.{◌≡◌, ℕ, ◌+◌, refl, sym, subst, ap, ◌∙◌, arith, true, false, List, ◌++◌, length, append-nil, Result, Ok, Err}
use Rattle.world_model.specs.Types.{Name, Kind, CreateErr, Begin, Commit, Swept, SweepStop, Pass, Lane, Marker, Collector, Act}
use Rattle.world_model.specs.Types.act
use Rattle.world_model.specs.Types.begin
use Rattle.world_model.specs.Types.commit
use Rattle.world_model.specs.Types.create
use Rattle.world_model.specs.Types.sweep
use Rattle.world_model.specs.Sizes.{Sizes}
use Rattle.world_model.specs.World.{World}
use Rattle.world_model.specs.State.{State}
use Rattle.world_model.specs.Next.{next_world, settled}
use Rattle.world_model.specs.LaneSteps.{LaneMay}
use Rattle.world_model.specs.CollectorSteps.{BeginMay, CommitMay, SweepMay}
use Rattle.world_model.specs.Histories.{MayBy, LegalFrom, state_of}
use Rattle.world_model.specs.Calls.{by, CommitsAlone}
use Rattle.world_model.specs.Engines.{act_of_create}
use Rattle.world_model.specs.Follows.{is_refusal, is_not_gathering, RefusalsChangeNothing, BeginIsDecided, SameCommit, CommitIsDecided, CreateIsDecided}
use Rattle.world_model.proofs.Joins.{histories_join}
use Rattle.world_model.proofs.Inductions.{one_more}
use Rattle.world_model.proofs.Solo.{legal_call}

-- ---- refusals

-- a sweep where nothing is gathered finds nothing
sweep_same : (z : Sizes) (s : State) (budget : ℕ) (reply : Swept) (names : List Name) (stop : SweepStop) → SweepMay z s budget reply names stop → is_not_gathering stop ≡ true
    → record s.world { found = s.world.found ++ names; swept = s.world.swept + reply.looked; phase = settled s.world.phase stop } ≡ s.world
sweep_same z s budget reply names sweep.More may is = absurd cc
sweep_same z s budget reply names sweep.Settled may is = absurd cc
sweep_same z s budget reply names (sweep.NotGathering phase) may is =
    let looked : s.world.swept + reply.looked ≡ s.world.swept = (let none : reply.looked ≡ 0 = may.2 in omega arith) in
    let found : s.world.found ++ names ≡ s.world.found = ap (λ (ns : List Name). s.world.found ++ ns) may.4 ∙ append-nil s.world.found in
    let with_found : List Name → World = λ ns. record s.world { found = ns; swept = s.world.swept + reply.looked } in
    let with_swept : ℕ → World = λ k. record s.world { swept = k } in
    ap with_found found ∙ ap with_swept looked

same_world : (z : Sizes) (s : State) (p : Pass) (a : Act) → MayBy z s p a → is_refusal a ≡ true → next_world s.marks s.world p a ≡ s.world
same_world z s p (act.Full asked left) may is = refl
same_world z s p (act.NamesSpent asked left) may is = refl
same_world z s p (act.NoSerial at count) may is = refl
same_world z s p (act.NoDissolve at) may is = refl
same_world z s p (act.BeginGc begin.Started) may is = absurd cc
same_world z s p (act.BeginGc (begin.Running phase)) may is = refl
same_world z s p (act.BeginGc (begin.Purging left)) may is = refl
same_world z s p (act.BeginGc (begin.Frames n)) may is = refl
same_world z s p (act.CommitGc commit.Done) may is = absurd cc
same_world z s p (act.CommitGc (commit.NotMarking phase)) may is = refl
same_world z s p (act.CommitGc (commit.Unfinished word bits)) may is = refl
same_world z s p (act.CommitGc commit.Stores) may is = refl
same_world z s p (act.CommitGc (commit.Frames n)) may is = refl
same_world z s Collector (act.Sweep budget reply names) may is = sweep_same z s budget reply names reply.stop may.may is
same_world z s (Lane lane) (act.Sweep budget reply names) may is = absurd may.may
same_world z s (Marker marker) (act.Sweep budget reply names) may is = absurd may.may
same_world z s p (act.PurgeGc budget reply) may is = refl
same_world z s p _ may is = absurd cc

pub refusals_change_nothing_holds : RefusalsChangeNothing
refusals_change_nothing_holds z history e legal is =
    let may = ((histories_join.one_more z history e).0 legal).1 in
    ap (λ (s : State). s.world) (one_more history e) ∙ same_world z (state_of history) e.pass e.act may is

-- ---- begin

one_begin : (s : State) (a b : Begin) → BeginMay s a → BeginMay s b → a ≡ b
one_begin s begin.Started begin.Started f g = refl
one_begin s begin.Started (begin.Running phase) f g = absurd (let idle = f.0.idle in g.1 (g.0 ∙ idle))
one_begin s begin.Started (begin.Purging left) f g = absurd (let none : length s.world.removals ≡ 0 = ap length f.0.released in let l = g.1 in let m = g.2 in omega arith)
one_begin s begin.Started (begin.Frames n) f g = absurd (let none : length s.world.opened ≡ 0 = ap length f.1 in let l = g.1.0 in let m = g.1.1 in omega arith)
one_begin s (begin.Running phase) begin.Started f g = absurd (let idle = g.0.idle in f.1 (f.0 ∙ idle))
one_begin s (begin.Running phase) (begin.Running other) f g = ap begin.Running (f.0 ∙ sym g.0)
one_begin s (begin.Running phase) (begin.Purging left) f g = absurd (f.1 (f.0 ∙ g.0))
one_begin s (begin.Running phase) (begin.Frames n) f g = absurd (f.1 (f.0 ∙ g.0.idle))
one_begin s (begin.Purging left) begin.Started f g = absurd (let none : length s.world.removals ≡ 0 = ap length g.0.released in let l = f.1 in let m = f.2 in omega arith)
one_begin s (begin.Purging left) (begin.Running phase) f g = absurd (g.1 (g.0 ∙ f.0))
one_begin s (begin.Purging left) (begin.Purging other) f g = ap begin.Purging (f.1 ∙ sym g.1)
one_begin s (begin.Purging left) (begin.Frames n) f g = absurd (let none : length s.world.removals ≡ 0 = ap length g.0.released in let l = f.1 in let m = f.2 in omega arith)
one_begin s (begin.Frames n) begin.Started f g = absurd (let none : length s.world.opened ≡ 0 = ap length g.1 in let l = f.1.0 in let m = f.1.1 in omega arith)
one_begin s (begin.Frames n) (begin.Running phase) f g = absurd (g.1 (g.0 ∙ f.0.idle))
one_begin s (begin.Frames n) (begin.Purging left) f g = absurd (let none : length s.world.removals ≡ 0 = ap length f.0.released in let l = g.1 in let m = g.2 in omega arith)
one_begin s (begin.Frames n) (begin.Frames other) f g = ap begin.Frames (f.1.0 ∙ sym g.1.0)

pub begin_is_decided_holds : BeginIsDecided
begin_is_decided_holds z history a b legal_a legal_b =
    one_begin (state_of history) a b ((histories_join.one_more z history _).0 legal_a).1.may ((histories_join.one_more z history _).0 legal_b).1.may

-- ---- commit

-- while a collection marks an answer that runs alone is unfinished where a unit is grey
one_commit : (s : State) (a b : Commit) → CommitMay s a → CommitMay s b → CommitsAlone s a → CommitsAlone s b → SameCommit a b
one_commit s (commit.Unfinished word bits) (commit.Unfinished other others) f g alone_a alone_b = tt
one_commit s (commit.Unfinished word bits) commit.Done f g alone_a alone_b = absurd ((alone_a.unfinished f.marking).0 refl g.black)
one_commit s (commit.Unfinished word bits) (commit.NotMarking phase) f g alone_a alone_b = absurd (g.1 (g.0 ∙ f.marking))
one_commit s (commit.Unfinished word bits) commit.Stores f g alone_a alone_b = absurd (alone_b.no_stores refl)
one_commit s (commit.Unfinished word bits) (commit.Frames n) f g alone_a alone_b = absurd (let wrong : false ≡ true = (alone_b.unfinished f.marking).1 ((alone_a.unfinished f.marking).0 refl) in cc)
one_commit s commit.Done (commit.Unfinished word bits) f g alone_a alone_b = absurd ((alone_b.unfinished g.marking).0 refl f.black)
one_commit s commit.Done commit.Done f g alone_a alone_b = refl
one_commit s commit.Done (commit.NotMarking phase) f g alone_a alone_b = absurd (g.1 (g.0 ∙ f.marking))
one_commit s commit.Done commit.Stores f g alone_a alone_b = absurd (alone_b.no_stores refl)
one_commit s commit.Done (commit.Frames n) f g alone_a alone_b = absurd (let none : length s.world.opened ≡ 0 = ap length f.closed in let l = g.1.0 in let m = g.1.1 in omega arith)
one_commit s (commit.NotMarking phase) (commit.Unfinished word bits) f g alone_a alone_b = absurd (f.1 (f.0 ∙ g.marking))
one_commit s (commit.NotMarking phase) commit.Done f g alone_a alone_b = absurd (f.1 (f.0 ∙ g.marking))
one_commit s (commit.NotMarking phase) (commit.NotMarking other) f g alone_a alone_b = ap commit.NotMarking (f.0 ∙ sym g.0)
one_commit s (commit.NotMarking phase) commit.Stores f g alone_a alone_b = absurd (alone_b.no_stores refl)
one_commit s (commit.NotMarking phase) (commit.Frames n) f g alone_a alone_b = absurd (f.1 (f.0 ∙ g.0))
one_commit s commit.Stores b f g alone_a alone_b = absurd (alone_a.no_stores refl)
one_commit s (commit.Frames n) (commit.Unfinished word bits) f g alone_a alone_b = absurd (let wrong : false ≡ true = (alone_a.unfinished g.marking).1 ((alone_b.unfinished g.marking).0 refl) in cc)
one_commit s (commit.Frames n) commit.Done f g alone_a alone_b = absurd (let none : length s.world.opened ≡ 0 = ap length g.closed in let l = f.1.0 in let m = f.1.1 in omega arith)
one_commit s (commit.Frames n) (commit.NotMarking phase) f g alone_a alone_b = absurd (g.1 (g.0 ∙ f.0))
one_commit s (commit.Frames n) commit.Stores f g alone_a alone_b = absurd (alone_b.no_stores refl)
one_commit s (commit.Frames n) (commit.Frames other) f g alone_a alone_b = ap commit.Frames (f.1.0 ∙ sym g.1.0)

pub commit_is_decided_holds : CommitIsDecided
commit_is_decided_holds z old new other a b f g =
    let may_a = (subst (LegalFrom z (state_of old)) (ap (by Collector) f.call.0) (legal_call z old new Collector (act.CommitGc a) f)).0 in
    let may_b = (subst (LegalFrom z (state_of old)) (ap (by Collector) g.call.0) (legal_call z old other Collector (act.CommitGc b) g)).0 in
    one_commit (state_of old) a b may_a.may may_b.may f.call.1 g.call.1

-- ---- create

one_create : (z : Sizes) (s : State) (lane : ℕ) (kinds : List Kind) (a b : Result (Unit {0}) CreateErr)
    → LaneMay z s lane (act_of_create s.world lane kinds a) → LaneMay z s lane (act_of_create s.world lane kinds b) → a ≡ b
one_create z s lane kinds (Ok done) (Ok other) f g = refl
one_create z s lane kinds (Ok done) (Err (create.Full left)) f g = absurd (let a = f.room in let b = g.rest in let c = g.short in omega arith)
one_create z s lane kinds (Ok done) (Err (create.NamesSpent left)) f g = absurd (let a = f.names in let b = g.rest in let c = g.short in omega arith)
one_create z s lane kinds (Err (create.Full left)) (Ok done) f g = absurd (let a = g.room in let b = f.rest in let c = f.short in omega arith)
one_create z s lane kinds (Err (create.Full left)) (Err (create.Full other)) f g = ap (λ (k : ℕ). Err (create.Full k)) (f.rest ∙ sym g.rest)
one_create z s lane kinds (Err (create.Full left)) (Err (create.NamesSpent other)) f g = absurd (let a = f.names in let b = g.rest in let c = g.short in omega arith)
one_create z s lane kinds (Err (create.NamesSpent left)) (Ok done) f g = absurd (let a = g.names in let b = f.rest in let c = f.short in omega arith)
one_create z s lane kinds (Err (create.NamesSpent left)) (Err (create.Full other)) f g = absurd (let a = g.names in let b = f.rest in let c = f.short in omega arith)
one_create z s lane kinds (Err (create.NamesSpent left)) (Err (create.NamesSpent other)) f g = ap (λ (k : ℕ). Err (create.NamesSpent k)) (f.rest ∙ sym g.rest)

pub create_is_decided_holds : CreateIsDecided
create_is_decided_holds z history lane kinds a b legal_a legal_b =
    one_create z (state_of history) lane kinds a b ((histories_join.one_more z history _).0 legal_a).1.may ((histories_join.one_more z history _).0 legal_b).1.may
