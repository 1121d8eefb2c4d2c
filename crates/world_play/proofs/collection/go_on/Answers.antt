use Rattle.std.proofs.Common.{List, [], ◌∷◌, ◌++◌, length, sym, ap, ◌∙◌, arith}
use Rattle.world_model.specs.Calls.{by}
use Rattle.world_play.specs.Types.{Name, Entry, Collector}
use Rattle.world_play.specs.Types.act
use Rattle.world_play.specs.Types.commit
use Rattle.world_play.specs.Types.reply
use Rattle.world_play.proofs.Collecting.{committed_all, goes_on_some}
use Rattle.world_play.proofs.Order.{sorted_names}
use Rattle.world_play.proofs.Streams.{err_holds}
use Rattle.world_play.specs.Text.{in_name_order}
use Rattle.world_play.proofs.collection.go_on.Goals as goal

pub sweep_all-requires-clause-gathering : goal.sweep_all-requires-clause-gathering
sweep_all-requires-clause-gathering g c = (committed_all _ _ _ _ c.commit.ensures.entries c.mark_all.ensures.marks.now c.mark_all.ensures.marks.black).0

pub overflow_cast-removed : goal.overflow_cast-removed
overflow_cast-removed g c =
    let few = c.in_ok-names.ensures.finds.few in
    let items = g.S.Shape.lawful.few_items in
    let len = c.sort_unstable.ensures.len in
    let is = c.len-removed.ensures in
    omega arith

pub purge_all-left-requires-clause-swept : goal.purge_all-left-requires-clause-swept
purge_all-left-requires-clause-swept g c = c.in_ok-names.ensures.finds.now

pub purge_all-left-requires-clause-found : goal.purge_all-left-requires-clause-found
purge_all-left-requires-clause-found g c =
    let marks = c.mark_all.ensures.marks in
    let finds = c.in_ok-names.ensures.finds in
    let committed = committed_all _ _ _ _ c.commit.ensures.entries marks.now marks.black in
    let found = finds.names ∙ ap (λ (names : List Name). names ++ c.in_ok-names.names.items) committed.3 in
    c.len-removed.ensures ∙ c.sort_unstable.ensures.len ∙ c.in_ok-names.names.ok.0 ∙ ap length (sym found)

pub returns : goal.returns
returns g c =
    let marks = c.mark_all.ensures.marks in
    let finds = c.in_ok-names.ensures.finds in
    let destroys = c.purge_all-left.ensures.destroys in
    let committed = committed_all _ _ _ _ c.commit.ensures.entries marks.now marks.black in
    let found = destroys.found ∙ finds.names ∙ ap (λ (names : List Name). names ++ c.in_ok-names.names.items) committed.3 in
    let sorted = sorted_names _ _ c.sort_unstable.ensures.permutation c.sort_unstable.ensures.sorted in
    rw c.from_vec.ensures (record {
      all = record {
        slices = marks.slices;
        sweeps = finds.sweeps;
        front = g.E.Engine.history c.sweep_all.new.engine;
        marked = marks.marked;
        swept = finds.swept;
        grown = finds.grown ∙ ap (λ (h : List Entry). h ++ by Collector finds.sweeps) (committed.2 ∙ ap (λ (h : List Entry). h ++ by Collector (act.CommitGc commit.Done ∷ [])) marks.grown);
        destroys = destroys;
        answer =
            λ i.
            reply.FullGc ((c.len-removed.ensures ∙ c.sort_unstable.ensures.len ∙ c.in_ok-names.names.ok.0 ∙ ap length (sym found)) i)
            (c.purge_all-left.ensures.left i) ((sorted ∙ ap in_name_order (sym found)) i);
        opened = finds.opened ∙ committed.1 ∙ marks.now.closed ∙ sym c.requires.marking.closed;
        held = λ lane r h. c.purge_all-left.ensures.held lane r (c.in_ok-names.ensures.held lane r (c.commit.ensures.held lane r (c.mark_all.ensures.held lane r h)));
      };
      some = tt;
    })

pub returns-in_err-names-clause-some : goal.returns-in_err-names-clause-some
returns-in_err-names-clause-some g c =
    let marks = c.mark_all.ensures.marks in
    err_holds _ _ (goes_on_some _ _ _ _ _ _ marks (committed_all _ _ _ _ c.commit.ensures.entries marks.now marks.black).2 c.in_err-names.ensures.some)
