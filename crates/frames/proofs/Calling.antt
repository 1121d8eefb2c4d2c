-- A step of a lane that opens or closes its frame is the call.
use Rattle.std.proofs.Common.{◌≡◌, ℕ, refl, ap, ◌∙◌, eqb, true, List, [], ◌∷◌, ◌++◌}
use Rattle.std.proofs.lemmas.Bool.{eq-eqb}
use Rattle.world_model.specs.Sizes.{Sizes}
use Rattle.world_model.specs.World.{is_open}
use Rattle.world_model.specs.State.{State, beginning}
use Rattle.world_model.specs.Next.{next}
use Rattle.world_model.specs.Histories.{state_of, after}
use Rattle.world_model.specs.Follows.{entry}
use Rattle.world_model.proofs.Joins.{run-append}
use Rattle.world_model.proofs.Opened.{open_none}
use Rattle.frames.specs.Types.{Lane, Entry, Phase, View}
use Rattle.frames.specs.Types.act
use Rattle.heap_rule.specs.Telling.{Adds}
use Rattle.heap_rule.specs.Views.{memos_but}
use Rattle.frames.specs.Calls.{IsClosed, IsOpened, AddsEntries}

pub adds_entries : (z : Sizes) (v u w : View) (before entries : List Entry) → Adds z v before entries u w → AddsEntries z v entries w
adds_entries z v u w before entries h = record { between = h.between; others = h.others; front = h.front ∙ ap (λ (b : List Entry). b ++ entries) h.seen; legal = h.legal }

-- what the front leaves
left : (z : Sizes) (v u w : View) (before : List Entry) (e : Entry) → Adds z v before (e ∷ []) u w → state_of w.front ≡ next (state_of before) e
left z v u w before e h = ap state_of h.front ∙ run-append beginning before (e ∷ [])

pub opens : (z : Sizes) (l : ℕ) (v w : View) (before : List Entry) (phase : Phase) → IsClosed z v l → Adds z v before (entry (Lane l) (act.FrameOpen phase) ∷ []) v w → IsOpened z w l
opens z l v w before phase was h =
    let now = left z v v w before (entry (Lane l) (act.FrameOpen phase)) h in
    let same : (l ≡ l) = refl in
    let on : eqb l l ≡ true = eq-eqb l l refl in
    record {
      inside = was.inside;
      ready = record {
        pass = rw h.now was.pass;
        opened = ap (λ (s : State). is_open s.world (Lane l)) now ∙ (rw on refl);
        whole = ap (λ (s : State). (s.frames l).broken) now ∙ (rw on refl);
        unprepared = rw h.now was.unprepared;
        cut = rw h.now was.cut;
        empty = rw h.now was.empty;
        clear = rw h.now was.clear;
      };
      paid = ap (λ (s : State). (s.frames l).owed) now ∙ (rw on refl);
    }

pub closes : (z : Sizes) (l : ℕ) (v w : View) (before : List Entry) → IsOpened z v l → Adds z v before (entry (Lane l) act.FrameClose ∷ []) (record v { memos = memos_but l v.memos }) w → IsClosed z w l
closes z l v w before was h =
    let now = left z v (record v { memos = memos_but l v.memos }) w before (entry (Lane l) act.FrameClose) h in
    record {
      inside = was.inside;
      pass = rw h.now was.ready.pass;
      closed = ap (λ (s : State). is_open s.world (Lane l)) now ∙ open_none (Lane l) (after before).opened;
      unprepared = rw h.now was.ready.unprepared;
      cut = rw h.now was.ready.cut;
      empty = rw h.now was.ready.empty;
      clear = rw h.now was.ready.clear;
    }
