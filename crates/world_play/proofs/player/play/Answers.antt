use Rattle.std.proofs.Common.{◌++◌, ◌+◌, List, [], ◌∷◌, take, length, get_or, ◌≡◌, refl, sym, ap, ◌∙◌, subst, ℕ, false}
use Rattle.std.proofs.lemmas.List.{take_more, get_or_read, length-replicate}
use Rattle.world_model.specs.State.{beginning}
use Rattle.world_model.specs.Histories.{state_of, after}
use Rattle.world_play.specs.Types.{Entry, Line}
use Rattle.world_play.specs.Types.cmd
use Rattle.world_play.specs.Types.lane_cmd
use Rattle.world_play.specs.Text.{text_of}
use Rattle.world_play.specs.Streams.{Gained}
use Rattle.world_play.specs.Bindings.{no_bindings}
use Rattle.world_play.specs.Plays.{TurnBy, Plays, text, frames_by}
use Rattle.world_play.specs.Turns.{frames_of}
use Rattle.world_play.specs.Variables.{Numbers, Standing, standing, shown, AreHeld}
use Rattle.world_play.proofs.Keeping.{unbound_held}
use Rattle.world_play.proofs.Playing.{plays_none, plays_more, text_more, entries_more, fit_at, beside_at, framed_fit, all_closed, stopped_first, stopped_at}
use Rattle.world_play.proofs.Streams.{gained_none, gained_both, err_holds}
use Rattle.world_play.proofs.player.play.Goals as goal

pub returns-in_default-clause-stopped : goal.returns-in_default-clause-stopped
returns-in_default-clause-stopped g c = stopped_first _ _ _ _ _ _ _ c.requires.start c.requires.none

pub loop-line-init : goal.loop-line-init
loop-line-init g c = rw c.requires.start (record {
  pieces = [];
  replies = [];
  plays =
      subst (λ (v : Standing). Plays c.args.budget c.args.header.now beginning no_bindings [] [] [] (shown v)) (sym c.in-Ok.ensures)
      (plays_none c.args.budget c.args.header.now beginning no_bindings);
  cut = refl;
  put = gained_none _;
  fit = framed_fit c.args.counts.now c.args.header.now _ _ _ c.args.lines.now (length-replicate _ false) (all_closed _) c.requires.framed;
  counts = ap (λ (v : Standing). v.counts.lanes) c.in-Ok.ensures;
  weaks = ap (λ (v : Standing). v.counts.weaks) c.in-Ok.ensures;
  held = subst (AreHeld (g.E.Engine.holds c.args.engine.now)) (sym c.in-Ok.ensures) (unbound_held _ c.args.counts.now c.args.weaks);
  faults = refl;
  made = record { class = λ n k e. absurd cc; kind = λ n k e. absurd cc };
  written = c.requires.none;
})

pub play_line-requires-clause-ready : goal.play_line-requires-clause-ready
play_line-requires-clause-ready g c =
    let i = c.loop-line.invariant in
    let none : Line = record { number = 0; cmd = cmd.Lane 0 lane_cmd.Open } in
    let here = get_or_read c.args.lines.now _ _ c.loop-line-test.true c.line-item.is none in
    let fit = fit_at _ c.args.counts.now c.args.header.now _ c.args.lines.now c.loop-line.line-index none c.loop-line-test.true i.fit in
    rw here (record {
      fit = rw i.counts fit.0;
      beside = rw i.weaks (beside_at c.args.weaks _ c.args.lines.now c.loop-line.line-index none c.loop-line-test.true c.requires.beside);
      count = ap length i.counts ∙ c.requires.lanes;
      held = i.held;
      slots = c.requires.slots;
      schema = c.requires.schema;
      made = i.made;
    })

pub returns-in_err-play_line-clause-stopped : goal.returns-in_err-play_line-clause-stopped
returns-in_err-play_line-clause-stopped g c =
    let i = c.loop-line.invariant in
    let none : Line = record { number = 0; cmd = cmd.Lane 0 lane_cmd.Open } in
    let here = get_or_read c.args.lines.now _ _ c.loop-line-test.true c.line-item.is none in
    err_holds _ _
    (stopped_at _ _ _ c.args.lines.now c.loop-line.line-index none i.pieces i.replies _ _ _ _ _
    _ _ c.loop-line-test.true i.plays i.cut i.put i.written (rw (← here) c.in_err-play_line.ensures.unanswered))

pub loop-line-preserved : goal.loop-line-preserved
loop-line-preserved g c =
    let i = c.loop-line.invariant in
    let a = c.in_ok-play_line.ensures.answered in
    let t = a.turned in
    let none : Line = record { number = 0; cmd = cmd.Lane 0 lane_cmd.Open } in
    let line : Line = get_or c.args.lines.now c.loop-line.line-index none in
    let before : List Line = take c.loop-line.line-index c.args.lines.now in
    let here : c.line-item.result ≡ line = get_or_read c.args.lines.now _ _ c.loop-line-test.true c.line-item.is none in
    let fit = fit_at _ c.args.counts.now c.args.header.now _ c.args.lines.now c.loop-line.line-index none c.loop-line-test.true i.fit in
    let turn =
    subst
    (λ (h : List Entry).
    TurnBy c.args.budget c.args.header.now (state_of h) (shown (standing c.loop-line.variables)) line.cmd t.piece a.reply
    (shown (standing c.play_line.new.variables))) i.cut (rw (← here) t.turn) in
    rw (take_more c.args.lines.now c.loop-line.line-index none c.loop-line-test.true) (record {
      pieces = i.pieces ++ t.piece ∷ [];
      replies = i.replies ++ a.reply ∷ [];
      plays = plays_more c.args.budget c.args.header.now beginning no_bindings _ _ before line i.pieces t.piece i.replies a.reply i.plays turn;
      cut = t.grown ∙ ap (λ (h : List Entry). h ++ t.piece) i.cut ∙ sym (entries_more i.pieces t.piece);
      put = subst (Gained (g.K.Sink.held c.args.out.now) (g.K.Sink.held c.play_line.new.out)) (sym (text_more c.args.header.now.classes.classes i.replies a.reply))
          (gained_both _ _ _ (text c.args.header.now.classes.classes i.replies) (text_of c.args.header.now.classes.classes a.reply) i.put a.put);
      fit = rw (t.frames ∙ (ap (λ (l : Line). frames_by (frames_of (after (g.E.Engine.history c.loop-line.engine))) l.cmd) here)) fit.1;
      counts = ap (λ (n : Numbers). n.lanes) t.counts ∙ i.counts;
      weaks = ap (λ (n : Numbers). n.weaks) t.counts ∙ i.weaks;
      held = t.held;
      faults = c.in_ok-play_line.ensures.faults ∙ i.faults;
      made = t.made;
      written = ap (λ (n : ℕ). n + 1) i.written;
    })
