use Rattle.std.proofs.Common.{refl, sym, ap, ◌∙◌, subst, [], append-nil, List, Option, None, option_map}
use Rattle.world_model.specs.Calls.{by, Appends}
use Rattle.world_model.specs.Histories.{state_of}
use Rattle.class_schema.specs.Layout.{is_ref}
use Rattle.world_play.specs.Types.{Name, Ref, Lane, Entry}
use Rattle.world_play.specs.Types.act
use Rattle.world_play.specs.Types.reply
use Rattle.world_play.specs.Bindings.{bound}
use Rattle.world_play.specs.Lanes.{Calls, OnElement}
use Rattle.world_play.specs.Spots.{spot_at}
use Rattle.world_play.specs.Variables.{standing, shown, AreHeld}
use Rattle.world_play.proofs.Keeping.{bind_shown, bind_held, held_on}
use Rattle.world_play.proofs.Turning.{refused_none}
use Rattle.world_play.proofs.cells.get.Goals as goal

pub returns-in-Ok-clause-did : goal.returns-in-Ok-clause-did
returns-in-Ok-clause-did g c =
    let lane = c.args.lane in
    let spot = c.args.spot in
    let old = standing c.args.variables.now in
    let s = state_of (g.E.Engine.history c.args.engine.now) in
    let cell = c.in-Ok.cell in
    let got = c.read_ref-got.result in
    let seen = ap (λ (o : Option Ref). spot_at c.args.header.now s.world.kinds lane is_ref (option_map (λ r. r.name) o) spot) (sym c.get-at.ensures) ∙ c.in-Ok.ensures.finds in
    let h =
    subst
    (λ (es : List Entry).
    Appends g.S.Shape.sizes es (g.E.Engine.history c.read_ref-got.new.self) (Lane lane)
    (act.ReadRef cell.at.name cell.slot (option_map (λ (r : Ref). r.name) got))) c.in-Ok.ensures.same c.read_ref-got.ensures.entries in
    record {
      piece = by (Lane lane) h.acts;
      grown = h.grown;
      turn = (
        subst (λ x. OnElement x (λ e. Calls s lane (λ got. act.ReadRef e.at e.slot got) (λ got. reply.Is lane got)) (by (Lane lane) h.acts) (reply.Is lane c.name_of.result)) (sym seen)
            (option_map (λ (r : Ref). r.name) got, (h.acts, h.call, refl), ap (reply.Is lane) c.name_of.ensures),
        ap shown c.bind.ensures ∙ bind_shown old lane c.args.var got ∙ ap (λ (o : Option Name). bound (shown old) lane c.args.var o) (sym c.name_of.ensures),
      );
    }

pub returns-in-Ok-clause-held : goal.returns-in-Ok-clause-held
returns-in-Ok-clause-held g c =
    let old = standing c.args.variables.now in
    subst (AreHeld (g.E.Engine.holds c.read_ref-got.new.self)) (sym c.bind.ensures)
    (bind_held _ old c.args.lane c.args.var c.read_ref-got.result c.read_ref-got.ensures.given
    (held_on _ _ old (λ i r held. c.read_ref-got.ensures.held i r (c.in-Ok.ensures.held i r held)) c.requires.held))

pub returns-in-Err-clause-did : goal.returns-in-Err-clause-did
returns-in-Err-clause-did g c =
    let lane = c.args.lane in
    let spot = c.args.spot in
    let old = standing c.args.variables.now in
    let s = state_of (g.E.Engine.history c.args.engine.now) in
    let r = c.in-Err.refusal in
    let seen = ap (λ (o : Option Ref). spot_at c.args.header.now s.world.kinds lane is_ref (option_map (λ r. r.name) o) spot) (sym c.get-at.ensures) ∙ c.in-Err.ensures.finds in
    let none = refused_none c.args.header.now s.world.kinds lane is_ref ((shown old).objects lane spot.var) spot r seen in
    record {
      piece = [];
      grown = c.in-Err.ensures.same ∙ sym (append-nil _);
      turn = (
        subst (λ x. OnElement x (λ e. Calls s lane (λ got. act.ReadRef e.at e.slot got) (λ got. reply.Is lane got)) [] r) (sym seen) (refl, refl),
        ap shown c.bind-in-Err.ensures ∙ bind_shown old lane c.args.var None ∙ ap (λ (o : Option Name). bound (shown old) lane c.args.var o) (sym none),
      );
    }

pub returns-in-Err-clause-held : goal.returns-in-Err-clause-held
returns-in-Err-clause-held g c =
    let old = standing c.args.variables.now in
    subst (AreHeld (g.E.Engine.holds c.find_ref.new.engine)) (sym c.bind-in-Err.ensures) (bind_held _ old c.args.lane c.args.var None tt (held_on _ _ old c.in-Err.ensures.held c.requires.held))
