use Rattle.std.proofs.Common.{refl, ◌≡◌, ◌+◌, ℕ, subst, sym, ap, ◌∙◌, arith, inl, inr, [], ◌∷◌, get_or, Some, None}
use Rattle.world_model.specs.World.{made}
use Rattle.world_model.specs.Histories.{after}
use Rattle.class_schema.specs.Table.{kind_of}
use Rattle.world_play.specs.Header.{Header}
use Rattle.world_play.specs.Types.{Ref, Kind}
use Rattle.world_play.specs.Types.act
use Rattle.world_play.specs.Types.reply
use Rattle.world_play.specs.Bindings.{bound}
use Rattle.world_play.specs.Lanes.{object_of}
use Rattle.world_play.specs.Variables.{standing, shown, AreHeld}
use Rattle.world_play.proofs.Keeping.{bind_shown, bind_held, held_on}
use Rattle.world_play.proofs.Turning.{first_name, no_room_none}
use Rattle.world_play.proofs.lane.make.Goals as goal

pub returns-in-Ok-clause-did : goal.returns-in-Ok-clause-did
returns-in-Ok-clause-did g c =
    let h = c.in-Ok.ensures.entries in
    let lane = c.args.lane in
    let old = standing c.args.variables.now in
    let none : Ref = record { index = 0; name = record { lane = 0; count = 0 } } in
    let new : Ref = get_or c.create.new.out 0 none in
    let count : ℕ = made (after (g.E.Engine.history c.args.engine.now)) lane + 1 in
    let name : new.name ≡ record { lane = lane; count = count } = first_name c.create.new.out none (record { lane = lane; count = count }) c.in-Ok.ensures.names in
    let kind = c.kind-kind.ensures.kind ∙ ap (λ (t : Header). kind_of t.classes c.args.class) c.header.view_is in
    record {
      piece = _;
      grown = h.grown;
      turn = (
        inl (count, (h.acts, (h.call.0 ∙ ap (λ (k : Kind). act.Make (k ∷ []) count ∷ []) kind, tt), refl), ap (reply.New lane) name),
        ap shown c.bind.ensures ∙ bind_shown old lane c.args.var (Some new),
      );
    }

pub returns-in-Ok-clause-held : goal.returns-in-Ok-clause-held
returns-in-Ok-clause-held g c =
    let none : Ref = record { index = 0; name = record { lane = 0; count = 0 } } in
    let new : Ref = get_or c.create.new.out 0 none in
    let old = standing c.args.variables.now in
    subst (AreHeld (g.E.Engine.holds c.create.new.self)) (sym c.bind.ensures)
    (bind_held _ old c.args.lane c.args.var (Some new) (c.in-Ok.ensures.given 0 none (omega (arith, c.create.auto.out))) (held_on _ _ old c.in-Ok.ensures.held c.requires.held))

pub returns-in-Err-clause-did : goal.returns-in-Err-clause-did
returns-in-Err-clause-did g c =
    let h = c.in-Err.ensures.entries in
    let lane = c.args.lane in
    let old = standing c.args.variables.now in
    record {
      piece = _;
      grown = h.grown;
      turn = (
        inr (c.in-Err.why, (h.acts, h.call, refl), c.no_room.ensures),
        ap shown c.bind-in-Err.ensures ∙ bind_shown old lane c.args.var None ∙ ap (bound (shown old) lane c.args.var) (sym (ap object_of c.no_room.ensures ∙ no_room_none lane c.in-Err.why)),
      );
    }

pub returns-in-Err-clause-held : goal.returns-in-Err-clause-held
returns-in-Err-clause-held g c =
    let old = standing c.args.variables.now in
    subst (AreHeld (g.E.Engine.holds c.create.new.self)) (sym c.bind-in-Err.ensures) (bind_held _ old c.args.lane c.args.var None tt (held_on _ _ old c.in-Err.ensures.held c.requires.held))
