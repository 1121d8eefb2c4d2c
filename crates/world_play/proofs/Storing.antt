-- Fields of objects.
use Rattle.std.proofs.Common.{◌≡◌, arith, ap, ◌∙◌, Some}
use Rattle.std.specs.Option.{option_map_or}
use Rattle.world_model.specs.World.{World, kind_of, refs_of, plain_of}
use Rattle.class_schema.specs.Table as table
use Rattle.class_schema.specs.Lawful.{FitsIn}
use Rattle.world_play.specs.Cells.{FitsObject}
use Rattle.world_play.specs.Types.{Name, Kind, Field}
use Rattle.world_play.specs.Header.{Header}
use Rattle.world_play.specs.Turns.{AreMade}

-- a field that fits in the class of an object fits in the object
pub fits_object : (h : Header) (w : World) (at : Name) (k : Kind) (f : Field) → AreMade h w → kind_of w at ≡ Some k → FitsIn h.classes k.class f → FitsObject h w at f
fits_object h w at k f made is fits =
    let same = made.kind at k is in
    let refs : refs_of w at ≡ (table.kind_of h.classes k.class).refs = ap (λ o. option_map_or (λ (x : Kind). x.refs) o 0) is ∙ ap (λ (x : Kind). x.refs) same in
    let plain : plain_of w at ≡ (table.kind_of h.classes k.class).plain = ap (λ o. option_map_or (λ (x : Kind). x.plain) o 0) is ∙ ap (λ (x : Kind). x.plain) same in
    record {
      target = fits.target;
      inside = fits.inside;
      refs = λ r. let l = fits.refs r in omega arith;
      low = λ r. let l = fits.low r in omega arith;
      high = fits.high;
    }
