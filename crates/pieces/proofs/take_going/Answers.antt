-- `pieces::take_going` meets its contract: the held bytes and the piece's first stand one behind the other.
use mathlib.Core.Path.{refl, ap, ◌∙◌}
use lib.ListN.{replicate}
use lib.Seq.{sets}
use Rattle.piecestate.proofs.Stores.{part_held}
use Rattle.pieces.proofs.Joined.{bare_walks, bare_leaves, fronts}
use Rattle.pieces.proofs.take_going.Goals as goal

pub walk_on-requires : goal.walk_on-requires
walk_on-requires c = bare_walks c.args.piece.now c.args.bytes c.args.k c.args.state.now c.args.records.now c.requires c.if-k-eq0.true

pub returns-then-k-eq0 : goal.returns-then-k-eq0
returns-then-k-eq0 c =
    let a = c.args in
    bare_leaves a.piece.now a.bytes a.k a.state.now a.records.now
    c.requires
    c.if-k-eq0.true c.walk_on.ensures

pub take_front-requires : goal.take_front-requires
take_front-requires c =
    let a = c.args in
    fronts a.piece.now a.bytes a.k a.state.now a.records.now
    c.requires (replicate 50 0) _ refl
    c.min-m.ensures
    (c.fetch.ensures ∙ ap (sets (replicate 50 0) 0) (part_held a.state.now a.k.size))
    c.copy_from_slice.ensures.after c.if-k-eq0.false

pub returns : goal.returns
returns c = c.take_front.ensures
