-- `bypiece::onebyte::take` meets its contract: its step says what it comes to, and any other piece goes its way.
use Prim.Native.Nat.{◌/◌}
use lib.ListN.{length}
use Rattle.bypiece.proofs.ByByte.{is_held, is_whole, holds-piece, places-fits, places-piece}
use Rattle.bypiece.proofs.onebyte.take.Goals as goal

pub place-requires : goal.place-requires
place-requires c =
    let a = c.args in
    let o = c.one_step in
    let p = c.requires in
    places-fits a.bytes.now a.state.now a.records.now p.0 p.1 _ (is_whole a.bytes.now a.state.now a.k (length a.records.now / 4) o.result o.ensures _ c.in-Whole.is)

pub returns-in-Held : goal.returns-in-Held
returns-in-Held c =
    let a = c.args in
    let o = c.one_step in
    let p = c.requires in
    holds-piece a.bytes.now a.state.now a.records.now p.0 p.1 (is_held a.bytes.now a.state.now a.k (length a.records.now / 4) o.result o.ensures c.in-Held.is) c.hold_more.ensures

pub returns-in-Whole : goal.returns-in-Whole
returns-in-Whole c =
    let a = c.args in
    let o = c.one_step in
    let p = c.requires in
    places-piece a.bytes.now a.state.now a.records.now p.0 p.1 _ (is_whole a.bytes.now a.state.now a.k (length a.records.now / 4) o.result o.ensures _ c.in-Whole.is) c.place.ensures
