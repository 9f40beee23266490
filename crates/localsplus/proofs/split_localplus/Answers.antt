-- `localsplus::split_localplus` meets its contract: `room` hands each writer what it asks; the two ends are the laws of `Outcomes`.
-- Assumes nothing.
use borrow.Author.Rules.{rules}
use Rattle.localsplus.proofs.Outcomes.{room, refused, accepted}
use Rattle.localsplus.proofs.split_localplus.Goals as goal

pub write_positions-local_count-requires : goal.write_positions-local_count-requires
write_positions-local_count-requires c =
    let k = room _ _ _ _ _ c.check.ensures c.in-Ok.is in
    (search rules, k.small, k.locals)

pub write_positions-cell_count-requires : goal.write_positions-cell_count-requires
write_positions-cell_count-requires c =
    let k = room _ _ _ _ _ c.check.ensures c.in-Ok.is in
    (search rules, k.small, k.cells)

pub write_positions-free_count-requires : goal.write_positions-free_count-requires
write_positions-free_count-requires c =
    let k = room _ _ _ _ _ c.check.ensures c.in-Ok.is in
    (search rules, k.small, k.frees)

pub write_map-requires : goal.write_map-requires
write_map-requires c =
    let k = room _ _ _ _ _ c.check.ensures c.in-Ok.is in
    (c.write_positions-cell_count.ensures.1, k.small, k.map)

pub cell_to_argument-present-requires : goal.cell_to_argument-present-requires
cell_to_argument-present-requires c =
    let k = room _ _ _ _ _ c.check.ensures c.in-Ok.is in
    (k.small, k.arguments)

pub returns-in-Err : goal.returns-in-Err
returns-in-Err c = search (refused, rules)

pub returns-in-Ok : goal.returns-in-Ok
returns-in-Ok c = search (accepted, rules)
