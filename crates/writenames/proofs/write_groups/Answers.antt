-- One group after another, and each counts on. Assumes nothing.
use Rattle.writenames.proofs.Naming.{groups-refused, groups_open, groups-count, groups-then, groups_all}
use Rattle.localsplus.specs.Kind.{local_bit, cell_bit, free_bit}
use Rattle.cellnames.specs.Groups.{group_in}
use Rattle.writecheck.specs.Looking.{lent_of}
use Rattle.writing.specs.Steps.{string_part}
use mathlib.Core.List.{◌++◌}
use Rattle.cellnames.proofs.Groups.{group_most}
use Rattle.std.proofs.Common.{rules, ◌≡◌, Err}
use native.Mathlib.Omega.{arith}
use mathlib.Core.Path.{refl}
use Rattle.writenames.proofs.write_groups.Goals as goal

pub write_group-requires : goal.write_group-requires
write_group-requires c = (c.requires.0, c.requires.1, omega arith, omega (arith, c.requires.1.kinds, c.args.values.now.bound))

pub write_group-requires-2 : goal.write_group-requires-2
write_group-requires-2 c =
    let a = c.args in
    let t = lent_of a.values.now.lent in
    let f = string_part t a.allowance in
    let local = group_in t a.locals local_bit in
    let k = c.write_group.ensures in
    let is = c.in_ok-local.was in (
      groups_open f local k c.requires.0 is,
      c.requires.1,
      omega arith,
      omega (arith, groups-count f local k c.requires.0 is, group_most t a.locals local_bit c.requires.1, c.requires.1.kinds, c.args.values.now.bound),
    )

pub write_group-requires-3 : goal.write_group-requires-3
write_group-requires-3 c =
    let a = c.args in
    let t = lent_of a.values.now.lent in
    let f = string_part t a.allowance in
    let local = group_in t a.locals local_bit in
    let cell = group_in t a.locals cell_bit in
    let k = c.write_group.ensures in
    let is = c.in_ok-local.was in
    let h = groups_open f local k c.requires.0 is in
    let k₂ = c.write_group-2.ensures in
    let is₂ = c.in_ok-cell.was in (
      groups_open f cell k₂ h is₂,
      c.requires.1,
      omega arith,
      omega (arith, groups-count f local k c.requires.0 is, groups-count f cell k₂ h is₂, group_most t a.locals local_bit c.requires.1, group_most t a.locals cell_bit c.requires.1, c.requires.1.kinds, c.args.values.now.bound),
    )

pub returns-in_err-local : goal.returns-in_err-local
returns-in_err-local c =
    let a = c.args in
    let t = lent_of a.values.now.lent in
    let f = string_part t a.allowance in
    let local = group_in t a.locals local_bit in
    let cell = group_in t a.locals cell_bit in
    let free = group_in t a.locals free_bit in
    let h = c.requires.0 in
    let passed : c.from_residual.result ≡ Err c.in_err-local.field-0.0 = search rules in
    rw passed (groups_all t a.locals f
    (groups-refused f (local ++ cell) (groups-refused f local c.write_group.ensures h cell c.in_err-local.was) h free refl))

pub returns-in_err-cell : goal.returns-in_err-cell
returns-in_err-cell c =
    let a = c.args in
    let t = lent_of a.values.now.lent in
    let f = string_part t a.allowance in
    let local = group_in t a.locals local_bit in
    let cell = group_in t a.locals cell_bit in
    let free = group_in t a.locals free_bit in
    let h = c.requires.0 in
    let passed : c.from_residual-in_err-cell.result ≡ Err c.in_err-cell.field-0.0 = search rules in
    rw passed (groups_all t a.locals f
    (groups-refused f (local ++ cell) (groups-then f local c.write_group.ensures h c.in_ok-local.was cell c.write_group-2.ensures) h free c.in_err-cell.was))

pub returns : goal.returns
returns c =
    let a = c.args in
    let t = lent_of a.values.now.lent in
    let f = string_part t a.allowance in
    let local = group_in t a.locals local_bit in
    let cell = group_in t a.locals cell_bit in
    let free = group_in t a.locals free_bit in
    let h = c.requires.0 in
    groups_all t a.locals f
    (groups-then f (local ++ cell) (groups-then f local c.write_group.ensures h c.in_ok-local.was cell c.write_group-2.ensures) h c.in_ok-cell.was free c.write_group-3.ensures)
